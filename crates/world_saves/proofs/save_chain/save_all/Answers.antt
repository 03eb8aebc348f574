use Rattle.world_saves.proofs.ChainCases.{slice_ended}
use Rattle.world_saves.proofs.save_chain.save_all.Goals as goal

pub returns-clause-saved : goal.returns-clause-saved
returns-clause-saved g c =
    slice_ended c.args.saves.now c.as_slice.result.now (g.S.NodeStore.told c.args.store.now) (g.S.NodeStore.told c.save_vote.new.store) (g.S.NodeStore.told c.save_cut.new.store) (g.S.NodeStore.told c.save_add.new.store) c.save_add.result
    c.as_slice.ensures c.in_ok-save_vote.ensures.made c.in_ok-save_cut.ensures.made c.save_add.ensures.made
