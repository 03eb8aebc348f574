use Rattle.std.proofs.lemmas.Result.{IfOk-weaker}
use Rattle.world_hosts.proofs.ServedHosts.{served_so, matches_so, cuts_told, on_ok, by_result, tells_kept, tells_part}
use Rattle.world_hosts.proofs.host.Host.serve.Goals as goal

pub keep-requires-clause-within : goal.keep-requires-clause-within
keep-requires-clause-within g c =
    cuts_told c.args.self.now c.args.input.now c.in_ok-replaced.replaced c.in_ok-out.out (g.S.NodeStore.told c.args.store.now) (g.S.NodeStore.needs_load c.args.store.now) c.requires.may c.requires.matches c.in_ok-out.ensures.out c.in_ok-replaced.ensures

pub returns-clause-served : goal.returns-clause-served
returns-clause-served g c =
    IfOk-weaker c.keep.result _ _
    (λ served h. served_so c.args.self.now c.step.new.self c.keep.new.self c.args.input.now c.in_ok-out.out c.in_ok-replaced.replaced (g.S.NodeStore.told c.args.store.now) (g.S.NodeStore.told c.keep.new.store) (g.S.NodeStore.needs_load c.keep.new.store) served
    c.in_ok-out.ensures.after c.in_ok-out.ensures.out c.in_ok-replaced.ensures h)
    c.keep.ensures.kept

pub returns-clause-matches : goal.returns-clause-matches
returns-clause-matches g c =
    on_ok c.keep.result _ _
    (λ served h. matches_so c.args.self.now c.step.new.self c.keep.new.self c.args.input.now c.in_ok-out.out c.in_ok-replaced.replaced (g.S.NodeStore.told c.args.store.now) (g.S.NodeStore.told c.keep.new.store) (g.S.NodeStore.needs_load c.keep.new.store) (g.S.NodeStore.needs_load c.args.store.now) served
    c.requires.may c.requires.matches c.in_ok-out.ensures.after c.in_ok-out.ensures.out c.in_ok-replaced.ensures h)
    c.keep.ensures.kept

pub returns-clause-tells : goal.returns-clause-tells
returns-clause-tells g c =
    by_result c.keep.result _ _ _
    (λ served h. tells_kept c.step.new.self c.in_ok-out.out c.in_ok-replaced.replaced c.keep.new.self (g.S.NodeStore.told c.args.store.now) (g.S.NodeStore.told c.keep.new.store) (g.S.NodeStore.needs_load c.keep.new.store) served h)
    (λ p. tells_part _ (g.S.NodeStore.told c.args.store.now) (g.S.NodeStore.told c.keep.new.store) p)
    c.keep.ensures.kept c.keep.ensures.part
