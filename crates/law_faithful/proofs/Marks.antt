-- What is still to be shown of each item: a reached read was called, places are committed, and commits come after calls.
use Rattle.std.proofs.Common.{ℕ, List, [], ◌++◌, reverse, ap, sym, ◌∙◌, append_assoc, append-nil}
use Rattle.ax_types.specs.declared.items.Item.{Item}
use Rattle.ax_types.specs.declared.items.Item.TheVariants as item
use Rattle.ax_types.specs.declared.ops.Level.TheVariants as level
use Rattle.ax_types.specs.declared.ops.Query.{Query}
use Rattle.ax_types.specs.declared.ops.WindowCall.TheVariants as call
use Rattle.ax_types.specs.declared.steps.KeptStep.{KeptStep}
use Rattle.spec_book.specs.History as histories
use Rattle.spec_claims.specs.Transcript as transcripts
use Rattle.spec_claims.specs.Once as once
use Rattle.spec_claims.specs.Right as claims_right
use Rattle.spec_world.specs.Worlds as worlds
use Rattle.spec_world.specs.Moves as moves
use Rattle.law_hosts.specs.Ledger as ledgers
use Rattle.law_growth.proofs.Numbers.{history_follows}
use Rattle.law_faithful.specs.Faith as faith
use Rattle.law_faithful.proofs.Steps.{step_holds}
use Rattle.law_faithful.proofs.Calls.{step_called, step_before}
use Rattle.law_faithful.proofs.Placed.{step_committed}
pub use Rattle.law_faithful.proofs.Calls.{IsReachCalled}

-- what holds so of the items of a step
pub record AreMarked (h : histories.History) (above items : List Item) : Type 0 where
  pub called : transcripts.EachBelow IsReachCalled above items
  pub committed : transcripts.EachBelow claims_right.IsCommitted above items
  pub before : (s : ℕ) → transcripts.EachBelow (once.IsCalledBefore h s) above items

pub step_marks : (nodes clients time : ℕ) (h : histories.History) (l : ledgers.Ledger) (w : worlds.World) (early : List Item) (k : KeptStep)
    → ((g : histories.History) → once.Begins w.history g → faith.RunStands nodes clients time g l w early) → once.Begins (moves.moved w k).world.history h → AreMarked h (reverse early) (moves.moved w k).items
step_marks nodes clients time h l w early k all b =
    let step : once.Begins w.history (moves.moved w k).world.history = history_follows w k in
    let on : once.Begins w.history h = (step.0 ++ b.0, b.1 ∙ ap (λ hs. hs ++ b.0) step.1 ∙ append_assoc w.history step.0 b.0) in
    let x = all h on in
    record {
      called = step_called nodes clients time h l w early k x;
      committed = step_committed nodes clients time l w early k (all w.history ([], sym (append-nil w.history)));
      before = step_before nodes clients time h h l w early k x b (step_holds nodes clients time h l w early k all b).requests;
    }
