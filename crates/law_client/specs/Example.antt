-- One client for which what may happen does: it opens a session, calls, reads, hears no event, closes, and opens again.
use Rattle.std.specs.Prelude.{◌≡◌, List, [], ◌∷◌, None, pos, reverse}
use Rattle.ax_types.specs.declared.entries.Act.TheVariants as act
use Rattle.ax_types.specs.declared.items.Item.{Item}
use Rattle.ax_types.specs.declared.items.Item.TheVariants as item
use Rattle.ax_types.specs.declared.ops.Level.TheVariants as level
use Rattle.ax_types.specs.declared.ops.LongOp.TheVariants as long
use Rattle.ax_types.specs.declared.ops.LongQuery.TheVariants as long_query
use Rattle.ax_types.specs.declared.ops.Op.TheVariants as op
use Rattle.ax_types.specs.declared.ops.Query.TheVariants as query
use Rattle.ax_types.specs.declared.ops.WindowCall.TheVariants as call
use Rattle.ax_types.specs.declared.packets.Payload.TheVariants as payload
use Rattle.ax_types.specs.declared.replies.How.TheVariants as how
use Rattle.ax_types.specs.declared.replies.Reply.TheVariants as reply
use Rattle.spec_book.specs.History as histories
use Rattle.law_client.specs.Inputs as inputs

abbrev pub example_history : histories.History
example_history = (0, act.Nothing) ∷ (0, act.Open 1 1) ∷ (0, act.Do 2 (99 ∷ []) (op.Long (long.Add (pos 5)))) ∷ (0, act.Close 2) ∷ []

-- answers come out of order, and some twice
abbrev pub example_happenings : List inputs.Happening
example_happenings =
    inputs.Sees (item.Commit 1)
    ∷ inputs.Does (inputs.Opens 1)
    ∷ inputs.Sees (item.Commit 2)
    ∷ inputs.Does (inputs.Receives 1 (payload.Opened 1 2))
    ∷ inputs.Does (inputs.Receives 1 (payload.Opened 1 2))
    ∷ inputs.Does (inputs.Calls (99 ∷ []) (op.Long (long.Add (pos 5))))
    ∷ inputs.Does (inputs.Queries level.Seq (99 ∷ []) (query.Long long_query.Get))
    ∷ inputs.Sees (item.Commit 3)
    ∷ inputs.Does (inputs.Receives 2 (payload.Answer 2 2 level.Seq 3 0 0 0 (reply.Number (pos 5))))
    ∷ inputs.Does (inputs.Receives 1 (payload.Reply 2 1 3 0 (reply.Number (pos 5))))
    ∷ inputs.Does (inputs.Receives 1 (payload.Reply 2 1 3 0 (reply.Number (pos 5))))
    ∷ inputs.Does inputs.Closes
    ∷ inputs.Sees (item.Commit 4)
    ∷ inputs.Does (inputs.Receives 1 (payload.Ended 2 4 how.Closed))
    ∷ inputs.Does (inputs.Calls (99 ∷ []) (op.Long (long.Add (pos 5))))
    ∷ inputs.Does (inputs.Opens 2)
    ∷ []

abbrev pub example_items : List Item
example_items =
    item.Commit 1
    ∷ item.Commit 2
    ∷ item.Opened 2 1
    ∷ item.Called 2 1 (call.Command (99 ∷ []) (op.Long (long.Add (pos 5))))
    ∷ item.Called 2 2 (call.Query level.Seq (99 ∷ []) (query.Long long_query.Get))
    ∷ item.Commit 3
    ∷ item.Reply 2 1 3 (reply.Number (pos 5))
    ∷ item.Read 2 2 level.Seq 3 None (reply.Number (pos 5))
    ∷ item.Commit 4
    ∷ item.Ended 2 4 how.Closed
    ∷ item.Unsent 2 3
    ∷ []

abbrev pub ExampleMayHappen : Type 0
ExampleMayHappen = inputs.AllMayHappen example_history (inputs.new_seat 1) example_happenings

abbrev pub ExampleShows : Type 0
ExampleShows = reverse (inputs.seat_after_all (inputs.new_seat 1) example_happenings).above ≡ example_items
