-- Halts that keep a part, packets that come late, and an order of responses that is no fault.
use Rattle.std.specs.Prelude.{ℕ, codes, pos, None, List, [], ◌∷◌}
use Rattle.ax_types.specs.declared.ids.End.TheVariants as end
use Rattle.ax_types.specs.declared.items.Item.{Item}
use Rattle.ax_types.specs.declared.items.Item.TheVariants as item
use Rattle.ax_types.specs.declared.entries.Act.{Act}
use Rattle.ax_types.specs.declared.entries.Act.TheVariants as act
use Rattle.ax_types.specs.declared.ops.LongOp.TheVariants as long
use Rattle.ax_types.specs.declared.ops.LongQuery.TheVariants as long_query
use Rattle.ax_types.specs.declared.ops.Op.TheVariants as op
use Rattle.ax_types.specs.declared.ops.Query.TheVariants as query
use Rattle.ax_types.specs.declared.ops.Level.TheVariants as level
use Rattle.ax_types.specs.declared.ops.WindowCall.TheVariants as calls
use Rattle.ax_types.specs.declared.replies.Reply.TheVariants as reply
use Rattle.ax_types.specs.declared.scripts.Line.{Line}
use Rattle.ax_types.specs.declared.steps.StepOutcome.{StepOutcome}
use Rattle.ax_types.specs.declared.steps.StepOutcome.TheVariants as outcome
use Rattle.rows_run.specs.RowScripts as row_scripts

-- the round of an earlier term, acked late, confirms no read of a later one
abbrev pub late_round_lines : List Line
late_round_lines =
    row_scripts.elect 1 ∷ row_scripts.settle 1 ∷ row_scripts.opening 1 1 ∷ row_scripts.settle 1 ∷ row_scripts.beat 1 ∷ row_scripts.beat 1 ∷ row_scripts.beat 1 ∷ row_scripts.crash 1 ∷ row_scripts.start 1 ∷ row_scripts.elect 1 ∷ row_scripts.deliver 30
    ∷ row_scripts.deliver 28 ∷ row_scripts.deliver 32 ∷ row_scripts.beat 1 ∷ row_scripts.deliver 34 ∷ row_scripts.deliver 36 ∷ row_scripts.cut (end.Node 1) (end.Node 3) ∷ row_scripts.elect 2
    ∷ row_scripts.deliver 38 ∷ row_scripts.deliver 39 ∷ row_scripts.beat 2 ∷ row_scripts.deliver 41 ∷ row_scripts.deliver 42 ∷ row_scripts.beat 2 ∷ row_scripts.deliver 45 ∷ row_scripts.deliver 46 ∷ row_scripts.beat 2
    ∷ row_scripts.deliver 48 ∷ row_scripts.deliver 49 ∷ row_scripts.beat 2 ∷ row_scripts.deliver 51 ∷ row_scripts.deliver 52 ∷ row_scripts.beat 2 ∷ row_scripts.deliver 54 ∷ row_scripts.deliver 55 ∷ row_scripts.beat 2
    ∷ row_scripts.deliver 57 ∷ row_scripts.deliver 58 ∷ row_scripts.switch 1 1 ∷ row_scripts.query_line 1 level.Lin (codes "c") (query.Long long_query.Get) ∷ row_scripts.deliver 60
    ∷ row_scripts.deliver 33 ∷ []

abbrev pub late_round_items : List Item
late_round_items =
    item.Leader 1 1 ∷ item.Commit 1 ∷ item.Commit 2 ∷ item.Opened 2 1 ∷ item.Leader 1 2 ∷ item.Commit 3
    ∷ item.Leader 2 3 ∷ item.Commit 4
    ∷ item.Called 2 1 (calls.Query level.Lin (codes "c") (query.Long long_query.Get)) ∷ item.Reach 1 2 1 2 1 ∷ []

abbrev pub late_round_history : List (ℕ × Act)
late_round_history =
    (0, act.Nothing) ∷ (0, act.Open 1 1) ∷ (0, act.Nothing) ∷ (0, act.Nothing) ∷ []

-- a store fails in an election and keeps its entry: the term has an entry and no leader
abbrev pub blank_kept_lines : List Line
blank_kept_lines =
    row_scripts.elect 1 ∷ row_scripts.start 1 ∷ row_scripts.elect 1 ∷ []

abbrev pub blank_kept_faults : List (ℕ × StepOutcome)
blank_kept_faults =
    (1, outcome.Failed 1) ∷ (2, outcome.Loaded 1) ∷ []

abbrev pub blank_kept_items : List Item
blank_kept_items =
    item.Halted 1 ∷ item.Leader 1 2 ∷ item.Commit 2 ∷ []

abbrev pub blank_kept_history : List (ℕ × Act)
blank_kept_history =
    (0, act.Nothing) ∷ (0, act.Nothing) ∷ []

-- a store fails and keeps a command: it takes effect once the node leads again, and is answered when it is sent again
abbrev pub command_kept_lines : List Line
command_kept_lines =
    row_scripts.elect 1 ∷ row_scripts.opening 1 1 ∷ row_scripts.flush ∷ row_scripts.call 1 (codes "c") (op.Long (long.Add (pos 5))) ∷ row_scripts.deliver 4 ∷ row_scripts.start 1 ∷ row_scripts.elect 1
    ∷ row_scripts.resend 1 ∷ row_scripts.flush ∷ []

abbrev pub command_kept_faults : List (ℕ × StepOutcome)
command_kept_faults =
    (7, outcome.Failed 0) ∷ (8, outcome.Loaded 1) ∷ []

abbrev pub command_kept_items : List Item
command_kept_items =
    item.Leader 1 1 ∷ item.Commit 1 ∷ item.Commit 2 ∷ item.Opened 2 1
    ∷ item.Called 2 1 (calls.Command (codes "c") (op.Long (long.Add (pos 5)))) ∷ item.Halted 1 ∷ item.Leader 1 2
    ∷ item.Commit 4 ∷ item.Commit 5 ∷ item.Reply 2 1 3 (reply.Number (pos 5)) ∷ []

abbrev pub command_kept_history : List (ℕ × Act)
command_kept_history =
    (0, act.Nothing) ∷ (0, act.Open 1 1) ∷ (0, act.Do 2 (codes "c") (op.Long (long.Add (pos 5)))) ∷ (0, act.Nothing)
    ∷ (0, act.Nothing) ∷ []

-- a store keeps a part of the entries that a follower adds: the rest comes after a start
abbrev pub part_kept_lines : List Line
part_kept_lines =
    row_scripts.elect 1 ∷ row_scripts.settle 1 ∷ row_scripts.opening 1 1 ∷ row_scripts.settle 1 ∷ row_scripts.cut (end.Node 1) (end.Node 2)
    ∷ row_scripts.call 1 (codes "c") (op.Long (long.Add (pos 1))) ∷ row_scripts.call 1 (codes "c") (op.Long (long.Add (pos 2)))
    ∷ row_scripts.call 1 (codes "c") (op.Long (long.Add (pos 3))) ∷ row_scripts.flush ∷ row_scripts.beat 1 ∷ row_scripts.join (end.Node 1) (end.Node 2) ∷ row_scripts.beat 1
    ∷ row_scripts.deliver 29 ∷ row_scripts.start 2 ∷ row_scripts.settle 1 ∷ []

abbrev pub part_kept_faults : List (ℕ × StepOutcome)
part_kept_faults =
    (40, outcome.Failed 0) ∷ (41, outcome.Loaded 2) ∷ []

abbrev pub part_kept_items : List Item
part_kept_items =
    item.Leader 1 1 ∷ item.Commit 1 ∷ item.Commit 2 ∷ item.Opened 2 1
    ∷ item.Called 2 1 (calls.Command (codes "c") (op.Long (long.Add (pos 1))))
    ∷ item.Called 2 2 (calls.Command (codes "c") (op.Long (long.Add (pos 2))))
    ∷ item.Called 2 3 (calls.Command (codes "c") (op.Long (long.Add (pos 3)))) ∷ item.Halted 2 ∷ item.Commit 5
    ∷ item.Reply 2 1 3 (reply.Number (pos 1)) ∷ item.Reply 2 2 4 (reply.Number (pos 3))
    ∷ item.Reply 2 3 5 (reply.Number (pos 6)) ∷ []

abbrev pub part_kept_history : List (ℕ × Act)
part_kept_history =
    (0, act.Nothing) ∷ (0, act.Open 1 1) ∷ (0, act.Do 2 (codes "c") (op.Long (long.Add (pos 1))))
    ∷ (0, act.Do 2 (codes "c") (op.Long (long.Add (pos 2)))) ∷ (0, act.Do 2 (codes "c") (op.Long (long.Add (pos 3))))
    ∷ []

-- a query that was called first shows a later place than the command called after it
abbrev pub response_order_lines : List Line
response_order_lines =
    row_scripts.elect 1 ∷ row_scripts.opening 1 1 ∷ row_scripts.flush ∷ row_scripts.query_line 1 level.Seq (codes "c") (query.Long long_query.Get)
    ∷ row_scripts.call 1 (codes "c") (op.Long (long.Add (pos 1))) ∷ row_scripts.deliver 5 ∷ row_scripts.keep 1 ∷ row_scripts.deliver 7 ∷ row_scripts.deliver 4 ∷ row_scripts.deliver 6
    ∷ row_scripts.deliver 8 ∷ []

abbrev pub response_order_items : List Item
response_order_items =
    item.Leader 1 1 ∷ item.Commit 1 ∷ item.Commit 2 ∷ item.Opened 2 1
    ∷ item.Called 2 1 (calls.Query level.Seq (codes "c") (query.Long long_query.Get))
    ∷ item.Called 2 2 (calls.Command (codes "c") (op.Long (long.Add (pos 1)))) ∷ item.Commit 3 ∷ item.Commit 4
    ∷ item.Read 2 1 level.Seq 4 None (reply.Number (pos 1)) ∷ item.Reply 2 2 3 (reply.Number (pos 1)) ∷ []

abbrev pub response_order_history : List (ℕ × Act)
response_order_history =
    (0, act.Nothing) ∷ (0, act.Open 1 1) ∷ (0, act.Do 2 (codes "c") (op.Long (long.Add (pos 1)))) ∷ (0, act.Keep 2)
    ∷ []
