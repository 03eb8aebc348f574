-- Queries: at the place of the answer, never back, and linearizable by a round of the leader.
use Rattle.std.specs.Prelude.{ℕ, codes, pos, Some, None, List, [], ◌∷◌}
use Rattle.ax_types.specs.declared.ids.End.TheVariants as end
use Rattle.ax_types.specs.declared.items.Item.{Item}
use Rattle.ax_types.specs.declared.items.Item.TheVariants as item
use Rattle.ax_types.specs.declared.entries.Act.{Act}
use Rattle.ax_types.specs.declared.entries.Act.TheVariants as act
use Rattle.ax_types.specs.declared.ops.LongOp.TheVariants as long
use Rattle.ax_types.specs.declared.ops.MapOp.TheVariants as map
use Rattle.ax_types.specs.declared.ops.MapQuery.TheVariants as map_query
use Rattle.ax_types.specs.declared.ops.LongQuery.TheVariants as long_query
use Rattle.ax_types.specs.declared.ops.Op.TheVariants as op
use Rattle.ax_types.specs.declared.ops.Query.TheVariants as query
use Rattle.ax_types.specs.declared.ops.Level.TheVariants as level
use Rattle.ax_types.specs.declared.ops.WindowCall.TheVariants as calls
use Rattle.ax_types.specs.declared.replies.Reply.TheVariants as reply
use Rattle.ax_types.specs.declared.scripts.Line.{Line}
use Rattle.rows_run.specs.RowScripts as row_scripts

-- a linearizable read behind the command that was called before it
abbrev pub put_and_read_lines : List Line
put_and_read_lines =
    row_scripts.elect 1 ∷ row_scripts.settle 1 ∷ row_scripts.opening 1 2 ∷ row_scripts.settle 1 ∷ row_scripts.call 1 (codes "m") (op.Map (map.Put (codes "k") (codes "v")))
    ∷ row_scripts.query_line 1 level.Lin (codes "m") (query.Map (map_query.Get (codes "k"))) ∷ row_scripts.settle 1 ∷ []

abbrev pub put_and_read_items : List Item
put_and_read_items =
    item.Leader 1 1 ∷ item.Commit 1 ∷ item.Commit 2 ∷ item.Opened 2 1
    ∷ item.Called 2 1 (calls.Command (codes "m") (op.Map (map.Put (codes "k") (codes "v"))))
    ∷ item.Called 2 2 (calls.Query level.Lin (codes "m") (query.Map (map_query.Get (codes "k"))))
    ∷ item.Reach 1 1 1 2 2 ∷ item.Commit 3 ∷ item.Reply 2 1 3 reply.Nothing
    ∷ item.Read 2 2 level.Lin 3 (Some (1, 1)) (reply.Found (codes "v")) ∷ []

abbrev pub put_and_read_history : List (ℕ × Act)
put_and_read_history =
    (0, act.Nothing) ∷ (0, act.Open 1 1) ∷ (0, act.Do 2 (codes "m") (op.Map (map.Put (codes "k") (codes "v")))) ∷ []

-- a sequential read waits until a server that lags has what its session saw
abbrev pub lagging_lines : List Line
lagging_lines =
    row_scripts.elect 1 ∷ row_scripts.settle 1 ∷ row_scripts.opening 1 2 ∷ row_scripts.settle 1 ∷ row_scripts.cut (end.Node 1) (end.Node 3)
    ∷ row_scripts.call 1 (codes "c") (op.Long (long.Add (pos 5))) ∷ row_scripts.settle 1 ∷ row_scripts.switch 1 3
    ∷ row_scripts.query_line 1 level.Seq (codes "c") (query.Long long_query.Get) ∷ row_scripts.flush ∷ row_scripts.join (end.Node 1) (end.Node 3) ∷ row_scripts.settle 1
    ∷ []

abbrev pub lagging_items : List Item
lagging_items =
    item.Leader 1 1 ∷ item.Commit 1 ∷ item.Commit 2 ∷ item.Opened 2 1
    ∷ item.Called 2 1 (calls.Command (codes "c") (op.Long (long.Add (pos 5)))) ∷ item.Commit 3
    ∷ item.Reply 2 1 3 (reply.Number (pos 5))
    ∷ item.Called 2 2 (calls.Query level.Seq (codes "c") (query.Long long_query.Get))
    ∷ item.Read 2 2 level.Seq 3 None (reply.Number (pos 5)) ∷ []

abbrev pub lagging_history : List (ℕ × Act)
lagging_history =
    (0, act.Nothing) ∷ (0, act.Open 1 1) ∷ (0, act.Do 2 (codes "c") (op.Long (long.Add (pos 5)))) ∷ []

-- a read whose answer was lost is asked again at another server, and waits there
abbrev pub asked_again_lines : List Line
asked_again_lines =
    row_scripts.elect 1 ∷ row_scripts.settle 1 ∷ row_scripts.opening 1 2 ∷ row_scripts.settle 1 ∷ row_scripts.cut (end.Node 1) (end.Node 3) ∷ row_scripts.opening 2 2 ∷ row_scripts.settle 1
    ∷ row_scripts.query_line 1 level.Seq (codes "c") (query.Long long_query.Get)
    ∷ row_scripts.query_line 1 level.Seq (codes "c") (query.Long long_query.Get) ∷ row_scripts.deliver 35 ∷ row_scripts.drop 36 ∷ row_scripts.switch 1 3 ∷ row_scripts.flush
    ∷ row_scripts.join (end.Node 1) (end.Node 3) ∷ row_scripts.settle 1 ∷ []

abbrev pub asked_again_items : List Item
asked_again_items =
    item.Leader 1 1 ∷ item.Commit 1 ∷ item.Commit 2 ∷ item.Opened 2 1 ∷ item.Commit 3 ∷ item.Opened 3 2
    ∷ item.Called 2 1 (calls.Query level.Seq (codes "c") (query.Long long_query.Get))
    ∷ item.Called 2 2 (calls.Query level.Seq (codes "c") (query.Long long_query.Get))
    ∷ item.Read 2 1 level.Seq 3 None (reply.Number (pos 0)) ∷ item.Read 2 2 level.Seq 3 None (reply.Number (pos 0))
    ∷ []

abbrev pub asked_again_history : List (ℕ × Act)
asked_again_history =
    (0, act.Nothing) ∷ (0, act.Open 1 1) ∷ (0, act.Open 2 1) ∷ []

-- a linearizable read at a deposed leader gets no answer there, and one from the new leader
abbrev pub deposed_lines : List Line
deposed_lines =
    row_scripts.elect 1 ∷ row_scripts.settle 1 ∷ row_scripts.opening 1 2 ∷ row_scripts.settle 1 ∷ row_scripts.switch 1 1 ∷ row_scripts.cut (end.Node 1) (end.Node 2)
    ∷ row_scripts.cut (end.Node 1) (end.Node 3) ∷ row_scripts.elect 2 ∷ row_scripts.settle 2 ∷ row_scripts.query_line 1 level.Lin (codes "c") (query.Long long_query.Get)
    ∷ row_scripts.settle 1 ∷ row_scripts.switch 1 2 ∷ row_scripts.settle 2 ∷ []

abbrev pub deposed_items : List Item
deposed_items =
    item.Leader 1 1 ∷ item.Commit 1 ∷ item.Commit 2 ∷ item.Opened 2 1 ∷ item.Leader 2 2 ∷ item.Commit 3
    ∷ item.Called 2 1 (calls.Query level.Lin (codes "c") (query.Long long_query.Get)) ∷ item.Reach 1 1 1 2 1
    ∷ item.Reach 2 2 1 2 1 ∷ item.Read 2 1 level.Lin 3 (Some (2, 1)) (reply.Number (pos 0)) ∷ []

abbrev pub deposed_history : List (ℕ × Act)
deposed_history =
    (0, act.Nothing) ∷ (0, act.Open 1 1) ∷ (0, act.Nothing) ∷ []

-- a linearizable read on one node is ready at once
abbrev pub read_alone_lines : List Line
read_alone_lines =
    row_scripts.elect 1 ∷ row_scripts.opening 1 1 ∷ row_scripts.flush ∷ row_scripts.query_line 1 level.Lin (codes "c") (query.Long long_query.Get) ∷ row_scripts.flush ∷ []

abbrev pub read_alone_items : List Item
read_alone_items =
    item.Leader 1 1 ∷ item.Commit 1 ∷ item.Commit 2 ∷ item.Opened 2 1
    ∷ item.Called 2 1 (calls.Query level.Lin (codes "c") (query.Long long_query.Get)) ∷ item.Reach 1 1 1 2 1
    ∷ item.Read 2 1 level.Lin 2 (Some (1, 1)) (reply.Number (pos 0)) ∷ []

abbrev pub read_alone_history : List (ℕ × Act)
read_alone_history =
    (0, act.Nothing) ∷ (0, act.Open 1 1) ∷ []

-- an answer that is older than the last read is dropped, and its query is asked again
abbrev pub older_answer_lines : List Line
older_answer_lines =
    row_scripts.elect 1 ∷ row_scripts.opening 1 1 ∷ row_scripts.flush ∷ row_scripts.query_line 1 level.Seq (codes "c") (query.Long long_query.Get)
    ∷ row_scripts.query_line 1 level.Seq (codes "c") (query.Long long_query.Get) ∷ row_scripts.deliver 5 ∷ row_scripts.opening 2 1 ∷ row_scripts.deliver 7 ∷ row_scripts.deliver 4
    ∷ row_scripts.flush ∷ []

abbrev pub older_answer_items : List Item
older_answer_items =
    item.Leader 1 1 ∷ item.Commit 1 ∷ item.Commit 2 ∷ item.Opened 2 1
    ∷ item.Called 2 1 (calls.Query level.Seq (codes "c") (query.Long long_query.Get))
    ∷ item.Called 2 2 (calls.Query level.Seq (codes "c") (query.Long long_query.Get)) ∷ item.Commit 3
    ∷ item.Opened 3 2 ∷ item.Read 2 1 level.Seq 3 None (reply.Number (pos 0))
    ∷ item.Read 2 2 level.Seq 3 None (reply.Number (pos 0)) ∷ []

abbrev pub older_answer_history : List (ℕ × Act)
older_answer_history =
    (0, act.Nothing) ∷ (0, act.Open 1 1) ∷ (0, act.Open 2 1) ∷ []

-- a linearizable read at a deposed leader that is cut off has no outcome
abbrev pub read_cut_off_lines : List Line
read_cut_off_lines =
    row_scripts.elect 1 ∷ row_scripts.settle 1 ∷ row_scripts.opening 1 1 ∷ row_scripts.settle 1 ∷ row_scripts.cut (end.Node 1) (end.Node 2) ∷ row_scripts.cut (end.Node 1) (end.Node 3)
    ∷ row_scripts.elect 2 ∷ row_scripts.settle 2 ∷ row_scripts.query_line 1 level.Lin (codes "c") (query.Long long_query.Get) ∷ row_scripts.settle 1 ∷ []

abbrev pub read_cut_off_items : List Item
read_cut_off_items =
    item.Leader 1 1 ∷ item.Commit 1 ∷ item.Commit 2 ∷ item.Opened 2 1 ∷ item.Leader 2 2 ∷ item.Commit 3
    ∷ item.Called 2 1 (calls.Query level.Lin (codes "c") (query.Long long_query.Get)) ∷ item.Reach 1 1 1 2 1 ∷ []

abbrev pub read_cut_off_history : List (ℕ × Act)
read_cut_off_history =
    (0, act.Nothing) ∷ (0, act.Open 1 1) ∷ (0, act.Nothing) ∷ []
