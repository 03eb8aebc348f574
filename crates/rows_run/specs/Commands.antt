-- Commands: each takes effect once, however it is sent, and what its session is then told.
use Rattle.std.specs.Prelude.{ℕ, zero, suc, codes, pos, List, [], ◌∷◌}
use Rattle.ax_types.specs.declared.ids.End.TheVariants as end
use Rattle.ax_types.specs.declared.items.Item.{Item}
use Rattle.ax_types.specs.declared.items.Item.TheVariants as item
use Rattle.ax_types.specs.declared.items.SkipReason.TheVariants as reason
use Rattle.ax_types.specs.declared.entries.Act.{Act}
use Rattle.ax_types.specs.declared.entries.Act.TheVariants as act
use Rattle.ax_types.specs.declared.packets.PayloadKind.TheVariants as payload_kind
use Rattle.ax_types.specs.declared.ops.LongOp.TheVariants as long
use Rattle.ax_types.specs.declared.ops.MapOp.TheVariants as map
use Rattle.ax_types.specs.declared.ops.Op.TheVariants as op
use Rattle.ax_types.specs.declared.ops.WindowCall.TheVariants as calls
use Rattle.ax_types.specs.declared.replies.Reply.TheVariants as reply
use Rattle.ax_types.specs.declared.replies.How.TheVariants as how
use Rattle.ax_types.specs.declared.scripts.Line.{Line}
use Rattle.rows_run.specs.RowScripts as row_scripts

-- a command of one client on one node
abbrev pub one_add_lines : List Line
one_add_lines =
    row_scripts.elect 1 ∷ row_scripts.opening 1 1 ∷ row_scripts.flush ∷ row_scripts.call 1 (codes "c") (op.Long (long.Add (pos 5))) ∷ row_scripts.flush ∷ []

-- three commands whose packets arrive out of order: the gap is found, and they are sent again
abbrev pub reordered_lines : List Line
reordered_lines =
    row_scripts.elect 1 ∷ row_scripts.opening 1 1 ∷ row_scripts.flush ∷ row_scripts.call 1 (codes "c") (op.Long (long.Add (pos 1)))
    ∷ row_scripts.call 1 (codes "c") (op.Long (long.Add (pos 2))) ∷ row_scripts.call 1 (codes "c") (op.Long (long.Add (pos 3))) ∷ row_scripts.deliver 5
    ∷ row_scripts.deliver 4 ∷ row_scripts.deliver 6 ∷ row_scripts.flush ∷ []

abbrev pub reordered_items : List Item
reordered_items =
    item.Leader 1 1 ∷ item.Commit 1 ∷ item.Commit 2 ∷ item.Opened 2 1
    ∷ item.Called 2 1 (calls.Command (codes "c") (op.Long (long.Add (pos 1))))
    ∷ item.Called 2 2 (calls.Command (codes "c") (op.Long (long.Add (pos 2))))
    ∷ item.Called 2 3 (calls.Command (codes "c") (op.Long (long.Add (pos 3)))) ∷ item.Commit 3 ∷ item.Commit 4
    ∷ item.Commit 5 ∷ item.Reply 2 1 4 (reply.Number (pos 1)) ∷ item.Commit 6 ∷ item.Commit 7 ∷ item.Commit 8
    ∷ item.Commit 9 ∷ item.Commit 10 ∷ item.Reply 2 2 7 (reply.Number (pos 3))
    ∷ item.Reply 2 3 8 (reply.Number (pos 6)) ∷ []

abbrev pub reordered_history : List (ℕ × Act)
reordered_history =
    (0, act.Nothing) ∷ (0, act.Open 1 1) ∷ (0, act.Nothing) ∷ (0, act.Do 2 (codes "c") (op.Long (long.Add (pos 1))))
    ∷ (0, act.Nothing) ∷ (0, act.Nothing) ∷ (0, act.Do 2 (codes "c") (op.Long (long.Add (pos 2))))
    ∷ (0, act.Do 2 (codes "c") (op.Long (long.Add (pos 3)))) ∷ (0, act.Nothing) ∷ (0, act.Nothing) ∷ []

-- a command whose packet is delivered again and again takes effect once
abbrev pub repeated_lines : List Line
repeated_lines =
    row_scripts.elect 1 ∷ row_scripts.opening 1 1 ∷ row_scripts.flush ∷ row_scripts.call 1 (codes "c") (op.Long (long.Add (pos 5))) ∷ row_scripts.deliver 4 ∷ row_scripts.deliver 4
    ∷ row_scripts.deliver 4 ∷ row_scripts.deliver 4 ∷ row_scripts.deliver 4 ∷ row_scripts.flush ∷ []

abbrev pub repeated_items : List Item
repeated_items =
    item.Leader 1 1 ∷ item.Commit 1 ∷ item.Commit 2 ∷ item.Opened 2 1
    ∷ item.Called 2 1 (calls.Command (codes "c") (op.Long (long.Add (pos 5)))) ∷ item.Commit 3 ∷ item.Commit 4
    ∷ item.Commit 5 ∷ item.Commit 6 ∷ item.Commit 7 ∷ item.Reply 2 1 3 (reply.Number (pos 5)) ∷ []

abbrev pub repeated_history : List (ℕ × Act)
repeated_history =
    (0, act.Nothing) ∷ (0, act.Open 1 1) ∷ (0, act.Do 2 (codes "c") (op.Long (long.Add (pos 5)))) ∷ (0, act.Nothing)
    ∷ (0, act.Nothing) ∷ (0, act.Nothing) ∷ (0, act.Nothing) ∷ []

-- a reply that its client has is let go by a keep-alive, and a packet that comes late gets none
abbrev pub trimmed_lines : List Line
trimmed_lines =
    row_scripts.elect 1 ∷ row_scripts.opening 1 1 ∷ row_scripts.flush ∷ row_scripts.call 1 (codes "c") (op.Long (long.Add (pos 5))) ∷ row_scripts.flush ∷ row_scripts.keep 1 ∷ row_scripts.listing
    ∷ row_scripts.flush ∷ row_scripts.deliver 4 ∷ row_scripts.listing ∷ []

abbrev pub trimmed_items : List Item
trimmed_items =
    item.Leader 1 1 ∷ item.Commit 1 ∷ item.Commit 2 ∷ item.Opened 2 1
    ∷ item.Called 2 1 (calls.Command (codes "c") (op.Long (long.Add (pos 5)))) ∷ item.Commit 3
    ∷ item.Reply 2 1 3 (reply.Number (pos 5)) ∷ item.Listed 1
    ∷ item.Pending 6 (end.Client 1) (end.Node 1) payload_kind.Keep ∷ item.Commit 4 ∷ item.Commit 5 ∷ item.Listed 0
    ∷ []

abbrev pub trimmed_history : List (ℕ × Act)
trimmed_history =
    (0, act.Nothing) ∷ (0, act.Open 1 1) ∷ (0, act.Do 2 (codes "c") (op.Long (long.Add (pos 5)))) ∷ (0, act.Keep 2)
    ∷ (0, act.Nothing) ∷ []

-- a line n times
abbrev pub repeat : ℕ → Line → List Line
repeat zero l = []
repeat (suc n) l = l ∷ repeat n l

-- the items of n such calls, from this number on
abbrev pub called_from : ℕ → ℕ → List Item → List Item
called_from k zero rest = rest
called_from k (suc n) rest = item.Called 2 k (calls.Command (codes "c") (op.Long (long.Add (pos 1)))) ∷ called_from (suc k) n rest

-- sixty-four calls without an answer fill a session's window
abbrev pub full_window_lines : List Line
full_window_lines = row_scripts.elect 1 ∷ row_scripts.opening 1 1 ∷ row_scripts.flush ∷ repeat 65 (row_scripts.call 1 (codes "c") (op.Long (long.Add (pos 1))))

abbrev pub full_window_items : List Item
full_window_items =
    item.Leader 1 1 ∷ item.Commit 1 ∷ item.Commit 2 ∷ item.Opened 2 1
    ∷ called_from 1 64 (item.Skip reason.WindowFull ∷ [])

abbrev pub full_window_history : List (ℕ × Act)
full_window_history =
    (0, act.Nothing) ∷ (0, act.Open 1 1) ∷ []

-- a sum that is no i64 changes nothing
abbrev pub overflow_lines : List Line
overflow_lines =
    row_scripts.elect 1 ∷ row_scripts.opening 1 1 ∷ row_scripts.flush ∷ row_scripts.call 1 (codes "c") (op.Long (long.Set (pos 9223372036854775807)))
    ∷ row_scripts.call 1 (codes "c") (op.Long (long.Add (pos 1))) ∷ row_scripts.flush ∷ []

abbrev pub overflow_items : List Item
overflow_items =
    item.Leader 1 1 ∷ item.Commit 1 ∷ item.Commit 2 ∷ item.Opened 2 1
    ∷ item.Called 2 1 (calls.Command (codes "c") (op.Long (long.Set (pos 9223372036854775807))))
    ∷ item.Called 2 2 (calls.Command (codes "c") (op.Long (long.Add (pos 1)))) ∷ item.Commit 3 ∷ item.Commit 4
    ∷ item.Reply 2 1 3 (reply.Number (pos 0)) ∷ item.Reply 2 2 4 reply.Overflow ∷ []

abbrev pub overflow_history : List (ℕ × Act)
overflow_history =
    (0, act.Nothing) ∷ (0, act.Open 1 1) ∷ (0, act.Do 2 (codes "c") (op.Long (long.Set (pos 9223372036854775807))))
    ∷ (0, act.Do 2 (codes "c") (op.Long (long.Add (pos 1)))) ∷ []

-- a command of another kind changes nothing
abbrev pub wrong_kind_lines : List Line
wrong_kind_lines =
    row_scripts.elect 1 ∷ row_scripts.opening 1 1 ∷ row_scripts.flush ∷ row_scripts.call 1 (codes "c") (op.Long (long.Set (pos 9223372036854775807)))
    ∷ row_scripts.call 1 (codes "c") (op.Map (map.Put (codes "k") (codes "v"))) ∷ row_scripts.flush ∷ []

abbrev pub wrong_kind_items : List Item
wrong_kind_items =
    item.Leader 1 1 ∷ item.Commit 1 ∷ item.Commit 2 ∷ item.Opened 2 1
    ∷ item.Called 2 1 (calls.Command (codes "c") (op.Long (long.Set (pos 9223372036854775807))))
    ∷ item.Called 2 2 (calls.Command (codes "c") (op.Map (map.Put (codes "k") (codes "v")))) ∷ item.Commit 3
    ∷ item.Commit 4 ∷ item.Reply 2 1 3 (reply.Number (pos 0)) ∷ item.Reply 2 2 4 reply.WrongKind ∷ []

abbrev pub wrong_kind_history : List (ℕ × Act)
wrong_kind_history =
    (0, act.Nothing) ∷ (0, act.Open 1 1) ∷ (0, act.Do 2 (codes "c") (op.Long (long.Set (pos 9223372036854775807))))
    ∷ (0, act.Do 2 (codes "c") (op.Map (map.Put (codes "k") (codes "v")))) ∷ []

-- a session is closed once nothing is unanswered, and a later call is unsent
abbrev pub closed_lines : List Line
closed_lines =
    row_scripts.elect 1 ∷ row_scripts.opening 1 1 ∷ row_scripts.flush ∷ row_scripts.call 1 (codes "c") (op.Long (long.Add (pos 5))) ∷ row_scripts.close 1 ∷ row_scripts.flush ∷ row_scripts.close 1
    ∷ row_scripts.flush ∷ row_scripts.call 1 (codes "c") (op.Long (long.Add (pos 1))) ∷ []

abbrev pub closed_items : List Item
closed_items =
    item.Leader 1 1 ∷ item.Commit 1 ∷ item.Commit 2 ∷ item.Opened 2 1
    ∷ item.Called 2 1 (calls.Command (codes "c") (op.Long (long.Add (pos 5)))) ∷ item.Skip (reason.Busy 1)
    ∷ item.Commit 3 ∷ item.Reply 2 1 3 (reply.Number (pos 5)) ∷ item.Commit 4 ∷ item.Ended 2 4 how.Closed
    ∷ item.Unsent 2 2 ∷ []

abbrev pub closed_history : List (ℕ × Act)
closed_history =
    (0, act.Nothing) ∷ (0, act.Open 1 1) ∷ (0, act.Do 2 (codes "c") (op.Long (long.Add (pos 5)))) ∷ (0, act.Close 2)
    ∷ []

-- a session expires with calls under way: they are in doubt, and a later call is unsent
abbrev pub doubt_lines : List Line
doubt_lines =
    row_scripts.elect 1 ∷ row_scripts.opening 1 1 ∷ row_scripts.flush ∷ row_scripts.call 1 (codes "c") (op.Long (long.Add (pos 1)))
    ∷ row_scripts.call 1 (codes "c") (op.Long (long.Add (pos 2))) ∷ row_scripts.call 1 (codes "c") (op.Long (long.Add (pos 3))) ∷ row_scripts.deliver 4
    ∷ row_scripts.drop 5 ∷ row_scripts.drop 6 ∷ row_scripts.drop 7 ∷ row_scripts.clock 1 1000 ∷ row_scripts.expire 1 ∷ row_scripts.resend 1 ∷ row_scripts.flush
    ∷ row_scripts.call 1 (codes "c") (op.Long (long.Add (pos 4))) ∷ []
