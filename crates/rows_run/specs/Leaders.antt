-- Leaders that are lost, cut off or deposed, stores that fail, and packets that come in part.
use Rattle.std.specs.Prelude.{ℕ, codes, pos, List, [], ◌∷◌}
use Rattle.ax_types.specs.declared.ids.End.TheVariants as end
use Rattle.ax_types.specs.declared.items.Item.{Item}
use Rattle.ax_types.specs.declared.items.Item.TheVariants as item
use Rattle.ax_types.specs.declared.items.SkipReason.TheVariants as reason
use Rattle.ax_types.specs.declared.entries.Act.{Act}
use Rattle.ax_types.specs.declared.entries.Act.TheVariants as act
use Rattle.ax_types.specs.declared.ops.LongOp.TheVariants as long
use Rattle.ax_types.specs.declared.ops.Op.TheVariants as op
use Rattle.ax_types.specs.declared.ops.WindowCall.TheVariants as calls
use Rattle.ax_types.specs.declared.replies.Reply.TheVariants as reply
use Rattle.ax_types.specs.declared.scripts.Line.{Line}
use Rattle.rows_run.specs.RowScripts as row_scripts

-- a leader is lost after it committed a command: the next one has it, and answers its client
abbrev pub leader_lost_lines : List Line
leader_lost_lines =
    row_scripts.elect 1 ∷ row_scripts.settle 1 ∷ row_scripts.opening 1 2 ∷ row_scripts.settle 1 ∷ row_scripts.cut (end.Node 1) (end.Client 1)
    ∷ row_scripts.call 1 (codes "c") (op.Long (long.Add (pos 5))) ∷ row_scripts.settle 1 ∷ row_scripts.crash 1 ∷ row_scripts.elect 2 ∷ row_scripts.settle 2 ∷ row_scripts.resend 1 ∷ row_scripts.settle 2
    ∷ []

-- a leader is lost before it committed a command: the next one lacks it, and gets it again
abbrev pub uncommitted_lines : List Line
uncommitted_lines =
    row_scripts.elect 1 ∷ row_scripts.settle 1 ∷ row_scripts.opening 1 2 ∷ row_scripts.settle 1 ∷ row_scripts.call 1 (codes "c") (op.Long (long.Add (pos 5))) ∷ row_scripts.flush ∷ row_scripts.crash 1
    ∷ row_scripts.elect 2 ∷ row_scripts.settle 2 ∷ row_scripts.resend 1 ∷ row_scripts.settle 2 ∷ row_scripts.start 1 ∷ row_scripts.settle 2 ∷ []

abbrev pub uncommitted_items : List Item
uncommitted_items =
    item.Leader 1 1 ∷ item.Commit 1 ∷ item.Commit 2 ∷ item.Opened 2 1
    ∷ item.Called 2 1 (calls.Command (codes "c") (op.Long (long.Add (pos 5)))) ∷ item.Leader 2 2 ∷ item.Commit 3
    ∷ item.Commit 4 ∷ item.Reply 2 1 4 (reply.Number (pos 5)) ∷ []

abbrev pub uncommitted_history : List (ℕ × Act)
uncommitted_history =
    (0, act.Nothing) ∷ (0, act.Open 1 1) ∷ (0, act.Nothing) ∷ (0, act.Do 2 (codes "c") (op.Long (long.Add (pos 5))))
    ∷ []

-- a leader that is cut off from the majority commits nothing
abbrev pub cut_off_lines : List Line
cut_off_lines =
    row_scripts.elect 1 ∷ row_scripts.settle 1 ∷ row_scripts.opening 1 2 ∷ row_scripts.settle 1 ∷ row_scripts.cut (end.Node 1) (end.Node 2) ∷ row_scripts.cut (end.Node 1) (end.Node 3)
    ∷ row_scripts.switch 1 1 ∷ row_scripts.call 1 (codes "c") (op.Long (long.Add (pos 5))) ∷ row_scripts.settle 1 ∷ row_scripts.settle 1 ∷ []

abbrev pub cut_off_items : List Item
cut_off_items =
    item.Leader 1 1 ∷ item.Commit 1 ∷ item.Commit 2 ∷ item.Opened 2 1
    ∷ item.Called 2 1 (calls.Command (codes "c") (op.Long (long.Add (pos 5)))) ∷ []

abbrev pub cut_off_history : List (ℕ × Act)
cut_off_history =
    (0, act.Nothing) ∷ (0, act.Open 1 1) ∷ []

-- the same with one client that is connected to it from the start
abbrev pub cut_off_alone_lines : List Line
cut_off_alone_lines =
    row_scripts.elect 1 ∷ row_scripts.settle 1 ∷ row_scripts.opening 1 1 ∷ row_scripts.settle 1 ∷ row_scripts.cut (end.Node 1) (end.Node 2) ∷ row_scripts.cut (end.Node 1) (end.Node 3)
    ∷ row_scripts.call 1 (codes "c") (op.Long (long.Add (pos 5))) ∷ row_scripts.settle 1 ∷ row_scripts.settle 1 ∷ []

abbrev pub cut_off_alone_items : List Item
cut_off_alone_items =
    item.Leader 1 1 ∷ item.Commit 1 ∷ item.Commit 2 ∷ item.Opened 2 1
    ∷ item.Called 2 1 (calls.Command (codes "c") (op.Long (long.Add (pos 5)))) ∷ []

abbrev pub cut_off_alone_history : List (ℕ × Act)
cut_off_alone_history =
    (0, act.Nothing) ∷ (0, act.Open 1 1) ∷ []

-- a store fails while a follower adds an entry: the node halts, and catches up after a start
abbrev pub store_failed_lines : List Line
store_failed_lines =
    row_scripts.elect 1 ∷ row_scripts.settle 1 ∷ row_scripts.opening 1 2 ∷ row_scripts.settle 1 ∷ row_scripts.start 2 ∷ row_scripts.settle 1
    ∷ row_scripts.call 1 (codes "c") (op.Long (long.Add (pos 1))) ∷ row_scripts.settle 1 ∷ []

abbrev pub store_failed_items : List Item
store_failed_items =
    item.Leader 1 1 ∷ item.Commit 1 ∷ item.Halted 2 ∷ item.Commit 2 ∷ item.Opened 2 1
    ∷ item.Called 2 1 (calls.Command (codes "c") (op.Long (long.Add (pos 1)))) ∷ item.Commit 3
    ∷ item.Reply 2 1 3 (reply.Number (pos 1)) ∷ []

abbrev pub store_failed_history : List (ℕ × Act)
store_failed_history =
    (0, act.Nothing) ∷ (0, act.Open 1 1) ∷ (0, act.Do 2 (codes "c") (op.Long (long.Add (pos 1)))) ∷ []

-- steps that cannot be done are skipped, each for its first reason
abbrev pub skipped_lines : List Line
skipped_lines =
    row_scripts.elect 1 ∷ row_scripts.opening 1 1 ∷ row_scripts.flush ∷ row_scripts.deliver 9 ∷ row_scripts.beat 1 ∷ row_scripts.elect 1 ∷ row_scripts.crash 1 ∷ row_scripts.beat 1 ∷ row_scripts.start 1 ∷ row_scripts.start 1 ∷ row_scripts.opening 1 1
    ∷ []

abbrev pub skipped_items : List Item
skipped_items =
    item.Leader 1 1 ∷ item.Commit 1 ∷ item.Commit 2 ∷ item.Opened 2 1 ∷ item.Skip reason.NeverSent
    ∷ item.Skip reason.IsLeader ∷ item.Skip reason.NodeDown ∷ item.Skip reason.NodeUp ∷ item.Skip reason.SessionOpen
    ∷ []

abbrev pub skipped_history : List (ℕ × Act)
skipped_history =
    (0, act.Nothing) ∷ (0, act.Open 1 1) ∷ []

-- a packet that comes in part is ignored, and sent again
abbrev pub short_packet_lines : List Line
short_packet_lines =
    row_scripts.elect 1 ∷ row_scripts.opening 1 1 ∷ row_scripts.flush ∷ row_scripts.call 1 (codes "c") (op.Long (long.Add (pos 5))) ∷ row_scripts.short 4 10 ∷ row_scripts.flush ∷ row_scripts.resend 1
    ∷ row_scripts.flush ∷ []

abbrev pub short_packet_items : List Item
short_packet_items =
    item.Leader 1 1 ∷ item.Commit 1 ∷ item.Commit 2 ∷ item.Opened 2 1
    ∷ item.Called 2 1 (calls.Command (codes "c") (op.Long (long.Add (pos 5)))) ∷ item.Commit 3
    ∷ item.Reply 2 1 3 (reply.Number (pos 5)) ∷ []

abbrev pub short_packet_history : List (ℕ × Act)
short_packet_history =
    (0, act.Nothing) ∷ (0, act.Open 1 1) ∷ (0, act.Do 2 (codes "c") (op.Long (long.Add (pos 5)))) ∷ []

-- a command with all but the last byte of its spelling is ignored
abbrev pub one_byte_short_lines : List Line
one_byte_short_lines =
    row_scripts.elect 1 ∷ row_scripts.opening 1 1 ∷ row_scripts.flush ∷ row_scripts.call 1 (codes "c") (op.Long (long.Add (pos 5))) ∷ row_scripts.short 4 29 ∷ []

abbrev pub one_byte_short_items : List Item
one_byte_short_items =
    item.Leader 1 1 ∷ item.Commit 1 ∷ item.Commit 2 ∷ item.Opened 2 1
    ∷ item.Called 2 1 (calls.Command (codes "c") (op.Long (long.Add (pos 5)))) ∷ []

abbrev pub one_byte_short_history : List (ℕ × Act)
one_byte_short_history =
    (0, act.Nothing) ∷ (0, act.Open 1 1) ∷ []

-- a command with all bytes of its spelling is taken
abbrev pub no_byte_short_lines : List Line
no_byte_short_lines =
    row_scripts.elect 1 ∷ row_scripts.opening 1 1 ∷ row_scripts.flush ∷ row_scripts.call 1 (codes "c") (op.Long (long.Add (pos 5))) ∷ row_scripts.short 4 30 ∷ row_scripts.flush ∷ []

abbrev pub no_byte_short_items : List Item
no_byte_short_items =
    item.Leader 1 1 ∷ item.Commit 1 ∷ item.Commit 2 ∷ item.Opened 2 1
    ∷ item.Called 2 1 (calls.Command (codes "c") (op.Long (long.Add (pos 5)))) ∷ item.Commit 3
    ∷ item.Reply 2 1 3 (reply.Number (pos 5)) ∷ []

abbrev pub no_byte_short_history : List (ℕ × Act)
no_byte_short_history =
    (0, act.Nothing) ∷ (0, act.Open 1 1) ∷ (0, act.Do 2 (codes "c") (op.Long (long.Add (pos 5)))) ∷ []
