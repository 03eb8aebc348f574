-- Events: in order of their places, before the responses that name them, and watches that show them.
use Rattle.std.specs.Prelude.{ℕ, codes, None, List, [], ◌∷◌}
use Rattle.ax_types.specs.declared.items.Item.{Item}
use Rattle.ax_types.specs.declared.items.Item.TheVariants as item
use Rattle.ax_types.specs.declared.entries.Act.{Act}
use Rattle.ax_types.specs.declared.entries.Act.TheVariants as act
use Rattle.ax_types.specs.declared.ops.MapOp.TheVariants as map
use Rattle.ax_types.specs.declared.ops.LockOp.TheVariants as lock
use Rattle.ax_types.specs.declared.ops.GroupOp.TheVariants as group
use Rattle.ax_types.specs.declared.ops.LockQuery.TheVariants as lock_query
use Rattle.ax_types.specs.declared.ops.GroupQuery.TheVariants as group_query
use Rattle.ax_types.specs.declared.ops.Op.TheVariants as op
use Rattle.ax_types.specs.declared.ops.Query.TheVariants as query
use Rattle.ax_types.specs.declared.ops.Level.TheVariants as level
use Rattle.ax_types.specs.declared.ops.WindowCall.TheVariants as calls
use Rattle.ax_types.specs.declared.replies.Reply.TheVariants as reply
use Rattle.ax_types.specs.declared.replies.Event.TheVariants as event
use Rattle.ax_types.specs.declared.scripts.Line.{Line}
use Rattle.ax_types.specs.declared.steps.WatchKind.TheVariants as kind
use Rattle.rows_run.specs.RowScripts as row_scripts

-- a lock passes on when its holder's session expires, and its event comes before the read that names it
abbrev pub lock_expired_lines : List Line
lock_expired_lines =
    row_scripts.elect 1 ∷ row_scripts.opening 1 1 ∷ row_scripts.opening 2 1 ∷ row_scripts.flush ∷ row_scripts.call 1 (codes "l") (op.Lock lock.Lock) ∷ row_scripts.flush
    ∷ row_scripts.call 2 (codes "l") (op.Lock lock.Lock) ∷ row_scripts.flush ∷ row_scripts.clock 1 500 ∷ row_scripts.keep 2 ∷ row_scripts.flush ∷ row_scripts.clock 1 1000 ∷ row_scripts.expire 1
    ∷ row_scripts.query_line 2 level.Seq (codes "l") (query.Lock lock_query.Holder) ∷ row_scripts.deliver 14 ∷ row_scripts.deliver 15 ∷ row_scripts.deliver 13 ∷ []

abbrev pub lock_expired_items : List Item
lock_expired_items =
    item.Leader 1 1 ∷ item.Commit 1 ∷ item.Commit 2 ∷ item.Commit 3 ∷ item.Opened 2 1 ∷ item.Opened 3 2
    ∷ item.Called 2 1 (calls.Command (codes "l") (op.Lock lock.Lock)) ∷ item.Commit 4
    ∷ item.Event 2 4 0 ((event.Granted (codes "l") 4) ∷ []) ∷ item.Reply 2 1 4 reply.Done
    ∷ item.Called 3 1 (calls.Command (codes "l") (op.Lock lock.Lock)) ∷ item.Commit 5 ∷ item.Reply 3 1 5 reply.Done
    ∷ item.Commit 6 ∷ item.Commit 7
    ∷ item.Called 3 2 (calls.Query level.Seq (codes "l") (query.Lock lock_query.Holder))
    ∷ item.Event 3 7 0 ((event.Granted (codes "l") 7) ∷ []) ∷ item.Read 3 2 level.Seq 7 None (reply.Holder 3 7) ∷ []

abbrev pub lock_expired_history : List (ℕ × Act)
lock_expired_history =
    (0, act.Nothing) ∷ (0, act.Open 1 1) ∷ (0, act.Open 2 1) ∷ (0, act.Do 2 (codes "l") (op.Lock lock.Lock))
    ∷ (0, act.Do 3 (codes "l") (op.Lock lock.Lock)) ∷ (500, act.Keep 3) ∷ (1000, act.Expire 2) ∷ []

-- a batch of events is lost: the one after it is refused, and both come again
abbrev pub lost_batch_lines : List Line
lost_batch_lines =
    row_scripts.elect 1 ∷ row_scripts.opening 1 1 ∷ row_scripts.opening 2 1 ∷ row_scripts.flush ∷ row_scripts.call 2 (codes "m") (op.Map map.Listen) ∷ row_scripts.flush
    ∷ row_scripts.call 1 (codes "m") (op.Map (map.Put (codes "a") (codes "1")))
    ∷ row_scripts.call 1 (codes "m") (op.Map (map.Put (codes "b") (codes "2"))) ∷ row_scripts.deliver 9 ∷ row_scripts.deliver 10 ∷ row_scripts.drop 12 ∷ row_scripts.deliver 14
    ∷ row_scripts.flush ∷ []

-- a watch shows what it holds directly below the event
abbrev pub watched_lines : List Line
watched_lines =
    row_scripts.elect 1 ∷ row_scripts.opening 1 1 ∷ row_scripts.opening 2 1 ∷ row_scripts.flush ∷ row_scripts.watch 1 kind.Grants ∷ row_scripts.call 1 (codes "l") (op.Lock lock.Lock)
    ∷ row_scripts.flush ∷ []

abbrev pub watched_items : List Item
watched_items =
    item.Leader 1 1 ∷ item.Commit 1 ∷ item.Commit 2 ∷ item.Commit 3 ∷ item.Opened 2 1 ∷ item.Opened 3 2
    ∷ item.Called 2 1 (calls.Command (codes "l") (op.Lock lock.Lock)) ∷ item.Commit 4
    ∷ item.Event 2 4 0 ((event.Granted (codes "l") 4) ∷ [])
    ∷ item.Watched 1 kind.Grants 2 4 (event.Granted (codes "l") 4) ∷ item.Reply 2 1 4 reply.Done ∷ []

abbrev pub watched_history : List (ℕ × Act)
watched_history =
    (0, act.Nothing) ∷ (0, act.Open 1 1) ∷ (0, act.Open 2 1) ∷ (0, act.Do 2 (codes "l") (op.Lock lock.Lock)) ∷ []

-- a session expires when its last sign is the timeout ago, and not before
abbrev pub boundary_lines : List Line
boundary_lines =
    row_scripts.elect 1 ∷ row_scripts.settle 1 ∷ row_scripts.opening 1 2 ∷ row_scripts.settle 1 ∷ row_scripts.clock 1 1 ∷ row_scripts.keep 1 ∷ row_scripts.flush ∷ row_scripts.clock 1 1000 ∷ row_scripts.expire 1 ∷ row_scripts.settle 1
    ∷ row_scripts.clock 1 1001 ∷ row_scripts.expire 1 ∷ row_scripts.settle 1 ∷ []

abbrev pub boundary_items : List Item
boundary_items =
    item.Leader 1 1 ∷ item.Commit 1 ∷ item.Commit 2 ∷ item.Opened 2 1 ∷ item.Commit 4 ∷ item.Commit 5 ∷ []

abbrev pub boundary_history : List (ℕ × Act)
boundary_history =
    (0, act.Nothing) ∷ (0, act.Open 1 1) ∷ (1, act.Keep 2) ∷ (1000, act.Nothing) ∷ (1001, act.Expire 2) ∷ []

-- a group whose leader leaves and joins again is led by its earliest member
abbrev pub group_lines : List Line
group_lines =
    row_scripts.elect 1 ∷ row_scripts.opening 1 1 ∷ row_scripts.opening 2 1 ∷ row_scripts.flush ∷ row_scripts.call 1 (codes "g") (op.Group group.Join)
    ∷ row_scripts.call 2 (codes "g") (op.Group group.Join) ∷ row_scripts.flush ∷ row_scripts.call 1 (codes "g") (op.Group group.Leave)
    ∷ row_scripts.call 1 (codes "g") (op.Group group.Join) ∷ row_scripts.query_line 2 level.Seq (codes "g") (query.Group group_query.Members)
    ∷ row_scripts.query_line 2 level.Seq (codes "g") (query.Group group_query.Leader) ∷ row_scripts.flush ∷ []
