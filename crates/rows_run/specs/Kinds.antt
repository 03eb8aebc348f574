-- Entries with a life, queues and topics.
use Rattle.std.specs.Prelude.{ℕ, codes, pos, None, List, [], ◌∷◌}
use Rattle.ax_types.specs.declared.items.Item.{Item}
use Rattle.ax_types.specs.declared.items.Item.TheVariants as item
use Rattle.ax_types.specs.declared.entries.Act.{Act}
use Rattle.ax_types.specs.declared.entries.Act.TheVariants as act
use Rattle.ax_types.specs.declared.ops.MapOp.TheVariants as map
use Rattle.ax_types.specs.declared.ops.LockOp.TheVariants as lock
use Rattle.ax_types.specs.declared.ops.ValueOp.TheVariants as value
use Rattle.ax_types.specs.declared.ops.QueueOp.TheVariants as queue
use Rattle.ax_types.specs.declared.ops.TopicOp.TheVariants as topic
use Rattle.ax_types.specs.declared.ops.MapQuery.TheVariants as map_query
use Rattle.ax_types.specs.declared.ops.Op.TheVariants as op
use Rattle.ax_types.specs.declared.ops.Query.TheVariants as query
use Rattle.ax_types.specs.declared.ops.Level.TheVariants as level
use Rattle.ax_types.specs.declared.ops.WindowCall.TheVariants as calls
use Rattle.ax_types.specs.declared.replies.Reply.TheVariants as reply
use Rattle.ax_types.specs.declared.replies.Event.TheVariants as event
use Rattle.ax_types.specs.declared.scripts.Line.{Line}
use Rattle.rows_run.specs.RowScripts as row_scripts

-- an entry with a life goes at the first place whose time is its end
abbrev pub entry_life_lines : List Line
entry_life_lines =
    row_scripts.elect 1 ∷ row_scripts.opening 1 1 ∷ row_scripts.opening 2 1 ∷ row_scripts.flush ∷ row_scripts.call 2 (codes "m") (op.Map map.Listen) ∷ row_scripts.flush
    ∷ row_scripts.call 1 (codes "m") (op.Map (map.PutFor (codes "a") (codes "1") 500)) ∷ row_scripts.flush ∷ row_scripts.clock 1 499 ∷ row_scripts.keep 1 ∷ row_scripts.flush
    ∷ row_scripts.query_line 2 level.Seq (codes "m") (query.Map map_query.Size) ∷ row_scripts.flush ∷ row_scripts.clock 1 500 ∷ row_scripts.keep 1 ∷ row_scripts.flush
    ∷ row_scripts.query_line 2 level.Seq (codes "m") (query.Map map_query.Size) ∷ row_scripts.flush ∷ []

abbrev pub entry_life_items : List Item
entry_life_items =
    item.Leader 1 1 ∷ item.Commit 1 ∷ item.Commit 2 ∷ item.Commit 3 ∷ item.Opened 2 1 ∷ item.Opened 3 2
    ∷ item.Called 3 1 (calls.Command (codes "m") (op.Map map.Listen)) ∷ item.Commit 4 ∷ item.Reply 3 1 4 reply.Done
    ∷ item.Called 2 1 (calls.Command (codes "m") (op.Map (map.PutFor (codes "a") (codes "1") 500))) ∷ item.Commit 5
    ∷ item.Reply 2 1 5 reply.Nothing ∷ item.Event 3 5 0 ((event.Changed (codes "m") (codes "a") (codes "1")) ∷ [])
    ∷ item.Commit 6 ∷ item.Called 3 2 (calls.Query level.Seq (codes "m") (query.Map map_query.Size))
    ∷ item.Read 3 2 level.Seq 6 None (reply.Number (pos 1)) ∷ item.Commit 7
    ∷ item.Event 3 7 5 ((event.Removed (codes "m") (codes "a")) ∷ [])
    ∷ item.Called 3 3 (calls.Query level.Seq (codes "m") (query.Map map_query.Size))
    ∷ item.Read 3 3 level.Seq 7 None (reply.Number (pos 0)) ∷ []

abbrev pub entry_life_history : List (ℕ × Act)
entry_life_history =
    (0, act.Nothing) ∷ (0, act.Open 1 1) ∷ (0, act.Open 2 1) ∷ (0, act.Do 3 (codes "m") (op.Map map.Listen))
    ∷ (0, act.Do 2 (codes "m") (op.Map (map.PutFor (codes "a") (codes "1") 500))) ∷ (499, act.Keep 2)
    ∷ (500, act.Keep 2) ∷ []

-- an entry that is put again without a life stays
abbrev pub life_lifted_lines : List Line
life_lifted_lines =
    row_scripts.elect 1 ∷ row_scripts.opening 1 1 ∷ row_scripts.flush ∷ row_scripts.call 1 (codes "m") (op.Map (map.PutFor (codes "k") (codes "v") 10))
    ∷ row_scripts.call 1 (codes "m") (op.Map (map.Put (codes "k") (codes "w"))) ∷ row_scripts.flush ∷ row_scripts.clock 1 10
    ∷ row_scripts.call 1 (codes "m") (op.Map (map.PutIfAbsent (codes "k") (codes "x"))) ∷ row_scripts.flush ∷ []

abbrev pub life_lifted_items : List Item
life_lifted_items =
    item.Leader 1 1 ∷ item.Commit 1 ∷ item.Commit 2 ∷ item.Opened 2 1
    ∷ item.Called 2 1 (calls.Command (codes "m") (op.Map (map.PutFor (codes "k") (codes "v") 10)))
    ∷ item.Called 2 2 (calls.Command (codes "m") (op.Map (map.Put (codes "k") (codes "w")))) ∷ item.Commit 3
    ∷ item.Commit 4 ∷ item.Reply 2 1 3 reply.Nothing ∷ item.Reply 2 2 4 (reply.Found (codes "v"))
    ∷ item.Called 2 3 (calls.Command (codes "m") (op.Map (map.PutIfAbsent (codes "k") (codes "x")))) ∷ item.Commit 5
    ∷ item.Reply 2 3 5 (reply.Found (codes "w")) ∷ []

abbrev pub life_lifted_history : List (ℕ × Act)
life_lifted_history =
    (0, act.Nothing) ∷ (0, act.Open 1 1) ∷ (0, act.Do 2 (codes "m") (op.Map (map.PutFor (codes "k") (codes "v") 10)))
    ∷ (0, act.Do 2 (codes "m") (op.Map (map.Put (codes "k") (codes "w"))))
    ∷ (10, act.Do 2 (codes "m") (op.Map (map.PutIfAbsent (codes "k") (codes "x")))) ∷ []

-- equal offers are two, and each is taken once
abbrev pub queue_lines : List Line
queue_lines =
    row_scripts.elect 1 ∷ row_scripts.opening 1 1 ∷ row_scripts.opening 2 1 ∷ row_scripts.flush ∷ row_scripts.call 1 (codes "q") (op.Queue (queue.Offer (codes "a")))
    ∷ row_scripts.call 1 (codes "q") (op.Queue (queue.Offer (codes "a"))) ∷ row_scripts.flush ∷ row_scripts.call 2 (codes "q") (op.Queue queue.Poll)
    ∷ row_scripts.call 1 (codes "q") (op.Queue queue.Poll) ∷ row_scripts.call 2 (codes "q") (op.Queue queue.Poll) ∷ row_scripts.flush ∷ []

abbrev pub queue_items : List Item
queue_items =
    item.Leader 1 1 ∷ item.Commit 1 ∷ item.Commit 2 ∷ item.Commit 3 ∷ item.Opened 2 1 ∷ item.Opened 3 2
    ∷ item.Called 2 1 (calls.Command (codes "q") (op.Queue (queue.Offer (codes "a"))))
    ∷ item.Called 2 2 (calls.Command (codes "q") (op.Queue (queue.Offer (codes "a")))) ∷ item.Commit 4 ∷ item.Commit 5
    ∷ item.Reply 2 1 4 reply.Yes ∷ item.Reply 2 2 5 reply.Yes
    ∷ item.Called 3 1 (calls.Command (codes "q") (op.Queue queue.Poll))
    ∷ item.Called 2 3 (calls.Command (codes "q") (op.Queue queue.Poll))
    ∷ item.Called 3 2 (calls.Command (codes "q") (op.Queue queue.Poll)) ∷ item.Commit 6 ∷ item.Commit 7
    ∷ item.Commit 8 ∷ item.Reply 3 1 6 (reply.Found (codes "a")) ∷ item.Reply 2 3 7 (reply.Found (codes "a"))
    ∷ item.Reply 3 2 8 reply.Nothing ∷ []

abbrev pub queue_history : List (ℕ × Act)
queue_history =
    (0, act.Nothing) ∷ (0, act.Open 1 1) ∷ (0, act.Open 2 1)
    ∷ (0, act.Do 2 (codes "q") (op.Queue (queue.Offer (codes "a"))))
    ∷ (0, act.Do 2 (codes "q") (op.Queue (queue.Offer (codes "a"))))
    ∷ (0, act.Do 3 (codes "q") (op.Queue queue.Poll)) ∷ (0, act.Do 2 (codes "q") (op.Queue queue.Poll))
    ∷ (0, act.Do 3 (codes "q") (op.Queue queue.Poll)) ∷ []

-- a message goes to those who subscribe when it is published
abbrev pub topic_lines : List Line
topic_lines =
    row_scripts.elect 1 ∷ row_scripts.opening 1 1 ∷ row_scripts.opening 2 1 ∷ row_scripts.flush ∷ row_scripts.call 2 (codes "t") (op.Topic topic.Subscribe) ∷ row_scripts.flush
    ∷ row_scripts.call 1 (codes "t") (op.Topic (topic.Publish (codes "x"))) ∷ row_scripts.flush
    ∷ row_scripts.call 2 (codes "t") (op.Topic topic.Unsubscribe) ∷ row_scripts.call 1 (codes "t") (op.Topic (topic.Publish (codes "y")))
    ∷ row_scripts.flush ∷ []

abbrev pub topic_items : List Item
topic_items =
    item.Leader 1 1 ∷ item.Commit 1 ∷ item.Commit 2 ∷ item.Commit 3 ∷ item.Opened 2 1 ∷ item.Opened 3 2
    ∷ item.Called 3 1 (calls.Command (codes "t") (op.Topic topic.Subscribe)) ∷ item.Commit 4
    ∷ item.Reply 3 1 4 reply.Done ∷ item.Called 2 1 (calls.Command (codes "t") (op.Topic (topic.Publish (codes "x"))))
    ∷ item.Commit 5 ∷ item.Reply 2 1 5 (reply.Number (pos 1))
    ∷ item.Event 3 5 0 ((event.Message (codes "t") (codes "x")) ∷ [])
    ∷ item.Called 3 2 (calls.Command (codes "t") (op.Topic topic.Unsubscribe))
    ∷ item.Called 2 2 (calls.Command (codes "t") (op.Topic (topic.Publish (codes "y")))) ∷ item.Commit 6
    ∷ item.Commit 7 ∷ item.Reply 3 2 6 reply.Yes ∷ item.Reply 2 2 7 (reply.Number (pos 0)) ∷ []

abbrev pub topic_history : List (ℕ × Act)
topic_history =
    (0, act.Nothing) ∷ (0, act.Open 1 1) ∷ (0, act.Open 2 1) ∷ (0, act.Do 3 (codes "t") (op.Topic topic.Subscribe))
    ∷ (0, act.Do 2 (codes "t") (op.Topic (topic.Publish (codes "x"))))
    ∷ (0, act.Do 3 (codes "t") (op.Topic topic.Unsubscribe))
    ∷ (0, act.Do 2 (codes "t") (op.Topic (topic.Publish (codes "y")))) ∷ []

-- a lock that is tried, a map under the name of a lock, and the lock let go
abbrev pub lock_and_map_lines : List Line
lock_and_map_lines =
    row_scripts.elect 1 ∷ row_scripts.opening 1 1 ∷ row_scripts.flush ∷ row_scripts.call 1 (codes "l") (op.Lock lock.TryLock) ∷ row_scripts.flush
    ∷ row_scripts.call 1 (codes "l") (op.Map (map.Put (codes "k") (codes "v"))) ∷ row_scripts.flush
    ∷ row_scripts.call 1 (codes "l") (op.Lock lock.Unlock) ∷ row_scripts.flush ∷ []

abbrev pub lock_and_map_items : List Item
lock_and_map_items =
    item.Leader 1 1 ∷ item.Commit 1 ∷ item.Commit 2 ∷ item.Opened 2 1
    ∷ item.Called 2 1 (calls.Command (codes "l") (op.Lock lock.TryLock)) ∷ item.Commit 3
    ∷ item.Reply 2 1 3 (reply.Fence 3)
    ∷ item.Called 2 2 (calls.Command (codes "l") (op.Map (map.Put (codes "k") (codes "v")))) ∷ item.Commit 4
    ∷ item.Reply 2 2 4 reply.WrongKind ∷ item.Called 2 3 (calls.Command (codes "l") (op.Lock lock.Unlock))
    ∷ item.Commit 5 ∷ item.Reply 2 3 5 reply.Done ∷ []

abbrev pub lock_and_map_history : List (ℕ × Act)
lock_and_map_history =
    (0, act.Nothing) ∷ (0, act.Open 1 1) ∷ (0, act.Do 2 (codes "l") (op.Lock lock.TryLock))
    ∷ (0, act.Do 2 (codes "l") (op.Map (map.Put (codes "k") (codes "v"))))
    ∷ (0, act.Do 2 (codes "l") (op.Lock lock.Unlock)) ∷ []

-- a value that is set, changed where it is as expected, and cleared
abbrev pub value_changes_lines : List Line
value_changes_lines =
    row_scripts.elect 1 ∷ row_scripts.opening 1 1 ∷ row_scripts.flush ∷ row_scripts.call 1 (codes "v") (op.Value (value.Set (codes "a"))) ∷ row_scripts.flush
    ∷ row_scripts.call 1 (codes "v") (op.Value (value.Cas (codes "a") (codes "b"))) ∷ row_scripts.flush
    ∷ row_scripts.call 1 (codes "v") (op.Value (value.Cas (codes "a") (codes "c"))) ∷ row_scripts.flush
    ∷ row_scripts.call 1 (codes "v") (op.Value value.Clear) ∷ row_scripts.flush ∷ []

abbrev pub value_changes_items : List Item
value_changes_items =
    item.Leader 1 1 ∷ item.Commit 1 ∷ item.Commit 2 ∷ item.Opened 2 1
    ∷ item.Called 2 1 (calls.Command (codes "v") (op.Value (value.Set (codes "a")))) ∷ item.Commit 3
    ∷ item.Reply 2 1 3 reply.Nothing
    ∷ item.Called 2 2 (calls.Command (codes "v") (op.Value (value.Cas (codes "a") (codes "b")))) ∷ item.Commit 4
    ∷ item.Reply 2 2 4 reply.Yes
    ∷ item.Called 2 3 (calls.Command (codes "v") (op.Value (value.Cas (codes "a") (codes "c")))) ∷ item.Commit 5
    ∷ item.Reply 2 3 5 reply.No ∷ item.Called 2 4 (calls.Command (codes "v") (op.Value value.Clear)) ∷ item.Commit 6
    ∷ item.Reply 2 4 6 (reply.Found (codes "b")) ∷ []

abbrev pub value_changes_history : List (ℕ × Act)
value_changes_history =
    (0, act.Nothing) ∷ (0, act.Open 1 1) ∷ (0, act.Do 2 (codes "v") (op.Value (value.Set (codes "a"))))
    ∷ (0, act.Do 2 (codes "v") (op.Value (value.Cas (codes "a") (codes "b"))))
    ∷ (0, act.Do 2 (codes "v") (op.Value (value.Cas (codes "a") (codes "c"))))
    ∷ (0, act.Do 2 (codes "v") (op.Value value.Clear)) ∷ []
