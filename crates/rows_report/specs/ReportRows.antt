-- Runs with their items, their histories and what their reports are, line for line.
use Rattle.std.specs.Prelude.{ℕ, pos, None, List, [], ◌∷◌, codes}
use Rattle.ax_types.specs.declared.ops.Level.TheVariants as level
use Rattle.ax_types.specs.declared.ops.MapOp.TheVariants as map_op
use Rattle.ax_types.specs.declared.ops.LongOp.TheVariants as long_op
use Rattle.ax_types.specs.declared.ops.LockOp.TheVariants as lock_op
use Rattle.ax_types.specs.declared.ops.GroupOp.TheVariants as group_op
use Rattle.ax_types.specs.declared.ops.Op.TheVariants as op
use Rattle.ax_types.specs.declared.ops.GroupQuery.TheVariants as group_query
use Rattle.ax_types.specs.declared.ops.Query.TheVariants as query
use Rattle.ax_types.specs.declared.ops.WindowCall.TheVariants as call
use Rattle.ax_types.specs.declared.replies.Reply.TheVariants as reply
use Rattle.ax_types.specs.declared.replies.Event.TheVariants as event
use Rattle.ax_types.specs.declared.replies.How.TheVariants as how
use Rattle.ax_types.specs.declared.replies.Outcome.TheVariants as outcome
use Rattle.ax_types.specs.declared.steps.WatchKind.TheVariants as watch
use Rattle.ax_types.specs.declared.entries.Act.{Act}
use Rattle.ax_types.specs.declared.entries.Act.TheVariants as act
use Rattle.ax_types.specs.declared.items.Item.{Item}
use Rattle.ax_types.specs.declared.items.Item.TheVariants as item
use Rattle.spec_report.specs.Report as report_reports

-- one client adds 5 to a long
abbrev pub one_add_items : List Item
one_add_items =
    item.Leader 1 1
    ∷ item.Commit 1
    ∷ item.Commit 2
    ∷ item.Opened 2 1
    ∷ item.Called 2 1 (call.Command (codes "c") (op.Long (long_op.Add (pos 5))))
    ∷ item.Commit 3
    ∷ item.Reply 2 1 3 (reply.Number (pos 5))
    ∷ []

abbrev pub one_add_history : List (ℕ × Act)
one_add_history =
    (0, act.Nothing)
    ∷ (0, act.Open 1 1)
    ∷ (0, act.Do 2 (codes "c") (op.Long (long_op.Add (pos 5))))
    ∷ []

abbrev pub one_add_report : List (List ℕ)
one_add_report =
    codes "report 1"
    ∷ codes "leader 1 1"
    ∷ codes "commit 1"
    ∷ codes "commit 2"
    ∷ codes "opened 2 1"
    ∷ codes "called 2 1 call long c add 5"
    ∷ codes "commit 3"
    ∷ codes "reply 2 1 3 number 5"
    ∷ codes "history 3"
    ∷ codes "1 0 nothing"
    ∷ codes "2 0 open 1 1"
    ∷ codes "3 0 do 2 long c add 5"
    ∷ codes "end done"
    ∷ []

-- the leader is lost after it committed a call, and the next one answers it
abbrev pub leader_lost_items : List Item
leader_lost_items =
    item.Leader 1 1
    ∷ item.Commit 1
    ∷ item.Commit 2
    ∷ item.Opened 2 1
    ∷ item.Called 2 1 (call.Command (codes "c") (op.Long (long_op.Add (pos 5))))
    ∷ item.Commit 3
    ∷ item.Leader 2 2
    ∷ item.Commit 4
    ∷ item.Commit 5
    ∷ item.Reply 2 1 3 (reply.Number (pos 5))
    ∷ []

abbrev pub leader_lost_history : List (ℕ × Act)
leader_lost_history =
    (0, act.Nothing)
    ∷ (0, act.Open 1 1)
    ∷ (0, act.Do 2 (codes "c") (op.Long (long_op.Add (pos 5))))
    ∷ (0, act.Nothing)
    ∷ (0, act.Nothing)
    ∷ []

abbrev pub leader_lost_report : List (List ℕ)
leader_lost_report =
    codes "report 1"
    ∷ codes "leader 1 1"
    ∷ codes "commit 1"
    ∷ codes "commit 2"
    ∷ codes "opened 2 1"
    ∷ codes "called 2 1 call long c add 5"
    ∷ codes "commit 3"
    ∷ codes "leader 2 2"
    ∷ codes "commit 4"
    ∷ codes "commit 5"
    ∷ codes "reply 2 1 3 number 5"
    ∷ codes "history 5"
    ∷ codes "1 0 nothing"
    ∷ codes "2 0 open 1 1"
    ∷ codes "3 0 do 2 long c add 5"
    ∷ codes "4 0 nothing"
    ∷ codes "5 0 nothing"
    ∷ codes "end done"
    ∷ []

-- a batch of events is lost and sent again
abbrev pub lost_batch_items : List Item
lost_batch_items =
    item.Leader 1 1
    ∷ item.Commit 1
    ∷ item.Commit 2
    ∷ item.Commit 3
    ∷ item.Opened 2 1
    ∷ item.Opened 3 2
    ∷ item.Called 3 1 (call.Command (codes "m") (op.Map map_op.Listen))
    ∷ item.Commit 4
    ∷ item.Reply 3 1 4 reply.Done
    ∷ item.Called 2 1 (call.Command (codes "m") (op.Map (map_op.Put (codes "a") (codes "1"))))
    ∷ item.Called 2 2 (call.Command (codes "m") (op.Map (map_op.Put (codes "b") (codes "2"))))
    ∷ item.Commit 5
    ∷ item.Commit 6
    ∷ item.Reply 2 1 5 reply.Nothing
    ∷ item.Reply 2 2 6 reply.Nothing
    ∷ item.Event 3 5 0 ((event.Changed (codes "m") (codes "a") (codes "1")) ∷ [])
    ∷ item.Event 3 6 5 ((event.Changed (codes "m") (codes "b") (codes "2")) ∷ [])
    ∷ []

abbrev pub lost_batch_history : List (ℕ × Act)
lost_batch_history =
    (0, act.Nothing)
    ∷ (0, act.Open 1 1)
    ∷ (0, act.Open 2 1)
    ∷ (0, act.Do 3 (codes "m") (op.Map map_op.Listen))
    ∷ (0, act.Do 2 (codes "m") (op.Map (map_op.Put (codes "a") (codes "1"))))
    ∷ (0, act.Do 2 (codes "m") (op.Map (map_op.Put (codes "b") (codes "2"))))
    ∷ []

abbrev pub lost_batch_report : List (List ℕ)
lost_batch_report =
    codes "report 1"
    ∷ codes "leader 1 1"
    ∷ codes "commit 1"
    ∷ codes "commit 2"
    ∷ codes "commit 3"
    ∷ codes "opened 2 1"
    ∷ codes "opened 3 2"
    ∷ codes "called 3 1 call map m listen"
    ∷ codes "commit 4"
    ∷ codes "reply 3 1 4 done"
    ∷ codes "called 2 1 call map m put a 1"
    ∷ codes "called 2 2 call map m put b 2"
    ∷ codes "commit 5"
    ∷ codes "commit 6"
    ∷ codes "reply 2 1 5 none"
    ∷ codes "reply 2 2 6 none"
    ∷ codes "event 3 5 0 1 changed m a 1"
    ∷ codes "event 3 6 5 1 changed m b 2"
    ∷ codes "history 6"
    ∷ codes "1 0 nothing"
    ∷ codes "2 0 open 1 1"
    ∷ codes "3 0 open 2 1"
    ∷ codes "4 0 do 3 map m listen"
    ∷ codes "5 0 do 2 map m put a 1"
    ∷ codes "6 0 do 2 map m put b 2"
    ∷ codes "end done"
    ∷ []

-- a session expires with three calls unanswered
abbrev pub doubt_items : List Item
doubt_items =
    item.Leader 1 1
    ∷ item.Commit 1
    ∷ item.Commit 2
    ∷ item.Opened 2 1
    ∷ item.Called 2 1 (call.Command (codes "c") (op.Long (long_op.Add (pos 1))))
    ∷ item.Called 2 2 (call.Command (codes "c") (op.Long (long_op.Add (pos 2))))
    ∷ item.Called 2 3 (call.Command (codes "c") (op.Long (long_op.Add (pos 3))))
    ∷ item.Commit 3
    ∷ item.Commit 4
    ∷ item.Commit 5
    ∷ item.Commit 6
    ∷ item.Commit 7
    ∷ item.Ended 2 4 how.Expired
    ∷ item.Doubt 2 1
    ∷ item.Doubt 2 2
    ∷ item.Doubt 2 3
    ∷ item.Unsent 2 4
    ∷ []

abbrev pub doubt_history : List (ℕ × Act)
doubt_history =
    (0, act.Nothing)
    ∷ (0, act.Open 1 1)
    ∷ (0, act.Do 2 (codes "c") (op.Long (long_op.Add (pos 1))))
    ∷ (1000, act.Expire 2)
    ∷ (1000, act.Nothing)
    ∷ (1000, act.Nothing)
    ∷ (1000, act.Nothing)
    ∷ []

abbrev pub doubt_report : List (List ℕ)
doubt_report =
    codes "report 1"
    ∷ codes "leader 1 1"
    ∷ codes "commit 1"
    ∷ codes "commit 2"
    ∷ codes "opened 2 1"
    ∷ codes "called 2 1 call long c add 1"
    ∷ codes "called 2 2 call long c add 2"
    ∷ codes "called 2 3 call long c add 3"
    ∷ codes "commit 3"
    ∷ codes "commit 4"
    ∷ codes "commit 5"
    ∷ codes "commit 6"
    ∷ codes "commit 7"
    ∷ codes "ended 2 4 expired"
    ∷ codes "doubt 2 1"
    ∷ codes "doubt 2 2"
    ∷ codes "doubt 2 3"
    ∷ codes "unsent 2 4"
    ∷ codes "history 7"
    ∷ codes "1 0 nothing"
    ∷ codes "2 0 open 1 1"
    ∷ codes "3 0 do 2 long c add 1"
    ∷ codes "4 1000 expire 2"
    ∷ codes "5 1000 nothing"
    ∷ codes "6 1000 nothing"
    ∷ codes "7 1000 nothing"
    ∷ codes "end done"
    ∷ []

-- two clients join a group, one leaves and joins again
abbrev pub group_items : List Item
group_items =
    item.Leader 1 1
    ∷ item.Commit 1
    ∷ item.Commit 2
    ∷ item.Commit 3
    ∷ item.Opened 2 1
    ∷ item.Opened 3 2
    ∷ item.Called 2 1 (call.Command (codes "g") (op.Group group_op.Join))
    ∷ item.Called 3 1 (call.Command (codes "g") (op.Group group_op.Join))
    ∷ item.Commit 4
    ∷ item.Commit 5
    ∷ item.Reply 2 1 4 reply.Done
    ∷ item.Reply 3 1 5 reply.Done
    ∷ item.Called 2 2 (call.Command (codes "g") (op.Group group_op.Leave))
    ∷ item.Called 2 3 (call.Command (codes "g") (op.Group group_op.Join))
    ∷ item.Called 3 2 (call.Query level.Seq (codes "g") (query.Group group_query.Members))
    ∷ item.Called 3 3 (call.Query level.Seq (codes "g") (query.Group group_query.Leader))
    ∷ item.Commit 6
    ∷ item.Commit 7
    ∷ item.Reply 2 2 6 reply.Done
    ∷ item.Reply 2 3 7 reply.Done
    ∷ item.Read 3 2 level.Seq 7 None (reply.Members (3 ∷ 2 ∷ []))
    ∷ item.Read 3 3 level.Seq 7 None (reply.Leader 3 6)
    ∷ []

abbrev pub group_history : List (ℕ × Act)
group_history =
    (0, act.Nothing)
    ∷ (0, act.Open 1 1)
    ∷ (0, act.Open 2 1)
    ∷ (0, act.Do 2 (codes "g") (op.Group group_op.Join))
    ∷ (0, act.Do 3 (codes "g") (op.Group group_op.Join))
    ∷ (0, act.Do 2 (codes "g") (op.Group group_op.Leave))
    ∷ (0, act.Do 2 (codes "g") (op.Group group_op.Join))
    ∷ []

abbrev pub group_report : List (List ℕ)
group_report =
    codes "report 1"
    ∷ codes "leader 1 1"
    ∷ codes "commit 1"
    ∷ codes "commit 2"
    ∷ codes "commit 3"
    ∷ codes "opened 2 1"
    ∷ codes "opened 3 2"
    ∷ codes "called 2 1 call group g join"
    ∷ codes "called 3 1 call group g join"
    ∷ codes "commit 4"
    ∷ codes "commit 5"
    ∷ codes "reply 2 1 4 done"
    ∷ codes "reply 3 1 5 done"
    ∷ codes "called 2 2 call group g leave"
    ∷ codes "called 2 3 call group g join"
    ∷ codes "called 3 2 query seq group g members"
    ∷ codes "called 3 3 query seq group g leader"
    ∷ codes "commit 6"
    ∷ codes "commit 7"
    ∷ codes "reply 2 2 6 done"
    ∷ codes "reply 2 3 7 done"
    ∷ codes "read 3 2 seq 7 - members 3 2"
    ∷ codes "read 3 3 seq 7 - leader 3 6"
    ∷ codes "history 7"
    ∷ codes "1 0 nothing"
    ∷ codes "2 0 open 1 1"
    ∷ codes "3 0 open 2 1"
    ∷ codes "4 0 do 2 group g join"
    ∷ codes "5 0 do 3 group g join"
    ∷ codes "6 0 do 2 group g leave"
    ∷ codes "7 0 do 2 group g join"
    ∷ codes "end done"
    ∷ []

-- a caller locks a lock, and a listener hears of it
abbrev pub listener_items : List Item
listener_items =
    item.Leader 1 1
    ∷ item.Commit 1
    ∷ item.Commit 2
    ∷ item.Opened 2 1
    ∷ item.Called 2 1 (call.Command (codes "l") (op.Lock lock_op.Lock))
    ∷ item.Commit 3
    ∷ item.Event 2 3 0 ((event.Granted (codes "l") 3) ∷ [])
    ∷ item.Reply 2 1 3 reply.Done
    ∷ []

abbrev pub listener_history : List (ℕ × Act)
listener_history =
    (0, act.Nothing)
    ∷ (0, act.Open 1 1)
    ∷ (0, act.Do 2 (codes "l") (op.Lock lock_op.Lock))
    ∷ []

-- the lines of its callers and feeds
abbrev pub listener_extra : List (List ℕ)
listener_extra =
    report_reports.caller_line 1 1 (outcome.Reply 3 reply.Done)
    ∷ report_reports.feed_line 1 1 watch.Grants 2 3 (event.Granted (codes "l") 3)
    ∷ []

abbrev pub listener_lines : List (List ℕ)
listener_lines =
    codes "report 1"
    ∷ codes "leader 1 1"
    ∷ codes "commit 1"
    ∷ codes "commit 2"
    ∷ codes "opened 2 1"
    ∷ codes "called 2 1 call lock l lock"
    ∷ codes "commit 3"
    ∷ codes "event 2 3 0 1 granted l 3"
    ∷ codes "reply 2 1 3 done"
    ∷ codes "history 3"
    ∷ codes "1 0 nothing"
    ∷ codes "2 0 open 1 1"
    ∷ codes "3 0 do 2 lock l lock"
    ∷ codes "caller 1 1 reply 3 done"
    ∷ codes "feed 1 1 grants 2 3 granted l 3"
    ∷ codes "end done"
    ∷ []

abbrev pub one_add_json : List ℕ
one_add_json =
    codes "{\"end\":\"done\",\"history\":[\"1 0 nothing\",\"2 0 open 1 1\",\"3 0 do 2 long c add 5\"],\"items\":[\"leader 1 1\",\"commit 1\",\"commit 2\",\"opened 2 1\",\"called 2 1 call long c add 5\",\"commit 3\",\"reply 2 1 3 number 5\"],\"report\":1,\"waiting\":[]}\n"

-- texts with bytes that JSON escapes
abbrev pub quotes_items : List Item
quotes_items = item.Reply 2 1 3 (reply.Found (codes "\"a\\b\"")) ∷ []

abbrev pub quotes_json : List ℕ
quotes_json = codes "{\"end\":\"step-limit 7\",\"history\":[],\"items\":[\"reply 2 1 3 some \\\"a\\\\b\\\"\"],\"report\":1,\"waiting\":[\"waiting 2 2\"]}\n"
