-- Each form of a line once.
use Rattle.std.specs.Prelude.{ℕ, pos, negsuc, Some, None, List, [], ◌∷◌, codes}
use Rattle.ax_types.specs.declared.ops.Level.TheVariants as level
use Rattle.ax_types.specs.declared.ops.MapOp.TheVariants as map_op
use Rattle.ax_types.specs.declared.ops.ValueOp.TheVariants as value_op
use Rattle.ax_types.specs.declared.ops.LongOp.TheVariants as long_op
use Rattle.ax_types.specs.declared.ops.LockOp.TheVariants as lock_op
use Rattle.ax_types.specs.declared.ops.GroupOp.TheVariants as group_op
use Rattle.ax_types.specs.declared.ops.SetOp.TheVariants as set_op
use Rattle.ax_types.specs.declared.ops.QueueOp.TheVariants as queue_op
use Rattle.ax_types.specs.declared.ops.MultimapOp.TheVariants as multimap_op
use Rattle.ax_types.specs.declared.ops.TopicOp.TheVariants as topic_op
use Rattle.ax_types.specs.declared.ops.Op.TheVariants as op
use Rattle.ax_types.specs.declared.ops.MapQuery.TheVariants as map_query
use Rattle.ax_types.specs.declared.ops.ValueQuery.TheVariants as value_query
use Rattle.ax_types.specs.declared.ops.LongQuery.TheVariants as long_query
use Rattle.ax_types.specs.declared.ops.LockQuery.TheVariants as lock_query
use Rattle.ax_types.specs.declared.ops.GroupQuery.TheVariants as group_query
use Rattle.ax_types.specs.declared.ops.SetQuery.TheVariants as set_query
use Rattle.ax_types.specs.declared.ops.QueueQuery.TheVariants as queue_query
use Rattle.ax_types.specs.declared.ops.MultimapQuery.TheVariants as multimap_query
use Rattle.ax_types.specs.declared.ops.TopicQuery.TheVariants as topic_query
use Rattle.ax_types.specs.declared.ops.Query.TheVariants as query
use Rattle.ax_types.specs.declared.replies.How.TheVariants as how
use Rattle.ax_types.specs.declared.replies.Outcome.TheVariants as outcome
use Rattle.ax_types.specs.declared.steps.WatchKind.TheVariants as watch
use Rattle.ax_types.specs.declared.ids.End.TheVariants as link_end
use Rattle.ax_types.specs.declared.packets.PayloadKind.TheVariants as kind
use Rattle.ax_types.specs.declared.items.SkipReason.TheVariants as skip
use Rattle.ax_types.specs.declared.ops.WindowCall.{WindowCall}
use Rattle.ax_types.specs.declared.ops.WindowCall.TheVariants as call
use Rattle.ax_types.specs.declared.replies.Reply.{Reply}
use Rattle.ax_types.specs.declared.replies.Reply.TheVariants as reply
use Rattle.ax_types.specs.declared.replies.Event.{Event}
use Rattle.ax_types.specs.declared.replies.Event.TheVariants as event
use Rattle.ax_types.specs.declared.entries.Act.{Act}
use Rattle.ax_types.specs.declared.entries.Act.TheVariants as act
use Rattle.ax_types.specs.declared.items.Item.{Item}
use Rattle.ax_types.specs.declared.items.Item.TheVariants as item
use Rattle.spec_report.specs.Report as reports

-- the operations and queries
abbrev pub each_call : List WindowCall
each_call =
    call.Command (codes "x") (op.Map (map_op.Put (codes "k") (codes "v")))
    ∷ call.Command (codes "x") (op.Map (map_op.PutIfAbsent (codes "k") (codes "v")))
    ∷ call.Command (codes "x") (op.Map (map_op.Replace (codes "k") (codes "v")))
    ∷ call.Command (codes "x") (op.Map (map_op.Remove (codes "k")))
    ∷ call.Command (codes "x") (op.Map map_op.Clear)
    ∷ call.Command (codes "x") (op.Map map_op.Listen)
    ∷ call.Command (codes "x") (op.Map (map_op.PutFor (codes "k") (codes "v") 500))
    ∷ call.Command (codes "x") (op.Value (value_op.Set (codes "v")))
    ∷ call.Command (codes "x") (op.Value (value_op.Cas (codes "v") (codes "w")))
    ∷ call.Command (codes "x") (op.Value value_op.Clear)
    ∷ call.Command (codes "x") (op.Value value_op.Listen)
    ∷ call.Command (codes "x") (op.Long (long_op.Add (negsuc 4)))
    ∷ call.Command (codes "x") (op.Long (long_op.GetAndAdd (pos 5)))
    ∷ call.Command (codes "x") (op.Long (long_op.Set (pos 9223372036854775807)))
    ∷ call.Command (codes "x") (op.Long (long_op.Cas (pos 0) (negsuc 9223372036854775807)))
    ∷ call.Command (codes "x") (op.Lock lock_op.Lock)
    ∷ call.Command (codes "x") (op.Lock lock_op.TryLock)
    ∷ call.Command (codes "x") (op.Lock lock_op.Unlock)
    ∷ call.Command (codes "x") (op.Lock lock_op.Cancel)
    ∷ call.Command (codes "x") (op.Group group_op.Join)
    ∷ call.Command (codes "x") (op.Group group_op.Leave)
    ∷ call.Command (codes "x") (op.Group group_op.Listen)
    ∷ call.Command (codes "x") (op.Set (set_op.Add (codes "v")))
    ∷ call.Command (codes "x") (op.Set (set_op.Remove (codes "v")))
    ∷ call.Command (codes "x") (op.Set set_op.Clear)
    ∷ call.Command (codes "x") (op.Queue (queue_op.Offer (codes "v")))
    ∷ call.Command (codes "x") (op.Queue queue_op.Poll)
    ∷ call.Command (codes "x") (op.Multimap (multimap_op.Put (codes "k") (codes "v")))
    ∷ call.Command (codes "x") (op.Multimap (multimap_op.Remove (codes "k") (codes "v")))
    ∷ call.Command (codes "x") (op.Multimap (multimap_op.RemoveAll (codes "k")))
    ∷ call.Command (codes "x") (op.Topic topic_op.Subscribe)
    ∷ call.Command (codes "x") (op.Topic topic_op.Unsubscribe)
    ∷ call.Command (codes "x") (op.Topic (topic_op.Publish (codes "v")))
    ∷ call.Query level.Seq (codes "x") (query.Map (map_query.Get (codes "k")))
    ∷ call.Query level.Lin (codes "x") (query.Map (map_query.Contains (codes "k")))
    ∷ call.Query level.Seq (codes "x") (query.Map map_query.Size)
    ∷ call.Query level.Lin (codes "x") (query.Value value_query.Get)
    ∷ call.Query level.Seq (codes "x") (query.Long long_query.Get)
    ∷ call.Query level.Lin (codes "x") (query.Lock lock_query.Holder)
    ∷ call.Query level.Seq (codes "x") (query.Lock lock_query.Waiting)
    ∷ call.Query level.Lin (codes "x") (query.Group group_query.Members)
    ∷ call.Query level.Seq (codes "x") (query.Group group_query.Leader)
    ∷ call.Query level.Lin (codes "x") (query.Set (set_query.Contains (codes "v")))
    ∷ call.Query level.Seq (codes "x") (query.Set set_query.Size)
    ∷ call.Query level.Lin (codes "x") (query.Queue queue_query.Peek)
    ∷ call.Query level.Seq (codes "x") (query.Queue queue_query.Size)
    ∷ call.Query level.Lin (codes "x") (query.Multimap (multimap_query.Contains (codes "k") (codes "v")))
    ∷ call.Query level.Seq (codes "x") (query.Multimap (multimap_query.Count (codes "k")))
    ∷ call.Query level.Lin (codes "x") (query.Multimap multimap_query.Size)
    ∷ call.Query level.Seq (codes "x") (query.Topic topic_query.Subscribers)
    ∷ []

abbrev pub call_lines : List (List ℕ)
call_lines =
    codes "call map x put k v"
    ∷ codes "call map x put_if_absent k v"
    ∷ codes "call map x replace k v"
    ∷ codes "call map x remove k"
    ∷ codes "call map x clear"
    ∷ codes "call map x listen"
    ∷ codes "call map x put_for k v 500"
    ∷ codes "call value x set v"
    ∷ codes "call value x cas v w"
    ∷ codes "call value x clear"
    ∷ codes "call value x listen"
    ∷ codes "call long x add -5"
    ∷ codes "call long x get_and_add 5"
    ∷ codes "call long x set 9223372036854775807"
    ∷ codes "call long x cas 0 -9223372036854775808"
    ∷ codes "call lock x lock"
    ∷ codes "call lock x try_lock"
    ∷ codes "call lock x unlock"
    ∷ codes "call lock x cancel"
    ∷ codes "call group x join"
    ∷ codes "call group x leave"
    ∷ codes "call group x listen"
    ∷ codes "call set x add v"
    ∷ codes "call set x remove v"
    ∷ codes "call set x clear"
    ∷ codes "call queue x offer v"
    ∷ codes "call queue x poll"
    ∷ codes "call multimap x put k v"
    ∷ codes "call multimap x remove k v"
    ∷ codes "call multimap x remove_all k"
    ∷ codes "call topic x subscribe"
    ∷ codes "call topic x unsubscribe"
    ∷ codes "call topic x publish v"
    ∷ codes "query seq map x get k"
    ∷ codes "query lin map x contains k"
    ∷ codes "query seq map x size"
    ∷ codes "query lin value x get"
    ∷ codes "query seq long x get"
    ∷ codes "query lin lock x holder"
    ∷ codes "query seq lock x waiting"
    ∷ codes "query lin group x members"
    ∷ codes "query seq group x leader"
    ∷ codes "query lin set x contains v"
    ∷ codes "query seq set x size"
    ∷ codes "query lin queue x peek"
    ∷ codes "query seq queue x size"
    ∷ codes "query lin multimap x contains k v"
    ∷ codes "query seq multimap x count k"
    ∷ codes "query lin multimap x size"
    ∷ codes "query seq topic x subscribers"
    ∷ []

-- the replies
abbrev pub each_reply : List Reply
each_reply =
    reply.Done
    ∷ reply.Nothing
    ∷ reply.Found (codes "v")
    ∷ reply.Yes
    ∷ reply.No
    ∷ reply.Number (negsuc 0)
    ∷ reply.Fence 7
    ∷ reply.Holder 3 7
    ∷ reply.Leader 3 6
    ∷ reply.Members (3 ∷ 2 ∷ [])
    ∷ reply.Members []
    ∷ reply.Busy
    ∷ reply.Already
    ∷ reply.NotHolder
    ∷ reply.NotMember
    ∷ reply.Overflow
    ∷ reply.Full
    ∷ reply.WrongKind
    ∷ []

abbrev pub reply_lines : List (List ℕ)
reply_lines =
    codes "done"
    ∷ codes "none"
    ∷ codes "some v"
    ∷ codes "true"
    ∷ codes "false"
    ∷ codes "number -1"
    ∷ codes "fence 7"
    ∷ codes "holder 3 7"
    ∷ codes "leader 3 6"
    ∷ codes "members 3 2"
    ∷ codes "members"
    ∷ codes "busy"
    ∷ codes "already"
    ∷ codes "not-holder"
    ∷ codes "not-member"
    ∷ codes "overflow"
    ∷ codes "full"
    ∷ codes "wrong-kind"
    ∷ []

-- the events
abbrev pub each_event : List Event
each_event =
    event.Changed (codes "x") (codes "k") (codes "v")
    ∷ event.Removed (codes "x") (codes "k")
    ∷ event.Set (codes "x") (codes "v")
    ∷ event.Cleared (codes "x")
    ∷ event.Granted (codes "x") 7
    ∷ event.Joined (codes "x") 3
    ∷ event.Left (codes "x") 3
    ∷ event.Elected (codes "x") 3 7
    ∷ event.Message (codes "x") (codes "v")
    ∷ []

abbrev pub event_lines : List (List ℕ)
event_lines =
    codes "changed x k v"
    ∷ codes "removed x k"
    ∷ codes "set x v"
    ∷ codes "cleared x"
    ∷ codes "granted x 7"
    ∷ codes "joined x 3"
    ∷ codes "left x 3"
    ∷ codes "elected x 3 7"
    ∷ codes "message x v"
    ∷ []

-- the items
abbrev pub each_item : List Item
each_item =
    item.Leader 3 7
    ∷ item.Commit 4
    ∷ item.Reach 1 2 3 4 5
    ∷ item.Halted 2
    ∷ item.Opened 2 1
    ∷ item.Called 2 1 (call.Command (codes "x") (op.Lock lock_op.Lock))
    ∷ item.Event 3 7 5 (event.Removed (codes "x") (codes "k") ∷ event.Elected (codes "x") 3 7 ∷ [])
    ∷ item.Watched 1 watch.All 3 7 (event.Cleared (codes "x"))
    ∷ item.Watched 1 watch.Changes 3 7 (event.Cleared (codes "x"))
    ∷ item.Watched 1 watch.Grants 3 7 (event.Granted (codes "x") 7)
    ∷ item.Reply 2 1 3 reply.Done
    ∷ item.Read 2 2 level.Lin 3 (Some (2, 1)) (reply.Holder 3 7)
    ∷ item.Read 2 2 level.Seq 3 None reply.Nothing
    ∷ item.Ended 2 4 how.Closed
    ∷ item.Ended 2 4 how.Expired
    ∷ item.Doubt 2 1
    ∷ item.Lost 2 1
    ∷ item.Unsent 2 1
    ∷ item.Unanswered 2 1
    ∷ item.Listed 64
    ∷ item.Pending 6 (link_end.Client 16) (link_end.Node 9) kind.Keep
    ∷ item.Pending 1 (link_end.Node 1) (link_end.Node 2) kind.Vote
    ∷ item.Pending 1 (link_end.Node 1) (link_end.Node 2) kind.VoteReply
    ∷ item.Pending 1 (link_end.Node 1) (link_end.Node 2) kind.Append
    ∷ item.Pending 1 (link_end.Node 1) (link_end.Node 2) kind.AppendReply
    ∷ item.Pending 1 (link_end.Node 1) (link_end.Node 2) kind.Register
    ∷ item.Pending 1 (link_end.Node 1) (link_end.Node 2) kind.Command
    ∷ item.Pending 1 (link_end.Node 1) (link_end.Node 2) kind.Close
    ∷ item.Pending 1 (link_end.Node 1) (link_end.Node 2) kind.Query
    ∷ item.Pending 1 (link_end.Node 1) (link_end.Node 2) kind.Connect
    ∷ item.Pending 1 (link_end.Node 1) (link_end.Node 2) kind.Reset
    ∷ item.Pending 1 (link_end.Node 1) (link_end.Node 2) kind.Opened
    ∷ item.Pending 1 (link_end.Node 1) (link_end.Node 2) kind.Reply
    ∷ item.Pending 1 (link_end.Node 1) (link_end.Node 2) kind.Gap
    ∷ item.Pending 1 (link_end.Node 1) (link_end.Node 2) kind.Answer
    ∷ item.Pending 1 (link_end.Node 1) (link_end.Node 2) kind.Batch
    ∷ item.Pending 1 (link_end.Node 1) (link_end.Node 2) kind.Ended
    ∷ item.Skip skip.NodeDown
    ∷ item.Skip skip.IsLeader
    ∷ item.Skip skip.NotLeader
    ∷ item.Skip skip.NodeUp
    ∷ item.Skip skip.NeverSent
    ∷ item.Skip skip.Gone
    ∷ item.Skip skip.Cut
    ∷ item.Skip skip.SessionOpen
    ∷ item.Skip skip.NoSession
    ∷ item.Skip skip.WindowFull
    ∷ item.Skip (skip.Busy 1)
    ∷ item.Skip skip.Watched
    ∷ []

abbrev pub item_lines : List (List ℕ)
item_lines =
    codes "leader 3 7"
    ∷ codes "commit 4"
    ∷ codes "reach 1 2.3 4 5"
    ∷ codes "halted 2"
    ∷ codes "opened 2 1"
    ∷ codes "called 2 1 call lock x lock"
    ∷ codes "event 3 7 5 2 removed x k elected x 3 7"
    ∷ codes "watch 1 all 3 7 cleared x"
    ∷ codes "watch 1 changes 3 7 cleared x"
    ∷ codes "watch 1 grants 3 7 granted x 7"
    ∷ codes "reply 2 1 3 done"
    ∷ codes "read 2 2 lin 3 2.1 holder 3 7"
    ∷ codes "read 2 2 seq 3 - none"
    ∷ codes "ended 2 4 closed"
    ∷ codes "ended 2 4 expired"
    ∷ codes "doubt 2 1"
    ∷ codes "lost 2 1"
    ∷ codes "unsent 2 1"
    ∷ codes "unanswered 2 1"
    ∷ codes "listed 64"
    ∷ codes "pending 6 c16 n9 Keep"
    ∷ codes "pending 1 n1 n2 Vote"
    ∷ codes "pending 1 n1 n2 VoteReply"
    ∷ codes "pending 1 n1 n2 Append"
    ∷ codes "pending 1 n1 n2 AppendReply"
    ∷ codes "pending 1 n1 n2 Register"
    ∷ codes "pending 1 n1 n2 Command"
    ∷ codes "pending 1 n1 n2 Close"
    ∷ codes "pending 1 n1 n2 Query"
    ∷ codes "pending 1 n1 n2 Connect"
    ∷ codes "pending 1 n1 n2 Reset"
    ∷ codes "pending 1 n1 n2 Opened"
    ∷ codes "pending 1 n1 n2 Reply"
    ∷ codes "pending 1 n1 n2 Gap"
    ∷ codes "pending 1 n1 n2 Answer"
    ∷ codes "pending 1 n1 n2 Batch"
    ∷ codes "pending 1 n1 n2 Ended"
    ∷ codes "skip node-down"
    ∷ codes "skip is-leader"
    ∷ codes "skip not-leader"
    ∷ codes "skip node-up"
    ∷ codes "skip never-sent"
    ∷ codes "skip gone"
    ∷ codes "skip cut"
    ∷ codes "skip session-open"
    ∷ codes "skip no-session"
    ∷ codes "skip window-full"
    ∷ codes "skip busy 1"
    ∷ codes "skip watched"
    ∷ []

-- the acts of a history
abbrev pub each_act : List (ℕ × Act)
each_act =
    (0, act.Nothing)
    ∷ (0, act.Open 1 1)
    ∷ (499, act.Keep 2)
    ∷ (500, act.Do 2 (codes "x") (op.Map map_op.Clear))
    ∷ (500, act.Close 2)
    ∷ (1000000000000000, act.Expire 3)
    ∷ []

abbrev pub act_spellings : List (List ℕ)
act_spellings =
    codes "1 0 nothing"
    ∷ codes "2 0 open 1 1"
    ∷ codes "3 499 keep 2"
    ∷ codes "4 500 do 2 map x clear"
    ∷ codes "5 500 close 2"
    ∷ codes "6 1000000000000000 expire 3"
    ∷ []

-- the lines of callers and feeds
abbrev pub each_extra : List (List ℕ)
each_extra =
    reports.caller_line 1 2 (outcome.Reply 3 reply.Yes)
    ∷ reports.caller_line 1 3 (outcome.Read level.Lin 3 (Some (2, 1)) (reply.Number (pos 4)))
    ∷ reports.caller_line 2 4 outcome.Doubt
    ∷ reports.caller_line 2 5 outcome.Lost
    ∷ reports.caller_line 16 6 outcome.Unsent
    ∷ reports.caller_line 16 7 outcome.Unanswered
    ∷ reports.feed_line 1 2 watch.All 3 7 (event.Message (codes "x") (codes "v"))
    ∷ []

abbrev pub extra_lines : List (List ℕ)
extra_lines =
    codes "caller 1 2 reply 3 true"
    ∷ codes "caller 1 3 read lin 3 2.1 number 4"
    ∷ codes "caller 2 4 doubt"
    ∷ codes "caller 2 5 lost"
    ∷ codes "caller 16 6 unsent"
    ∷ codes "caller 16 7 unanswered"
    ∷ codes "feed 1 2 all 3 7 message x v"
    ∷ []
