-- What numbers, names and texts a value of the code's types can have, as facts.
use Rattle.std.specs.Prelude.{ℕ, ℤ, ◌<◌, ◌≤◌, ◌^◌, List, IsTrue, FitsSigned}
use Rattle.std.specs.List.{AllByRecursion}
use Rattle.std.specs.Int.{w64}
use Rattle.ax_types.specs.Letters as ax_types_letters
use Rattle.ax_types.specs.declared.limits.TheConstants.{MAX_CLIENTS}
use Rattle.ax_types.specs.declared.limits.TheConstants.{MAX_LIFE}
use Rattle.ax_types.specs.declared.ops.MapOp.{MapOp}
use Rattle.ax_types.specs.declared.ops.MapOp.TheVariants as map_op
use Rattle.ax_types.specs.declared.ops.ValueOp.{ValueOp}
use Rattle.ax_types.specs.declared.ops.ValueOp.TheVariants as value_op
use Rattle.ax_types.specs.declared.ops.LongOp.{LongOp}
use Rattle.ax_types.specs.declared.ops.LongOp.TheVariants as long_op
use Rattle.ax_types.specs.declared.ops.SetOp.{SetOp}
use Rattle.ax_types.specs.declared.ops.SetOp.TheVariants as set_op
use Rattle.ax_types.specs.declared.ops.QueueOp.{QueueOp}
use Rattle.ax_types.specs.declared.ops.QueueOp.TheVariants as queue_op
use Rattle.ax_types.specs.declared.ops.MultimapOp.{MultimapOp}
use Rattle.ax_types.specs.declared.ops.MultimapOp.TheVariants as multimap_op
use Rattle.ax_types.specs.declared.ops.TopicOp.{TopicOp}
use Rattle.ax_types.specs.declared.ops.TopicOp.TheVariants as topic_op
use Rattle.ax_types.specs.declared.ops.Op.{Op}
use Rattle.ax_types.specs.declared.ops.Op.TheVariants as op
use Rattle.ax_types.specs.declared.ops.MapQuery.{MapQuery}
use Rattle.ax_types.specs.declared.ops.MapQuery.TheVariants as map_query
use Rattle.ax_types.specs.declared.ops.SetQuery.{SetQuery}
use Rattle.ax_types.specs.declared.ops.SetQuery.TheVariants as set_query
use Rattle.ax_types.specs.declared.ops.MultimapQuery.{MultimapQuery}
use Rattle.ax_types.specs.declared.ops.MultimapQuery.TheVariants as multimap_query
use Rattle.ax_types.specs.declared.ops.Query.{Query}
use Rattle.ax_types.specs.declared.ops.Query.TheVariants as query
use Rattle.ax_types.specs.declared.replies.Reply.{Reply}
use Rattle.ax_types.specs.declared.replies.Reply.TheVariants as reply
use Rattle.ax_types.specs.declared.replies.Event.{Event}
use Rattle.ax_types.specs.declared.replies.Event.TheVariants as event
use Rattle.ax_types.specs.declared.entries.Body.{Body}
use Rattle.ax_types.specs.declared.entries.Body.TheVariants as body
use Rattle.ax_types.specs.declared.entries.Entry.{Entry}
use Rattle.ax_types.specs.declared.packets.Payload.{Payload}
use Rattle.ax_types.specs.declared.packets.Payload.TheVariants as payload

abbrev pub IsNumber : ℕ → Type 0
IsNumber n = n < 2 ^ 64

abbrev pub IsSigned : ℤ → Type 0
IsSigned z = FitsSigned w64 z

-- the form of a name or a key
abbrev pub IsName : List ℕ → Type 0
IsName letters = IsTrue (ax_types_letters.is_name letters)

abbrev pub IsText : List ℕ → Type 0
IsText letters = IsTrue (ax_types_letters.is_text letters)

abbrev pub IsLife : ℕ → Type 0
IsLife n = (1 ≤ n) × (n ≤ MAX_LIFE)

abbrev pub IsClient : ℕ → Type 0
IsClient c = (1 ≤ c) × (c ≤ MAX_CLIENTS)

abbrev pub FitsMapOp : MapOp → Type 0
FitsMapOp (map_op.Put key text) = IsName key × IsText text
FitsMapOp (map_op.PutIfAbsent key text) = IsName key × IsText text
FitsMapOp (map_op.Replace key text) = IsName key × IsText text
FitsMapOp (map_op.Remove key) = IsName key
FitsMapOp map_op.Clear = Unit {0}
FitsMapOp map_op.Listen = Unit {0}
FitsMapOp (map_op.PutFor key text life) = IsName key × IsText text × IsLife life

abbrev pub FitsValueOp : ValueOp → Type 0
FitsValueOp (value_op.Set text) = IsText text
FitsValueOp (value_op.Cas expected text) = IsText expected × IsText text
FitsValueOp value_op.Clear = Unit {0}
FitsValueOp value_op.Listen = Unit {0}

abbrev pub FitsLongOp : LongOp → Type 0
FitsLongOp (long_op.Add number) = IsSigned number
FitsLongOp (long_op.GetAndAdd number) = IsSigned number
FitsLongOp (long_op.Set number) = IsSigned number
FitsLongOp (long_op.Cas expected number) = IsSigned expected × IsSigned number

abbrev pub FitsSetOp : SetOp → Type 0
FitsSetOp (set_op.Add text) = IsText text
FitsSetOp (set_op.Remove text) = IsText text
FitsSetOp set_op.Clear = Unit {0}

abbrev pub FitsQueueOp : QueueOp → Type 0
FitsQueueOp (queue_op.Offer text) = IsText text
FitsQueueOp queue_op.Poll = Unit {0}

abbrev pub FitsMultimapOp : MultimapOp → Type 0
FitsMultimapOp (multimap_op.Put key text) = IsName key × IsText text
FitsMultimapOp (multimap_op.Remove key text) = IsName key × IsText text
FitsMultimapOp (multimap_op.RemoveAll key) = IsName key

abbrev pub FitsTopicOp : TopicOp → Type 0
FitsTopicOp topic_op.Subscribe = Unit {0}
FitsTopicOp topic_op.Unsubscribe = Unit {0}
FitsTopicOp (topic_op.Publish text) = IsText text

abbrev pub FitsOp : Op → Type 0
FitsOp (op.Map o) = FitsMapOp o
FitsOp (op.Value o) = FitsValueOp o
FitsOp (op.Long o) = FitsLongOp o
FitsOp (op.Lock o) = Unit {0}
FitsOp (op.Group o) = Unit {0}
FitsOp (op.Set o) = FitsSetOp o
FitsOp (op.Queue o) = FitsQueueOp o
FitsOp (op.Multimap o) = FitsMultimapOp o
FitsOp (op.Topic o) = FitsTopicOp o

abbrev pub FitsMapQuery : MapQuery → Type 0
FitsMapQuery (map_query.Get key) = IsName key
FitsMapQuery (map_query.Contains key) = IsName key
FitsMapQuery map_query.Size = Unit {0}

abbrev pub FitsSetQuery : SetQuery → Type 0
FitsSetQuery (set_query.Contains text) = IsText text
FitsSetQuery set_query.Size = Unit {0}

abbrev pub FitsMultimapQuery : MultimapQuery → Type 0
FitsMultimapQuery (multimap_query.Contains key text) = IsName key × IsText text
FitsMultimapQuery (multimap_query.Count key) = IsName key
FitsMultimapQuery multimap_query.Size = Unit {0}

abbrev pub FitsQuery : Query → Type 0
FitsQuery (query.Map q) = FitsMapQuery q
FitsQuery (query.Value q) = Unit {0}
FitsQuery (query.Long q) = Unit {0}
FitsQuery (query.Lock q) = Unit {0}
FitsQuery (query.Group q) = Unit {0}
FitsQuery (query.Set q) = FitsSetQuery q
FitsQuery (query.Queue q) = Unit {0}
FitsQuery (query.Multimap q) = FitsMultimapQuery q
FitsQuery (query.Topic q) = Unit {0}

abbrev pub FitsReply : Reply → Type 0
FitsReply (reply.Found text) = IsText text
FitsReply (reply.Number number) = IsSigned number
FitsReply (reply.Fence place) = IsNumber place
FitsReply (reply.Holder session fence) = IsNumber session × IsNumber fence
FitsReply (reply.Leader session term) = IsNumber session × IsNumber term
FitsReply (reply.Members sessions) = AllByRecursion IsNumber sessions
FitsReply _ = Unit {0}

abbrev pub FitsEvent : Event → Type 0
FitsEvent (event.Changed name key text) = IsName name × IsName key × IsText text
FitsEvent (event.Removed name key) = IsName name × IsName key
FitsEvent (event.Set name text) = IsName name × IsText text
FitsEvent (event.Cleared name) = IsName name
FitsEvent (event.Granted name fence) = IsName name × IsNumber fence
FitsEvent (event.Joined name session) = IsName name × IsNumber session
FitsEvent (event.Left name session) = IsName name × IsNumber session
FitsEvent (event.Elected name session term) = IsName name × IsNumber session × IsNumber term
FitsEvent (event.Message name text) = IsName name × IsText text

abbrev pub FitsBody : Body → Type 0
FitsBody body.Blank = Unit {0}
FitsBody (body.Register client opening) = IsClient client × IsNumber opening
FitsBody (body.Keep client session answered heard) = IsClient client × IsNumber session × IsNumber answered × IsNumber heard
FitsBody (body.Command client session seq name op) = IsClient client × IsNumber session × IsNumber seq × IsName name × FitsOp op
FitsBody (body.Close client session) = IsClient client × IsNumber session
FitsBody (body.Expire session) = IsNumber session

pub record FitsEntry (e : Entry) : Type 0 where
  pub term : IsNumber e.term
  pub time : IsNumber e.time
  pub body : FitsBody e.body

abbrev pub FitsPayload : Payload → Type 0
FitsPayload (payload.Vote term last last_term) = IsNumber term × IsNumber last × IsNumber last_term
FitsPayload (payload.VoteReply term granted) = IsNumber term
FitsPayload (payload.Append term prev prev_term commit round entries) =
    IsNumber term × IsNumber prev × IsNumber prev_term × IsNumber commit × IsNumber round × AllByRecursion FitsEntry entries
FitsPayload (payload.AppendReply term ok place round) = IsNumber term × IsNumber place × IsNumber round
FitsPayload (payload.Register client opening) = IsClient client × IsNumber opening
FitsPayload (payload.Keep client session answered heard) = IsClient client × IsNumber session × IsNumber answered × IsNumber heard
FitsPayload (payload.Command client session seq name op) = IsClient client × IsNumber session × IsNumber seq × IsName name × FitsOp op
FitsPayload (payload.Close client session) = IsClient client × IsNumber session
FitsPayload (payload.Query client session call level seen seq name query) =
    IsClient client × IsNumber session × IsNumber call × IsNumber seen × IsNumber seq × IsName name × FitsQuery query
FitsPayload (payload.Connect client session heard) = IsClient client × IsNumber session × IsNumber heard
FitsPayload (payload.Reset client session heard) = IsClient client × IsNumber session × IsNumber heard
FitsPayload (payload.Opened opening session) = IsNumber opening × IsNumber session
FitsPayload (payload.Reply session seq place events reply) =
    IsNumber session × IsNumber seq × IsNumber place × IsNumber events × FitsReply reply
FitsPayload (payload.Gap session last) = IsNumber session × IsNumber last
FitsPayload (payload.Answer session call level place events term arrival reply) =
    IsNumber session × IsNumber call × IsNumber place × IsNumber events × IsNumber term × IsNumber arrival × FitsReply reply
FitsPayload (payload.Batch session place prev events) =
    IsNumber session × IsNumber place × IsNumber prev × AllByRecursion FitsEvent events
FitsPayload (payload.Ended session place how) = IsNumber session × IsNumber place
