-- Sets, queues, multimaps and topics.
use Rattle.std.specs.Prelude.{ℕ, Bool, not, if◌then◌else◌, List, [], ◌∷◌, ◌++◌, length, pos, filter}
use Rattle.std.specs.declared.cmp.Ordering.{Ordering}
use Rattle.std.specs.Ordering.{then_cmp, on, is_eq}
use Rattle.std.specs.List.{list_any}
use Rattle.std.specs.BTreeMap.{is_at}
use Rattle.std.specs.BTreeSet.{insert_key}
use Rattle.std.specs.Set.{remove_key}
use Rattle.ax_types.specs.declared.ops.SetOp.{SetOp}
use Rattle.ax_types.specs.declared.ops.SetOp.TheVariants as set
use Rattle.ax_types.specs.declared.ops.SetQuery.{SetQuery}
use Rattle.ax_types.specs.declared.ops.SetQuery.TheVariants as set_query
use Rattle.ax_types.specs.declared.ops.QueueOp.{QueueOp}
use Rattle.ax_types.specs.declared.ops.QueueOp.TheVariants as queue
use Rattle.ax_types.specs.declared.ops.QueueQuery.{QueueQuery}
use Rattle.ax_types.specs.declared.ops.QueueQuery.TheVariants as queue_query
use Rattle.ax_types.specs.declared.ops.MultimapOp.{MultimapOp}
use Rattle.ax_types.specs.declared.ops.MultimapOp.TheVariants as multimap
use Rattle.ax_types.specs.declared.ops.MultimapQuery.{MultimapQuery}
use Rattle.ax_types.specs.declared.ops.MultimapQuery.TheVariants as multimap_query
use Rattle.ax_types.specs.declared.ops.TopicOp.{TopicOp}
use Rattle.ax_types.specs.declared.ops.TopicOp.TheVariants as topic
use Rattle.ax_types.specs.declared.ops.TopicQuery.{TopicQuery}
use Rattle.ax_types.specs.declared.ops.TopicQuery.TheVariants as topic_query
use Rattle.ax_types.specs.declared.replies.Reply.{Reply}
use Rattle.ax_types.specs.declared.replies.Reply.TheVariants as reply
use Rattle.ax_types.specs.declared.replies.Event.TheVariants as event
use Rattle.spec_book.specs.Limits as limits
use Rattle.spec_book.specs.Dict as dicts
use Rattle.spec_book.specs.Resources as resources
use Rattle.spec_book.specs.Scalars as scalars

-- a truth as a reply
abbrev pub truth : Bool → Reply
truth b = if b then reply.Yes else reply.No

abbrev pub set_act : SetOp → List (List ℕ) → resources.Acted (List (List ℕ))
set_act (set.Add v) s =
    if dicts.has_text s v then resources.replied s reply.No else (if limits.is_full s then resources.replied s reply.Full else resources.replied (dicts.with_text s v) reply.Yes)
set_act (set.Remove v) s = if dicts.has_text s v then resources.replied (dicts.without_text s v) reply.Yes else resources.replied s reply.No
set_act set.Clear s = resources.replied [] reply.Done

abbrev pub set_ask : SetQuery → List (List ℕ) → Reply
set_ask (set_query.Contains v) s = truth (dicts.has_text s v)
set_ask set_query.Size s = reply.Number (pos (length s))

-- the first text of a queue, as a reply
abbrev pub first_text : List (List ℕ) → Reply
first_text [] = reply.Nothing
first_text (v ∷ rest) = reply.Found v

-- a queue without its first text
abbrev pub without_first : List (List ℕ) → List (List ℕ)
without_first [] = []
without_first (v ∷ rest) = rest

abbrev pub queue_act : QueueOp → List (List ℕ) → resources.Acted (List (List ℕ))
queue_act (queue.Offer v) s = if limits.is_full s then resources.replied s reply.Full else resources.replied (s ++ v ∷ []) reply.Yes
queue_act queue.Poll s = resources.replied (without_first s) (first_text s)

abbrev pub queue_ask : QueueQuery → List (List ℕ) → Reply
queue_ask queue_query.Peek s = first_text s
queue_ask queue_query.Size s = reply.Number (pos (length s))

-- the order of a multimap's pairs: by key, then by text
abbrev pub pair_cmp : List ℕ × List ℕ → List ℕ × List ℕ → Ordering
pair_cmp = then_cmp (on (λ p. p.0) dicts.bytes_cmp) (on (λ p. p.1) dicts.bytes_cmp)

-- whether a multimap has the pair
abbrev pub has_pair : List (List ℕ × List ℕ) → List ℕ × List ℕ → Bool
has_pair s p = list_any (is_at (pair_cmp p)) s

-- the pairs of a key, and the others
abbrev pub pairs_of : List ℕ → List (List ℕ × List ℕ) → List (List ℕ × List ℕ)
pairs_of k s = filter (λ p. is_eq (dicts.bytes_cmp k p.0)) s

abbrev pub without_pairs : List ℕ → List (List ℕ × List ℕ) → List (List ℕ × List ℕ)
without_pairs k s = filter (λ p. not (is_eq (dicts.bytes_cmp k p.0))) s

abbrev pub multimap_act : MultimapOp → List (List ℕ × List ℕ) → resources.Acted (List (List ℕ × List ℕ))
multimap_act (multimap.Put k v) s =
    if has_pair s (k, v) then resources.replied s reply.No
    else (if limits.is_full s then resources.replied s reply.Full else resources.replied (insert_key pair_cmp s (k, v)) reply.Yes)
multimap_act (multimap.Remove k v) s =
    if has_pair s (k, v) then resources.replied (remove_key (is_at (pair_cmp (k, v))) s) reply.Yes else resources.replied s reply.No
multimap_act (multimap.RemoveAll k) s = resources.replied (without_pairs k s) (reply.Number (pos (length (pairs_of k s))))

abbrev pub multimap_ask : MultimapQuery → List (List ℕ × List ℕ) → Reply
multimap_ask (multimap_query.Contains k v) s = truth (has_pair s (k, v))
multimap_ask (multimap_query.Count k) s = reply.Number (pos (length (pairs_of k s)))
multimap_ask multimap_query.Size s = reply.Number (pos (length s))

abbrev pub topic_act : List ℕ → ℕ → TopicOp → List ℕ → resources.Acted (List ℕ)
topic_act name session topic.Subscribe s = resources.replied (scalars.listen_after s session) (scalars.listen_reply s session)
topic_act name session topic.Unsubscribe s =
    if dicts.has_session s session then resources.replied (dicts.without_session s session) reply.Yes else resources.replied s reply.No
topic_act name session (topic.Publish v) s = resources.told_too s (reply.Number (pos (length s))) (resources.tell s (event.Message name v))

abbrev pub topic_ask : TopicQuery → List ℕ → Reply
topic_ask topic_query.Subscribers s = reply.Number (pos (length s))
