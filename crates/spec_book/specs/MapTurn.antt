-- Maps, whose entries may have a life in log time.
use Rattle.std.specs.Prelude.{ℕ, ◌+◌, Bool, false, not, if◌then◌else◌, nat_le, List, [], length, Option, Some, None, is_some, pos, filter, flat_map}
use Rattle.ax_types.specs.declared.ops.MapOp.{MapOp}
use Rattle.ax_types.specs.declared.ops.MapOp.TheVariants as op
use Rattle.ax_types.specs.declared.ops.MapQuery.{MapQuery}
use Rattle.ax_types.specs.declared.ops.MapQuery.TheVariants as query
use Rattle.ax_types.specs.declared.replies.Reply.{Reply}
use Rattle.ax_types.specs.declared.replies.Reply.TheVariants as reply
use Rattle.ax_types.specs.declared.replies.Event.{Event}
use Rattle.ax_types.specs.declared.replies.Event.TheVariants as event
use Rattle.spec_book.specs.Limits as limits
use Rattle.spec_book.specs.Dict as dicts
use Rattle.spec_book.specs.Resources as resources
use Rattle.spec_book.specs.Scalars as scalars

-- what stood at a key, as a reply
abbrev pub old_item : Option resources.MapItem → Reply
old_item None = reply.Nothing
old_item (Some item) = reply.Found item.text

-- the item at the key, and `changed` to the listeners
abbrev pub set_item : List ℕ → List ℕ → resources.MapItem → Reply → resources.MapState → resources.Acted resources.MapState
set_item name key item r s =
    resources.told_too (record s { entries = dicts.with_entry s.entries key item }) r (resources.tell s.listeners (event.Changed name key item.text))

-- `put`, with a life or none: a new key where there is no room is refused
abbrev pub put_item : List ℕ → List ℕ → resources.MapItem → Option resources.MapItem → resources.MapState → resources.Acted resources.MapState
put_item name key item None s = if limits.is_full s.entries then resources.replied s reply.Full else set_item name key item reply.Nothing s
put_item name key item (Some old) s = set_item name key item (reply.Found old.text) s

abbrev pub put_absent : List ℕ → List ℕ → resources.MapItem → Option resources.MapItem → resources.MapState → resources.Acted resources.MapState
put_absent name key item None s = put_item name key item None s
put_absent name key item (Some old) s = resources.replied s (reply.Found old.text)

abbrev pub replace_item : List ℕ → List ℕ → resources.MapItem → Option resources.MapItem → resources.MapState → resources.Acted resources.MapState
replace_item name key item None s = resources.replied s reply.Nothing
replace_item name key item (Some old) s = set_item name key item (reply.Found old.text) s

abbrev pub remove_item : List ℕ → List ℕ → Option resources.MapItem → resources.MapState → resources.Acted resources.MapState
remove_item name key None s = resources.replied s reply.Nothing
remove_item name key (Some old) s =
    resources.told_too (record s { entries = dicts.without_entry s.entries key }) (reply.Found old.text) (resources.tell s.listeners (event.Removed name key))

-- `removed` to the listeners for each of the entries, in ascending order of key
abbrev pub tell_removed : List ℕ → List ℕ → List (List ℕ × resources.MapItem) → List (ℕ × Event)
tell_removed name listeners entries = flat_map (λ e. resources.tell listeners (event.Removed name e.0)) entries

-- a text with no life
abbrev pub lasting : List ℕ → resources.MapItem
lasting v = record { text = v; life = None }

-- a text with a life from the log time at which it is set
abbrev pub living : List ℕ → ℕ → ℕ → resources.MapItem
living v time life = record { text = v; life = Some (record { set_at = time; length = life }) }

abbrev pub map_act : List ℕ → ℕ → ℕ → MapOp → resources.MapState → resources.Acted resources.MapState
map_act name time session (op.Put k v) s = put_item name k (lasting v) (dicts.found s.entries k) s
map_act name time session (op.PutIfAbsent k v) s = put_absent name k (lasting v) (dicts.found s.entries k) s
map_act name time session (op.Replace k v) s = replace_item name k (lasting v) (dicts.found s.entries k) s
map_act name time session (op.Remove k) s = remove_item name k (dicts.found s.entries k) s
map_act name time session op.Clear s = resources.told_too (record s { entries = [] }) reply.Done (tell_removed name s.listeners s.entries)
map_act name time session op.Listen s = resources.replied (record s { listeners = scalars.listen_after s.listeners session }) (scalars.listen_reply s.listeners session)
map_act name time session (op.PutFor k v life) s = put_item name k (living v time life) (dicts.found s.entries k) s

abbrev pub map_ask : MapQuery → resources.MapState → Reply
map_ask (query.Get k) s = old_item (dicts.found s.entries k)
map_ask (query.Contains k) s = if is_some (dicts.found s.entries k) then reply.Yes else reply.No
map_ask query.Size s = reply.Number (pos (length s.entries))

abbrev pub map_unlistened : ℕ → resources.MapState → resources.MapState
map_unlistened session s = record s { listeners = dicts.without_session s.listeners session }

-- whether a life, from the time at which it was set, ends at or before a time
abbrev pub life_ended : ℕ → Option resources.Span → Bool
life_ended time None = false
life_ended time (Some life) = nat_le (life.set_at + life.length) time

-- the entries whose life has ended go, and the listeners are told of each
abbrev pub map_pass : ℕ → resources.MapState → resources.MapState
map_pass time s = record s { entries = filter (λ e. not (life_ended time e.1.life)) s.entries }

abbrev pub map_passed : List ℕ → ℕ → resources.MapState → List (ℕ × Event)
map_passed name time s = tell_removed name s.listeners (filter (λ e. life_ended time e.1.life) s.entries)
