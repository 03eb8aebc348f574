-- Values and longs: what each operation replies, changes and tells, and what a query is answered.
use Rattle.std.specs.Prelude.{ℕ, Bool, false, if◌then◌else◌, nat_lt, ◌^◌, List, Option, Some, None, ℤ, pos, negsuc, ◌+ℤ◌}
use Rattle.std.specs.Ordering.{int_eq}
use Rattle.std.specs.BTreeMap.{is_at}
use Rattle.ax_types.specs.declared.ops.ValueOp.{ValueOp}
use Rattle.ax_types.specs.declared.ops.ValueOp.TheVariants as op
use Rattle.ax_types.specs.declared.ops.LongOp.{LongOp}
use Rattle.ax_types.specs.declared.ops.LongOp.TheVariants as long
use Rattle.ax_types.specs.declared.ops.ValueQuery.{ValueQuery}
use Rattle.ax_types.specs.declared.ops.ValueQuery.TheVariants as query
use Rattle.ax_types.specs.declared.ops.LongQuery.{LongQuery}
use Rattle.ax_types.specs.declared.ops.LongQuery.TheVariants as long_query
use Rattle.ax_types.specs.declared.replies.Reply.{Reply}
use Rattle.ax_types.specs.declared.replies.Reply.TheVariants as reply
use Rattle.ax_types.specs.declared.replies.Event.TheVariants as event
use Rattle.spec_book.specs.Limits as limits
use Rattle.spec_book.specs.Dict as dicts
use Rattle.spec_book.specs.Resources as resources

-- the text that stood there, or that there was none
abbrev pub old_text : Option (List ℕ) → Reply
old_text None = reply.Nothing
old_text (Some v) = reply.Found v

-- whether a value is the text
abbrev pub holds_text : Option (List ℕ) → List ℕ → Bool
holds_text None v = false
holds_text (Some w) v = is_at (dicts.bytes_cmp v) w

-- a session that listens, at the listeners of a resource: they after it, and the reply
abbrev pub listen_reply : List ℕ → ℕ → Reply
listen_reply listeners s = if dicts.has_session listeners s then reply.Already else (if limits.is_full listeners then reply.Full else reply.Done)

abbrev pub listen_after : List ℕ → ℕ → List ℕ
listen_after listeners s = if dicts.has_session listeners s then listeners else (if limits.is_full listeners then listeners else dicts.with_session listeners s)

abbrev pub value_act : List ℕ → ℕ → ValueOp → resources.ValueState → resources.Acted resources.ValueState
value_act name session (op.Set v) s = resources.told_too (record s { text = Some v }) (old_text s.text) (resources.tell s.listeners (event.Set name v))
value_act name session (op.Cas e v) s =
    if holds_text s.text e then resources.told_too (record s { text = Some v }) reply.Yes (resources.tell s.listeners (event.Set name v))
    else resources.replied s reply.No
value_act name session op.Clear s = value_clear name s.text s
  where
    value_clear : List ℕ → Option (List ℕ) → resources.ValueState → resources.Acted resources.ValueState
    value_clear name None s = resources.replied s reply.Nothing
    value_clear name (Some v) s = resources.told_too (record s { text = None }) (reply.Found v) (resources.tell s.listeners (event.Cleared name))
value_act name session op.Listen s = resources.replied (record s { listeners = listen_after s.listeners session }) (listen_reply s.listeners session)

abbrev pub value_ask : ValueQuery → resources.ValueState → Reply
value_ask query.Get s = old_text s.text

-- without a session among its listeners
abbrev pub value_unlistened : ℕ → resources.ValueState → resources.ValueState
value_unlistened session s = record s { listeners = dicts.without_session s.listeners session }

-- whether a whole number is an i64
abbrev pub fits_i64 : ℤ → Bool
fits_i64 (pos n) = nat_lt n (2 ^ 63)
fits_i64 (negsuc n) = nat_lt n (2 ^ 63)

abbrev pub long_act : LongOp → ℤ → resources.Acted ℤ
long_act (long.Add d) x = if fits_i64 (x +ℤ d) then resources.replied (x +ℤ d) (reply.Number (x +ℤ d)) else resources.replied x reply.Overflow
long_act (long.GetAndAdd d) x = if fits_i64 (x +ℤ d) then resources.replied (x +ℤ d) (reply.Number x) else resources.replied x reply.Overflow
long_act (long.Set n) x = resources.replied n (reply.Number x)
long_act (long.Cas e n) x = if int_eq x e then resources.replied n reply.Yes else resources.replied x reply.No

abbrev pub long_ask : LongQuery → ℤ → Reply
long_ask long_query.Get x = reply.Number x
