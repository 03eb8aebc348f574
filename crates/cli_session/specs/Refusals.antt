-- The reasons for which a client does not do what it is asked.
use Rattle.std.specs.Prelude.{Option, Some, None}
use Rattle.ax_types.specs.declared.items.SkipReason.{SkipReason}
use Rattle.ax_types.specs.declared.items.SkipReason.TheVariants as reason
use Rattle.ax_types.specs.declared.refusals.ClientRefused.{ClientRefused}
use Rattle.ax_types.specs.declared.refusals.ClientRefused.TheVariants as refused

-- the error of a reason; the reasons of nodes and links, which no call of a client gives, count as none of its own
abbrev pub error_of : SkipReason → ClientRefused
error_of reason.SessionOpen = refused.SessionOpen
error_of reason.WindowFull = refused.WindowFull
error_of (reason.Busy unanswered) = refused.Busy unanswered
error_of _ = refused.NoSession

-- the error of a call: the reason that holds, and where none does want of memory alone
abbrev pub error_by : Option SkipReason → ClientRefused
error_by None = refused.NoMemory
error_by (Some r) = error_of r

-- the error that a call answers before it is made
abbrev pub refusal_by : Option SkipReason → Option ClientRefused
refusal_by None = None
refusal_by (Some r) = Some (error_of r)
