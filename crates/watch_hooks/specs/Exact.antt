-- What a stored function of a watch has to answer.
use Rattle.std.specs.Prelude.{◌≡◌, Bool}
use Rattle.std.specs.Borrow.{Bor}
use Rattle.ax_types.specs.declared.replies.Event.{Event}
use Rattle.ax_types.specs.declared.steps.WatchKind.{WatchKind}
use Rattle.spec_claims.specs.Heard as claims

-- each answer is whether the kind of watch holds the event
abbrev pub AnswersBy : (Bor Event → Bool → Type 0) → WatchKind → Type 0
AnswersBy answers kind = (event : Bor Event) (answer : Bool) → answers event answer → answer ≡ claims.holds kind event.now
