-- Whether what is of a session lies between its opening and its end, and its calls without an outcome are in doubt or lost
-- directly below its expiry, by one walk.
use Rattle.std.specs.Prelude.{ℕ, nat_eq, Bool, true, false, not, ◌&&◌, if◌then◌else◌, List, [], ◌∷◌, ◌++◌, filter}
use Rattle.std.specs.List.{list_any}
use Rattle.ax_types.specs.Places as lists
use Rattle.ax_types.specs.declared.replies.How.{How}
use Rattle.ax_types.specs.declared.replies.How.TheVariants as how
use Rattle.ax_types.specs.declared.items.Item.{Item}
use Rattle.ax_types.specs.declared.items.Item.TheVariants as item
use Rattle.spec_book.specs.History as histories
use Rattle.spec_claims.specs.Transcript as transcripts
use Rattle.spec_audit.specs.SessionConditions as session_conditions

-- a call by its number, and whether it is a command
abbrev pub Call : Type 0
Call = ℕ × Bool

-- whether the session was opened and ended; its calls in order; the numbers of its outcomes; and the calls that are to be in
-- doubt or lost directly below
pub record Course : Type 0 where
  pub is_opened : Bool
  pub is_ended : Bool
  pub calls : List Call
  pub outcomes : List ℕ
  pub expected : List Call

abbrev pub nothing_yet : Course
nothing_yet = record { is_opened = false; is_ended = false; calls = []; outcomes = []; expected = [] }

abbrev pub course_is_open : Course → Bool
course_is_open c = c.is_opened && not c.is_ended

-- the calls without an outcome, in order
abbrev pub has_no_outcome : List ℕ → Call → Bool
has_no_outcome outcomes c = not (list_any (nat_eq c.0) outcomes)

abbrev pub calls_left : Course → List Call
calls_left c = filter (has_no_outcome c.outcomes) c.calls

abbrev pub are_no_calls : List Call → Bool
are_no_calls [] = true
are_no_calls (c ∷ cs) = false

-- Doubt of the command or Lost of the query
abbrev pub is_told_open : ℕ → Call → Item → Bool
is_told_open s c (item.Doubt t n) = nat_eq s t && nat_eq c.0 n && c.1
is_told_open s c (item.Lost t n) = nat_eq s t && nat_eq c.0 n && not c.1
is_told_open s c x = false

abbrev pub course_with_opening : Course → Course
course_with_opening c = record { is_opened = true; is_ended = c.is_ended; calls = c.calls; outcomes = c.outcomes; expected = c.expected }

abbrev pub course_with_call : Course → Call → Course
course_with_call c call = record { is_opened = c.is_opened; is_ended = c.is_ended; calls = c.calls ++ call ∷ []; outcomes = c.outcomes; expected = c.expected }

abbrev pub course_with_outcome : Course → ℕ → Course
course_with_outcome c n = record { is_opened = c.is_opened; is_ended = c.is_ended; calls = c.calls; outcomes = n ∷ c.outcomes; expected = c.expected }

abbrev pub with_end : Course → List Call → Course
with_end c expected = record { is_opened = c.is_opened; is_ended = true; calls = c.calls; outcomes = c.outcomes; expected = expected }

abbrev pub with_doubt : Course → Call → List Call → Course
with_doubt c d expected = record { is_opened = c.is_opened; is_ended = c.is_ended; calls = c.calls; outcomes = d.0 ∷ c.outcomes; expected = expected }

-- where no call is expected in doubt: whether an own item may stand here
abbrev pub may_stand : histories.History → ℕ → Course → Item → Bool
may_stand h s c (item.Called t n call) = course_is_open c
may_stand h s c (item.Reply t n p r) = course_is_open c
may_stand h s c (item.Read t n l p reach r) = course_is_open c
may_stand h s c (item.Event t p prev es) = course_is_open c
may_stand h s c (item.Ended t p how.Closed) = course_is_open c && session_conditions.is_end_of s how.Closed (lists.at_place h p) && are_no_calls (calls_left c)
may_stand h s c (item.Ended t p how.Expired) = course_is_open c && session_conditions.is_end_of s how.Expired (lists.at_place h p)
may_stand h s c (item.Unsent t n) = c.is_ended
may_stand h s c (item.Doubt t n) = false
may_stand h s c (item.Lost t n) = false
may_stand h s c x = true

abbrev pub course_with : Course → Item → Course
course_with c (item.Opened t client) = course_with_opening c
course_with c (item.Called t n call) = course_with_call c (n, transcripts.is_command call)
course_with c (item.Reply t n p r) = course_with_outcome c n
course_with c (item.Read t n l p reach r) = course_with_outcome c n
course_with c (item.Unsent t n) = course_with_outcome c n
course_with c (item.Unanswered t n) = course_with_outcome c n
course_with c (item.Ended t p how.Closed) = with_end c []
course_with c (item.Ended t p how.Expired) = with_end c (calls_left c)
course_with c x = c

abbrev pub is_of_course : ℕ → Item → Bool
is_of_course s (item.Opened t c) = nat_eq s t
is_of_course s (item.Called t n c) = nat_eq s t
is_of_course s (item.Event t p prev es) = nat_eq s t
is_of_course s (item.Reply t n p r) = nat_eq s t
is_of_course s (item.Read t n l p reach r) = nat_eq s t
is_of_course s (item.Ended t p way) = nat_eq s t
is_of_course s (item.Doubt t n) = nat_eq s t
is_of_course s (item.Lost t n) = nat_eq s t
is_of_course s (item.Unsent t n) = nat_eq s t
is_of_course s (item.Unanswered t n) = nat_eq s t
is_of_course s x = false

-- one item, and what the walk finds of the items below it
abbrev pub run_item : histories.History → ℕ → Course → Item → (Course → Bool) → List Call → Bool
run_item h s c x below (d ∷ ds) = is_told_open s d x && below (with_doubt c d ds)
run_item h s c x below [] = if is_of_course s x then may_stand h s c x && below (course_with c x) else below c

abbrev pub run_course : histories.History → ℕ → Course → List Item → Bool
run_course h s c [] = are_no_calls c.expected
run_course h s c (x ∷ items) = run_item h s c x (λ k. run_course h s k items) c.expected
