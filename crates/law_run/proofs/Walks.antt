-- The walk over a script's steps, one step at a time.
use Rattle.std.proofs.Common.{◌≡◌, ℕ, ◌≤◌, List, [], ◌∷◌, ◌++◌, length, map, refl, ap, sym, ◌∙◌, subst, append_assoc, append-nil}
use Rattle.std.specs.Prelude.{◌⊎◌, Bool, true, false, ◌&&◌, Option, Some, None}
use Rattle.ax_types.specs.declared.steps.KeptStep.{KeptStep}
use Rattle.ax_types.specs.declared.steps.Step.{Step}
use Rattle.ax_types.specs.declared.steps.Step.TheVariants as step
use Rattle.ax_types.specs.declared.steps.StepOutcome.{StepOutcome}
use Rattle.spec_world.specs.Worlds as worlds
use Rattle.spec_world.specs.Moves as moves
use Rattle.spec_run.specs.Run as runs
use Rattle.spec_run.proofs.Joined.{then_ran, ran-append}
use Rattle.law_run.specs.InHand as laws

-- one step of the walk
unfolded_next : (w : worlds.World) (works : List runs.Work) (n : runs.Next) (o : StepOutcome) (later : List StepOutcome) → runs.next_of w works ≡ Some n
    → runs.unfolded w works (o ∷ later) ≡ record { step = n.step; outcome = o } ∷ runs.unfolded (moves.moved w (record { step = n.step; outcome = o })).world n.left later
unfolded_next w works n o later e = rw (runs.unfolded, runs.walked, runs.script_step, e) refl

due_next : (w : worlds.World) (works : List runs.Work) (n : runs.Next) (o : StepOutcome) (later : List StepOutcome) → runs.next_of w works ≡ Some n
    → laws.due_after w works (o ∷ later) ≡ laws.due_after (moves.moved w (record { step = n.step; outcome = o })).world n.left later
due_next w works n o later e = rw (laws.due_after, runs.walked, runs.script_step, e) refl

unfolded_end : (w : worlds.World) (works : List runs.Work) (o : StepOutcome) (later : List StepOutcome) → runs.next_of w works ≡ None → runs.unfolded w works (o ∷ later) ≡ []
unfolded_end w works o later e = rw (runs.unfolded, runs.walked, runs.script_step, e) refl

due_end : (w : worlds.World) (works : List runs.Work) (o : StepOutcome) (later : List StepOutcome) → runs.next_of w works ≡ None → laws.due_after w works (o ∷ later) ≡ runs.next_of w works
due_end w works o later e = rw (laws.due_after, runs.walked, runs.script_step, e) e

-- jobs from which the same step is due go on in the same way
unfolded_same : (w : worlds.World) (works rest : List runs.Work) (later : List StepOutcome) → runs.next_of w works ≡ runs.next_of w rest → runs.unfolded w works later ≡ runs.unfolded w rest later
unfolded_same w works rest [] e = refl
unfolded_same w works rest (o ∷ later) e = by_due (runs.next_of w rest) refl
  where
    by_due : (x : Option runs.Next) → runs.next_of w rest ≡ x → runs.unfolded w works (o ∷ later) ≡ runs.unfolded w rest (o ∷ later)
    by_due None f = unfolded_end w works o later (e ∙ f) ∙ sym (unfolded_end w rest o later f)
    by_due (Some n) f = unfolded_next w works n o later (e ∙ f) ∙ sym (unfolded_next w rest n o later f)

due_same : (w : worlds.World) (works rest : List runs.Work) (later : List StepOutcome) → runs.next_of w works ≡ runs.next_of w rest → laws.due_after w works later ≡ laws.due_after w rest later
due_same w works rest [] e = e
due_same w works rest (o ∷ later) e = by_due (runs.next_of w rest) refl
  where
    by_due : (x : Option runs.Next) → runs.next_of w rest ≡ x → laws.due_after w works (o ∷ later) ≡ laws.due_after w rest (o ∷ later)
    by_due None f = due_end w works o later (e ∙ f) ∙ e ∙ sym (due_end w rest o later f)
    by_due (Some n) f = due_next w works n o later (e ∙ f) ∙ sym (due_next w rest n o later f)

-- what is due from the first jobs
due_delivery : (w : worlds.World) (line number : ℕ) (rest : List runs.Work) → worlds.flush_next w ≡ Some number
    → runs.next_of w (record { line = line; job = runs.Deliver_all } ∷ rest) ≡ Some (record { line = line; step = step.Deliver number; left = record { line = line; job = runs.Deliver_all } ∷ rest })
due_delivery w line number rest e = rw (runs.next_of, runs.next_job, e) refl

due_later : (w : worlds.World) (line : ℕ) (rest : List runs.Work) → worlds.flush_next w ≡ None → runs.next_of w (record { line = line; job = runs.Deliver_all } ∷ rest) ≡ runs.next_of w rest
due_later w line rest e = rw (runs.next_of, runs.next_job, e) refl

-- steps, one more, and then more
outcomes_append : (steps : List KeptStep) (k : KeptStep) (later : List StepOutcome) → runs.outcomes_of (steps ++ k ∷ []) ++ later ≡ runs.outcomes_of steps ++ k.outcome ∷ later
outcomes_append [] k later = refl
outcomes_append (s ∷ steps) k later = ap (λ os. s.outcome ∷ os) (outcomes_append steps k later)

fared_append : (w : worlds.World) (steps : List KeptStep) (k : KeptStep) → runs.may_run w steps ≡ true → moves.may_fare (runs.ran w steps).world k ≡ true → runs.may_run w (steps ++ k ∷ []) ≡ true
fared_append w [] k e f = rw f refl
fared_append w (s ∷ steps) k e f = by_first (moves.may_fare w s) (runs.may_run (moves.moved w s).world steps) (runs.may_run (moves.moved w s).world (steps ++ k ∷ [])) e (λ g. fared_append (moves.moved w s).world steps k g f)
  where
    by_first : (a b c : Bool) → (a && b) ≡ true → (b ≡ true → c ≡ true) → (a && c) ≡ true
    by_first true b c e g = g e
    by_first false b c e g = e

pub begins : laws.ScriptsBegin
begins w works = record { fared = refl; so_far = refl; unfolds = λ later. refl; leaves = λ later. refl }

pub follows : laws.DueStepsFollow
follows w works rest steps r n k h due same fared = record {
  fared = fared_append w steps k h.fared (subst (λ (x : runs.Ran). moves.may_fare x.world k ≡ true) (sym h.so_far) fared);
  so_far = ran-append w steps (k ∷ []) ∙ ap (λ x. then_ran x (k ∷ [])) h.so_far;
  unfolds = λ later.
      ap (runs.unfolded w works) (outcomes_append steps k later)
      ∙ h.unfolds (k.outcome ∷ later)
      ∙ ap (λ ks. steps ++ ks) (unfolded_next r.world rest n k.outcome later due ∙ ap (λ s. let x : KeptStep = record { step = s; outcome = k.outcome } in x ∷ runs.unfolded (moves.moved r.world x).world n.left later) (sym same))
      ∙ sym (append_assoc steps (k ∷ []) (runs.unfolded (moves.moved r.world k).world n.left later));
  leaves = λ later.
      ap (laws.due_after w works) (outcomes_append steps k later)
      ∙ h.leaves (k.outcome ∷ later)
      ∙ due_next r.world rest n k.outcome later due
      ∙ ap (λ s. laws.due_after (moves.moved r.world (record { step = s; outcome = k.outcome })).world n.left later) (sym same);
}

pub made_follows : laws.MadeStepsFollow
made_follows w works rest steps r line k h fared = follows w works (record { line = line; job = runs.Make k.step } ∷ rest) steps r (record { line = line; step = k.step; left = rest }) k h refl refl fared

pub delivery_follows : laws.DeliveriesFollow
delivery_follows w works rest steps r line number k h up same fared =
    let jobs : List runs.Work = record { line = line; job = runs.Deliver_all } ∷ rest in
    follows w works jobs steps r (record { line = line; step = step.Deliver number; left = jobs }) k h (due_delivery r.world line number rest up) same fared

pub ends : laws.IdleJobsEnd
ends w works rest steps r line h none =
    let jobs : List runs.Work = record { line = line; job = runs.Deliver_all } ∷ rest in
    let same : runs.next_of r.world jobs ≡ runs.next_of r.world rest = due_later r.world line rest none in
    record {
      fared = h.fared;
      so_far = h.so_far;
      unfolds = λ later. h.unfolds later ∙ ap (λ ks. steps ++ ks) (unfolded_same r.world jobs rest later same);
      leaves = λ later. h.leaves later ∙ due_same r.world jobs rest later same;
    }

pub unfolds : laws.ScriptsUnfold
unfolds w works rest steps r h within whole =
    let none_more : runs.outcomes_of steps ++ [] ≡ runs.outcomes_of steps = append-nil (runs.outcomes_of steps) in
    let left : runs.left_after w works steps ≡ runs.next_of r.world rest = ap (laws.due_after w works) (sym none_more) ∙ h.leaves [] in (
      record {
        fared = h.fared;
        same = sym (ap (runs.unfolded w works) (sym none_more) ∙ h.unfolds [] ∙ append-nil steps);
        within = within;
        whole = subst (λ o. (o ≡ None) ⊎ (length steps ≡ runs.most_steps)) (sym left) whole;
      },
      left,
    )
