-- Release by its calls, from the first.
use Rattle.std.proofs.Common.{◌≡◌, ℕ, ◌≤◌, List, [], ◌∷◌, ◌++◌, map, refl, ap, sym, ◌∙◌}
use Rattle.std.specs.Prelude.{Bool, true, false, ◌&&◌, max, nat_lt, Option, Some, None, if◌then◌else◌}
use Rattle.std.proofs.lemmas.List.{map-append}
use Rattle.ax_types.specs.declared.sessions.Got.{Got}
use Rattle.spec_sequencer.specs.Sequencers as sequencers
use Rattle.law_release.specs.Releases as releases
use Rattle.law_release.proofs.Tests.{by_test, off, on, not_below}

not_past : (b : Bool) (place read : ℕ) → (b && nat_lt place read) ≡ false → b ≡ true → read ≤ place
not_past true place read e q = not_below place read e
not_past false place read e q = absurd (on q)

-- an answer is given out, and the calls below it are released
given_on : (heard read : ℕ) (u : sequencers.Unanswered) (us : List sequencers.Unanswered) (got : Option Got) (r : sequencers.Release) → u.got ≡ got → sequencers.is_stopping heard got ≡ false
    → (sequencers.is_query u && nat_lt (sequencers.place_in got) read) ≡ false
    → releases.KeepsClaims heard (if sequencers.is_query u then sequencers.place_in got else read) us r
    → releases.KeepsClaims heard read (u ∷ us) (record r { items = sequencers.got_item u.number got ++ r.items })
given_on heard read u us None r e stop past k = absurd (off stop)
given_on heard read u us (Some g) r e stop past k = record {
  given = u ∷ k.given;
  kept = k.kept;
  whole = ap (λ calls. u ∷ calls) k.whole;
  items = (refl, record { got = e; events = not_below heard g.events stop; place = λ q. not_past (sequencers.is_query u) g.place read past q }, k.items);
  read_at = k.read_at;
  left = k.left;
}

pub keeps : (heard seen read : ℕ) (us : List sequencers.Unanswered) → releases.KeepsClaims heard read us (sequencers.release_from heard seen read us)
keeps heard seen read [] = record { given = []; kept = []; whole = refl; items = tt; read_at = refl; left = (refl, tt) }
keeps heard seen read (u ∷ us) =
    let stopped : sequencers.Release = record { items = []; again = None; calls = u ∷ us; seen = seen; read = read } in
    let past : sequencers.Release = record { items = []; again = Some u.number; calls = record u { got = None } ∷ us; seen = seen; read = read } in
    let seen_now = max seen (sequencers.place_in u.got) in
    let read_now = if sequencers.is_query u then sequencers.place_in u.got else read in
    let later = sequencers.release_from heard seen_now read_now us in
    let given : sequencers.Release = record later { items = sequencers.got_item u.number u.got ++ later.items } in
    by_test (releases.KeepsClaims heard read (u ∷ us)) (sequencers.is_stopping heard u.got) stopped (if sequencers.is_past read u then past else given)
    (λ e. record { given = []; kept = u ∷ us; whole = refl; items = tt; read_at = refl; left = (refl, e) })
    (λ e. by_test (releases.KeepsClaims heard read (u ∷ us)) (sequencers.is_past read u) past given
    (λ f. record { given = []; kept = u ∷ us; whole = refl; items = tt; read_at = refl; left = (refl, f, refl) })
    (λ f. given_on heard read u us u.got later refl e f (keeps heard seen_now read_now us)))

given_numbers : (heard read : ℕ) (us : List sequencers.Unanswered) (xs : List (ℕ × Got)) → releases.AreGivenOut heard read us xs → map (λ u. u.number) us ≡ map (λ x. x.0) xs
given_numbers heard read [] [] a = refl
given_numbers heard read [] (x ∷ xs) a = absurd a
given_numbers heard read (u ∷ us) [] a = absurd a
given_numbers heard read (u ∷ us) (x ∷ xs) a =
    ap (λ n. n ∷ map (λ u. u.number) us) (sym a.0) ∙ ap (λ ns. x.0 ∷ ns) (given_numbers heard (releases.read_after_giving read u x.1) us xs a.2)

left_numbers : (heard read : ℕ) (kept : List sequencers.Unanswered) (again : Option ℕ) (calls : List sequencers.Unanswered) → releases.IsKeptBack heard read kept again calls
    → map (λ u. u.number) kept ≡ map (λ u. u.number) calls
left_numbers heard read kept None calls a = ap (λ us. map (λ u. u.number) us) (sym a.0)
left_numbers heard read [] (Some number) calls a = absurd a
left_numbers heard read (u ∷ us) (Some number) calls a = ap (λ us. map (λ u. u.number) us) (sym a.2)

pub keeps_numbers : releases.ReleaseKeepsNumbers
keeps_numbers q =
    let r = sequencers.release_of q in
    let k : releases.KeepsClaims q.heard q.read q.calls r = keeps q.heard q.seen q.read q.calls in
    ap (λ us. map (λ u. u.number) us) k.whole ∙ map-append (λ u. u.number) k.given k.kept
    ∙ ap (λ ns. ns ++ map (λ u. u.number) k.kept) (given_numbers q.heard q.read k.given r.items k.items)
    ∙ ap (λ ns. map (λ x. x.0) r.items ++ ns) (left_numbers q.heard r.read k.kept r.again r.calls k.left)
