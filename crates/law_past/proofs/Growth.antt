-- History logs grow at their end, and what was known stays known.
use Rattle.std.proofs.Common.{◌≡◌, ℕ, suc, ◌≤◌, List, [], ◌∷◌, ◌++◌, length, refl, sym, ◌∙◌, arith, inl, inr, length-append}
use Rattle.std.specs.Prelude.{true, nat_le}
use Rattle.std.proofs.lemmas.Bool.Decides.{nat_tests}
use Rattle.std.proofs.lemmas.List.{take-append-le, take_all}
use Rattle.ax_types.specs.declared.entries.Entry.{Entry}
use Rattle.spec_raft.specs.Log as raft_logs
use Rattle.spec_past.specs.Matching as matchings
use Rattle.spec_raft.proofs.Counting.{count-wider}
use Rattle.spec_past.specs.Later as laters
use Rattle.spec_past.specs.Past as pasts
use Rattle.law_past.proofs.Logs.{agree_on, agree_less, agree_term}

pub agree_grows : (L M : ℕ → List Entry) (g : List Entry) (s p : ℕ) → laters.Grows L M → matchings.Agree g (L s) p → matchings.Agree g (M s) p
agree_grows L M g s p up a = agree_on g (L s) (M s) p a (agree_less (L s) (M s) (length (L s)) p a.right (up s))

pub part_grows : (L M : ℕ → List Entry) (g : List Entry) → laters.Grows L M → matchings.IsPart L g → matchings.IsPart M g
part_grows L M g up a = agree_grows L M g (raft_logs.last_term g) (length g) up a

pub clash_grows : (L M : ℕ → List Entry) (s w m : ℕ) → laters.Grows L M → matchings.Clash L s w m → matchings.Clash M s w m
clash_grows L M s w m up c = record {
  place = c.place;
  within = c.within;
  left = omega (arith, c.left, (up s).right);
  right = omega (arith, c.right, (up w).right);
  differ = λ e. c.differ (agree_term (L s) (M s) (length (L s)) c.place c.left (up s) ∙ e ∙ sym (agree_term (L w) (M w) (length (L w)) c.place c.right (up w)));
}

pub held_grows : (L M : ℕ → List Entry) (g : List Entry) (s m x y : ℕ) → laters.Grows L M → x ≤ y → matchings.IsHeld L g s m x → matchings.IsHeld M g s m y
held_grows L M g s m x y up le (inl a) = inl (agree_grows L M g s m up a)
held_grows L M g s m x y up le (inr c) = inr (c.0, c.1, omega (arith, c.2, le), clash_grows L M s c.0 m up c.3)

le_more : (p a b : ℕ) → a ≤ b → nat_le p a ≡ true → nat_le p b ≡ true
le_more p a b le e = grind (arith, nat_tests)

pub quorum_grows : (nodes : List ℕ) (L M : ℕ → List Entry) (acked more_acked : ℕ → ℕ → ℕ) (t p : ℕ) → laters.Grows L M → ((s j : ℕ) → acked s j ≤ more_acked s j) → matchings.Quorum nodes L acked t p → matchings.Quorum nodes M more_acked t p
quorum_grows nodes L M acked more_acked t p up le q =
    let c = count-wider (λ j. nat_le p (acked t j)) (λ j. nat_le p (more_acked t j)) nodes (λ j. le_more p (acked t j) (more_acked t j) (le t j)) in
    record {
      place = q.place;
      within = omega (arith, q.within, (up t).right);
      own = sym (agree_term (L t) (M t) (length (L t)) p q.within (up t)) ∙ q.own;
      most = omega (arith, q.most, c);
    }

pub done_grows : (nodes : List ℕ) (L M : ℕ → List Entry) (acked more_acked : ℕ → ℕ → ℕ) (g : List Entry) (c x y : ℕ) → laters.Grows L M → ((s j : ℕ) → acked s j ≤ more_acked s j) → x ≤ y → pasts.IsCommittedIn nodes L acked g c x → pasts.IsCommittedIn nodes M more_acked g c y
done_grows nodes L M acked more_acked g c x y up le xy (inl z) = inl z
done_grows nodes L M acked more_acked g c x y up le xy (inr r) = inr (record {
  term = r.term;
  place = r.place;
  upto = omega (arith, r.upto, xy);
  within = r.within;
  quorum = quorum_grows nodes L M acked more_acked r.term r.place up le r.quorum;
  agrees = agree_grows L M g r.term c up r.agrees;
})

pub same_log : (g : List Entry) (p : ℕ) → p ≤ length g → matchings.Agree g g p
same_log g p le = record { left = le; right = le; same = refl }

-- a log with more entries
pub longer_by : (g es : List Entry) → matchings.Agree g (g ++ es) (length g)
longer_by g es = record { left = omega arith; right = omega (arith, length-append g es); same = take_all (length g) g (omega arith) ∙ sym (take-append-le (length g) g es (omega arith) ∙ take_all (length g) g (omega arith)) }

pub longer : (g : List Entry) (e : Entry) → matchings.Agree g (g ++ e ∷ []) (length g)
longer g e = longer_by g (e ∷ [])

pub last_of_longer : (g : List Entry) (e : Entry) → raft_logs.term_at (g ++ e ∷ []) (suc (length g)) ≡ e.term
last_of_longer [] e = refl
last_of_longer (x ∷ g) e = last_of_longer g e

pub time_of_longer : (g : List Entry) (e : Entry) → matchings.time_at (g ++ e ∷ []) (suc (length g)) ≡ e.time
time_of_longer [] e = refl
time_of_longer (x ∷ g) e = time_of_longer g e

pub length_longer : (g : List Entry) (e : Entry) → length (g ++ e ∷ []) ≡ suc (length g)
length_longer g e = omega (arith, length-append g (e ∷ []))
