-- The one store of the run keeps its history, and its log begins with it.
use Rattle.std.proofs.Common.{◌≡◌, ℕ, zero, suc, Bool, true, false, nat_eq, Some, IsTrue, [], length, refl, subst, rules}
use Rattle.ax_types.specs.Places as lists
use Rattle.ax_types.specs.declared.entries.Act.{Act}
use Rattle.ax_types.specs.declared.entries.Entry.{Entry}
use Rattle.spec_raft.specs.Majority as majorities
use Rattle.spec_run.specs.KeptStores as kept_stores
use Rattle.rows_run.specs.Instances as instances

-- what stands in the log of the one store is held by most
held : (p : ℕ) (e : Entry) → lists.at_place instances.log p ≡ Some e → kept_stores.IsHeldByMost instances.contents p e
held p e is = record { holders = λ k. nat_eq k 1; most = refl; stands = stands }
  where
    stands : (k : ℕ) → IsTrue (nat_eq k 1) → kept_stores.StandsInStore e p (lists.at_place instances.contents k)
    stands zero h = absurd (search rules)
    stands (suc zero) h = is
    stands (suc (suc k)) h = absurd (search rules)

of_place : (p : ℕ) (a b : ℕ × Act) → Some b ≡ Some a → kept_stores.IsKeptAt instances.contents p b → kept_stores.IsKeptAt instances.contents p a
of_place p a b same k = subst (λ x. kept_stores.IsKeptAt instances.contents p x) (search same) k

pub kept_at : (p : ℕ) (a : ℕ × Act) → lists.at_place instances.history p ≡ Some a → kept_stores.IsKeptAt instances.contents p a
kept_at zero a e = absurd (search rules)
kept_at (suc zero) a e = of_place 1 a _ e (record { entry = _; held = held 1 _ refl; time = refl; body = tt })
kept_at (suc (suc zero)) a e = of_place 2 a _ e (record { entry = _; held = held 2 _ refl; time = refl; body = refl })
kept_at (suc (suc (suc zero))) a e = of_place 3 a _ e (record { entry = _; held = held 3 _ refl; time = refl; body = (refl, refl, refl) })
kept_at (suc (suc (suc (suc p)))) a e = absurd (search rules)

no : false ≡ true → ⊥
no h = cc

pub left_of : (choice : ℕ → Bool) → IsTrue (majorities.is_most (majorities.count choice (majorities.cluster_of (length instances.contents))) (length instances.contents)) → kept_stores.BeginsLog instances.history 1000 (kept_stores.newest (kept_stores.chosen choice instances.contents))
left_of choice most = by_choice (choice 1) refl
  where
    by_choice : (b : Bool) → choice 1 ≡ b → kept_stores.BeginsLog instances.history 1000 (kept_stores.newest (kept_stores.chosen choice instances.contents))
    by_choice true e = rw (e) ([], refl)
    by_choice false e = absurd (no (rw (e) at most))
