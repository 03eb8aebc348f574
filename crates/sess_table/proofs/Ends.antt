-- The sessions that have ended, and that a new one is none of those that were registered.
use Rattle.std.proofs.Common.{◌≡◌, ℕ, zero, suc, ◌<◌, ◌∙◌, refl, sym, ap, arith, Bool, true, false, cond, nat_eq, is_some, List, [], ◌∷◌, ◌++◌, map, Option, Some, None}
use Rattle.std.specs.Prelude.{find}
use Rattle.std.specs.Option.{option_map}
use Rattle.std.specs.Map.{lookup}
use Rattle.std.proofs.lemmas.Grind.{common_steps}
use Rattle.spec_sessions.specs.Tables as tables
use Rattle.sess_table.specs.declared.table.Past.{Past as Ending}
use Rattle.sess_table.specs.Endings as endings

past_head : (s : ℕ) (e : ℕ × Ending) (found : Option tables.PastSession) (kept : Option Ending) → found ≡ option_map (λ v. endings.past_of (s, v)) kept → (b : Bool) → nat_eq s e.0 ≡ b
    → cond (nat_eq e.0 s) (Some (endings.past_of e)) found ≡ option_map (λ v. endings.past_of (s, v)) (cond b (Some e.1) kept)
past_head s e found kept rest true t =
    let back : nat_eq e.0 s ≡ true = grind (arith, common_steps) in
    let here : e.0 ≡ s = grind (arith, common_steps) in
    rw back (ap (λ n. Some (endings.past_of (n, e.1))) here)
past_head s e found kept rest false t = let back : nat_eq e.0 s ≡ false = grind (arith, common_steps) in rw back rest

-- the look-up of an ended session
pub find-past : (s : ℕ) (es : List (ℕ × Ending)) → find (λ p. nat_eq p.session s) (map endings.past_of es) ≡ option_map (λ v. endings.past_of (s, v)) (lookup (nat_eq s) es)
find-past s [] = refl
find-past s (e ∷ es) = past_head s e (find (λ p. nat_eq p.session s) (map endings.past_of es)) (lookup (nat_eq s) es) (find-past s es) (nat_eq s e.0) refl

push_head : (x : Ending) (after before : Option Ending) (last : Bool) → is_some after ≡ cond (is_some before) true last → (b : Bool)
    → is_some (cond b (Some x) after) ≡ cond (is_some (cond b (Some x) before)) true last
push_head x after before last rest true = refl
push_head x after before last rest false = rest

push_none : (x : Ending) (b : Bool) → is_some (cond b (Some x) None) ≡ b
push_none x true = refl
push_none x false = refl

-- one more that ended
pub lookup-push : (s : ℕ) (es : List (ℕ × Ending)) (e : ℕ × Ending) → is_some (lookup (nat_eq s) (es ++ e ∷ [])) ≡ cond (is_some (lookup (nat_eq s) es)) true (nat_eq s e.0)
lookup-push s [] e = push_none e.1 (nat_eq s e.0)
lookup-push s (x ∷ es) e = push_head x.1 (lookup (nat_eq s) (es ++ e ∷ [])) (lookup (nat_eq s) es) (nat_eq s e.0) (lookup-push s es e) (nat_eq s x.0)
