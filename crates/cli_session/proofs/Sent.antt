-- One more request, and one more answer.
use Rattle.std.proofs.Common.{◌≡◌, ℕ, Bool, true, false, cond, List, [], ◌∷◌, ◌++◌, refl, sym, ap, ◌∙◌, map, append_assoc}
use Rattle.std.specs.Prelude.{if◌then◌else◌, ◌&&◌, filter}
use Rattle.ax_types.specs.declared.items.Item.{Item}
use Rattle.ax_types.specs.declared.sessions.Got.{Got}
use Rattle.spec_client.specs.Clients as clients
use Rattle.spec_client.specs.Receipts as receipts
use Rattle.cli_session.specs.GivingOut as giving

pub open_push : (c : clients.Client) (rs : List clients.Request) (r : clients.Request)
    → giving.open_payloads c (rs ++ r ∷ []) ≡ giving.open_payloads c rs ++ giving.payload_if (clients.lacks_answer c.sequencer.calls r.number) c r
open_push c [] r = by_test (clients.lacks_answer c.sequencer.calls r.number)
  where
    by_test : (b : Bool) → map (clients.payload_of c) (cond b (r ∷ []) []) ≡ giving.payload_if b c r
    by_test true = refl
    by_test false = refl
open_push c (s ∷ rs) r = by_test (clients.lacks_answer c.sequencer.calls s.number) (open_push c rs r)
  where
    by_test : (b : Bool) → giving.open_payloads c (rs ++ r ∷ []) ≡ giving.open_payloads c rs ++ giving.payload_if (clients.lacks_answer c.sequencer.calls r.number) c r
        → map (clients.payload_of c) (cond b (s ∷ filter (λ x. clients.lacks_answer c.sequencer.calls x.number) (rs ++ r ∷ [])) (filter (λ x. clients.lacks_answer c.sequencer.calls x.number) (rs ++ r ∷ [])))
        ≡ map (clients.payload_of c) (cond b (s ∷ filter (λ x. clients.lacks_answer c.sequencer.calls x.number) rs) (filter (λ x. clients.lacks_answer c.sequencer.calls x.number) rs)) ++ giving.payload_if (clients.lacks_answer c.sequencer.calls r.number) c r
    by_test true rest = ap (λ ps. clients.payload_of c s ∷ ps) rest
    by_test false rest = rest

filter_both : {X : Type 0} → (p q : X → Bool) (xs : List X) → filter q (filter p xs) ≡ filter (λ x. p x && q x) xs
filter_both p q [] = refl
filter_both p q (x ∷ xs) = by_tests (p x) (q x) refl (filter_both p q xs)
  where
    by_tests : (a b : Bool) → q x ≡ b → filter q (filter p xs) ≡ filter (λ y. p y && q y) xs
        → filter q (cond a (x ∷ filter p xs) (filter p xs)) ≡ cond (a && b) (x ∷ filter (λ y. p y && q y) xs) (filter (λ y. p y && q y) xs)
    by_tests true true e rest = rw (e, rest) refl
    by_tests true false e rest = rw (e, rest) refl
    by_tests false b e rest = rest

filter_push : {X : Type 0} → (p : X → Bool) (xs : List X) (x : X) → filter p (xs ++ x ∷ []) ≡ filter p xs ++ (if p x then x ∷ [] else [])
filter_push p [] x = by_test (p x)
  where
    by_test : (b : Bool) → cond b (x ∷ []) [] ≡ (if b then x ∷ [] else [])
    by_test true = refl
    by_test false = refl
filter_push p (y ∷ xs) x = by_test (p y) (filter_push p xs x)
  where
    by_test : (b : Bool) → filter p (xs ++ x ∷ []) ≡ filter p xs ++ (if p x then x ∷ [] else [])
        → cond b (y ∷ filter p (xs ++ x ∷ [])) (filter p (xs ++ x ∷ [])) ≡ cond b (y ∷ filter p xs) (filter p xs) ++ (if p x then x ∷ [] else [])
    by_test true rest = ap (λ ys. y ∷ ys) rest
    by_test false rest = rest

map_append : {X Y : Type 0} → (f : X → Y) (xs ys : List X) → map f (xs ++ ys) ≡ map f xs ++ map f ys
map_append f [] ys = refl
map_append f (x ∷ xs) ys = ap (λ zs. f x ∷ zs) (map_append f xs ys)

pub gap_push : (c : clients.Client) (last : ℕ) (rs : List clients.Request) (r : clients.Request)
    → giving.gap_payloads c last (rs ++ r ∷ [])
    ≡ giving.gap_payloads c last rs ++ giving.payload_if (clients.lacks_answer c.sequencer.calls r.number && receipts.is_command_above last r r.call) c r
gap_push c last rs r =
    ap (λ xs. map (clients.payload_of c) xs) (filter_both lacks above (rs ++ r ∷ []) ∙ filter_push (λ x. lacks x && above x) rs r)
    ∙ map_append (clients.payload_of c) (filter (λ x. lacks x && above x) rs) (if lacks r && above r then r ∷ [] else [])
    ∙ ap (λ xs. map (clients.payload_of c) xs ++ map (clients.payload_of c) (if lacks r && above r then r ∷ [] else [])) (sym (filter_both lacks above rs))
    ∙ ap (λ ps. giving.gap_payloads c last rs ++ ps) (by_test (lacks r && above r))
  where
    lacks : clients.Request → Bool
    lacks x = clients.lacks_answer c.sequencer.calls x.number

    above : clients.Request → Bool
    above x = receipts.is_command_above last x x.call

    by_test : (b : Bool) → map (clients.payload_of c) (if b then r ∷ [] else []) ≡ giving.payload_if b c r
    by_test true = refl
    by_test false = refl

pub given_push : (session : ℕ) (gots : List (ℕ × Got)) (g : ℕ × Got) (rs : List clients.Request)
    → giving.given_out session (gots ++ g ∷ []) rs ≡ giving.given_out session gots rs ++ giving.given_out session (g ∷ []) (giving.requests_after gots rs)
given_push session [] g rs = refl
given_push session (h ∷ gots) g [] = refl
given_push session (h ∷ gots) g (r ∷ rs) = ap (λ xs. receipts.answer_item session h.1 r r.call ∷ xs) (given_push session gots g rs)

pub left_push : (gots : List (ℕ × Got)) (g : ℕ × Got) (rs : List clients.Request) → giving.requests_after (gots ++ g ∷ []) rs ≡ giving.requests_after (g ∷ []) (giving.requests_after gots rs)
left_push [] g rs = refl
left_push (h ∷ gots) g [] = refl
left_push (h ∷ gots) g (r ∷ rs) = left_push gots g rs

-- one more answer is given out
pub given_step : (session : ℕ) (first before now : List Item) (gots : List (ℕ × Got)) (g : ℕ × Got) (rs mid new : List clients.Request)
    → before ≡ first ++ giving.given_out session gots rs → mid ≡ giving.requests_after gots rs
    → now ≡ before ++ giving.given_out session (g ∷ []) mid → new ≡ giving.requests_after (g ∷ []) mid
    → (now ≡ first ++ giving.given_out session (gots ++ g ∷ []) rs) × (new ≡ giving.requests_after (gots ++ g ∷ []) rs)
given_step session first before now gots g rs mid new so_far left one left_one = (
  one
      ∙ ap (λ (xs : List Item). xs ++ giving.given_out session (g ∷ []) mid) so_far
      ∙ append_assoc first (giving.given_out session gots rs) (giving.given_out session (g ∷ []) mid)
      ∙ ap (λ (ms : List clients.Request). first ++ (giving.given_out session gots rs ++ giving.given_out session (g ∷ []) ms)) left
      ∙ ap (λ (xs : List Item). first ++ xs) (sym (given_push session gots g rs)),
  left_one ∙ ap (giving.requests_after (g ∷ [])) left ∙ sym (left_push gots g rs),
)
