-- The index stays in step with the entries.
use Rattle.std.proofs.Common.{◌≡◌, ℕ, ◌∙◌, refl, sym, ap, Bool, true, false, cond, nat_eq, List, Option, Some, None}
use Rattle.std.specs.Prelude.{if◌then◌else◌}
use Rattle.std.specs.Option.{option_eq}
use Rattle.std.specs.BTreeMap.{is_at}
use Rattle.spec_book.specs.Dict as dicts
use Rattle.spec_book.specs.Resources as resources
use Rattle.res_deadlines.specs.Deadlines as deadlines
use Rattle.res_deadlines.proofs.Index.{SetsDeadline-elsewhere, SetsDeadline-at_key, ChangesDeadline-elsewhere, ChangesDeadline-at_key, changed_end}
use Rattle.res_map.specs.Lives as lives
use Rattle.res_map.proofs.Keys.{same_key}

-- what is found at the key itself
found_here : {X : Type 0} (es : List (List ℕ × X)) (key q : List ℕ) → is_at (dicts.bytes_cmp key) q ≡ true → dicts.found es q ≡ dicts.found es key
found_here {X} es key q e = ap (λ (v : List ℕ). dicts.found es v) (sym (same_key key q e))

-- after what stands at a key changed, and its end in the index with it
pub IsIndexed-changed : (es fs : List (List ℕ × resources.MapItem)) (ds left : List (ℕ × List ℕ)) (key : List ℕ) (was is : Option resources.MapItem)
    → lives.IsDeadlineIndex es ds
    → dicts.found es key ≡ was
    → ((q : List ℕ) → dicts.found fs q ≡ cond (is_at (dicts.bytes_cmp key) q) is (dicts.found es q))
    → deadlines.ChangesDeadline dicts.bytes_cmp ds left key (lives.item_end was) (lives.item_end is)
    → lives.IsDeadlineIndex fs left
IsIndexed-changed es fs ds left key was is in_step there finds changes = λ time q. at_key time q (is_at (dicts.bytes_cmp key) q) refl
  where
    before : Option ℕ
    before = lives.item_end was

    after : Option ℕ
    after = lives.item_end is

    at_key : (time : ℕ) (q : List ℕ) (b : Bool) → is_at (dicts.bytes_cmp key) q ≡ b → deadlines.has_deadline dicts.bytes_cmp left time q ≡ deadlines.is_end (lives.item_end (dicts.found fs q)) time
    at_key time q false e =
        let f : dicts.found fs q ≡ dicts.found es q = finds q ∙ ap (λ (v : Bool). cond v is (dicts.found es q)) e in
        ChangesDeadline-elsewhere dicts.bytes_cmp ds left key before after changes time q e
        ∙ (in_step time q ∙ ap (λ (v : Option resources.MapItem). deadlines.is_end (lives.item_end v) time) (sym f))
    at_key time q true e =
        let f : dicts.found fs q ≡ is = finds q ∙ ap (λ (v : Bool). cond v is (dicts.found es q)) e in
        let had : deadlines.has_deadline dicts.bytes_cmp ds time q ≡ deadlines.is_end before time =
        in_step time q ∙ ap (λ (v : Option resources.MapItem). deadlines.is_end (lives.item_end v) time) (found_here es key q e ∙ there) in
        ChangesDeadline-at_key dicts.bytes_cmp ds left key before after changes time q e
        ∙ (ap (λ (b : Bool). if option_eq nat_eq before after then b else cond (deadlines.is_end before time) false (cond (deadlines.is_end after time) true b)) had
        ∙ (changed_end before after time ∙ ap (λ (v : Option resources.MapItem). deadlines.is_end (lives.item_end v) time) (sym f)))

gone_truth : (b : Bool) → cond b false b ≡ false
gone_truth true = refl
gone_truth false = refl

-- after the entry of a key was taken out, and its end with it
pub IsIndexed-removed : (es fs : List (List ℕ × resources.MapItem)) (ds left : List (ℕ × List ℕ)) (key : List ℕ) (was : Option resources.MapItem)
    → lives.IsDeadlineIndex es ds
    → dicts.found es key ≡ was
    → ((q : List ℕ) → dicts.found fs q ≡ cond (is_at (dicts.bytes_cmp key) q) None (dicts.found es q))
    → deadlines.SetsDeadline dicts.bytes_cmp false ds left (lives.item_end was) key
    → lives.IsDeadlineIndex fs left
IsIndexed-removed es fs ds left key was in_step there finds drops = λ time q. at_key time q (is_at (dicts.bytes_cmp key) q) refl
  where
    before : Option ℕ
    before = lives.item_end was

    at_key : (time : ℕ) (q : List ℕ) (b : Bool) → is_at (dicts.bytes_cmp key) q ≡ b → deadlines.has_deadline dicts.bytes_cmp left time q ≡ deadlines.is_end (lives.item_end (dicts.found fs q)) time
    at_key time q false e =
        let f : dicts.found fs q ≡ dicts.found es q = finds q ∙ ap (λ (v : Bool). cond v None (dicts.found es q)) e in
        SetsDeadline-elsewhere dicts.bytes_cmp false ds left before key drops time q e
        ∙ (in_step time q ∙ ap (λ (v : Option resources.MapItem). deadlines.is_end (lives.item_end v) time) (sym f))
    at_key time q true e =
        let f : dicts.found fs q ≡ None = finds q ∙ ap (λ (v : Bool). cond v None (dicts.found es q)) e in
        let had : deadlines.has_deadline dicts.bytes_cmp ds time q ≡ deadlines.is_end before time =
        in_step time q ∙ ap (λ (v : Option resources.MapItem). deadlines.is_end (lives.item_end v) time) (found_here es key q e ∙ there) in
        SetsDeadline-at_key dicts.bytes_cmp false ds left before key drops time q e
        ∙ (ap (λ (v : Bool). cond (deadlines.is_end before time) false v) had
        ∙ (gone_truth (deadlines.is_end before time) ∙ ap (λ (v : Option resources.MapItem). deadlines.is_end (lives.item_end v) time) (sym f)))

-- after an end was added at a key that has no entry, and was taken out again
pub IsIndexed-again : (es : List (List ℕ × resources.MapItem)) (ds added left : List (ℕ × List ℕ)) (key : List ℕ) (after : Option ℕ)
    → lives.IsDeadlineIndex es ds
    → dicts.found es key ≡ None
    → deadlines.SetsDeadline dicts.bytes_cmp true ds added after key
    → deadlines.SetsDeadline dicts.bytes_cmp false added left after key
    → lives.IsDeadlineIndex es left
IsIndexed-again es ds added left key after in_step absent adds drops = λ time q. at_key time q (is_at (dicts.bytes_cmp key) q) refl
  where
    truths : (b c : Bool) → c ≡ false → cond b false (cond b true c) ≡ c
    truths true c e = sym e
    truths false c e = refl

    at_key : (time : ℕ) (q : List ℕ) (b : Bool) → is_at (dicts.bytes_cmp key) q ≡ b → deadlines.has_deadline dicts.bytes_cmp left time q ≡ deadlines.is_end (lives.item_end (dicts.found es q)) time
    at_key time q false e =
        SetsDeadline-elsewhere dicts.bytes_cmp false added left after key drops time q e
        ∙ (SetsDeadline-elsewhere dicts.bytes_cmp true ds added after key adds time q e ∙ in_step time q)
    at_key time q true e =
        let s : deadlines.has_deadline dicts.bytes_cmp ds time q ≡ false =
        in_step time q ∙ ap (λ (v : Option resources.MapItem). deadlines.is_end (lives.item_end v) time) (found_here es key q e ∙ absent) in
        SetsDeadline-at_key dicts.bytes_cmp false added left after key drops time q e
        ∙ (ap (λ (v : Bool). cond (deadlines.is_end after time) false v) (SetsDeadline-at_key dicts.bytes_cmp true ds added after key adds time q e)
        ∙ (truths (deadlines.is_end after time) (deadlines.has_deadline dicts.bytes_cmp ds time q) s ∙ in_step time q))
