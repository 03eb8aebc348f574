-- Each step of a caller keeps the rule, and tells what its play says.
use Rattle.std.proofs.Common.{◌≡◌, ℕ, ◌+◌, ◌-◌, ◌%◌, ◌<◌, ◌≤◌, ◌≢◌, inl, nat_lt, eqb, eq-eqb, ne_eqb, Bool, false, Some, None, List, [], ◌∷◌, length, set, refl, sym, ap, ap₂, subst, ◌∙◌, le_refl, mod-lt, arith, length-set, get_or-set_other, get_or-set_same}
use Rattle.std.specs.Prelude.{MatchBool}
use Rattle.std.proofs.Math.Nat.{add-mod_right}
use Rattle.std.proofs.lemmas.Bool.{lt-ltb, le-ltb}
use mathlib.Core.Option.{some, none}
use mathlib.Core.Option as maybe
use mathlib.Core.Logic.{dite}
use native.Mathlib.Decide.{dec_le}
use lib.ListN.{get_elem?}
use prog.Atomic.{either}
use Rattle.atomic_table.specs.Table.{step, Act, keeps, takes, gives, Valid, stepped, carried_after, Allows}
use Rattle.atomic_table.proofs.Lists.{set_here, set_else, exchanged}
use Rattle.ax_types.specs.declared.ops.WindowCall.{WindowCall}
use Rattle.ax_types.specs.declared.replies.Outcome.{Outcome}
use Rattle.spec_window.specs.WindowWords as window_words
use Rattle.law_window.specs.declared.parcel.Parcel.TheVariants as parcel
use Rattle.law_window.specs.WindowKnown as known
use Rattle.law_window.specs.WindowLives as lives
use Rattle.law_window.specs.WindowPlays as plays
use Rattle.law_window.specs.WindowRule as rule
use Rattle.law_window.specs.WindowSeats as seats
use Rattle.law_window.proofs.Places.{by_eq, put_here, put_else}
use Rattle.law_window.proofs.Lifetimes.{caller_moves}
use Rattle.law_window.proofs.Seating.{TheState, slot_value, held_alone, caller_steps}
use Rattle.law_window.proofs.Notes.{if_same, note_past, drew_notes, published_notes, got_notes, told_notes}
use Rattle.law_window.proofs.Readings.{IsUnborn, unborn, first_free, done_free, drawn_of, getting_of, answered_of}
use Rattle.law_window.proofs.Stepping.{own_note, caller_sees, caller_stores}

-- the seat stands for its caller alone
abbrev pub IsAlone : plays.Knows → Type 0
IsAlone m = m.0 ≡ known.known_to_caller (known.caller_of m.0)

module _ (places crew id : ℕ) where
  abbrev Holds : TheState → Type 0
  Holds = rule.IsWindow places crew

  floor_below : (s : TheState) (w : Holds s) (c : known.CallerKnown) → get_elem? s.views id ≡ some (known.known_to_caller c) → c.floor ≤ rule.base_of s.words
  floor_below s w c at = subst (λ (d : known.CallerKnown). d.floor ≤ rule.base_of s.words) (held_alone s w id c at).same (w.kept.floor c.seat.caller)

  seen_below : (s : TheState) (w : Holds s) (c : known.CallerKnown) → get_elem? s.views id ≡ some (known.known_to_caller c) → c.seat.seen ≤ rule.next_of s.words
  seen_below s w c at = subst (λ (d : known.CallerKnown). d.seat.seen ≤ rule.next_of s.words) (held_alone s w id c at).same (w.kept.seen c.seat.caller)

  pub sees_next : (m : plays.Knows) → IsAlone m → Allows Holds places id m 0 (λ n. n) (plays.SeesNext (step places 0 0 0 none) m)
  sees_next m e s w sl at fit =
      let c : known.CallerKnown = known.caller_of m.0 in
      let here : get_elem? s.views id ≡ some (known.known_to_caller c) = at ∙ ap some e in
      let n : ℕ = rule.next_of s.words in (
        known.known_to_caller (plays.saw_next c n),
        keeps,
        tt,
        caller_sees s w id c (plays.saw_next c n) here refl (λ k. refl) (le_refl n) (floor_below s w c here) 0,
        (refl, seen_below s w c here, w.kept.limit),
      )

  pub sees_base : (m : plays.Knows) → IsAlone m → Allows Holds places id m 1 (λ n. n) (plays.SeesBase (step places 1 0 0 none) m)
  sees_base m e s w sl at fit =
      let c : known.CallerKnown = known.caller_of m.0 in
      let here : get_elem? s.views id ≡ some (known.known_to_caller c) = at ∙ ap some e in
      let b : ℕ = rule.base_of s.words in
      let n : ℕ = rule.next_of s.words in
      let seen : c.seat.seen ≤ n = seen_below s w c here in
      let ahead : n ≤ b + places = w.kept.ahead in (
        known.known_to_caller (plays.saw_base c b),
        keeps,
        tt,
        caller_sees s w id c (plays.saw_base c b) here refl (λ k. refl) seen (le_refl b) 1,
        (refl, omega arith),
      )

  -- one number more is born
  born_more : (next m : ℕ) → m ≢ next → nat_lt m next ≡ nat_lt m (next + 1)
  born_more next m ne = dite (dec_le next m) (λ ge. le-ltb m next ge ∙ sym (le-ltb m (next + 1) (omega arith))) (λ less. lt-ltb m next (omega arith) ∙ sym (lt-ltb m (next + 1) (omega arith)))

  -- the place of the next number is free for it, where the window has room
  next_free : (s : TheState) (w : Holds s) → rule.next_of s.words < rule.base_of s.words + places
      → IsUnborn (rule.next_of s.words) (w.life (rule.next_of s.words)) (rule.state_of s.words (rule.next_of s.words % places)) (get_elem? s.homes (rule.next_of s.words % places))
  next_free s w room =
      let n : ℕ = rule.next_of s.words in
      let b : ℕ = rule.base_of s.words in
      let st : ℕ = rule.state_of s.words (n % places) in
      let not_born : lives.is_born (w.life n) ≡ false = w.kept.born n ∙ le-ltb n n (le_refl n) in
      unborn places n (w.life n) st (get_elem? s.homes (n % places)) not_born (w.kept.lies n)
      (dite (dec_le places n)
      (λ ge.
      let k : ℕ = n - places in
      let sum : k + places ≡ n = omega arith in
      let behind : b ≤ w.pump.passed = w.kept.behind in
      let room' : n < b + places = room in
      let free : window_words.free_for (k + places) ≤ rule.state_of s.words (k % places) = done_free places k (w.life k) (rule.state_of s.words (k % places)) (get_elem? s.homes (k % places)) (w.kept.passed k (omega arith)) (w.kept.lies k) in
      let same : k % places ≡ n % places = sym (add-mod_right k places) ∙ ap (λ (i : ℕ). i % places) sum in
      let free' : window_words.free_for (k + places) ≤ st = subst (λ (x : ℕ). window_words.free_for (k + places) ≤ rule.state_of s.words x) same free in
      omega arith)
      (λ less. first_free places n (w.life n) st (get_elem? s.homes (n % places)) not_born (w.kept.lies n) (omega arith)))

  drawn_window : (s : TheState) (w : Holds s) (c : known.CallerKnown) → get_elem? s.views id ≡ some (known.known_to_caller c) → c.task ≡ known.Idle
      → rule.next_of s.words < rule.base_of s.words + places → rule.next_of s.words < window_words.last_number → (v : ℕ) → v ≡ rule.next_of s.words + 1
      → Holds record { words = set s.words 0 v; homes = set s.homes (rule.next_of s.words % places) none; views = set s.views id (known.known_to_caller (plays.drew c (rule.next_of s.words))) }
  drawn_window s w c at idle room small v is =
      let n : ℕ = rule.next_of s.words in
      let b : ℕ = rule.base_of s.words in
      let x : ℕ = n % places in
      let x_in : x < places = mod-lt n w.some_place in
      let any : 0 < places = w.some_place in
      let wide : length s.words ≡ places + 2 = w.wide in
      let many : length s.homes ≡ places = w.slots in
      let held = held_alone s w id c at in
      let words : List ℕ = set s.words 0 v in
      let homes : List (maybe.Option plays.Place) = set s.homes x none in
      let k : ℕ = c.seat.caller in
      let free = next_free s w room in
      let s_is : rule.state_of s.words x ≡ window_words.free_for n = free.state in
      let t_is : rule.state_of words x ≡ rule.state_of s.words x = get_or-set_other s.words 0 (x + 2) v 0 (λ e. omega arith) in
      let room' : n < b + places = room in
      let small' : n < window_words.last_number = small in
      caller_steps s w id c (plays.drew c n) at refl words homes (length-set s.words 0 v) (length-set s.homes x none) (n + 1) b
      (sym (get_or-set_same s.words 0 v 0 (omega arith) ∙ is)) (sym (get_or-set_other s.words 0 1 v 0 (λ e. omega arith))) (rule.put w.life n lives.Drawn) (rule.put w.owner n k)
      (caller_moves w.some_place w.kept k n lives.Drawn (plays.drew c n) (n + 1) (rule.state_of words) (get_elem? homes) record {
        caller = held.caller;
        mine = inl free.caller;
        not_done = free.not_done;
        pumped = sym free.pump;
        born = λ i. by_eq i n (λ e. ap lives.is_born (put_here w.life n i lives.Drawn e) ∙ sym (lt-ltb i (n + 1) (let f : i ≡ n = e in omega arith)))
            (λ ne. ap lives.is_born (put_else w.life n i lives.Drawn ne) ∙ (w.kept.born i ∙ born_more n i ne));
        grows = omega arith;
        ahead = omega arith;
        limit = omega arith;
        noted = λ i. drew_notes c n idle i ∙ ap (λ (d : known.CallerKnown). rule.put (lives.caller_note d) n (Some lives.InDraw) i) (sym held.same);
        seen = le_refl (n + 1);
        floor = floor_below s w c at;
        place = record { from_free = omega arith; not_freed = omega arith; rises = omega arith; within = omega arith; freed = λ up. absurd (omega arith); lies = (t_is ∙ s_is, set_here s.homes x none (omega arith)) };
        same_state = λ y ne. get_or-set_other s.words 0 (y + 2) v 0 (λ e. omega arith);
        same_home = λ y ne. set_else s.homes x y none ne;
      })

  pub draws : (m : plays.Knows) (old : ℕ) → IsAlone m → (known.caller_of m.0).task ≡ known.Idle → old < (known.caller_of m.0).floor + places → old < window_words.last_number
      → Allows Holds places id m 0 (λ n. either (eqb n old) (old + 1) n) (plays.Draws (step places 0 old (old + 1) none) m)
  draws m old e idle room small s w sl at fit =
      let c : known.CallerKnown = known.caller_of m.0 in
      let here : get_elem? s.views id ≡ some (known.known_to_caller c) = at ∙ ap some e in
      let n : ℕ = rule.next_of s.words in
      let floor : c.floor ≤ rule.base_of s.words = floor_below s w c here in
      let told = plays.Draws (step places 0 old (old + 1) none) m in
      let Goes : ℕ → Type 0 = λ (y : ℕ). (v : known.WindowKnown) × (a : Act plays.Place) × Valid s.homes m.1 a × Holds (stepped s 0 y id m.1 v a) × told n (v, carried_after m.1 a) in
      exchanged n old (old + 1) Goes
      (λ hit.
      let hit' : n ≡ old = hit in
      let room' : n < rule.base_of s.words + places = omega arith in
      let small' : n < window_words.last_number = omega arith in
      let drawn : plays.Knows = (known.known_to_caller (plays.drew c n), (n % places, None) ∷ m.1) in
      let lost : plays.Knows = (known.known_to_caller (plays.saw_next c n), m.1) in (
        known.known_to_caller (plays.drew c n),
        takes (n % places) None,
        (next_free s w room').home,
        drawn_window s w c here idle room' small' (old + 1) (omega arith),
        subst (λ (b : Bool). MatchBool b (drawn ≡ drawn) ((drawn ≡ lost) × (c.seat.seen ≤ n) × (n ≤ window_words.last_number))) (sym (eq-eqb n old hit)) refl,
      ))
      (λ miss.
      let drawn : plays.Knows = (known.known_to_caller (plays.drew c n), (n % places, None) ∷ m.1) in
      let lost : plays.Knows = (known.known_to_caller (plays.saw_next c n), m.1) in (
        known.known_to_caller (plays.saw_next c n),
        keeps,
        tt,
        caller_sees s w id c (plays.saw_next c n) here refl (λ k. refl) (le_refl n) floor 0,
        subst (λ (b : Bool). MatchBool b (lost ≡ drawn) ((lost ≡ lost) × (c.seat.seen ≤ n) × (n ≤ window_words.last_number))) (sym (ne_eqb n old miss)) (refl, seen_below s w c here, w.kept.limit),
      ))

  pub publishes : (m : plays.Knows) (c : known.CallerKnown) (n : ℕ) (call : WindowCall) (v : ℕ) → m ≡ (known.known_to_caller c, (n % places, Some (parcel.Call call)) ∷ []) → c.task ≡ known.Drew n
      → v ≡ window_words.published n → (bound : ℕ) → seats.AreRising c.seat.mine bound → bound ≤ n → (word : ℕ) → word ≡ n % places + 2
      → Allows Holds places id m word (λ _. v) (λ _. plays.Publishes (step places word v 0 none) m v)
  publishes m c n call v e task is bound rising below word word_is =
      subst (λ (i : ℕ). Allows Holds places id m i (λ _. v) (λ _. plays.Publishes (step places i v 0 none) m v)) (sym word_is)
      (subst (λ (z : plays.Knows). Allows Holds places id z (n % places + 2) (λ _. v) (λ _. plays.Publishes (step places (n % places + 2) v 0 none) z v)) (sym e)
      (λ s w sl at fit.
      let x : ℕ = n % places in
      let x_in : x < places = mod-lt n w.some_place in
      let any : 0 < places = w.some_place in
      let many : length s.homes ≡ places = w.slots in
      let own = own_note s w id c at n lives.InDraw (ap (λ (t : known.CallerTask). lives.note_with t n (lives.note_in c.seat.mine n)) task ∙ if_same n n (Some lives.InDraw) (lives.note_in c.seat.mine n) refl) in
      let life : w.life n ≡ lives.Drawn = drawn_of (w.life n) own.1 in
      let lies : lives.Lies places n lives.Drawn (rule.state_of s.words x) (get_elem? s.homes x) = subst (λ (l : lives.Life). lives.Lies places n l (rule.state_of s.words x) (get_elem? s.homes x)) life (w.kept.lies n) in
      let s_is : rule.state_of s.words x ≡ window_words.free_for n = lies.0 in (
        known.known_to_caller (plays.has_published c n call),
        gives,
        tt,
        caller_stores s w id c (plays.has_published c n call) at refl n (lives.Published call) v (set s.homes x (some (Some (parcel.Call call)))) (length-set s.homes x (some (Some (parcel.Call call)))) own.0
            (ap lives.is_done life) (ap lives.is_born life) refl (sym (ap lives.pump_shown life)) (published_notes c n call task (note_past c.seat.mine bound n rising below)) refl refl
            (record { from_free = omega arith; not_freed = omega arith; rises = omega arith; within = omega arith; freed = λ up. absurd (omega arith); lies = (is, set_here s.homes x (some (Some (parcel.Call call))) (omega arith)) })
            (λ y ne. set_else s.homes x y (some (Some (parcel.Call call))) ne),
        (λ n' call' task' slot'.
            let en : n ≡ n' = cc in
            let there : Some (parcel.Call call) ≡ Some (parcel.Call call') = slot_value (n % places, Some (parcel.Call call)) (n' % places, Some (parcel.Call call')) slot' in
            let ec : call ≡ call' = cc in
            ap₂ (λ (i : ℕ) (d : WindowCall). (known.known_to_caller (plays.has_published c i d), [])) en ec),
      )))

  pub sees_outcome : (m : plays.Knows) (c : known.CallerKnown) (n : ℕ) (call : WindowCall) → m ≡ (known.known_to_caller c, []) → c.task ≡ known.Idle → lives.note_in c.seat.mine n ≡ Some (lives.Called call)
      → (word : ℕ) → word ≡ n % places + 2 → Allows Holds places id m word (λ i. i) (plays.SeesOutcome n (step places word 0 0 none) m)
  sees_outcome m c n call e idle called word word_is =
      subst (λ (j : ℕ). Allows Holds places id m j (λ i. i) (plays.SeesOutcome n (step places j 0 0 none) m)) (sym word_is)
      (subst (λ (z : plays.Knows). Allows Holds places id z (n % places + 2) (λ i. i) (plays.SeesOutcome n (step places (n % places + 2) 0 0 none) z)) (sym e)
      (λ s w sl at fit.
      let x : ℕ = n % places in
      let x_in : x < places = mod-lt n w.some_place in
      let any : 0 < places = w.some_place in
      let many : length s.homes ≡ places = w.slots in
      let found : ℕ = rule.state_of s.words x in
      let told = plays.SeesOutcome n (step places (x + 2) 0 0 none) (known.known_to_caller c, []) in
      let note : lives.caller_note c n ≡ Some (lives.Called call) = ap (λ (t : known.CallerTask). lives.note_with t n (lives.note_in c.seat.mine n)) idle ∙ called in
      let own = own_note s w id c at n (lives.Called call) note in
      by_eq found (window_words.answered n)
      (λ hit.
      let ans = answered_of places n (w.life n) found (get_elem? s.homes x) call own.1 hit (w.kept.lies n) in
      let o : Outcome = ans.0 in
      let life : w.life n ≡ lives.Answered call o = ans.1 in
      let lies : lives.Lies places n (lives.Answered call o) found (get_elem? s.homes x) = subst (λ (l : lives.Life). lives.Lies places n l found (get_elem? s.homes x)) life (w.kept.lies n) in
      let hit' : found ≡ window_words.answered n = hit in
      let c' : known.CallerKnown = plays.got places c n call o in
      let after : plays.Knows = (known.known_to_caller c', (x, Some (parcel.Outcome o)) ∷ []) in (
        known.known_to_caller c',
        takes x (Some (parcel.Outcome o)),
        lies.1,
        caller_stores s w id c c' at refl n (lives.Getting call o) found (set s.homes x none) (length-set s.homes x none) own.0
            (ap lives.is_done life) (ap lives.is_born life) refl (sym (ap lives.pump_shown life)) (got_notes places c n call o idle) refl refl
            (record { from_free = omega arith; not_freed = omega arith; rises = omega arith; within = omega arith; freed = λ up. absurd (omega arith); lies = (hit, set_here s.homes x none (omega arith)) })
            (λ y ne. set_else s.homes x y none ne),
        subst (λ (b : Bool). MatchBool b ((call' : WindowCall) × (o' : Outcome) × (after ≡ (known.known_to_caller (plays.got places c n call' o'), (x, Some (parcel.Outcome o')) ∷ [])) × (lives.note_in c.seat.mine n ≡ Some (lives.Called call'))) (after ≡ (known.known_to_caller (plays.saw_state places c n found), []))) (sym (eq-eqb found (window_words.answered n) hit)) (call, o, refl, called),
      ))
      (λ miss.
      let c' : known.CallerKnown = plays.saw_state places c n found in
      let after : plays.Knows = (known.known_to_caller c', []) in (
        known.known_to_caller c',
        keeps,
        tt,
        caller_sees s w id c c' at refl (λ k. refl) (seen_below s w c at) (floor_below s w c at) (x + 2),
        subst (λ (b : Bool). MatchBool b ((call' : WindowCall) × (o' : Outcome) × (after ≡ (known.known_to_caller (plays.got places c n call' o'), (x, Some (parcel.Outcome o')) ∷ [])) × (lives.note_in c.seat.mine n ≡ Some (lives.Called call'))) (after ≡ (known.known_to_caller (plays.saw_state places c n found), []))) (sym (ne_eqb found (window_words.answered n) miss)) refl,
      ))))

  pub frees : (m : plays.Knows) (c : known.CallerKnown) (n : ℕ) (call : WindowCall) (o : Outcome) (v : ℕ) → m ≡ (known.known_to_caller c, (n % places, None) ∷ []) → c.task ≡ known.Got n call o
      → lives.note_in c.seat.mine n ≡ Some (lives.Called call) → v ≡ window_words.free_for (n + places) → (word : ℕ) → word ≡ n % places + 2
      → Allows Holds places id m word (λ _. v) (λ _. plays.Frees (step places word v 0 none) m v)
  frees m c n call o v e task called is word word_is =
      subst (λ (i : ℕ). Allows Holds places id m i (λ _. v) (λ _. plays.Frees (step places i v 0 none) m v)) (sym word_is)
      (subst (λ (z : plays.Knows). Allows Holds places id z (n % places + 2) (λ _. v) (λ _. plays.Frees (step places (n % places + 2) v 0 none) z v)) (sym e)
      (λ s w sl at fit.
      let x : ℕ = n % places in
      let x_in : x < places = mod-lt n w.some_place in
      let any : 0 < places = w.some_place in
      let many : length s.homes ≡ places = w.slots in
      let own = own_note s w id c at n (lives.InGet call o) (ap (λ (t : known.CallerTask). lives.note_with t n (lives.note_in c.seat.mine n)) task ∙ if_same n n (Some (lives.InGet call o)) (lives.note_in c.seat.mine n) refl) in
      let life : w.life n ≡ lives.Getting call o = getting_of (w.life n) call o own.1 in
      let lies : lives.Lies places n (lives.Getting call o) (rule.state_of s.words x) (get_elem? s.homes x) = subst (λ (l : lives.Life). lives.Lies places n l (rule.state_of s.words x) (get_elem? s.homes x)) life (w.kept.lies n) in
      let s_is : rule.state_of s.words x ≡ window_words.answered n = lies.0 in (
        known.known_to_caller (plays.was_told c n o),
        gives,
        tt,
        caller_stores s w id c (plays.was_told c n o) at refl n (lives.Done call o) v (set s.homes x (some None)) (length-set s.homes x (some None)) own.0
            (ap lives.is_done life) (ap lives.is_born life) refl (sym (ap lives.pump_shown life)) (told_notes c n call o task called) refl refl
            (record { from_free = omega arith; not_freed = omega arith; rises = omega arith; within = omega arith; freed = λ up. set_here s.homes x (some None) (omega arith); lies = omega arith })
            (λ y ne. set_else s.homes x y (some None) ne),
        (λ n' call' o' task' slot'.
            let en : n ≡ n' = cc in
            let eo : o ≡ o' = cc in
            ap₂ (λ (i : ℕ) (d : Outcome). (known.known_to_caller (plays.was_told c i d), [])) en eo),
      )))
