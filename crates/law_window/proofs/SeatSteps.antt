-- Seats of the table are split and joined, and the joined seat looks at the words: the rule stays.
use Rattle.std.proofs.Common.{◌≡◌, ℕ, zero, suc, ◌≤◌, ◌≢◌, ◌⊎◌, ⊎_elim, inl, inr, nat_eq, if◌then◌else◌, Option, Some, None, List, [], ◌∷◌, ◌++◌, length, get_or, set, refl, sym, ap, subst, ◌∙◌}
use Rattle.std.specs.List.{AllByRecursion}
use mathlib.Core.Option.{some, none, some-injective, some-ne-none}
use lib.ListN.{get_elem?}
use Rattle.atomic_table.specs.Table.{step, keeps, Allows, Splits, Joins}
use Rattle.atomic_table.proofs.Lists.{at_set, set_else}
use Rattle.spec_window.specs.WindowWords as window_words
use Rattle.law_window.specs.WindowKnown as known
use Rattle.law_window.specs.WindowLives as lives
use Rattle.law_window.specs.WindowPlays as plays
use Rattle.law_window.specs.WindowRule as rule
use Rattle.law_window.proofs.Places.{put_here, put_else}
use Rattle.law_window.proofs.Lifetimes.{caller_looks}
use Rattle.law_window.proofs.Notes.{if_same, if_other}
use Rattle.law_window.proofs.Seating.{TheState, each_since}
use Rattle.law_window.proofs.Stepping.{set_found}

each_with : {X : Type 0} (P Q R : X → Type 0) → ((x : X) → P x → Q x → R x) → (xs : List X) → AllByRecursion P xs → AllByRecursion Q xs → AllByRecursion R xs
each_with P Q R f [] h g = tt
each_with P Q R f (x ∷ xs) h g = (f x h.0 g.0, each_with P Q R f xs h.1 g.1)

each_of_both : {X : Type 0} (P : X → Type 0) (xs ys : List X) → AllByRecursion P xs → AllByRecursion P ys → AllByRecursion P (xs ++ ys)
each_of_both P [] ys h g = g
each_of_both P (x ∷ xs) ys h g = (h.0, each_of_both P xs ys h.1 g)

each_joined : (P : known.CallerKnown → Type 0) (xs ys : List known.CallerKnown) → AllByRecursion P xs → AllByRecursion P ys → AllByRecursion P (known.callers_joined xs ys)
each_joined P [] ys h g = g
each_joined P (x ∷ xs) ys h g = (h.0, each_of_both P ys xs g h.1)

at_end : {A : Type 0} (l : List A) (a b : A) (j : ℕ) → get_elem? (l ++ a ∷ []) j ≡ some b → (get_elem? l j ≡ some b) ⊎ ((j ≡ length l) × (a ≡ b))
at_end [] a b zero e = inr (refl, some-injective a b e)
at_end [] a b (suc j) e = absurd (some-ne-none b (sym e))
at_end (x ∷ xs) a b zero e = inl e
at_end (x ∷ xs) a b (suc j) e = ⊎_elim (λ l. inl l) (λ t. inr (ap suc t.0, t.1)) (at_end xs a b j e)

module _ (places crew : ℕ) where
  abbrev Holds : TheState → Type 0
  Holds = rule.IsWindow places crew

  -- the seat of the table with another knowledge, and a new one
  with_seat : TheState → ℕ → known.WindowKnown → known.WindowKnown → TheState
  with_seat s id left right = record { words = s.words; homes = s.homes; views = set s.views id left ++ right ∷ [] }

  -- one caller is split off
  parts_at : (id : ℕ) (c : known.CallerKnown) (cs : List known.CallerKnown) (q : Option known.PumpKnown) → AllByRecursion (λ d. d.seat.caller ≢ c.seat.caller) cs
      → Splits Holds id (record { callers = c ∷ cs; pump = q; found = [] }) (record { callers = cs; pump = q; found = [] }) (known.known_to_caller c)
  parts_at id c cs q apart s w at =
      let v : known.WindowKnown = record { callers = c ∷ cs; pump = q; found = [] } in
      let left : known.WindowKnown = record { callers = cs; pump = q; found = [] } in
      let k : ℕ = c.seat.caller in
      let new : ℕ = length (set s.views id left) in
      let mine : AllByRecursion (rule.IsHeld crew w.holder w.callers id) (c ∷ cs) = w.tied.held id v at in
      let holder' : ℕ → ℕ = rule.put w.holder k new in
      let stays : (j : ℕ) (d : known.CallerKnown) → rule.IsHeld crew w.holder w.callers j d → d.seat.caller ≢ k → rule.IsHeld crew holder' w.callers j d = λ j d h ne. record {
        caller = h.caller;
        seat = put_else w.holder k d.seat.caller new ne ∙ h.seat;
        same = h.same;
      } in record {
        some_place = w.some_place;
        wide = w.wide;
        slots = w.slots;
        life = w.life;
        owner = w.owner;
        callers = w.callers;
        pump = w.pump;
        holder = holder';
        pumper = w.pumper;
        kept = w.kept;
        tied = record {
          held = λ j u there. ⊎_elim
              (λ old. ⊎_elim
              (λ here. subst (λ (x : known.WindowKnown). AllByRecursion (rule.IsHeld crew holder' w.callers j) x.callers) here.1
              (each_with (rule.IsHeld crew w.holder w.callers j) (λ d. d.seat.caller ≢ k) (rule.IsHeld crew holder' w.callers j) (stays j) cs (subst (λ (i : ℕ). AllByRecursion (rule.IsHeld crew w.holder w.callers i) cs) (sym here.0) mine.1) apart))
              (λ other. each_since (rule.IsHeld crew w.holder w.callers j) (rule.IsHeld crew holder' w.callers j)
              (λ d h. stays j d h (λ e. other.0 (sym h.seat ∙ (ap w.holder e ∙ mine.0.seat)))) u.callers (w.tied.held j u other.1))
              (at_set s.views id j left u old))
              (λ last. subst (λ (x : known.WindowKnown). AllByRecursion (rule.IsHeld crew holder' w.callers j) x.callers) last.1
              (record { caller = mine.0.caller; seat = put_here w.holder k k new refl ∙ sym last.0; same = mine.0.same }, tt))
              (at_end (set s.views id left) (known.known_to_caller c) u j there);
          pumping = λ j u there. ⊎_elim
              (λ old. ⊎_elim
              (λ here. subst (λ (x : known.WindowKnown). rule.IsPumpHeld w.pumper w.pump j x.pump) here.1 (subst (λ (i : ℕ). rule.IsPumpHeld w.pumper w.pump i q) (sym here.0) (w.tied.pumping id v at)))
              (λ other. w.tied.pumping j u other.1)
              (at_set s.views id j left u old))
              (λ last. subst (λ (x : known.WindowKnown). rule.IsPumpHeld w.pumper w.pump j x.pump) last.1 tt)
              (at_end (set s.views id left) (known.known_to_caller c) u j there);
        };
      }

  pub parts : (id : ℕ) (v : known.WindowKnown) (c : known.CallerKnown) (cs : List known.CallerKnown) (q : Option known.PumpKnown) → v ≡ record { callers = c ∷ cs; pump = q; found = [] }
      → AllByRecursion (λ d. d.seat.caller ≢ c.seat.caller) cs → Splits Holds id v (known.without_first v) (known.first_alone v)
  parts id v c cs q e apart =
      subst (λ (u : known.WindowKnown). Splits Holds id u (known.without_first u) (known.first_alone u)) (sym e) (parts_at id c cs q apart)

  -- the first caller leaves the joined seat
  leaves_at : (id : ℕ) (c : known.CallerKnown) (cs : List known.CallerKnown) (q : Option known.PumpKnown) (found : List window_words.Look)
      → Splits Holds id (record { callers = c ∷ cs; pump = q; found = found }) known.known_to_none (known.handed_back (record { callers = c ∷ cs; pump = q; found = found }))
  leaves_at id c cs q found s w at =
      let v : known.WindowKnown = record { callers = c ∷ cs; pump = q; found = found } in
      let back : known.WindowKnown = known.handed_back v in
      let c' : known.CallerKnown = known.caller_of back in
      let k : ℕ = c.seat.caller in
      let new : ℕ = length (set s.views id known.known_to_none) in
      let mine : AllByRecursion (rule.IsHeld crew w.holder w.callers id) (c ∷ cs) = w.tied.held id v at in
      let holder' : ℕ → ℕ = rule.put w.holder k new in
      let callers' : ℕ → known.CallerKnown = rule.put w.callers k c' in record {
        some_place = w.some_place;
        wide = w.wide;
        slots = w.slots;
        life = w.life;
        owner = w.owner;
        callers = callers';
        pump = w.pump;
        holder = holder';
        pumper = w.pumper;
        kept = caller_looks w.some_place w.kept k c' (λ m. ap (λ (d : known.CallerKnown). lives.caller_note d m) (sym mine.0.same))
            (subst (λ (d : known.CallerKnown). d.seat.seen ≤ rule.next_of s.words) mine.0.same (w.kept.seen k))
            (subst (λ (d : known.CallerKnown). d.floor ≤ rule.base_of s.words) mine.0.same (w.kept.floor k));
        tied = record {
          held = λ j u there. ⊎_elim
              (λ old. ⊎_elim
              (λ here. subst (λ (x : known.WindowKnown). AllByRecursion (rule.IsHeld crew holder' callers' j) x.callers) here.1 tt)
              (λ other. each_since (rule.IsHeld crew w.holder w.callers j) (rule.IsHeld crew holder' callers' j)
              (λ d h.
              let ne : d.seat.caller ≢ k = λ e. other.0 (sym h.seat ∙ (ap w.holder e ∙ mine.0.seat)) in
              record { caller = h.caller; seat = put_else w.holder k d.seat.caller new ne ∙ h.seat; same = put_else w.callers k d.seat.caller c' ne ∙ h.same })
              u.callers (w.tied.held j u other.1))
              (at_set s.views id j known.known_to_none u old))
              (λ last. subst (λ (x : known.WindowKnown). AllByRecursion (rule.IsHeld crew holder' callers' j) x.callers) last.1
              (record { caller = mine.0.caller; seat = put_here w.holder k k new refl ∙ sym last.0; same = put_here w.callers k k c' refl }, tt))
              (at_end (set s.views id known.known_to_none) back u j there);
          pumping = λ j u there. ⊎_elim
              (λ old. ⊎_elim
              (λ here. subst (λ (x : known.WindowKnown). rule.IsPumpHeld w.pumper w.pump j x.pump) here.1 tt)
              (λ other. w.tied.pumping j u other.1)
              (at_set s.views id j known.known_to_none u old))
              (λ last. subst (λ (x : known.WindowKnown). rule.IsPumpHeld w.pumper w.pump j x.pump) last.1 tt)
              (at_end (set s.views id known.known_to_none) back u j there);
        };
      }

  pub leaves : (id : ℕ) (v : known.WindowKnown) (c : known.CallerKnown) (cs : List known.CallerKnown) → v.callers ≡ c ∷ cs → Splits Holds id v (plays.forgotten v) (known.handed_back v)
  leaves id v c cs e =
      let is : v ≡ record { callers = c ∷ cs; pump = v.pump; found = v.found } = ap (λ (l : List known.CallerKnown). record { callers = l; pump = v.pump; found = v.found }) e in
      subst (λ (u : known.WindowKnown). Splits Holds id u (plays.forgotten u) (known.handed_back u)) (sym is) (leaves_at id c cs v.pump v.found)

  -- who had it from the other seat has it from the first
  moved : ℕ → ℕ → ℕ → ℕ
  moved id other j = if nat_eq j other then id else j

  pump_moved : (pumper : ℕ) (pump : known.PumpKnown) (id other j : ℕ) (q : Option known.PumpKnown) → j ≢ other → rule.IsPumpHeld pumper pump j q → rule.IsPumpHeld (moved id other pumper) pump j q
  unfolding moved
  pump_moved pumper pump id other j None ne h = tt
  pump_moved pumper pump id other j (Some p) ne h = (if_other pumper other id pumper (λ e. ne (sym h.0 ∙ e)) ∙ h.0, h.1)

  pump_joined : (pumper : ℕ) (pump : known.PumpKnown) (id other : ℕ) (p q : Option known.PumpKnown) → id ≢ other → rule.IsPumpHeld pumper pump id p → rule.IsPumpHeld pumper pump other q
      → rule.IsPumpHeld (moved id other pumper) pump id (known.either_pump p q)
  unfolding moved
  pump_joined pumper pump id other None None ne h g = tt
  pump_joined pumper pump id other None (Some q) ne h g = (if_same pumper other id pumper g.0, g.1)
  pump_joined pumper pump id other (Some p) q ne h g = (if_other pumper other id pumper (λ e. ne (sym h.0 ∙ e)) ∙ h.0, h.1)

  pub meets : (id other : ℕ) (v u : known.WindowKnown) → Joins Holds id v other u (known.joined v u) known.known_to_none
  unfolding moved
  meets id other v u s w at ne at' =
      let both : known.WindowKnown = known.joined v u in
      let there : get_elem? s.views other ≡ some u = sym (set_else s.views id other both ne) ∙ at' in
      let holder' : ℕ → ℕ = λ (k : ℕ). moved id other (w.holder k) in
      let stays : (j : ℕ) (d : known.CallerKnown) → j ≢ other → rule.IsHeld crew w.holder w.callers j d → rule.IsHeld crew holder' w.callers j d = λ j d n h. record {
        caller = h.caller;
        seat = if_other (w.holder d.seat.caller) other id (w.holder d.seat.caller) (λ e. n (sym h.seat ∙ e)) ∙ h.seat;
        same = h.same;
      } in
      let comes : (d : known.CallerKnown) → rule.IsHeld crew w.holder w.callers other d → rule.IsHeld crew holder' w.callers id d = λ d h. record {
        caller = h.caller;
        seat = if_same (w.holder d.seat.caller) other id (w.holder d.seat.caller) h.seat;
        same = h.same;
      } in
      let apart : id ≢ other = λ e. ne (sym e) in record {
        some_place = w.some_place;
        wide = w.wide;
        slots = w.slots;
        life = w.life;
        owner = w.owner;
        callers = w.callers;
        pump = w.pump;
        holder = holder';
        pumper = moved id other w.pumper;
        kept = w.kept;
        tied = record {
          held = λ j x here. ⊎_elim
              (λ spent. subst (λ (y : known.WindowKnown). AllByRecursion (rule.IsHeld crew holder' w.callers j) y.callers) spent.1 tt)
              (λ rest. ⊎_elim
              (λ mine. subst (λ (y : known.WindowKnown). AllByRecursion (rule.IsHeld crew holder' w.callers j) y.callers) mine.1 (subst (λ (i : ℕ). AllByRecursion (rule.IsHeld crew holder' w.callers i) (known.callers_joined v.callers u.callers)) (sym mine.0)
              (each_joined (rule.IsHeld crew holder' w.callers id) v.callers u.callers
              (each_since (rule.IsHeld crew w.holder w.callers id) (rule.IsHeld crew holder' w.callers id) (λ d h. stays id d apart h) v.callers (w.tied.held id v at))
              (each_since (rule.IsHeld crew w.holder w.callers other) (rule.IsHeld crew holder' w.callers id) comes u.callers (w.tied.held other u there)))))
              (λ old. each_since (rule.IsHeld crew w.holder w.callers j) (rule.IsHeld crew holder' w.callers j) (λ d h. stays j d rest.0 h) x.callers (w.tied.held j x old.1))
              (at_set s.views id j both x rest.1))
              (at_set (set s.views id both) other j known.known_to_none x here);
          pumping = λ j x here. ⊎_elim
              (λ spent. subst (λ (y : known.WindowKnown). rule.IsPumpHeld (moved id other w.pumper) w.pump j y.pump) spent.1 tt)
              (λ rest. ⊎_elim
              (λ mine. subst (λ (y : known.WindowKnown). rule.IsPumpHeld (moved id other w.pumper) w.pump j y.pump) mine.1 (subst (λ (i : ℕ). rule.IsPumpHeld (moved id other w.pumper) w.pump i (known.either_pump v.pump u.pump)) (sym mine.0)
              (pump_joined w.pumper w.pump id other v.pump u.pump apart (w.tied.pumping id v at) (w.tied.pumping other u there))))
              (λ old. pump_moved w.pumper w.pump id other j x.pump rest.0 (w.tied.pumping j x old.1))
              (at_set s.views id j both x rest.1))
              (at_set (set s.views id both) other j known.known_to_none x here);
        };
      }

  -- the joined seat looks
  pub sees_last : (id : ℕ) (m : plays.Knows) (word : ℕ) → Allows Holds places id m word (λ i. i) (plays.SeesLast crew (step places word 0 0 none) m)
  sees_last id m word s w sl at fit =
      let found : ℕ = get_or s.words word 0 in
      let v : known.WindowKnown = m.0 in
      let v' : known.WindowKnown = plays.saw_last v word found in
      let window : Holds record { words = s.words; homes = s.homes; views = set s.views id v' } = record {
        some_place = w.some_place;
        wide = w.wide;
        slots = w.slots;
        life = w.life;
        owner = w.owner;
        callers = w.callers;
        pump = w.pump;
        holder = w.holder;
        pumper = w.pumper;
        kept = w.kept;
        tied = record {
          held = λ j u there. ⊎_elim
              (λ here. subst (λ (x : known.WindowKnown). AllByRecursion (rule.IsHeld crew w.holder w.callers j) x.callers) here.1 (subst (λ (i : ℕ). AllByRecursion (rule.IsHeld crew w.holder w.callers i) v.callers) (sym here.0) (w.tied.held id v at)))
              (λ other. w.tied.held j u other.1)
              (at_set s.views id j v' u there);
          pumping = λ j u there. ⊎_elim
              (λ here. subst (λ (x : known.WindowKnown). rule.IsPumpHeld w.pumper w.pump j x.pump) here.1 (subst (λ (i : ℕ). rule.IsPumpHeld w.pumper w.pump i v.pump) (sym here.0) (w.tied.pumping id v at)))
              (λ other. w.tied.pumping j u other.1)
              (at_set s.views id j v' u there);
        };
      } in (
        v',
        keeps,
        tt,
        subst (λ (words : List ℕ). Holds record { words = words; homes = s.homes; views = set s.views id v' }) (sym (set_found s.words word)) window,
        (refl, record { state = s; window = w; id = id; seat = at; word_is = refl }),
      )
