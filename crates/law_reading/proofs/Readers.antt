-- What a reader of a value owes, and how readers that are put together owe it.
use Rattle.std.proofs.Common.{◌≡◌, ℕ, zero, suc, ◌<◌, Bool, true, false, cond, List, [], ◌∷◌, ◌++◌, length, Ok, Err, refl, sym, ap, subst, ◌∙◌, append_assoc, nat_eq}
use Rattle.std.proofs.lemmas.Bool.{eqb-true}
use Rattle.std.specs.List.{flat_map, AllByRecursion}
use Rattle.spec_reading.specs.Reading.{◌>>=◌}
use Rattle.spec_reading.specs.Reading as reading

-- what was read stays what it is when more bytes follow, and so does what is wrong
abbrev pub Stays : {A : Type 0} → reading.Reading A → reading.Reading A → List ℕ → Type 0
Stays (Ok x) later more = later ≡ Ok (x.0, x.1 ++ more)
Stays (Err reading.Part) later more = Unit {0}
Stays (Err reading.Wrong) later more = later ≡ Err reading.Wrong

pub record IsStable {A : Type 0} (f : List ℕ → reading.Reading A) : Type 0 where
  pub stays : (bytes more : List ℕ) → reading.IsBytes more → Stays (f bytes) (f (bytes ++ more)) more

-- behind the bytes `front`, f reads the rest of the spelling of a value that fits
pub record IsExact {V : Type 0} (write : V → List ℕ) (Fits : V → Type 0) (front : List ℕ) (f : List ℕ → reading.Reading V) : Type 0 where
  pub spelled : (bytes : List ℕ) (x : V) (rest : List ℕ) → reading.IsBytes bytes → f bytes ≡ Ok (x, rest)
      → (front ++ bytes ≡ write x ++ rest) × Fits x × reading.IsBytes rest

-- f reads what write spells, for each value that fits
pub record Reads {A : Type 0} (f : List ℕ → reading.Reading A) (write : A → List ℕ) (Fits : A → Type 0) : Type 0 where
  pub again : (x : A) (rest : List ℕ) → Fits x → f (write x ++ rest) ≡ Ok (x, rest)
  pub exact : IsExact write Fits [] f
  pub stable : IsStable f

-- ---- stable

abbrev pub ok : {A : Type 0} → A × List ℕ → reading.Reading A
ok x = Ok x

stays_bind : {A B : Type 0} (r later : reading.Reading A) (more : List ℕ) (k : A × List ℕ → reading.Reading B)
    → ((a : A) (rest : List ℕ) → Stays (k (a, rest)) (k (a, rest ++ more)) more)
    → Stays r later more → Stays (r >>= k) (later >>= k) more
stays_bind {A = A} (Ok x) later more k h s =
    subst (λ (z : reading.Reading A). Stays (k x) (z >>= k) more) (sym s) (h x.0 x.1)
stays_bind (Err reading.Part) later more k h s = tt
stays_bind {A = A} (Err reading.Wrong) later more k h s = ap (λ (z : reading.Reading A). z >>= k) s

pub stable_bind : {A B : Type 0} {f : List ℕ → reading.Reading A} (k : A × List ℕ → reading.Reading B) → IsStable f
    → ((a : A) → IsStable (λ bytes. k (a, bytes))) → IsStable (λ bytes. f bytes >>= k)
stable_bind {f = f} k sf sk = record {
  stays = λ bytes more fits. stays_bind (f bytes) (f (bytes ++ more)) more k (λ a rest. (sk a).stays rest more fits) (sf.stays bytes more fits);
}

pub stable_ok : {A : Type 0} (x : A) → IsStable (λ bytes. ok (x, bytes))
stable_ok x = record { stays = λ bytes more fits. refl }

pub stable_wrong : {A : Type 0} → IsStable {A = A} (λ bytes. Err reading.Wrong)
stable_wrong = record { stays = λ bytes more fits. refl }

pub stable_if : {A : Type 0} (b : Bool) {f g : List ℕ → reading.Reading A} → IsStable f → IsStable g → IsStable (λ bytes. cond b (f bytes) (g bytes))
stable_if true sf sg = sf
stable_if false sf sg = sg

pub stable_byte : IsStable reading.byte_at
stable_byte = record { stays = byte_stays }
  where
    byte_stays : (bytes more : List ℕ) → reading.IsBytes more → Stays (reading.byte_at bytes) (reading.byte_at (bytes ++ more)) more
    byte_stays [] more fits = tt
    byte_stays (b ∷ bytes) more fits = refl

pub stable_many : {A : Type 0} {f : List ℕ → reading.Reading A} (n : ℕ) → IsStable f → IsStable (reading.many_at f n)
stable_many zero sf = stable_ok []
stable_many (suc n) sf = stable_bind _ sf (λ a. stable_bind _ (stable_many n sf) (λ b. stable_ok (a ∷ b)))

-- ---- exact

-- the value of a step that did not fail
bind_ok : {A B : Type 0} (r : reading.Reading A) (k : A × List ℕ → reading.Reading B) (y : B × List ℕ) → (r >>= k) ≡ ok y → (x : A × List ℕ) × (r ≡ ok x) × (k x ≡ ok y)
bind_ok (Ok x) k y e = (x, refl, e)
bind_ok (Err d) k y e = absurd cc

pub ok_is : {A : Type 0} (x y : A × List ℕ) → ok x ≡ ok y → x ≡ y
ok_is x y e = cc

pub exact_bind : {A V : Type 0} {write : V → List ℕ} {Fits : V → Type 0} {front : List ℕ} {f : List ℕ → reading.Reading A} {wf : A → List ℕ} {FitsF : A → Type 0}
    (k : A × List ℕ → reading.Reading V) → IsExact wf FitsF [] f
    → ((a : A) → FitsF a → IsExact write Fits (front ++ wf a) (λ bytes. k (a, bytes)))
    → IsExact write Fits front (λ bytes. f bytes >>= k)
exact_bind {front = front} {f = f} {wf = wf} k ef ek = record {
  spelled = λ bytes x rest fits e.
      let b = bind_ok (f bytes) k (x, rest) e in
      let first = ef.spelled bytes b.0.0 b.0.1 fits b.1 in
      let others = (ek b.0.0 first.1).spelled b.0.1 x rest first.2 b.2 in
      (ap (λ (t : List ℕ). front ++ t) first.0 ∙ sym (append_assoc front (wf b.0.0) b.0.1) ∙ others.0, others.1, others.2);
}

pub exact_ok : {V : Type 0} {write : V → List ℕ} {Fits : V → Type 0} {front : List ℕ} (x : V) → front ≡ write x → Fits x
    → IsExact write Fits front (λ bytes. ok (x, bytes))
exact_ok {V = V} {write = write} {Fits = Fits} {front = front} x same fx = record {
  spelled = λ bytes y rest fits e.
      subst (λ (z : V × List ℕ). (front ++ bytes ≡ write z.0 ++ z.1) × Fits z.0 × reading.IsBytes z.1) (ok_is (x, bytes) (y, rest) e)
      (ap (λ (t : List ℕ). t ++ bytes) same, fx, fits);
}

pub exact_wrong : {V : Type 0} {write : V → List ℕ} {Fits : V → Type 0} {front : List ℕ} → IsExact write Fits front (λ bytes. Err reading.Wrong)
exact_wrong = record { spelled = λ bytes x rest fits e. absurd cc }

pub exact_if : {V : Type 0} {write : V → List ℕ} {Fits : V → Type 0} {front : List ℕ} (b : Bool) {f g : List ℕ → reading.Reading V}
    → (b ≡ true → IsExact write Fits front f) → (b ≡ false → IsExact write Fits front g) → IsExact write Fits front (λ bytes. cond b (f bytes) (g bytes))
exact_if true ef eg = ef refl
exact_if false ef eg = eg refl

-- a number that says which variant follows
pub exact_tag : {V : Type 0} {write : V → List ℕ} {Fits : V → Type 0} (n m : ℕ) {f g : List ℕ → reading.Reading V}
    → IsExact write Fits (m ∷ []) f → IsExact write Fits (n ∷ []) g → IsExact write Fits (n ∷ []) (λ bytes. cond (nat_eq n m) (f bytes) (g bytes))
exact_tag {write = write} {Fits = Fits} n m {f = f} ef eg =
    exact_if (nat_eq n m) (λ same. subst (λ (t : ℕ). IsExact write Fits (t ∷ []) f) (sym (eqb-true n m same)) ef) (λ other. eg)

pub exact_byte : IsExact (λ (b : ℕ). b ∷ []) (λ b. b < 256) [] reading.byte_at
exact_byte = record { spelled = byte_spelled }
  where
    byte_spelled : (bytes : List ℕ) (x : ℕ) (rest : List ℕ) → reading.IsBytes bytes → reading.byte_at bytes ≡ ok (x, rest) → (bytes ≡ (x ∷ []) ++ rest) × (x < 256) × reading.IsBytes rest
    byte_spelled [] x rest fits e = absurd cc
    byte_spelled (b ∷ bytes) x rest fits e =
        subst (λ (z : ℕ × List ℕ). (b ∷ bytes ≡ (z.0 ∷ []) ++ z.1) × (z.0 < 256) × reading.IsBytes z.1) (ok_is (b, bytes) (x, rest) e) (refl, fits 0, λ i. fits (suc i))

-- ---- values of one, two and three fields

pub exact_one : {A V : Type 0} {write : V → List ℕ} {Fits : V → Type 0} {front : List ℕ} {f : List ℕ → reading.Reading A} {wf : A → List ℕ} {FitsF : A → Type 0}
    (make : A → V) → Reads f wf FitsF → ((a : A) → front ++ wf a ≡ write (make a)) → ((a : A) → FitsF a → Fits (make a))
    → IsExact write Fits front (reading.one_field f make)
exact_one make rf same fits = exact_bind _ rf.exact (λ a fa. exact_ok (make a) (same a) (fits a fa))

pub exact_two : {A B V : Type 0} {write : V → List ℕ} {Fits : V → Type 0} {front : List ℕ} {f : List ℕ → reading.Reading A} {wf : A → List ℕ} {FitsF : A → Type 0}
    {g : List ℕ → reading.Reading B} {wg : B → List ℕ} {FitsG : B → Type 0}
    (make : A → B → V) → Reads f wf FitsF → Reads g wg FitsG → ((a : A) (b : B) → front ++ wf a ++ wg b ≡ write (make a b))
    → ((a : A) (b : B) → FitsF a → FitsG b → Fits (make a b))
    → IsExact write Fits front (reading.two_fields f g make)
exact_two make rf rg same fits = exact_bind _ rf.exact (λ a fa. exact_bind _ rg.exact (λ b fb. exact_ok (make a b) (same a b) (fits a b fa fb)))

pub exact_three : {A B C V : Type 0} {write : V → List ℕ} {Fits : V → Type 0} {front : List ℕ} {f : List ℕ → reading.Reading A} {wf : A → List ℕ} {FitsF : A → Type 0}
    {g : List ℕ → reading.Reading B} {wg : B → List ℕ} {FitsG : B → Type 0} {h : List ℕ → reading.Reading C} {wh : C → List ℕ} {FitsH : C → Type 0}
    (make : A → B → C → V) → Reads f wf FitsF → Reads g wg FitsG → Reads h wh FitsH → ((a : A) (b : B) (c : C) → front ++ wf a ++ wg b ++ wh c ≡ write (make a b c))
    → ((a : A) (b : B) (c : C) → FitsF a → FitsG b → FitsH c → Fits (make a b c))
    → IsExact write Fits front (reading.three_fields f g h make)
exact_three make rf rg rh same fits =
    exact_bind _ rf.exact (λ a fa. exact_bind _ rg.exact (λ b fb. exact_bind _ rh.exact (λ c fc. exact_ok (make a b c) (same a b c) (fits a b c fa fb fc))))

pub stable_one : {A V : Type 0} {f : List ℕ → reading.Reading A} (make : A → V) → IsStable f → IsStable (reading.one_field f make)
stable_one make sf = stable_bind _ sf (λ a. stable_ok (make a))

pub stable_two : {A B V : Type 0} {f : List ℕ → reading.Reading A} {g : List ℕ → reading.Reading B} (make : A → B → V) → IsStable f → IsStable g → IsStable (reading.two_fields f g make)
stable_two make sf sg = stable_bind _ sf (λ a. stable_bind _ sg (λ b. stable_ok (make a b)))

pub stable_three : {A B C V : Type 0} {f : List ℕ → reading.Reading A} {g : List ℕ → reading.Reading B} {h : List ℕ → reading.Reading C} (make : A → B → C → V)
    → IsStable f → IsStable g → IsStable h → IsStable (reading.three_fields f g h make)
stable_three make sf sg sh = stable_bind _ sf (λ a. stable_bind _ sg (λ b. stable_bind _ sh (λ c. stable_ok (make a b c))))

-- ---- what was spelled is read again

pub again_one : {A V : Type 0} {f : List ℕ → reading.Reading A} {wf : A → List ℕ} {FitsF : A → Type 0}
    (make : A → V) → Reads f wf FitsF → (a : A) (rest : List ℕ) → FitsF a → reading.one_field f make (wf a ++ rest) ≡ Ok (make a, rest)
again_one make rf a rest fa = rw (rf.again a rest fa) refl

pub again_two : {A B V : Type 0} {f : List ℕ → reading.Reading A} {wf : A → List ℕ} {FitsF : A → Type 0} {g : List ℕ → reading.Reading B} {wg : B → List ℕ} {FitsG : B → Type 0}
    (make : A → B → V) → Reads f wf FitsF → Reads g wg FitsG → (a : A) (b : B) (rest : List ℕ) → FitsF a → FitsG b
    → reading.two_fields f g make (wf a ++ wg b ++ rest) ≡ Ok (make a b, rest)
again_two {wf = wf} {wg = wg} make rf rg a b rest fa fb =
    rw (append_assoc (wf a) (wg b) rest, rf.again a (wg b ++ rest) fa, rg.again b rest fb) refl

pub again_three : {A B C V : Type 0} {f : List ℕ → reading.Reading A} {wf : A → List ℕ} {FitsF : A → Type 0} {g : List ℕ → reading.Reading B} {wg : B → List ℕ} {FitsG : B → Type 0}
    {h : List ℕ → reading.Reading C} {wh : C → List ℕ} {FitsH : C → Type 0}
    (make : A → B → C → V) → Reads f wf FitsF → Reads g wg FitsG → Reads h wh FitsH → (a : A) (b : B) (c : C) (rest : List ℕ) → FitsF a → FitsG b → FitsH c
    → reading.three_fields f g h make (wf a ++ wg b ++ wh c ++ rest) ≡ Ok (make a b c, rest)
again_three {wf = wf} {wg = wg} {wh = wh} make rf rg rh a b c rest fa fb fc =
    rw (append_assoc (wf a ++ wg b) (wh c) rest, append_assoc (wf a) (wg b) (wh c ++ rest), rf.again a (wg b ++ (wh c ++ rest)) fa, rg.again b (wh c ++ rest) fb, rh.again c rest fc) refl

-- what f reads is the whole value, whose spelling has `front` before what f reads
pub exact_as : {A : Type 0} {write : A → List ℕ} {Fits : A → Type 0} {front : List ℕ} {f : List ℕ → reading.Reading A} {wf : A → List ℕ} {FitsF : A → Type 0}
    → IsExact wf FitsF [] f → ((a : A) → FitsF a → (front ++ wf a ≡ write a) × Fits a) → IsExact write Fits front f
exact_as {write = write} {front = front} {wf = wf} ef same = record {
  spelled = λ bytes x rest fits e.
      let s = ef.spelled bytes x rest fits e in
      let both = same x s.1 in
      (ap (λ (t : List ℕ). front ++ t) s.0 ∙ sym (append_assoc front (wf x) rest) ∙ ap (λ (t : List ℕ). t ++ rest) both.0, both.1, s.2);
}

-- ---- so many values

many_again : {A : Type 0} {f : List ℕ → reading.Reading A} {write : A → List ℕ} {Fits : A → Type 0} → Reads f write Fits
    → (xs : List A) (rest : List ℕ) → AllByRecursion Fits xs → reading.many_at f (length xs) (flat_map write xs ++ rest) ≡ Ok (xs, rest)
many_again r [] rest fits = refl
many_again {write = write} r (x ∷ xs) rest fits =
    rw (append_assoc (write x) (flat_map write xs) rest, r.again x (flat_map write xs ++ rest) fits.0, many_again r xs rest fits.1) refl

-- so many values that fit
abbrev pub AreMany : {A : Type 0} → (A → Type 0) → ℕ → List A → Type 0
AreMany Fits n xs = (length xs ≡ n) × AllByRecursion Fits xs

many_exact : {A : Type 0} {f : List ℕ → reading.Reading A} {write : A → List ℕ} {Fits : A → Type 0} (n : ℕ) → Reads f write Fits
    → IsExact (flat_map write) (AreMany Fits n) [] (reading.many_at f n)
many_exact zero r = exact_ok [] refl (refl, tt)
many_exact {f = f} {write = write} {Fits = Fits} (suc n) r =
    exact_bind _ r.exact (λ a fa. exact_bind _ (many_exact n r) (λ others fo. exact_ok (a ∷ others) refl (ap suc fo.0, (fa, fo.1))))

pub many_reads : {A : Type 0} {f : List ℕ → reading.Reading A} {write : A → List ℕ} {Fits : A → Type 0} (n : ℕ) → Reads f write Fits
    → Reads (reading.many_at f n) (flat_map write) (AreMany Fits n)
many_reads {f = f} {write = write} {Fits = Fits} n r = record {
  again = λ xs rest fits. subst (λ (k : ℕ). reading.many_at f k (flat_map write xs ++ rest) ≡ Ok (xs, rest)) fits.0 (many_again r xs rest fits.1);
  exact = many_exact n r;
  stable = stable_many n r.stable;
}

-- ---- a chain of fields, read again one by one

pub again_bind : {A V : Type 0} {f : List ℕ → reading.Reading A} {wf : A → List ℕ} {FitsF : A → Type 0} (k : A × List ℕ → reading.Reading V) (a : A) (more : List ℕ) (y : V × List ℕ)
    → Reads f wf FitsF → FitsF a → k (a, more) ≡ Ok y → (f (wf a ++ more) >>= k) ≡ Ok y
again_bind k a more y rf fa e = rw (rf.again a more fa) e
