-- A release by order is a release by number.
use Rattle.std.proofs.Common.{◌≡◌, ℕ, ◌<◌, ◌≤◌, Bool, true, false, max, List, [], ◌∷◌, ◌++◌, Option, Some, None, refl, sym, arith}
use Rattle.std.specs.Prelude.{◌||◌, if◌then◌else◌, nat_eq}
use Rattle.std.proofs.lemmas.Bool.Decides.{nat_tests}
use Rattle.ax_types.specs.declared.items.Item.{Item}
use Rattle.ax_types.specs.declared.sessions.Got.{Got}
use Rattle.spec_sequencer.specs.Sequencers as sequencers
use Rattle.spec_client.specs.Clients as clients
use Rattle.spec_client.specs.Receipts as receipts
use Rattle.cli_session.specs.GivingOut as giving
use Rattle.cli_session.specs.Numbered as numbered

-- answers and then the calls that are left, by the numbers of the requests
abbrev pub IsSplit : ℕ → List (ℕ × Got) → List sequencers.Unanswered → List clients.Request → ℕ → Type 0
IsSplit low [] left rs high = numbered.AreNumbered low left rs high
IsSplit low (g ∷ gots) left [] high = ⊥
IsSplit low (g ∷ gots) left (r ∷ rs) high = (low < g.0) × (r.number ≡ g.0) × IsSplit g.0 gots left rs high

-- what a release does with the first call, by the tests
abbrev pub one_more : sequencers.Unanswered → sequencers.Release → sequencers.Release
one_more u r = record r { items = sequencers.got_item u.number u.got ++ r.items }

abbrev pub first_by : Bool → Bool → ℕ → ℕ → sequencers.Unanswered → List sequencers.Unanswered → sequencers.Release → sequencers.Release
first_by stops is_past seen read u us more =
    if stops then record { items = []; again = None; calls = u ∷ us; seen = seen; read = read }
    else if is_past then record { items = []; again = Some u.number; calls = record u { got = None } ∷ us; seen = seen; read = read }
    else one_more u more

split_first : (heard seen read low : ℕ) (u : sequencers.Unanswered) (us : List sequencers.Unanswered) (s : clients.Request) (rs : List clients.Request) (high : ℕ)
    (o : Option Got) (is_past : Bool) (more : sequencers.Release) → u.got ≡ o → numbered.AreNumbered low (u ∷ us) (s ∷ rs) high → IsSplit u.number more.items more.calls rs high
    → (let r = first_by (sequencers.is_stopping heard o) is_past seen read u us more in IsSplit low r.items r.calls (s ∷ rs) high)
split_first heard seen read low u us s rs high None is_past more e is rest = is
split_first heard seen read low u us s rs high (Some g) is_past more e is rest = by_tests (sequencers.is_stopping heard (Some g)) is_past
  where
    by_tests : (a b : Bool) → (let r = first_by a b seen read u us more in IsSplit low r.items r.calls (s ∷ rs) high)
    by_tests true b = is
    by_tests false true = is
    by_tests false false = rw e (is.0, is.1, rest)

-- a release splits the calls
release_splits : (heard seen read low : ℕ) (us : List sequencers.Unanswered) (rs : List clients.Request) (high : ℕ) → numbered.AreNumbered low us rs high
    → (let r = sequencers.release_from heard seen read us in IsSplit low r.items r.calls rs high)
release_splits heard seen read low [] rs high is = is
release_splits heard seen read low (u ∷ us) [] high is = absurd is
release_splits heard seen read low (u ∷ us) (s ∷ rs) high is =
    split_first heard seen read low u us s rs high u.got (sequencers.is_past read u)
    (sequencers.release_from heard (max seen (sequencers.place_in u.got)) (if sequencers.is_query u then sequencers.place_in u.got else read) us) refl is
    (release_splits heard (max seen (sequencers.place_in u.got)) (if sequencers.is_query u then sequencers.place_in u.got else read) u.number us rs high is.3)

-- numbers above one
abbrev pub AreGotsAbove : ℕ → List (ℕ × Got) → Type 0
AreGotsAbove n [] = Unit {0}
AreGotsAbove n (g ∷ gots) = (n < g.0) × AreGotsAbove n gots

abbrev pub AreLeftAbove : ℕ → List sequencers.Unanswered → Type 0
AreLeftAbove n [] = Unit {0}
AreLeftAbove n (u ∷ us) = (n < u.number) × AreLeftAbove n us

numbered_above : (n low : ℕ) (us : List sequencers.Unanswered) (rs : List clients.Request) (high : ℕ) → n ≤ low → numbered.AreNumbered low us rs high → AreLeftAbove n us
numbered_above n low [] rs high le is = tt
numbered_above n low (u ∷ us) [] high le is = absurd is
numbered_above n low (u ∷ us) (r ∷ rs) high le is =
    let less : low < u.number = is.0 in
    (omega arith, numbered_above n u.number us rs high (omega arith) is.3)

split_gots_above : (n low : ℕ) (gots : List (ℕ × Got)) (left : List sequencers.Unanswered) (rs : List clients.Request) (high : ℕ) → n ≤ low → IsSplit low gots left rs high → AreGotsAbove n gots
split_gots_above n low [] left rs high le is = tt
split_gots_above n low (g ∷ gots) left [] high le is = absurd is
split_gots_above n low (g ∷ gots) left (r ∷ rs) high le is =
    let less : low < g.0 = is.0 in
    (omega arith, split_gots_above n g.0 gots left rs high (omega arith) is.2)

split_left_above : (n low : ℕ) (gots : List (ℕ × Got)) (left : List sequencers.Unanswered) (rs : List clients.Request) (high : ℕ) → n ≤ low → IsSplit low gots left rs high → AreLeftAbove n left
split_left_above n low [] left rs high le is = numbered_above n low left rs high le is
split_left_above n low (g ∷ gots) left [] high le is = absurd is
split_left_above n low (g ∷ gots) left (r ∷ rs) high le is =
    let less : low < g.0 = is.0 in
    split_left_above n g.0 gots left rs high (omega arith) is.2

-- a number below all of them is not among them
lacks_none : (n : ℕ) (us : List sequencers.Unanswered) → AreLeftAbove n us → receipts.lacks_outcome us n ≡ false
lacks_none n [] above = refl
lacks_none n (u ∷ us) above =
    let less : n < u.number = above.0 in
    let apart : nat_eq u.number n ≡ false = grind (arith, nat_tests) in
    rw (apart, lacks_none n us above.1) refl

-- the first request is not looked for by numbers above its own
items_skip : (c : clients.Client) (r : clients.Request) (rs : List clients.Request) (gots : List (ℕ × Got)) → AreGotsAbove r.number gots
    → receipts.items_of (record c { requests = r ∷ rs }) gots ≡ receipts.items_of (record c { requests = rs }) gots
items_skip c r rs [] above = refl
items_skip c r rs (g ∷ gots) above =
    let less : r.number < g.0 = above.0 in
    let apart : nat_eq r.number g.0 ≡ false = grind (arith, nat_tests) in
    rw (apart, items_skip c r rs gots above.1) refl

-- the items of a release
items_in_order : (c : clients.Client) (low : ℕ) (gots : List (ℕ × Got)) (left : List sequencers.Unanswered) (rs : List clients.Request) (high : ℕ) → IsSplit low gots left rs high
    → receipts.items_of (record c { requests = rs }) gots ≡ giving.given_out (clients.own_session c.state) gots rs
items_in_order c low [] left rs high is = refl
items_in_order c low (g ∷ gots) left [] high is = absurd is
items_in_order c low (g ∷ gots) left (r ∷ rs) high is =
    let number : r.number ≡ g.0 = is.1 in
    let same : nat_eq r.number g.0 ≡ true = grind (arith, nat_tests) in
    let above : AreGotsAbove r.number gots = split_gots_above r.number g.0 gots left rs high (omega arith) is.2 in
    rw (same, items_skip c r rs gots above, items_in_order c g.0 gots left rs high is.2) refl

-- the requests that are left
abbrev pub AreAmong : List sequencers.Unanswered → List clients.Request → Type 0
AreAmong us [] = Unit {0}
AreAmong us (r ∷ rs) = (receipts.lacks_outcome us r.number ≡ true) × AreAmong us rs

among_more : (u : sequencers.Unanswered) (us : List sequencers.Unanswered) (rs : List clients.Request) → AreAmong us rs → AreAmong (u ∷ us) rs
among_more u us [] are = tt
among_more u us (r ∷ rs) are = (by_test (nat_eq u.number r.number), among_more u us rs are.1)
  where
    by_test : (b : Bool) → (b || receipts.lacks_outcome us r.number) ≡ true
    by_test true = refl
    by_test false = are.0

numbered_among : (low : ℕ) (us : List sequencers.Unanswered) (rs : List clients.Request) (high : ℕ) → numbered.AreNumbered low us rs high → AreAmong us rs
numbered_among low us [] high is = tt
numbered_among low [] (r ∷ rs) high is = absurd is
numbered_among low (u ∷ us) (r ∷ rs) high is =
    let number : r.number ≡ u.number = is.1 in
    let same : nat_eq u.number r.number ≡ true = grind (arith, nat_tests) in
    (rw same refl, among_more u us rs (numbered_among u.number us rs high is.3))

left_all : (us : List sequencers.Unanswered) (rs : List clients.Request) → AreAmong us rs → receipts.requests_left rs us ≡ rs
left_all us [] are = refl
left_all us (r ∷ rs) are = rw (are.0, left_all us rs are.1) refl

left_in_order : (low : ℕ) (gots : List (ℕ × Got)) (left : List sequencers.Unanswered) (rs : List clients.Request) (high : ℕ) → IsSplit low gots left rs high
    → receipts.requests_left rs left ≡ giving.requests_after gots rs
left_in_order low [] left rs high is = left_all left rs (numbered_among low left rs high is)
left_in_order low (g ∷ gots) left [] high is = absurd is
left_in_order low (g ∷ gots) left (r ∷ rs) high is =
    let number : r.number ≡ g.0 = is.1 in
    let none : receipts.lacks_outcome left r.number ≡ false = lacks_none r.number left (split_left_above r.number g.0 gots left rs high (omega arith) is.2) in
    rw none (left_in_order g.0 gots left rs high is.2)

-- a release by order is a release by number
pub gives_releases : (c : clients.Client) (first : List Item) → numbered.IsSound c → giving.gives c first ≡ receipts.releases c first
gives_releases c first sound =
    let r : sequencers.Release = sequencers.release_of c.sequencer in
    let split : IsSplit 0 r.items r.calls c.requests c.calls = release_splits c.sequencer.heard c.sequencer.seen c.sequencer.read 0 c.sequencer.calls c.requests c.calls sound.numbered in
    rw (sym (left_in_order 0 r.items r.calls c.requests c.calls split), sym (items_in_order c 0 r.items r.calls c.requests c.calls split)) refl

-- calls and requests fit together after a release
numbered_lower : (low m : ℕ) (us : List sequencers.Unanswered) (rs : List clients.Request) (high : ℕ) → low ≤ m → numbered.AreNumbered m us rs high → numbered.AreNumbered low us rs high
numbered_lower low m [] [] high le is = omega arith
numbered_lower low m [] (r ∷ rs) high le is = is
numbered_lower low m (u ∷ us) [] high le is = is
numbered_lower low m (u ∷ us) (r ∷ rs) high le is = (let less : m < u.number = is.0 in omega arith, is.1, is.2, is.3)

split_numbered : (low m : ℕ) (gots : List (ℕ × Got)) (left : List sequencers.Unanswered) (rs : List clients.Request) (high : ℕ) → low ≤ m → IsSplit m gots left rs high
    → numbered.AreNumbered low left (giving.requests_after gots rs) high
split_numbered low m [] left rs high le is = numbered_lower low m left rs high le is
split_numbered low m (g ∷ gots) left [] high le is = absurd is
split_numbered low m (g ∷ gots) left (r ∷ rs) high le is =
    let less : m < g.0 = is.0 in
    split_numbered low g.0 gots left rs high (omega arith) is.2

pub sound_releases : (c : clients.Client) (first : List Item) → numbered.IsSound c → numbered.IsSound (receipts.releases c first).client
sound_releases c first sound =
    let r : sequencers.Release = sequencers.release_of c.sequencer in
    let split : IsSplit 0 r.items r.calls c.requests c.calls = release_splits c.sequencer.heard c.sequencer.seen c.sequencer.read 0 c.sequencer.calls c.requests c.calls sound.numbered in
    let left : receipts.requests_left c.requests r.calls ≡ giving.requests_after r.items c.requests = left_in_order 0 r.items r.calls c.requests c.calls split in
    record { last = sound.last; numbered = rw left (split_numbered 0 0 r.items r.calls c.requests c.calls (omega arith) split) }
