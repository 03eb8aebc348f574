-- A place that is above every session and batch: the next one is, after the entry of the place.
use Rattle.std.proofs.Common.{◌≡◌, ℕ, zero, suc, ◌+◌, ◌<◌, ◌≤◌, ◌∙◌, refl, sym, ap, subst, arith, Bool, true, false, not, cond, nat_eq, nat_le, is_some, List, [], ◌∷◌, ◌++◌, map, filter, Option, Some, None}
use Rattle.std.specs.Prelude.{find, if◌then◌else◌, IfSome}
use Rattle.std.specs.List.{AllByRecursion}
use Rattle.std.proofs.lemmas.Bool.Decides.{nat_tests}
use Rattle.ax_types.specs.declared.entries.Act.{Act}
use Rattle.ax_types.specs.declared.entries.Act.TheVariants as act
use Rattle.ax_types.specs.declared.entries.Body.{Body}
use Rattle.ax_types.specs.declared.entries.Body.TheVariants as body
use Rattle.ax_types.specs.declared.ops.Op.{Op}
use Rattle.ax_types.specs.declared.packets.Payload.{Payload}
use Rattle.ax_types.specs.declared.packets.Payload.TheVariants as payload
use Rattle.ax_types.specs.declared.replies.Event.{Event}
use Rattle.ax_types.specs.declared.replies.How.{How}
use Rattle.ax_types.specs.declared.replies.How.TheVariants as how
use Rattle.ax_types.specs.declared.replies.Reply.{Reply}
use Rattle.ax_types.specs.declared.sessions.KeptReply.{KeptReply}
use Rattle.ax_types.specs.declared.sessions.SessionState.{SessionState}
use Rattle.ax_types.specs.declared.sessions.SessionState.TheVariants as state
use Rattle.spec_sessions.specs.Outboxes as outboxes
use Rattle.spec_sessions.specs.Sessions as session_states
use Rattle.spec_sessions.specs.Tables as tables
use Rattle.sess_table.specs.TableParts as table_parts
use Rattle.sess_state.specs.SessionParts as session_parts

all_weaker : {X : Type 0} (P Q : X → Type 0) → ((x : X) → P x → Q x) → (xs : List X) → AllByRecursion P xs → AllByRecursion Q xs
all_weaker P Q more [] all = tt
all_weaker P Q more (x ∷ xs) all = (more x all.0, all_weaker P Q more xs all.1)

all_push : {X : Type 0} (P : X → Type 0) (xs : List X) (y : X) → AllByRecursion P xs → P y → AllByRecursion P (xs ++ y ∷ [])
all_push P [] y all one = (one, tt)
all_push P (x ∷ xs) y all one = (all.0, all_push P xs y all.1 one)

all_filter : {X : Type 0} (P : X → Type 0) (p : X → Bool) (xs : List X) → AllByRecursion P xs → AllByRecursion P (filter p xs)
all_filter P p [] all = tt
all_filter P p (x ∷ xs) all = by_test (p x) (all_filter P p xs all.1)
  where
    by_test : (b : Bool) → AllByRecursion P (filter p xs) → AllByRecursion P (cond b (x ∷ filter p xs) (filter p xs))
    by_test true rest = (all.0, rest)
    by_test false rest = rest

all_map : {X : Type 0} (P : X → Type 0) (f : X → X) → ((x : X) → P x → P (f x)) → (xs : List X) → AllByRecursion P xs → AllByRecursion P (map f xs)
all_map P f keeps [] all = tt
all_map P f keeps (x ∷ xs) all = (keeps x all.0, all_map P f keeps xs all.1)

next_less : (m n : ℕ) → m < n → m < suc n
next_less m n lt = omega arith

-- a live session is one of the live ones
live_below : (session place : ℕ) (live : List tables.Live) → AllByRecursion (λ l. l.session < place) live → is_some (find (λ (l : tables.Live). nat_eq l.session session) live) ≡ true → session < place
live_below session place [] all found = cc
live_below session place (l ∷ live) all found = by_test (nat_eq l.session session) refl found (live_below session place live all.1)
  where
    by_test : (b : Bool) → nat_eq l.session session ≡ b → is_some (cond b (Some l) (find (λ (l : tables.Live). nat_eq l.session session) live)) ≡ true
        → (is_some (find (λ (l : tables.Live). nat_eq l.session session) live) ≡ true → session < place) → session < place
    by_test true e found rest = let same : l.session ≡ session = grind (arith, nat_tests) in subst (λ (n : ℕ). n < place) same all.0
    by_test false e found rest = rest found

live_found : (x : Option tables.Live) (y : Option tables.PastSession) → tables.state_with x y ≡ state.Live → is_some x ≡ true
live_found (Some l) y e = refl
live_found None (Some p) e = cc
live_found None None e = cc

due_found : (timeout time : ℕ) (x : Option tables.Live) → tables.is_due_in timeout time x ≡ true → is_some x ≡ true
due_found timeout time (Some l) e = refl
due_found timeout time None e = cc

live_state : (x : Option tables.Live) (y : Option tables.PastSession) → is_some x ≡ true → tables.state_with x y ≡ state.Live
live_state (Some l) y e = refl
live_state None y e = cc

-- a session that may expire is live
pub expiring_live : (t : tables.Table) (session time : ℕ) → tables.may_expire t session time ≡ true → tables.state_of t session ≡ state.Live
expiring_live t session time e = live_state (tables.live_session t session) (tables.past_session t session) (due_found t.timeout time (tables.live_session t session) e)

-- the table after an entry
new_registered : (t : tables.Table) (place client opening time : ℕ) → table_parts.IsNew t place → table_parts.IsNew (tables.registered t place client opening time) (suc place)
new_registered t place client opening time new = (
  all_push (λ (l : tables.Live). l.session < suc place) t.live (record { session = place; client = client; opening = opening; sign = time })
      (all_weaker (λ (l : tables.Live). l.session < place) (λ (l : tables.Live). l.session < suc place) (λ l lt. next_less l.session place lt) t.live new.0) (omega arith),
  all_weaker (λ (p : tables.PastSession). p.session < place) (λ (p : tables.PastSession). p.session < suc place) (λ p lt. next_less p.session place lt) t.past new.1,
)

new_later : (t : tables.Table) (place : ℕ) → table_parts.IsNew t place → table_parts.IsNew t (suc place)
new_later t place new = (
  all_weaker (λ (l : tables.Live). l.session < place) (λ (l : tables.Live). l.session < suc place) (λ l lt. next_less l.session place lt) t.live new.0,
  all_weaker (λ (p : tables.PastSession). p.session < place) (λ (p : tables.PastSession). p.session < suc place) (λ p lt. next_less p.session place lt) t.past new.1,
)

new_signed : (t : tables.Table) (place session time : ℕ) → table_parts.IsNew t place → table_parts.IsNew (tables.signed t session time) place
new_signed t place session time new = (all_map (λ (l : tables.Live). l.session < place) (tables.with_sign session time) keeps t.live new.0, new.1)
  where
    keeps : (l : tables.Live) → l.session < place → (tables.with_sign session time l).session < place
    keeps l lt = by_test (nat_eq l.session session)
      where
        by_test : (b : Bool) → (let k : tables.Live = (if b then record l { sign = time } else l) in k.session) < place
        by_test true = lt
        by_test false = lt

new_finished : (t : tables.Table) (place at session : ℕ) (h : How) → session < place → table_parts.IsNew t place → table_parts.IsNew (tables.finished t session at h) place
new_finished t place at session h less new = (
  all_filter (λ (l : tables.Live). l.session < place) (λ (l : tables.Live). not (nat_eq l.session session)) t.live new.0,
  all_push (λ (p : tables.PastSession). p.session < place) t.past (record { session = session; place = at; how = h }) new.1 less,
)

-- the outboxes after an entry
abbrev SessionBelow : ℕ → outboxes.Outbox → Type 0
SessionBelow place o = o.session < place

abbrev BatchBelow : ℕ → outboxes.Outbox → Type 0
BatchBelow place o = o.batches.last < place

change_keeps : (P : outboxes.Outbox → Type 0) (f : outboxes.Outbox → outboxes.Outbox) (session : ℕ) → ((o : outboxes.Outbox) → P o → P (f o)) → (boxes : List outboxes.Outbox)
    → AllByRecursion P boxes → AllByRecursion P (outboxes.change_outbox f session boxes)
change_keeps P f session keeps boxes all = all_map P (λ (o : outboxes.Outbox). if nat_eq o.session session then f o else o) one boxes all
  where
    one : (o : outboxes.Outbox) → P o → P (if nat_eq o.session session then f o else o)
    one o h = by_test (nat_eq o.session session)
      where
        by_test : (b : Bool) → P (if b then f o else o)
        by_test true = keeps o h
        by_test false = h

-- what holds of the parts after an entry: all is below the next place, and no batch is of this one
record FitNext (place : ℕ) (t : tables.Table) (boxes : List outboxes.Outbox) : Type 0 where
  pub table : table_parts.IsNew t (suc place)
  pub sessions : AllByRecursion (SessionBelow (suc place)) boxes
  pub batches : AllByRecursion (BatchBelow place) boxes

fit_same : (place : ℕ) (t : tables.Table) (boxes : List outboxes.Outbox) → session_parts.LieBelow place t boxes → FitNext place t boxes
fit_same place t boxes below = record {
  table = new_later t place below.table;
  sessions = all_weaker (SessionBelow place) (SessionBelow (suc place)) (λ o lt. next_less o.session place lt) boxes below.sessions;
  batches = below.batches;
}

fit_ending : (place session : ℕ) (h : How) (t : tables.Table) (boxes : List outboxes.Outbox) → session < place → session_parts.LieBelow place t boxes
    → FitNext place (tables.finished t session place h) (outboxes.without_outbox boxes session)
fit_ending place session h t boxes less below = record {
  table = new_later (tables.finished t session place h) place (new_finished t place place session h less below.table);
  sessions = all_filter (SessionBelow (suc place)) (λ (o : outboxes.Outbox). not (nat_eq o.session session)) boxes (fit_same place t boxes below).sessions;
  batches = all_filter (BatchBelow place) (λ (o : outboxes.Outbox). not (nat_eq o.session session)) boxes below.batches;
}

abbrev Fits : ℕ → session_states.Effect → Type 0
Fits place e = FitNext place e.table e.boxes

abbrev Below : ℕ → session_states.Sessions → Type 0
Below place s = session_parts.LieBelow place s.table s.boxes

fit_end : (place session : ℕ) (s : session_states.Sessions) (x : SessionState) → Below place s → Fits place (session_states.told_end s session x)
fit_end place session s state.Unknown below = fit_same place s.table s.boxes below
fit_end place session s state.Live below = fit_same place s.table s.boxes below
fit_end place session s (state.Ended p h) below = fit_same place s.table s.boxes below

fit_registering : (place time client opening : ℕ) (s : session_states.Sessions) → 0 < place → Below place s → Fits place (session_states.registering s place time client opening)
fit_registering place time client opening s positive below = record {
  table = new_registered s.table place client opening time below.table;
  sessions = all_push (SessionBelow (suc place)) s.boxes (outboxes.new_outbox place) (fit_same place s.table s.boxes below).sessions (omega arith);
  batches = all_push (BatchBelow place) s.boxes (outboxes.new_outbox place) below.batches positive;
}

fit_keeping : (place time session answered heard : ℕ) (s : session_states.Sessions) (x : SessionState) → Below place s → Fits place (session_states.keeping s time session answered heard x)
fit_keeping place time session answered heard s state.Live below = record {
  table = new_later (tables.signed s.table session time) place (new_signed s.table place session time below.table);
  sessions = change_keeps (SessionBelow (suc place)) (outboxes.trimmed answered heard) session (λ o h. h) s.boxes (fit_same place s.table s.boxes below).sessions;
  batches = change_keeps (BatchBelow place) (outboxes.trimmed answered heard) session (λ o h. h) s.boxes below.batches;
}
fit_keeping place time session answered heard s state.Unknown below = fit_same place s.table s.boxes below
fit_keeping place time session answered heard s (state.Ended p h) below = fit_same place s.table s.boxes below

fit_again : (place session : ℕ) (s : session_states.Sessions) (x : Option KeptReply) → Below place s → Fits place (session_states.again_from s session x)
fit_again place session s None below = fit_same place s.table s.boxes below
fit_again place session s (Some k) below = fit_same place s.table s.boxes below

fit_if : (place : ℕ) (b : Bool) (d e : session_states.Effect) → Fits place d → Fits place e → Fits place (if b then d else e)
fit_if place true d e fd fe = fd
fit_if place false d e fd fe = fe

fit_live : (place session seq : ℕ) (name : List ℕ) (o : Op) (last : ℕ) (s : session_states.Sessions) → Below place s → Fits place (session_states.commanding_live s session seq name o last)
fit_live place session seq name o last s below =
    fit_if place (nat_eq seq (suc last)) (record (session_states.nothing s) { act = act.Do session name o; command = Some (session, seq) })
    (if nat_le seq last then session_states.again_from s session (outboxes.kept_reply s.boxes session seq) else session_states.only_answer s (Some (payload.Gap session last)))
    (fit_same place s.table s.boxes below)
    (fit_if place (nat_le seq last) (session_states.again_from s session (outboxes.kept_reply s.boxes session seq)) (session_states.only_answer s (Some (payload.Gap session last)))
    (fit_again place session s (outboxes.kept_reply s.boxes session seq) below) (fit_same place s.table s.boxes below))

fit_commanding : (place session seq : ℕ) (name : List ℕ) (o : Op) (s : session_states.Sessions) (x : SessionState) → Below place s → Fits place (session_states.commanding s session seq name o x)
fit_commanding place session seq name o s state.Live below = fit_live place session seq name o (outboxes.last_seq s.boxes session) s below
fit_commanding place session seq name o s state.Unknown below = fit_same place s.table s.boxes below
fit_commanding place session seq name o s (state.Ended p h) below = fit_same place s.table s.boxes below

fit_closing : (place session : ℕ) (s : session_states.Sessions) (x : SessionState) → session_states.session_state s session ≡ x → Below place s → Fits place (session_states.closing s place session x)
fit_closing place session s state.Live live below =
    fit_ending place session how.Closed s.table s.boxes
    (live_below session place s.table.live below.table.0 (live_found (tables.live_session s.table session) (tables.past_session s.table session) live)) below
fit_closing place session s state.Unknown live below = fit_same place s.table s.boxes below
fit_closing place session s (state.Ended p h) live below = fit_same place s.table s.boxes below

fit_expiring : (place time session : ℕ) (s : session_states.Sessions) → Below place s → Fits place (session_states.expiring s place time session)
fit_expiring place time session s below = by_test (tables.may_expire s.table session time) refl
  where
    by_test : (b : Bool) → tables.may_expire s.table session time ≡ b
        → Fits place (if b then session_states.ending s place session how.Expired (act.Expire session) None else session_states.nothing s)
    by_test true e = fit_ending place session how.Expired s.table s.boxes
        (live_below session place s.table.live below.table.0 (due_found s.table.timeout time (tables.live_session s.table session) e)) below
    by_test false e = fit_same place s.table s.boxes below

fit_effect : (place time : ℕ) (b : Body) (s : session_states.Sessions) → 0 < place → Below place s → Fits place (session_states.effect s place time b)
fit_effect place time body.Blank s positive below = fit_same place s.table s.boxes below
fit_effect place time (body.Register client opening) s positive below = fit_registering place time client opening s positive below
fit_effect place time (body.Keep client session answered heard) s positive below = fit_keeping place time session answered heard s (session_states.session_state s session) below
fit_effect place time (body.Command client session seq name o) s positive below = fit_commanding place session seq name o s (session_states.session_state s session) below
fit_effect place time (body.Close client session) s positive below = fit_closing place session s (session_states.session_state s session) refl below
fit_effect place time (body.Expire session) s positive below = fit_expiring place time session s below

-- no batch of the outboxes after an entry is of its place
pub earlier_batches : (place time : ℕ) (b : Body) (s : session_states.Sessions) → 0 < place → session_parts.LieBelow place s.table s.boxes
    → AllByRecursion (λ (o : outboxes.Outbox). o.batches.last < place) (session_states.effect s place time b).boxes
earlier_batches place time b s positive below = (fit_effect place time b s positive below).batches

-- after the sessions were told, and a reply was kept, all is below the next place
told_session : (place next : ℕ) (es : List Event) (o : outboxes.Outbox) → o.session < next → (outboxes.box_with place es o).session < next
told_session place next [] o lt = lt
told_session place next (e ∷ es) o lt = lt

told_batch : (place : ℕ) (es : List Event) (o : outboxes.Outbox) → o.batches.last < place → (outboxes.box_with place es o).batches.last < suc place
told_batch place [] o lt = next_less o.batches.last place lt
told_batch place (e ∷ es) o lt = omega arith

told_sessions : (place next : ℕ) (told : List (ℕ × Event)) (boxes : List outboxes.Outbox) → AllByRecursion (SessionBelow next) boxes → AllByRecursion (SessionBelow next) (outboxes.all_told place told boxes)
told_sessions place next told [] all = tt
told_sessions place next told (o ∷ boxes) all = (told_session place next (outboxes.told_to o.session told) o all.0, told_sessions place next told boxes all.1)

told_batches : (place : ℕ) (told : List (ℕ × Event)) (boxes : List outboxes.Outbox) → AllByRecursion (BatchBelow place) boxes → AllByRecursion (BatchBelow (suc place)) (outboxes.all_told place told boxes)
told_batches place told [] all = tt
told_batches place told (o ∷ boxes) all = (told_batch place (outboxes.told_to o.session told) o all.0, told_batches place told boxes all.1)

kept_boxes : (P : outboxes.Outbox → Type 0) → ((k : KeptReply) (o : outboxes.Outbox) → P o → P (outboxes.with_reply k o)) → (boxes : List outboxes.Outbox) (place : ℕ) (command : Option (ℕ × ℕ)) (r : Reply)
    → AllByRecursion P boxes → AllByRecursion P (session_states.boxes_with boxes place command r)
kept_boxes P keeps boxes place None r all = all
kept_boxes P keeps boxes place (Some c) r all =
    change_keeps P (outboxes.with_reply (session_states.cached_reply place boxes c r)) c.0 (keeps (session_states.cached_reply place boxes c r)) boxes all

pub below_next : (place time : ℕ) (b : Body) (s : session_states.Sessions) (told : List (ℕ × Event)) (r : Reply) → 0 < place → session_parts.LieBelow place s.table s.boxes
    → (let e = session_states.effect s place time b in session_parts.LieBelow (suc place) e.table (session_states.boxes_with (outboxes.all_told place told e.boxes) place e.command r))
below_next place time b s told r positive below =
    let e : session_states.Effect = session_states.effect s place time b in
    let fits : FitNext place e.table e.boxes = fit_effect place time b s positive below in record {
      table = fits.table;
      sessions = kept_boxes (SessionBelow (suc place)) (λ k o h. h) (outboxes.all_told place told e.boxes) place e.command r (told_sessions place (suc place) told e.boxes fits.sessions);
      batches = kept_boxes (BatchBelow (suc place)) (λ k o h. h) (outboxes.all_told place told e.boxes) place e.command r (told_batches place told e.boxes fits.batches);
    }

-- the command that an entry carries out is the next one of its session
told_last : (place session : ℕ) (told : List (ℕ × Event)) (boxes : List outboxes.Outbox) → outboxes.last_seq (outboxes.all_told place told boxes) session ≡ outboxes.last_seq boxes session
told_last place session told [] = refl
told_last place session told (o ∷ boxes) = by_events (outboxes.told_to o.session told) (told_last place session told boxes)
  where
    by_test : (b : Bool) (p q : outboxes.Outbox) → p.cache.last ≡ q.cache.last → outboxes.last_seq (outboxes.all_told place told boxes) session ≡ outboxes.last_seq boxes session
        → outboxes.last_seq_in (cond b (Some p) (outboxes.outbox_of (outboxes.all_told place told boxes) session)) ≡ outboxes.last_seq_in (cond b (Some q) (outboxes.outbox_of boxes session))
    by_test true p q same rest = same
    by_test false p q same rest = rest

    by_events : (es : List Event) → outboxes.last_seq (outboxes.all_told place told boxes) session ≡ outboxes.last_seq boxes session
        → outboxes.last_seq (outboxes.box_with place es o ∷ outboxes.all_told place told boxes) session ≡ outboxes.last_seq (o ∷ boxes) session
    by_events [] rest = by_test (nat_eq o.session session) o o refl rest
    by_events (e ∷ es) rest = by_test (nat_eq o.session session) (outboxes.box_with place (e ∷ es) o) o refl rest

abbrev IsNext : ℕ → List (ℕ × Event) → session_states.Effect → Type 0
IsNext place told e = IfSome e.command (λ c. c.1 ≡ outboxes.last_seq (outboxes.all_told place told e.boxes) c.0 + 1)

next_if : (place : ℕ) (told : List (ℕ × Event)) (b : Bool) (d e : session_states.Effect) → (b ≡ true → IsNext place told d) → IsNext place told e → IsNext place told (if b then d else e)
next_if place told true d e nd ne = nd refl
next_if place told false d e nd ne = ne

next_again : (place session : ℕ) (told : List (ℕ × Event)) (s : session_states.Sessions) (x : Option KeptReply) → IsNext place told (session_states.again_from s session x)
next_again place session told s None = tt
next_again place session told s (Some k) = tt

next_live : (place session seq : ℕ) (told : List (ℕ × Event)) (name : List ℕ) (o : Op) (s : session_states.Sessions)
    → IsNext place told (session_states.commanding_live s session seq name o (outboxes.last_seq s.boxes session))
next_live place session seq told name o s =
    let last : ℕ = outboxes.last_seq s.boxes session in
    next_if place told (nat_eq seq (suc last)) (record (session_states.nothing s) { act = act.Do session name o; command = Some (session, seq) })
    (if nat_le seq last then session_states.again_from s session (outboxes.kept_reply s.boxes session seq) else session_states.only_answer s (Some (payload.Gap session last)))
    (λ e. let same : seq ≡ suc last = number seq (suc last) e in rw (told_last place session told s.boxes) (omega arith))
    (next_if place told (nat_le seq last) (session_states.again_from s session (outboxes.kept_reply s.boxes session seq)) (session_states.only_answer s (Some (payload.Gap session last)))
    (λ e. next_again place session told s (outboxes.kept_reply s.boxes session seq)) tt)
  where
    number : (m n : ℕ) → nat_eq m n ≡ true → m ≡ n
    number m n e = grind (arith, nat_tests)

next_end : (place session : ℕ) (told : List (ℕ × Event)) (s : session_states.Sessions) (x : SessionState) → IsNext place told (session_states.told_end s session x)
next_end place session told s state.Unknown = tt
next_end place session told s state.Live = tt
next_end place session told s (state.Ended p h) = tt

next_keeping : (place time session answered heard : ℕ) (told : List (ℕ × Event)) (s : session_states.Sessions) (x : SessionState) → IsNext place told (session_states.keeping s time session answered heard x)
next_keeping place time session answered heard told s state.Live = tt
next_keeping place time session answered heard told s state.Unknown = tt
next_keeping place time session answered heard told s (state.Ended p h) = tt

next_commanding : (place session seq : ℕ) (told : List (ℕ × Event)) (name : List ℕ) (o : Op) (s : session_states.Sessions) (x : SessionState) → IsNext place told (session_states.commanding s session seq name o x)
next_commanding place session seq told name o s state.Live = next_live place session seq told name o s
next_commanding place session seq told name o s state.Unknown = tt
next_commanding place session seq told name o s (state.Ended p h) = tt

next_closing : (place session : ℕ) (told : List (ℕ × Event)) (s : session_states.Sessions) (x : SessionState) → IsNext place told (session_states.closing s place session x)
next_closing place session told s state.Live = tt
next_closing place session told s state.Unknown = tt
next_closing place session told s (state.Ended p h) = tt

pub next_command : (place time : ℕ) (b : Body) (told : List (ℕ × Event)) (s : session_states.Sessions) → IfSome (session_states.effect s place time b).command
    (λ c. c.1 ≡ outboxes.last_seq (outboxes.all_told place told (session_states.effect s place time b).boxes) c.0 + 1)
next_command place time body.Blank told s = tt
next_command place time (body.Register client opening) told s = tt
next_command place time (body.Keep client session answered heard) told s = next_keeping place time session answered heard told s (session_states.session_state s session)
next_command place time (body.Command client session seq name o) told s = next_commanding place session seq told name o s (session_states.session_state s session)
next_command place time (body.Close client session) told s = next_closing place session told s (session_states.session_state s session)
next_command place time (body.Expire session) told s = next_if place told (tables.may_expire s.table session time) (session_states.ending s place session how.Expired (act.Expire session) None) (session_states.nothing s) (λ e. tt) tt
