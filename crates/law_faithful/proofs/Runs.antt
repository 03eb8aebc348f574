-- Every run is faithful.
use Rattle.std.proofs.Common.{◌≡◌, ℕ, zero, suc, List, [], ◌∷◌, ◌++◌, length, map, reverse, refl, ap, sym, ◌∙◌, subst, inl, inr, append_assoc, append-nil}
use Rattle.std.specs.Prelude.{Option, Some, None, flat_map, slice_get}
use Rattle.std.specs.List.{AllByRecursion}
use Rattle.std.proofs.lemmas.List.{reverse-append}
use Rattle.ax_types.specs.Places as lists
use Rattle.ax_types.specs.declared.items.Item.{Item}
use Rattle.ax_types.specs.declared.items.Item.TheVariants as item
use Rattle.ax_types.specs.declared.ops.Level.{Level}
use Rattle.ax_types.specs.declared.ops.Level.TheVariants as level
use Rattle.ax_types.specs.declared.ops.WindowCall.TheVariants as call
use Rattle.ax_types.specs.declared.steps.KeptStep.{KeptStep}
use Rattle.ax_types.specs.declared.steps.WatchKind.{WatchKind}
use Rattle.spec_book.specs.History as histories
use Rattle.spec_claims.specs.Transcript as transcripts
use Rattle.spec_claims.specs.Once as once
use Rattle.spec_claims.specs.Right as claims_right
use Rattle.spec_claims.specs.FreshReads as fresh_reads
use Rattle.spec_claims.specs.Heard as claims_heard
use Rattle.spec_claims.specs.OutcomeOrder as outcome_order
use Rattle.spec_claims.specs.Faithful as faithful
use Rattle.spec_cluster.specs.Cluster as clusters
use Rattle.spec_world.specs.Worlds as worlds
use Rattle.spec_world.specs.Moves as moves
use Rattle.spec_run.specs.Run as runs
use Rattle.spec_run.specs.KeptStores as kept_stores
use Rattle.law_client.specs.Promises as promises
use Rattle.law_client.specs.Standing as standing
use Rattle.law_growth.proofs.Cases.{none_some, some_same}
use Rattle.law_growth.proofs.Numbers.{at_cluster, history_follows, histories_follow}
use Rattle.law_answers.specs.TrueServers as true_servers
use Rattle.law_answers.proofs.Lasting.{servers_start}
use Rattle.law_sessions.proofs.Lawful.{acts_are_lawful}
use Rattle.law_sessions.proofs.Commands.{acts_begin_commands}
use Rattle.law_hosts.specs.Ledger as ledgers
use Rattle.law_hosts.proofs.Applied.{new_so_far, history_is_of_committed, committed_times_rise}
use Rattle.law_items.specs.Ordered as ordered
use Rattle.law_items.proofs.Below.{below, each_append}
use Rattle.law_items.proofs.Leads.{new_led}
use Rattle.law_items.proofs.Order.{node_items_are_ordered, history_is_counted}
use Rattle.law_seats.specs.Seats as seats
use Rattle.law_seats.proofs.Seats.{each_step_seats}
use Rattle.law_seats.proofs.Runs.{runs_are_claimed}
use Rattle.law_asked.proofs.Runs.{runs_are_said}
use Rattle.law_faithful.specs.Faith as faith
use Rattle.law_faithful.proofs.Steps.{below_early, each_since, each_more, true_kept, step_holds}
use Rattle.law_faithful.proofs.Seating.{all_watches}
use Rattle.law_faithful.proofs.Watches.{AreKnown, step_watched}
use Rattle.law_faithful.proofs.Marks.{IsReachCalled, AreMarked, step_marks}

-- the beginning
nowhere : {X : Type 0} (P : Option X → Type 0) (p : ℕ) → P (lists.at_place [] p) → P None
nowhere P zero h = h
nowhere P (suc p) h = h

no_led : (i : ℕ) (d : clusters.Led) → lists.at_place [] i ≡ Some d → ⊥
no_led zero d e = cc (e)
no_led (suc i) d e = cc (e)

new_holds : (nodes clients time : ℕ) (h : histories.History) → faith.RunStands nodes clients time h ledgers.new_ledger (worlds.new_world nodes clients time) []
new_holds nodes clients time h = record {
  so_far = new_so_far nodes clients time;
  led = new_led [] nodes clients time;
  shows = record { commits = refl; leaders = λ t. refl; told = λ i d e. absurd (no_led i d e); reaches = λ t. refl; covers = tt };
  numbered = λ s. tt;
  servers = λ k x at up. at_cluster (λ j y. true_servers.IsTrueServer time [] [] y.server) (worlds.new_host nodes time) (λ j. servers_start time [] [] j nodes (Rattle.ax_types.specs.Loads.nothing_loaded)) nodes k x at;
  told = tt;
  said = runs_are_said h nodes clients time [] tt;
  committed = tt;
  requests = record { queries = tt; commands = λ s p k c i. absurd (nowhere (Rattle.law_sessions.specs.Acts.IsCommandAt s k c) p i); ends = tt };
  stand = (runs_are_claimed h nodes clients time [] tt).stand;
}

-- what holds in the world after some steps, whatever history goes on from there
abbrev pub HoldsOn : (nodes clients time : ℕ) (l : ledgers.Ledger) (w : worlds.World) (early : List Item) → Type 0
HoldsOn nodes clients time l w early = (h : histories.History) → once.Begins w.history h → faith.RunStands nodes clients time h l w early

begins_on : (a b c : histories.History) → once.Begins a b → once.Begins b c → once.Begins a c
begins_on a b c x y = (x.0 ++ y.0, y.1 ∙ ap (λ hs. hs ++ y.0) x.1 ∙ append_assoc a x.0 y.0)

-- what watches show, as long as the items are right
are_watched : (nodes clients time : ℕ) (h : histories.History) (l : ledgers.Ledger) (w : worlds.World) (early : List Item) (steps : List KeptStep) (watches : List (ℕ × WatchKind)) (opened : List (ℕ × ℕ)) → HoldsOn nodes clients time l w early
    → once.Begins (runs.ran w steps).world.history h → transcripts.EachItem (claims_right.IsRight h) early → AreKnown watches (all_watches w.seats) → opened ≡ flat_map claims_heard.opened_by early
    → claims_heard.AreWatchedFrom watches opened (runs.ran w steps).shown
are_watched nodes clients time h l w early [] watches opened all b right known was_open = tt
are_watched nodes clients time h l w early (k ∷ steps) watches opened all b right known was_open =
    let m : moves.Moved = moves.moved w k in
    let step : once.Begins w.history m.world.history = history_follows w k in
    let after : once.Begins m.world.history h = begins_on m.world.history (runs.ran m.world steps).world.history h (histories_follow m.world steps) b in
    let next : HoldsOn nodes clients time (ledgers.ledger_by l w k) m.world (early ++ m.items) = (λ g c. step_holds nodes clients time g l w early k all c) in
    let x = all h (begins_on w.history m.world.history h step after) in
    let told : seats.AreTrueKept h w (reverse early) = true_kept nodes clients time h l w early x in
    let seat = each_step_seats h w (reverse early) k x.stand told in
    let new : transcripts.EachItem (claims_right.IsRight h) (early ++ m.items) = each_more (claims_right.IsRight h) early m.items right (each_since (promises.IsClaimed h) (claims_right.IsRight h) (λ above y c. c.right) (reverse early) m.items seat.claimed) in
    let s = step_watched h w early k watches opened x.stand told new known was_open in
    (s.items, are_watched nodes clients time h (ledgers.ledger_by l w k) m.world (early ++ m.items) steps (claims_heard.watches_after watches k.step m.items) (opened ++ flat_map claims_heard.opened_by m.items) next b new s.known s.opened_then)

-- nobody watches at the beginning
new_from : (a b j : ℕ) (ws : List WatchKind) → slice_get (all_watches (map worlds.new_watcher (lists.numbers_from a b))) j ≡ Some ws → [] ≡ ws
new_from a zero j ws e = none_some ws e
new_from a (suc b) zero ws e = some_same [] ws e
new_from a (suc b) (suc j) ws e = new_from (suc a) b j ws e

new_known : (nodes clients time : ℕ) → AreKnown [] (all_watches (worlds.new_world nodes clients time).seats)
new_known nodes clients time zero ws e = none_some ws e
new_known nodes clients time (suc j) ws e = new_from 1 clients j ws e

-- and of the items
pub record RunHolds (h : histories.History) (w : worlds.World) (early : List Item) (steps : List KeptStep) : Type 0 where
  pub through : seats.AreTrueThrough h w (reverse early) steps
  pub called : transcripts.EachBelow IsReachCalled (reverse early) (transcripts.transcript (runs.ran w steps).shown)
  pub committed : transcripts.EachBelow claims_right.IsCommitted (reverse early) (transcripts.transcript (runs.ran w steps).shown)
  pub before : (s : ℕ) → transcripts.EachBelow (once.IsCalledBefore h s) (reverse early) (transcripts.transcript (runs.ran w steps).shown)
  pub commands : (s : ℕ) → once.Begins (map (λ d. d.1) (histories.dos (runs.ran w steps).world.history s)) (once.commands s (early ++ transcripts.transcript (runs.ran w steps).shown))

onward : (P : List Item → Item → Type 0) (early xs ys : List Item) → transcripts.EachBelow P (reverse early) xs → transcripts.EachBelow P (reverse (early ++ xs)) ys → transcripts.EachBelow P (reverse early) (xs ++ ys)
onward P early xs ys h k = each_append P (reverse early) xs ys h (subst (λ above. transcripts.EachBelow P above ys) (sym (below_early early xs)) k)

begins_commands : (nodes clients time : ℕ) (h : histories.History) (l : ledgers.Ledger) (w : worlds.World) (early : List Item) → faith.RunStands nodes clients time h l w early → (s : ℕ) → once.Begins (map (λ d. d.1) (histories.dos w.history s)) (once.commands s early)
begins_commands nodes clients time h l w early x s =
    subst (λ g. once.Begins (map (λ d. d.1) (histories.dos g s)) (once.commands s early)) (sym x.so_far.stands.history) (acts_begin_commands w.timeout l.committed s (once.commands s early) (x.requests.commands s))

run_holds : (nodes clients time : ℕ) (h : histories.History) (l : ledgers.Ledger) (w : worlds.World) (early : List Item) (steps : List KeptStep) → HoldsOn nodes clients time l w early → once.Begins (runs.ran w steps).world.history h → RunHolds h w early steps
run_holds nodes clients time h l w early [] all b = record {
  through = tt;
  called = tt;
  committed = tt;
  before = λ s. tt;
  commands = λ s. subst (λ xs. once.Begins (map (λ d. d.1) (histories.dos w.history s)) (once.commands s xs)) (sym (append-nil early)) (begins_commands nodes clients time h l w early (all h b) s);
}
run_holds nodes clients time h l w early (k ∷ steps) all b =
    let m : moves.Moved = moves.moved w k in
    let later : List Item = transcripts.transcript (runs.ran m.world steps).shown in
    let step : once.Begins w.history m.world.history = history_follows w k in
    let after : once.Begins m.world.history h = begins_on m.world.history (runs.ran m.world steps).world.history h (histories_follow m.world steps) b in
    let next : HoldsOn nodes clients time (ledgers.ledger_by l w k) m.world (early ++ m.items) = (λ g c. step_holds nodes clients time g l w early k all c) in
    let rest = run_holds nodes clients time h (ledgers.ledger_by l w k) m.world (early ++ m.items) steps next b in
    let x = all h (begins_on w.history m.world.history h step after) in
    let marks : AreMarked h (reverse early) m.items = step_marks nodes clients time h l w early k all after in
    record {
      through = (true_kept nodes clients time h l w early x, subst (λ above. seats.AreTrueThrough h m.world above steps) (reverse-append early m.items) rest.through);
      called = onward IsReachCalled early m.items later marks.called rest.called;
      committed = onward claims_right.IsCommitted early m.items later marks.committed rest.committed;
      before = λ s. onward (once.IsCalledBefore h s) early m.items later (marks.before s) (rest.before s);
      commands = λ s. subst (λ xs. once.Begins (map (λ d. d.1) (histories.dos (runs.ran m.world steps).world.history s)) (once.commands s xs)) (append_assoc early m.items later) (rest.commands s);
    }

-- what holds of each item, and of each above it
abbrev AllAbove : (List Item → Item → Type 0) → List Item → Type 0
AllAbove P [] = Unit {0}
AllAbove P (x ∷ above) = P above x × AllAbove P above

each_above : (P R : List Item → Item → Type 0) (above xs : List Item) → AllAbove P above → transcripts.EachBelow P above xs → transcripts.EachBelow R above xs → transcripts.EachBelow (λ ys y. R ys y × P ys y × AllAbove P ys) above xs
each_above P R above [] a h k = tt
each_above P R above (x ∷ xs) a h k = ((k.0, h.0, a), each_above P R (x ∷ above) xs (h.0, a) h.1 k.1)

above_at : (P : List Item → Item → Type 0) (later : List Item) (x : Item) (earlier : List Item) → AllAbove P (later ++ x ∷ earlier) → P earlier x
above_at P [] x earlier h = h.0
above_at P (y ∷ later) x earlier h = above_at P later x earlier h.1

-- order
in_order : (above : List Item) (x : Item) → ordered.IsInOrder above x → IsReachCalled above x → claims_right.IsOrdered above x
in_order above (item.Commit p) a b = a
in_order above (item.Leader k t) a b = a
in_order above (item.Reach k t n s c) a b = (a.0, a.1, b)
in_order above (item.Halted xa) a b = tt
in_order above (item.Opened xa xb) a b = tt
in_order above (item.Called xa xb xc) a b = tt
in_order above (item.Event xa xb xc xd) a b = tt
in_order above (item.Watched xa xb xc xd xe) a b = tt
in_order above (item.Reply xa xb xc xd) a b = tt
in_order above (item.Read xa xb xc xd xe xf) a b = tt
in_order above (item.Ended xa xb xc) a b = tt
in_order above (item.Doubt xa xb) a b = tt
in_order above (item.Lost xa xb) a b = tt
in_order above (item.Unsent xa xb) a b = tt
in_order above (item.Unanswered xa xb) a b = tt
in_order above (item.Listed xa) a b = tt
in_order above (item.Pending xa xb xc xd) a b = tt
in_order above (item.Skip xa) a b = tt

-- fresh reads
fresh_at : (above : List Item) (s n p : ℕ) (l : Level) (reach : Option (ℕ × ℕ)) → AllAbove IsReachCalled above → standing.IsReachedBy l above s n p reach → fresh_reads.IsFreshAt s n p above l reach
fresh_at above s n p level.Lin None a r = r
fresh_at above s n p level.Lin (Some (t, i)) a r =
    let c = above_at IsReachCalled r.later (item.Reach r.node t i s n) r.earlier (subst (AllAbove IsReachCalled) r.there a) in
    record { node = r.node; called = call.Query level.Lin c.0 c.1; later = r.later; earlier = r.earlier; reached = r.there; asked = c.2; covers = r.covers }
fresh_at above s n p level.Seq None a r = r
fresh_at above s n p level.Seq (Some ti) a r = r

fresh : (above : List Item) (x : Item) → AllAbove IsReachCalled above → promises.NamesReach above x → fresh_reads.IsFresh above x
fresh above (item.Read s n l p reach r) a k = fresh_at above s n p l reach a k
fresh above (item.Commit p) a k = tt
fresh above (item.Leader i t) a k = tt
fresh above (item.Reach i t n s c) a k = tt
fresh above (item.Halted xa) a k = tt
fresh above (item.Opened xa xb) a k = tt
fresh above (item.Called xa xb xc) a k = tt
fresh above (item.Event xa xb xc xd) a k = tt
fresh above (item.Watched xa xb xc xd xe) a k = tt
fresh above (item.Reply xa xb xc xd) a k = tt
fresh above (item.Ended xa xb xc) a k = tt
fresh above (item.Doubt xa xb) a k = tt
fresh above (item.Lost xa xb) a k = tt
fresh above (item.Unsent xa xb) a k = tt
fresh above (item.Unanswered xa xb) a k = tt
fresh above (item.Listed xa) a k = tt
fresh above (item.Pending xa xb xc xd) a k = tt
fresh above (item.Skip xa) a k = tt

pub runs_are_faithful : faith.RunsAreFaithful
runs_are_faithful nodes clients time steps =
    let r : runs.Ran = runs.run nodes clients time steps in
    let h : histories.History = r.world.history in
    let all : List Item = transcripts.transcript r.shown in
    let holds : RunHolds h (worlds.new_world nodes clients time) [] steps = run_holds nodes clients time h ledgers.new_ledger (worlds.new_world nodes clients time) [] steps (λ g b. new_holds nodes clients time g) ([], sym (append-nil h)) in
    let c : seats.RunIsClaimed h nodes clients time steps = runs_are_claimed h nodes clients time steps holds.through in
    record {
      lawful = subst (histories.IsLawful time) (sym (history_is_of_committed nodes clients time steps)) (acts_are_lawful time (ledgers.ledger_of nodes clients time steps).committed (committed_times_rise nodes clients time steps));
      right = each_since (promises.IsClaimed h) (claims_right.IsRight h) (λ above x k. k.right) [] all c.claimed;
      committed = holds.committed;
      ordered = each_since (λ ys y. ordered.IsInOrder ys y × IsReachCalled ys y × AllAbove IsReachCalled ys) claims_right.IsOrdered (λ above x k. in_order above x k.0 k.1) [] all
          (each_above IsReachCalled ordered.IsInOrder [] all tt holds.called (node_items_are_ordered nodes clients time steps));
      fresh = each_since (λ ys y. promises.IsClaimed h ys y × IsReachCalled ys y × AllAbove IsReachCalled ys) fresh_reads.IsFresh (λ above x k. fresh above x k.2 k.0.reached) [] all
          (each_above IsReachCalled (promises.IsClaimed h) [] all tt holds.called c.claimed);
      watched = are_watched nodes clients time h ledgers.new_ledger (worlds.new_world nodes clients time) [] steps [] [] (λ g b. new_holds nodes clients time g) ([], sym (append-nil h)) tt (new_known nodes clients time) refl;
      ends = c.ends;
      sessions = λ s. record {
        once = record { in_order = holds.commands s; called_before = holds.before s };
        growing = each_since (promises.IsClaimed h) (fresh_reads.IsGrowing h s) (λ above x k. k.growing s) [] all c.claimed;
        heard = record { in_order = c.heard s; before_responses = each_since (promises.IsClaimed h) (claims_heard.IsAfterEvents h s) (λ above x k. k.after_events s) [] all c.claimed };
        outcomes = each_since (promises.IsClaimed h) (outcome_order.IsOutcome s) (λ above x k. k.outcome s) [] all c.claimed;
        in_session = each_since (promises.IsClaimed h) (outcome_order.IsInSession h s) (λ above x k. k.in_session s) [] all c.claimed;
      };
      whole = history_is_counted nodes clients time steps;
    }
