-- A step and a load of one node, as the definitions have them.
use Rattle.std.proofs.Common.{◌≡◌, ℕ, ◌≤◌, Bool, true, false, Option, Some, None, List, [], length, take, refl, ap, sym, ◌∙◌, subst, arith}
use Rattle.std.specs.Prelude.{nat_lt, slice_get, Result, Ok, Err, IfOk, OnOk, OnErr}
use Rattle.ax_types.specs.declared.entries.Entry.{Entry}
use Rattle.ax_types.specs.declared.entries.Loaded.{Loaded}
use Rattle.ax_types.specs.declared.ids.End.{End}
use Rattle.ax_types.specs.declared.ids.End.TheVariants as end
use Rattle.ax_types.specs.declared.packets.Payload.{Payload}
use Rattle.ax_types.specs.declared.packets.Payload.TheVariants as payload
use Rattle.ax_types.specs.declared.sessions.ServerInput.{ServerInput}
use Rattle.ax_types.specs.declared.sessions.ServerInput.TheVariants as asks
use Rattle.ax_types.specs.declared.sessions.ServerOut.{ServerOut}
use Rattle.spec_raft.specs.Positions as positions
use Rattle.spec_node.specs.Node as raft_nodes
use Rattle.spec_node.specs.Saving as saving
use Rattle.spec_server.specs.Servers as servers
use Rattle.spec_server.specs.ServerStep as server_steps
use Rattle.spec_world.specs.Worlds as worlds
use Rattle.store_journal.specs.StoreTold as stores
use Rattle.server_node.specs.ServerConditions as conditions
use Rattle.server_parts.specs.ServerStates as states
use Rattle.world_saves.specs.SaveChain as chains
use Rattle.world_saves.specs.declared.replaced.Replaced.{Replaced}
use Rattle.world_saves.proofs.ChainCases.{made_below, with_nothing}
use Rattle.world_hosts.specs.HostPlans as plans
use Rattle.world_hosts.specs.HostViews as views
use Rattle.world_hosts.specs.HostSteps as host_steps
use Rattle.world_hosts.specs.StoresMatch as matching
use Rattle.world_hosts.specs.declared.host.Host.{Host}
use Rattle.world_hosts.specs.declared.host.Standing.{Standing}
use Rattle.world_hosts.specs.declared.host.Standing.TheVariants as standing
use Rattle.world_hosts.specs.declared.served.Served.{Served}
use Rattle.world_hosts.specs.declared.served.Served.TheVariants as serving
use Rattle.world_hosts.proofs.StepKeeps.{number_stays}

-- a packet from another node or a client may be given to a server
comes_from : (s : servers.Server) (k n : ℕ) (from : End) (p : Payload) → s.raft.ballot.me ≡ k → s.raft.ballot.nodes ≡ n → plans.IsFromOther k n from → conditions.ComesFrom s from p
comes_from s k n from p e f o = by_payload p
  where
    other : (from : End) → plans.IsFromOther k n from → conditions.IsOther s from
    other (end.Node j) o = (λ g. o.0 (g ∙ e), subst (λ m. j ≤ m) (sym f) o.1)
    other (end.Client c) o = tt

    by_payload : (p : Payload) → conditions.ComesFrom s from p
    by_payload (payload.Vote term last last_term) = other from o
    by_payload (payload.VoteReply term given) = other from o
    by_payload (payload.Append term prev prev_term commit round entries) = other from o
    by_payload (payload.AppendReply term ok place round) = other from o
    by_payload _ = tt

fits : (s : servers.Server) (k n : ℕ) (i : ServerInput) → s.raft.ballot.me ≡ k → s.raft.ballot.nodes ≡ n → plans.FitsServer k n s i → host_steps.FitsStep s i
fits s k n (asks.Elect clock) e f h = h
fits s k n (asks.Beat clock) e f h = h
fits s k n (asks.Check clock) e f h = h
fits s k n (asks.Packet clock p) e f h = comes_from s k n p.«from» p.payload e f h

pub may_step : (s : servers.Server) (i : ServerInput) → host_steps.FitsStep s i → host_steps.IsBelowLast s i → conditions.MayStep s i
may_step s (asks.Elect clock) h b = (h, b)
may_step s (asks.Beat clock) h b = h
may_step s (asks.Check clock) h b = h
may_step s (asks.Packet clock p) h b = h

may_of : (n t k c : ℕ) (st : Standing) (i : ServerInput) → views.StandsWhole st → views.KnowsNumber n k st → plans.MayServe k n (Some (views.host_of n t k (record { clock = c; standing = st }))) i → host_steps.MayBeServed st i
may_of n t k c (standing.Up s) i w h m = (w, fits s.server k n i h.0 h.1 m.1)
may_of n t k c (standing.Down kept es) i w h m = cc

pub may_serve : (n t k : ℕ) (h : Host) (i : ServerInput) → views.StandsWhole h.standing → views.KnowsNumber n k h.standing → plans.MayServe k n (Some (views.host_of n t k h)) i → host_steps.MayBeServed h.standing i
may_serve n t k h i w e m = may_of n t k h.clock h.standing i w e m

-- a store matches a node in code as it matches its host
matches_of : (n t k c : ℕ) (st : Standing) (told : stores.Told) (needs : Bool) → matching.StoreMatches (views.host_of n t k (record { clock = c; standing = st })) (record { told = told; needs_load = needs }) → host_steps.MatchesStore st told needs
matches_of n t k c (standing.Up s) (stores.Content content) needs m = record { content = record { added = m.content.added; within = m.content.within; same = m.content.same }; loaded = m.loaded }
matches_of n t k c (standing.Down kept es) (stores.Content content) needs m = record { content = record { added = m.content.added; within = m.content.within; same = m.content.same }; loaded = m.loaded }
matches_of n t k c st (stores.Bad at) needs m = record { content = tt; loaded = m.loaded }
matches_of n t k c st stores.Untold needs m = record { content = tt; loaded = m.loaded }

pub matches_host : (n t k : ℕ) (h : Host) (told : stores.Told) (needs : Bool) → matching.StoreMatches (views.host_of n t k h) (record { told = told; needs_load = needs }) → host_steps.MatchesStore h.standing told needs
matches_host n t k h told needs m = matches_of n t k h.clock h.standing told needs m

host_matches_of : (n t k c : ℕ) (st : Standing) (told : stores.Told) (needs : Bool) → host_steps.MatchesStore st told needs → matching.StoreMatches (views.host_of n t k (record { clock = c; standing = st })) (record { told = told; needs_load = needs })
host_matches_of n t k c (standing.Up s) (stores.Content content) needs m = record { content = record { added = m.content.added; within = m.content.within; same = m.content.same }; loaded = m.loaded }
host_matches_of n t k c (standing.Down kept es) (stores.Content content) needs m = record { content = record { added = m.content.added; within = m.content.within; same = m.content.same }; loaded = m.loaded }
host_matches_of n t k c st (stores.Bad at) needs m = record { content = tt; loaded = m.loaded }
host_matches_of n t k c st stores.Untold needs m = record { content = tt; loaded = m.loaded }

pub host_matches : (n t k : ℕ) (h : Host) (told : stores.Told) (needs : Bool) → host_steps.MatchesStore h.standing told needs → matching.StoreMatches (views.host_of n t k h) (record { told = told; needs_load = needs })
host_matches n t k h told needs m = host_matches_of n t k h.clock h.standing told needs m

raft_kept : (st : Standing) → raft_nodes.kept_of (host_steps.server_in st).raft ≡ views.kept_for_sure st
raft_kept (standing.Up s) = refl
raft_kept (standing.Down kept es) = refl

no_stake : (st : Standing) → views.stands_up st ≡ true → views.stake_of st ≡ []
no_stake (standing.Up s) u = refl
no_stake (standing.Down kept es) u = cc

may_up : (st : Standing) (i : ServerInput) → host_steps.MayBeServed st i → views.stands_up st ≡ true
may_up (standing.Up s) i m = refl
may_up (standing.Down kept es) i m = absurd m

-- the saves of a step were kept or not, behind its server
pub served_so : (old mid new : Host) (i : ServerInput) (out : ServerOut) (r : Replaced) (before now : stores.Told) (needs : Bool) (served : Served)
    → mid ≡ host_steps.served_host old i → out ≡ server_steps.server_out (host_steps.server_in old.standing) i → host_steps.IsReplacedBy (host_steps.server_in old.standing) i r
    → host_steps.KeepsOrFalls mid out r new before now needs served → host_steps.ServesAs old i new served
served_so old mid new i out r before now needs (serving.Fine answer) e f l k = (k.given ∙ f, k.host ∙ e)
served_so old mid new i out r before now needs (serving.Failed saved) e f l k =
    let server = host_steps.server_in old.standing in
    let calls = saving.calls_of (server_steps.server_out server i).saves in
    let m : host_steps.Falls (host_steps.served_host old i) out.saves r new before now (serving.Failed saved) = subst (λ (h : Host). host_steps.Falls h out.saves r new before now (serving.Failed saved)) e k in
    let o : host_steps.Falls (host_steps.served_host old i) (server_steps.server_out server i).saves r new before now (serving.Failed saved) =
    subst (λ (o : ServerOut). host_steps.Falls (host_steps.served_host old i) o.saves r new before now (serving.Failed saved)) f m in (
      subst (λ n. nat_lt n (length calls) ≡ true) (sym o.falls.0) (made_below o.call (server_steps.server_out server i).saves o.fails.made),
      o.falls.1 (raft_nodes.kept_of server.raft) l.leads
          ∙ ap (λ n. host_steps.halted_host old (raft_nodes.kept_of server.raft) calls n) (sym o.falls.0)
          ∙ ap (λ kept. host_steps.halted_host old kept calls saved) (raft_kept old.standing),
    )

-- what the store tells then is what the node keeps
content_is : (kept content : Loaded) → host_steps.HoldsWith kept [] content → content ≡ kept
content_is kept content h = h.same ∙ with_nothing kept h.added

holds_none : (st : Standing) (told : stores.Told) → views.stands_up st ≡ true → host_steps.HoldsStake (views.kept_for_sure st) (views.stake_of st) told → host_steps.HoldsStake (raft_nodes.kept_of (host_steps.server_in st).raft) [] told
holds_none (standing.Up s) told u h = h
holds_none (standing.Down kept es) told u h = cc

fine_told : (s : servers.Server) (i : ServerInput) (out : ServerOut) (r : Replaced) (t : stores.Told) → out ≡ server_steps.server_out s i → host_steps.IsReplacedBy s i r → host_steps.HoldsStake (raft_nodes.kept_of s.raft) [] t
    → host_steps.HoldsStake (raft_nodes.kept_of (server_steps.server_after s i).raft) [] (chains.told_after t (saving.calls_of out.saves))
fine_told s i out r (stores.Content content) f l h = record {
  added = 0;
  within = omega arith;
  same = ap (λ (c : Loaded). saving.all_saved c (saving.calls_of out.saves)) (content_is (raft_nodes.kept_of s.raft) content h)
      ∙ ap (λ (o : ServerOut). saving.all_saved (raft_nodes.kept_of s.raft) (saving.calls_of o.saves)) f
      ∙ sym l.leads.all
      ∙ sym (with_nothing (raft_nodes.kept_of (server_steps.server_after s i).raft) 0);
}
fine_told s i out r (stores.Bad at) f l h = tt
fine_told s i out r stores.Untold f l h = tt

failed_told : (kept : Loaded) (calls : List saving.Save) (n added : ℕ) (t : stores.Told) → host_steps.HoldsStake kept [] t → added ≤ length (saving.at_stake (slice_get calls n))
    → host_steps.HoldsStake (saving.kept_at_failure kept calls n) (saving.at_stake (slice_get calls n)) (chains.told_with (chains.told_after t (take n calls)) (saving.at_stake (slice_get calls n)) added)
failed_told kept calls n added (stores.Content content) h w = record {
  added = added;
  within = w;
  same = ap (λ (c : Loaded). saving.with_rest (saving.all_saved c (take n calls)) (saving.at_stake (slice_get calls n)) added) (content_is kept content h);
}
failed_told kept calls n added (stores.Bad at) h w = tt
failed_told kept calls n added stores.Untold h w = tt

pub matches_so : (old mid new : Host) (i : ServerInput) (out : ServerOut) (r : Replaced) (before now : stores.Told) (needs was : Bool) (served : Served)
    → host_steps.MayBeServed old.standing i → host_steps.MatchesStore old.standing before was
    → mid ≡ host_steps.served_host old i → out ≡ server_steps.server_out (host_steps.server_in old.standing) i → host_steps.IsReplacedBy (host_steps.server_in old.standing) i r
    → host_steps.KeepsOrFalls mid out r new before now needs served → host_steps.MatchesStore new.standing now needs
matches_so old mid new i out r before now needs was (serving.Fine answer) may m e f l k =
    let server = host_steps.server_in old.standing in
    let after = server_steps.server_after server i in
    subst (λ (h : Host). host_steps.MatchesStore h.standing now needs) (sym (k.host ∙ e))
    (record {
      content = subst (λ t. host_steps.HoldsStake (raft_nodes.kept_of after.raft) [] t) (sym k.told) (fine_told server i out r before f l (holds_none old.standing before (may_up old.standing i may) m.content));
      loaded = λ u. k.loaded;
    })
matches_so old mid new i out r before now needs was (serving.Failed saved) may m e f l k =
    let server = host_steps.server_in old.standing in
    let calls = saving.calls_of (server_steps.server_out server i).saves in
    let p : host_steps.Falls (host_steps.served_host old i) out.saves r new before now (serving.Failed saved) = subst (λ (h : Host). host_steps.Falls h out.saves r new before now (serving.Failed saved)) e k in
    let o : host_steps.Falls (host_steps.served_host old i) (server_steps.server_out server i).saves r new before now (serving.Failed saved) =
    subst (λ (o : ServerOut). host_steps.Falls (host_steps.served_host old i) o.saves r new before now (serving.Failed saved)) f p in
    let n = chains.saves_before o.call (server_steps.server_out server i).saves in
    subst (λ (h : Host). host_steps.MatchesStore h.standing now needs) (sym (o.falls.1 (raft_nodes.kept_of server.raft) l.leads))
    (record {
      content = subst (λ t. host_steps.HoldsStake (saving.kept_at_failure (raft_nodes.kept_of server.raft) calls n) (saving.at_stake (slice_get calls n)) t) (sym o.fails.left.same)
          (failed_told (raft_nodes.kept_of server.raft) calls n o.fails.left.added before (holds_none old.standing before (may_up old.standing i may) m.content) o.fails.left.within);
      loaded = λ u. cc;
    })

-- a step cuts within what its store tells
pub cuts_told : (old : Host) (i : ServerInput) (r : Replaced) (out : ServerOut) (told : stores.Told) (was : Bool) → host_steps.MayBeServed old.standing i → host_steps.MatchesStore old.standing told was
    → out ≡ server_steps.server_out (host_steps.server_in old.standing) i → host_steps.IsReplacedBy (host_steps.server_in old.standing) i r → chains.CutsWithinTold out.saves.cut told
cuts_told old i r out told was may m f l =
    subst (λ (o : ServerOut). chains.CutsWithinTold o.saves.cut told) (sym f)
    (by_cut (server_steps.server_out (host_steps.server_in old.standing) i).saves.cut told l.within (holds_none old.standing told (may_up old.standing i may) m.content))
  where
    by_cut : (cut : Option ℕ) (t : stores.Told) → host_steps.CutsLog cut (host_steps.server_in old.standing).raft.log → host_steps.HoldsStake (raft_nodes.kept_of (host_steps.server_in old.standing).raft) [] t → chains.CutsWithinTold cut t
    by_cut None t w h = tt
    by_cut (Some last) (stores.Content content) w h =
        subst (λ (c : Loaded). last ≤ length c.log) (sym (content_is (raft_nodes.kept_of (host_steps.server_in old.standing).raft) content h)) w
    by_cut (Some last) (stores.Bad at) w h = tt
    by_cut (Some last) stores.Untold w h = tt

-- and it still tells its content
pub tells_after : (t : stores.Told) (calls : List saving.Save) → matching.Tells t → matching.Tells (chains.told_after t calls)
tells_after (stores.Content c) calls h = tt
tells_after (stores.Bad at) calls h = h
tells_after stores.Untold calls h = h

tells_with : (t : stores.Told) (es : List Entry) (added : ℕ) → matching.Tells t → matching.Tells (chains.told_with t es added)
tells_with (stores.Content c) es added h = tt
tells_with (stores.Bad at) es added h = h
tells_with stores.Untold es added h = h

pub tells_kept : (old : Host) (out : ServerOut) (r : Replaced) (new : Host) (before now : stores.Told) (needs : Bool) (served : Served) → host_steps.KeepsOrFalls old out r new before now needs served → matching.Tells before → matching.Tells now
tells_kept old out r new before now needs (serving.Fine answer) k h = subst matching.Tells (sym k.told) (tells_after before (saving.calls_of out.saves) h)
tells_kept old out r new before now needs (serving.Failed saved) k h =
    subst matching.Tells (sym k.fails.left.same)
    (tells_with (chains.told_after before (take (chains.saves_before k.call out.saves) (saving.calls_of out.saves))) (saving.at_stake (slice_get (saving.calls_of out.saves) (chains.saves_before k.call out.saves))) k.fails.left.added
    (tells_after before (take (chains.saves_before k.call out.saves) (saving.calls_of out.saves)) h))

pub tells_part : (calls : List saving.Save) (before now : stores.Told) → chains.IsSomeOf calls before now → matching.Tells before → matching.Tells now
tells_part calls before now p h = subst matching.Tells (sym p.same) (tells_after before (take p.made calls) h)

-- a step of node k among all
serves_up : (t k c : ℕ) (hosts : List worlds.Host) (s : states.ServerState) (new : Host) (i : ServerInput) (r : Served)
    → host_steps.ServesAs (record { clock = c; standing = standing.Up s }) i new r
    → plans.Serves (record { timeout = t; hosts = hosts; is_spent = false }) k (views.host_of (length hosts) t k (record { clock = c; standing = standing.Up s })) i
    (record { timeout = t; hosts = positions.change_place (λ old. views.host_of (length hosts) t k new) hosts k; is_spent = false }) r
serves_up t k c hosts s new i (serving.Fine out) h = record {
  may = refl;
  given = h.0;
  after = ap (λ (x : Host). let o : plans.OpenHosts = record { timeout = t; hosts = positions.change_place (λ old. views.host_of (length hosts) t k x) hosts k; is_spent = false } in o) h.1;
}
serves_up t k c hosts s new i (serving.Failed saved) h = record {
  may = h.0;
  given = tt;
  after = ap (λ (x : Host). let o : plans.OpenHosts = record { timeout = t; hosts = positions.change_place (λ old. views.host_of (length hosts) t k x) hosts k; is_spent = false } in o) h.1;
}

serves_of : (t k c : ℕ) (hosts : List worlds.Host) (st : Standing) (new : Host) (i : ServerInput) (r : Served) → views.stands_up st ≡ true
    → host_steps.ServesAs (record { clock = c; standing = st }) i new r
    → plans.Serves (record { timeout = t; hosts = hosts; is_spent = false }) k (views.host_of (length hosts) t k (record { clock = c; standing = st })) i
    (record { timeout = t; hosts = positions.change_place (λ old. views.host_of (length hosts) t k new) hosts k; is_spent = false }) r
serves_of t k c hosts (standing.Up s) new i r u h = serves_up t k c hosts s new i r h
serves_of t k c hosts (standing.Down kept es) new i r u h = cc

pub serves : (n t k : ℕ) (hosts : List worlds.Host) (old new : Host) (i : ServerInput) (r : Served) → length hosts ≡ n → views.stands_up old.standing ≡ true → host_steps.ServesAs old i new r
    → plans.Serves (record { timeout = t; hosts = hosts; is_spent = false }) k (views.host_of n t k old) i (record { timeout = t; hosts = positions.change_place (λ x. views.host_of n t k new) hosts k; is_spent = false }) r
serves n t k hosts old new i r e u h =
    subst (λ m. plans.Serves (record { timeout = t; hosts = hosts; is_spent = false }) k (views.host_of m t k old) i (record { timeout = t; hosts = positions.change_place (λ x. views.host_of m t k new) hosts k; is_spent = false }) r)
    e (serves_of t k old.clock hosts old.standing new i r u h)

-- after a step the server is whole, and knows its numbers
pub whole_after : (old new : Host) (i : ServerInput) (r : Served) → host_steps.ServesAs old i new r → views.StandsWhole new.standing
whole_after old new i (serving.Fine out) h = subst (λ (x : Host). views.StandsWhole x.standing) (sym h.1) refl
whole_after old new i (serving.Failed saved) h = subst (λ (x : Host). views.StandsWhole x.standing) (sym h.1) tt

number_of : (n k c : ℕ) (st : Standing) (new : Host) (i : ServerInput) (r : Served) → views.stands_up st ≡ true → views.KnowsNumber n k st → host_steps.ServesAs (record { clock = c; standing = st }) i new r → views.KnowsNumber n k new.standing
number_of n k c (standing.Up s) new i (serving.Fine out) u e h =
    subst (λ (x : Host). views.KnowsNumber n k x.standing) (sym h.1) (let m = number_stays s.server i in (m.0 ∙ e.0, m.1 ∙ e.1))
number_of n k c (standing.Up s) new i (serving.Failed saved) u e h = subst (λ (x : Host). views.KnowsNumber n k x.standing) (sym h.1) tt
number_of n k c (standing.Down kept es) new i r u e h = cc

pub number_after : (n k : ℕ) (old new : Host) (i : ServerInput) (r : Served) → views.stands_up old.standing ≡ true → views.KnowsNumber n k old.standing → host_steps.ServesAs old i new r → views.KnowsNumber n k new.standing
number_after n k old new i r u e h = number_of n k old.clock old.standing new i r u e h

-- what holds at Ok, whatever the value
pub on_ok : {A E : Type 0} (r : Result A E) (P : A → Type 0) (Q : Type 0) → ((x : A) → P x → Q) → IfOk r P → OnOk r Q
on_ok (Ok x) P Q f h = f x h
on_ok (Err e) P Q f h = tt

pub by_result : {A E : Type 0} (r : Result A E) (P : A → Type 0) (N Q : Type 0) → ((x : A) → P x → Q) → (N → Q) → IfOk r P → OnErr r N → Q
by_result (Ok x) P N Q f g h n = f x h
by_result (Err e) P N Q f g h n = g n
