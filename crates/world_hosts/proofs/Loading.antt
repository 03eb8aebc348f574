-- What a load of a node's store gives: the node then stands as the store tells, with some first ones of the entries at stake.
use Rattle.std.proofs.Common.{◌≡◌, ◌-◌, ◌≤◌, ℕ, Bool, true, false, Some, List, [], length, take, ap, sym, ◌∙◌, subst, arith}
use Rattle.std.proofs.lemmas.List.{length-append, length-take-le}
use Rattle.ax_types.specs.declared.entries.Entry.{Entry}
use Rattle.ax_types.specs.declared.entries.Loaded.{Loaded}
use Rattle.spec_node.specs.Saving as saving
use Rattle.spec_server.specs.Servers as servers
use Rattle.spec_world.specs.Worlds as worlds
use Rattle.store_journal.specs.StoreTold as stores
use Rattle.server_parts.specs.ServerStates as states
use Rattle.world_saves.proofs.ChainCases.{with_nothing}
use Rattle.world_hosts.specs.HostViews as views
use Rattle.world_hosts.specs.HostSteps as host_steps
use Rattle.world_hosts.specs.declared.host.Host.{Host}
use Rattle.world_hosts.specs.declared.host.Standing.{Standing}
use Rattle.world_hosts.specs.declared.host.Standing.TheVariants as standing

-- how many entries were added
count_added : (kept : Loaded) (es : List Entry) (added : ℕ) → added ≤ length es → length (saving.with_rest kept es added).log - length kept.log ≡ added
count_added kept es added w = omega (arith, w, length-append kept.log (take added es), length-take-le added es w)

tells_loaded : (st : Standing) (told : stores.Told) (loaded : Loaded) (added : ℕ) → host_steps.HoldsStake (views.kept_for_sure st) (views.stake_of st) told → host_steps.LoadGives told (Some loaded)
    → added ≡ length loaded.log - length (views.kept_for_sure st).log → host_steps.TellsContent told st loaded added
tells_loaded st (stores.Content content) loaded added h g e =
    let count : added ≡ h.added = e ∙ ap (λ (c : Loaded). length c.log - length (views.kept_for_sure st).log) (g.0 ∙ h.same) ∙ count_added (views.kept_for_sure st) (views.stake_of st) h.added h.within in
    let same : loaded ≡ saving.with_rest (views.kept_for_sure st) (views.stake_of st) added = g.0 ∙ h.same ∙ ap (λ n. saving.with_rest (views.kept_for_sure st) (views.stake_of st) n) (sym count) in
    (subst (λ n. n ≤ length (views.stake_of st)) (sym count) h.within, (same, subst (λ (c : Loaded). worlds.is_loadable c ≡ true) (sym g.0) g.1))
tells_loaded st (stores.Bad at) loaded added h g e = absurd g
tells_loaded st stores.Untold loaded added h g e = tt

-- a node that was loaded, by its server
up_with : (n t k : ℕ) (old : Host) (loaded : Loaded) (s : states.ServerState) → s ≡ record { server = servers.server_from k n t loaded; is_spent = false }
    → record { clock = old.clock; standing = standing.Up s } ≡ host_steps.loaded_host n t k old loaded
up_with n t k old loaded s e = ap (λ (x : states.ServerState). let h : Host = record { clock = old.clock; standing = standing.Up x } in h) e

-- the node comes up with what was loaded
pub loads_so : (n t k : ℕ) (told : stores.Told) (needs : Bool) (old : Host) (loaded : Loaded) (added : ℕ) (s : states.ServerState) → host_steps.MatchesStore old.standing told needs → host_steps.LoadGives told (Some loaded)
    → added ≡ length loaded.log - length (views.kept_for_sure old.standing).log → s ≡ record { server = servers.server_from k n t loaded; is_spent = false }
    → host_steps.LoadedAs n t k told old (record { clock = old.clock; standing = standing.Up s }) added
loads_so n t k told needs old loaded added s m g e f = record { content = loaded; host = up_with n t k old loaded s f; same = tells_loaded old.standing told loaded added m.content g e }

holds_loaded : (told : stores.Told) (loaded : Loaded) → host_steps.LoadGives told (Some loaded) → host_steps.HoldsStake loaded [] told
holds_loaded (stores.Content content) loaded g = record { added = 0; within = omega arith; same = sym g.0 ∙ sym (with_nothing loaded 0) }
holds_loaded (stores.Bad at) loaded g = absurd g
holds_loaded stores.Untold loaded g = tt

-- and its store matches it
pub matches_loaded : (n t k : ℕ) (before now : stores.Told) (needs : Bool) (loaded : Loaded) (s : states.ServerState) → host_steps.LoadGives before (Some loaded) → now ≡ before
    → host_steps.ReadyIfLoaded (Some loaded) needs → s ≡ record { server = servers.server_from k n t loaded; is_spent = false } → host_steps.MatchesStore (standing.Up s) now needs
matches_loaded n t k before now needs loaded s g same ready f =
    subst (λ (x : states.ServerState). host_steps.MatchesStore (standing.Up x) now needs) (sym f)
    (record {
      content = subst (λ told. host_steps.HoldsStake loaded [] told) (sym same) (holds_loaded before loaded g);
      loaded = λ up. ready;
    })
