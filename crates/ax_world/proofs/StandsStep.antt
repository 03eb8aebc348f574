-- What stands after a step, from what the step did and what the stores then tell.
use Rattle.std.proofs.Common.{◌≡◌, ◌≤◌, ℕ, true, List, [], ◌∷◌, ◌++◌, length, take, map, refl, ap, sym, ◌∙◌, subst, append-nil}
use Rattle.std.proofs.lemmas.Grind.{flat_map-append}
use Rattle.ax_types.specs.declared.entries.Loaded.{Loaded}
use Rattle.ax_types.specs.declared.items.Item.{Item}
use Rattle.ax_types.specs.declared.steps.KeptStep.{KeptStep}
use Rattle.ax_types.specs.declared.steps.Step.{Step}
use Rattle.ax_types.specs.declared.steps.Step.TheVariants as step
use Rattle.ax_types.specs.declared.steps.StepOutcome.TheVariants as outcome
use Rattle.spec_book.specs.History as histories
use Rattle.spec_claims.specs.Transcript as transcripts
use Rattle.spec_claims.specs.Handed as handed
use Rattle.spec_world.specs.Worlds as worlds
use Rattle.spec_world.specs.Moves as moves
use Rattle.spec_run.specs.Run as runs
use Rattle.spec_run.specs.KeptStores as kept_stores
use Rattle.store_journal.specs.StoreTold as stores
use Rattle.world_hosts.specs.StoresMatch as matching
use Rattle.law_growth.proofs.Numbers.{runs_have_numbers}
use Rattle.law_handed.proofs.Replies.{hand_once}
use Rattle.law_headline.specs.Headline as headlines
use Rattle.law_headline.proofs.HeadlineRuns.{run_begins, step_stands}
use Rattle.law_race.specs.LeftOpen as left_open
use Rattle.law_race.proofs.Groups.{races_are_faithful}
use Rattle.ax_world.specs.OpenWorlds as open_worlds
use Rattle.ax_world.specs.StandingRuns as standing

-- the contents that some stores tell, the hosts' own first
record ToldBy (hosts : List worlds.Host) (states : List matching.StoreState) : Type 0 where
  contents : List Loaded
  same : take (length hosts) (map (λ (s : matching.StoreState). s.told) states) ≡ map stores.Content contents
  are : kept_stores.AreContents hosts contents

told_next : (h : worlds.Host) (hosts : List worlds.Host) (s : matching.StoreState) (states : List matching.StoreState) (t : stores.Told) → s.told ≡ t
    → matching.HasContent h t → matching.Tells t → ToldBy hosts states → ToldBy (h ∷ hosts) (s ∷ states)
told_next h hosts s states (stores.Content c) e has tells rest = record {
  contents = c ∷ rest.contents;
  same = ap (λ t. t ∷ take (length hosts) (map (λ (x : matching.StoreState). x.told) states)) e ∙ ap (λ ts. stores.Content c ∷ ts) rest.same;
  are = (has, rest.are);
}
told_next h hosts s states (stores.Bad at) e has tells rest = absurd tells
told_next h hosts s states stores.Untold e has tells rest = absurd tells

told_contents : (hosts : List worlds.Host) (states : List matching.StoreState) → matching.StoresMatch hosts states → matching.AreTelling states → ToldBy hosts states
told_contents [] states m t = record { contents = []; same = refl; are = tt }
told_contents (h ∷ hosts) [] m t = absurd m
told_contents (h ∷ hosts) (s ∷ states) m t = told_next h hosts s states s.told refl m.0.content t.0 (told_contents hosts states m.1 t.1)

-- what stands by a run keeps its history in the stores that tell what its nodes keep
stores_keep : (nodes clients timeout : ℕ) (w : open_worlds.OpenWorld) (states : List matching.StoreState) → standing.IsReachedRun nodes clients timeout w
    → headlines.RunStandsBy nodes clients timeout w.kept w.world w.transcript → matching.StoresMatch w.world.hosts states → matching.AreTelling states
    → standing.StoresKeep nodes timeout w.world.history states
stores_keep nodes clients timeout w states reached by match tell =
    let told : ToldBy w.world.hosts states = told_contents w.world.hosts states match tell in
    let numbers = runs_have_numbers nodes clients timeout w.kept in
    record {
      contents = told.contents;
      told = subst (λ n. take n (map (λ (x : matching.StoreState). x.told) states) ≡ map stores.Content told.contents) (sym (ap (λ (v : worlds.World). length v.hosts) reached.run.leads) ∙ numbers.hosts) told.same;
      stand = by.stores told.contents reached.some told.are;
    }

-- the items of a run with others behind them, which come from no step
items_behind : (shown : List transcripts.Shown) (k : KeptStep) (items : List Item) → transcripts.transcript (left_open.in_own_group k items shown) ≡ transcripts.transcript shown ++ items
items_behind shown k items =
    flat_map-append (λ (m : transcripts.Shown). m.items) shown (record { step = k; items = items } ∷ [])
    ∙ ap (λ (xs : List Item). transcripts.transcript shown ++ xs) (append-nil items)

may_end : (timeout session : ℕ) (shown : List transcripts.Shown) (history : histories.History) → left_open.StaysFaithful timeout session shown history → standing.MayEndRace timeout session shown history
may_end timeout session shown history stays =
    let k : KeptStep = record { step = step.List; outcome = outcome.Fine } in
    record {
      faithful = stays;
      handed =
          subst (λ (xs : List Item). handed.IsHanded xs history) (items_behind shown k (left_open.left_open session shown))
          (hand_once timeout (left_open.in_own_group k (left_open.left_open session shown) shown) history (stays.in_own k));
    }

stands : (nodes clients timeout : ℕ) (w : open_worlds.OpenWorld) (states : List matching.StoreState) → standing.IsReachedRun nodes clients timeout w
    → headlines.RunStandsBy nodes clients timeout w.kept w.world w.transcript → matching.StoresMatch w.world.hosts states → matching.AreTelling states
    → standing.StandsSoFar nodes clients timeout w states
stands nodes clients timeout w states reached by match tell = record {
  reached = reached;
  faithful = by.faithful;
  handed = by.handed;
  stores = stores_keep nodes clients timeout w states reached by match tell;
  races = λ session.
      may_end timeout session (standing.shown_by nodes clients timeout w) w.world.history
      (subst (λ (x : worlds.World). left_open.StaysFaithful timeout session (standing.shown_by nodes clients timeout w) x.history) reached.run.leads (races_are_faithful nodes clients timeout session w.kept));
}

-- before the first step
pub is_reached : (nodes clients timeout : ℕ) (w : open_worlds.OpenWorld) → 1 ≤ nodes → w ≡ open_worlds.opened nodes clients timeout → standing.IsReachedRun nodes clients timeout w
is_reached nodes clients timeout w some is = rw is (record { some = some; run = run_begins nodes clients timeout })

stepped_leads : (before : open_worlds.OpenWorld) (k : KeptStep) (states : List matching.StoreState) → moves.may_fare before.world k ≡ true
    → matching.StoresMatch (open_worlds.one_step_on before k).world.hosts states → matching.AreTelling states → standing.LeadsToStanding before (open_worlds.one_step_on before k) states
stepped_leads before k states may match tell nodes clients timeout reached =
    let more = step_stands before.kept before.world before.transcript k may nodes clients timeout reached.run in
    stands nodes clients timeout (open_worlds.one_step_on before k) states (record { some = reached.some; run = more.0 }) more.1 match tell

pub leads_on : (before after : open_worlds.OpenWorld) (s : Step) (states : List matching.StoreState) → open_worlds.MakesStep before s after
    → matching.StoresMatch after.world.hosts states → matching.AreTelling states → standing.LeadsToStanding before after states
leads_on before after s states is match tell =
    let k : KeptStep = record { step = s; outcome = is.outcome } in
    subst (λ (w : open_worlds.OpenWorld). standing.LeadsToStanding before w states) (sym is.same)
    (stepped_leads before k states is.may (subst (λ (w : open_worlds.OpenWorld). matching.StoresMatch w.world.hosts states) is.same match) tell)
