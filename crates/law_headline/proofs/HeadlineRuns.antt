-- One step more of a run, what stands by it, and the end of a script.
use Rattle.std.proofs.Common.{◌≡◌, List, [], ◌∷◌, ◌++◌, length, refl, ap, sym, ◌∙◌, subst, append-nil}
use Rattle.std.specs.Prelude.{◌⊎◌, Bool, true, false, ◌&&◌, None}
use Rattle.std.proofs.lemmas.Grind.{flat_map-append}
use Rattle.ax_types.specs.declared.items.Item.{Item}
use Rattle.ax_types.specs.declared.steps.KeptStep.{KeptStep}
use Rattle.spec_claims.specs.Transcript as transcripts
use Rattle.spec_claims.specs.Faithful as faithful
use Rattle.spec_claims.specs.Handed as handed
use Rattle.spec_world.specs.Worlds as worlds
use Rattle.spec_world.specs.Moves as moves
use Rattle.spec_run.specs.Run as runs
use Rattle.spec_run.specs.KeptStores as kept_stores
use Rattle.spec_run.proofs.Joined.{then_ran, ran-append}
use Rattle.law_run.proofs.Walks.{unfolds}
use Rattle.law_faithful.proofs.Runs.{runs_are_faithful}
use Rattle.law_handed.proofs.Replies.{hand_once}
use Rattle.law_stores.proofs.Held.{stores_keep_history, newest_begins_history}
use Rattle.law_headline.specs.Headline as laws

may_more : (w : worlds.World) (kept : List KeptStep) (k : KeptStep) → runs.may_run w kept ≡ true → moves.may_fare (runs.ran w kept).world k ≡ true → runs.may_run w (kept ++ k ∷ []) ≡ true
may_more w [] k e f = rw f refl
may_more w (s ∷ kept) k e f = by_first (moves.may_fare w s) (runs.may_run (moves.moved w s).world kept) (runs.may_run (moves.moved w s).world (kept ++ k ∷ [])) e (λ g. may_more (moves.moved w s).world kept k g f)
  where
    by_first : (a b c : Bool) → (a && b) ≡ true → (b ≡ true → c ≡ true) → (a && c) ≡ true
    by_first true b c e g = g e
    by_first false b c e g = e

-- the items of a run and one more step
items_more : (r : runs.Ran) (k : KeptStep) → transcripts.transcript (then_ran r (k ∷ [])).shown ≡ transcripts.transcript r.shown ++ (moves.moved r.world k).items
items_more r k =
    flat_map-append (λ (m : transcripts.Shown). m.items) r.shown (record { step = k; items = (moves.moved r.world k).items } ∷ [])
    ∙ ap (λ (ys : List Item). transcripts.transcript r.shown ++ ys) (append-nil (moves.moved r.world k).items)

pub run_begins : laws.RunsBegin
run_begins nodes clients timeout = record { fared = refl; leads = refl; shows = refl }

pub run_goes_on : laws.RunsGoOn
run_goes_on nodes clients timeout kept w items k h may =
    let before : worlds.World = worlds.new_world nodes clients timeout in
    let joined : runs.ran before (kept ++ k ∷ []) ≡ then_ran (runs.ran before kept) (k ∷ []) = ran-append before kept (k ∷ []) in
    record {
      fared = may_more before kept k h.fared (subst (λ (x : worlds.World). moves.may_fare x k ≡ true) (sym h.leads) may);
      leads = ap (λ (r : runs.Ran). r.world) joined ∙ ap (λ (x : worlds.World). (moves.moved x k).world) h.leads;
      shows =
          ap (λ (r : runs.Ran). transcripts.transcript r.shown) joined
          ∙ items_more (runs.ran before kept) k
          ∙ ap (λ (xs : List Item). xs ++ (moves.moved (runs.ran before kept).world k).items) h.shows
          ∙ ap (λ (x : worlds.World). items ++ (moves.moved x k).items) h.leads;
    }

pub run_stands : laws.RunsStand
run_stands nodes clients timeout kept w items h =
    let r : runs.Ran = runs.run nodes clients timeout kept in
    let true_run : faithful.IsFaithful timeout r.shown r.world.history = runs_are_faithful nodes clients timeout kept in
    record {
      faithful = subst (λ (x : worlds.World). faithful.IsFaithful timeout r.shown x.history) h.leads true_run;
      handed =
          subst (λ (xs : List Item). handed.IsHanded xs w.history) h.shows
          (subst (λ (x : worlds.World). handed.IsHanded (transcripts.transcript r.shown) x.history) h.leads (hand_once timeout r.shown r.world.history true_run));
      stores = λ contents one held.
          let same : kept_stores.AreContents r.world.hosts contents = subst (λ (x : worlds.World). kept_stores.AreContents x.hosts contents) (sym h.leads) held in
          record {
            kept = subst (λ (x : worlds.World). kept_stores.IsKept contents x.history) h.leads (stores_keep_history nodes clients timeout kept contents one same);
            left = subst (λ (x : worlds.World). kept_stores.IsLeft contents x.history timeout) h.leads (newest_begins_history nodes clients timeout kept contents one same);
          };
    }

pub step_stands : laws.StepsStand
step_stands kept w items k may nodes clients timeout h =
    let more = run_goes_on nodes clients timeout kept w items k h may in
    (more, run_stands nodes clients timeout (kept ++ k ∷ []) (moves.moved w k).world (items ++ (moves.moved w k).items) more)

pub script_ends : laws.ScriptsEnd
script_ends s rest kept w items r h hand within whole =
    let same : r.world ≡ w = ap (λ (x : runs.Ran). x.world) (sym hand.so_far) ∙ h.leads in
    let done = unfolds (laws.world_before s) (laws.works_in s) rest kept r hand within (subst (λ (x : worlds.World). (runs.next_of x rest ≡ None) ⊎ (length kept ≡ runs.most_steps)) (sym same) whole) in
    record { run = h; unfolds = done.0; ends = ap runs.end_at (done.1 ∙ ap (λ (x : worlds.World). runs.next_of x rest) same) }

pub report_stands : laws.ReportsStand
report_stands form s contents text end one h =
    let by = run_stands s.nodes s.clients s.timeout h.kept h.world h.items h.run.run in
    record {
      shown = (runs.run s.nodes s.clients s.timeout h.kept).shown;
      history = h.world.history;
      reported = h.reported ∙ ap (λ (xs : List Item). form xs h.world.history end) (sym h.run.run.shows);
      faithful = by.faithful;
      handed = subst (λ (xs : List Item). handed.IsHanded xs h.world.history) (sym h.run.run.shows) by.handed;
      stores = by.stores contents one h.stores;
    }
