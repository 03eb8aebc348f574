-- A step of a run, from what it brought.
use Rattle.std.proofs.Common.{◌≡◌, false, [], ◌∷◌, ◌++◌, List, refl, sym, ap, ◌∙◌}
use Rattle.ax_types.specs.declared.items.Item.{Item}
use Rattle.ax_types.specs.declared.steps.KeptStep.{KeptStep}
use Rattle.ax_types.specs.declared.steps.Step.{Step}
use Rattle.spec_world.specs.Worlds as worlds
use Rattle.spec_world.specs.Plans as plans
use Rattle.spec_world.specs.Moves as moves
use Rattle.ax_world.specs.declared.brought.Brought.{Brought}
use Rattle.ax_world.specs.OpenWorlds as open_worlds
use Rattle.ax_world.specs.Scenes as scenes
use Rattle.ax_world.proofs.Doing.{with_acts_is}

abbrev pub after_step : open_worlds.OpenWorld → Step → worlds.World → Brought → open_worlds.OpenWorld
after_step before s w b = record {
  world = record w { history = w.history ++ b.acts };
  kept = before.kept ++ record { step = s; outcome = b.outcome } ∷ [];
  transcript = before.transcript ++ b.items;
  is_spent = false;
}

same_step : (before : open_worlds.OpenWorld) (s : Step) (w : worlds.World) (b : Brought) → scenes.Does w b (plans.plan before.world s)
    → after_step before s w b ≡ open_worlds.one_step_on before (record { step = s; outcome = b.outcome })
same_step before s w b does =
    let moved : scenes.moved_with w b ≡ moves.moved before.world (record { step = s; outcome = b.outcome }) = does.moved in
    ap (λ h. record { world = record w { history = h }; kept = before.kept ++ record { step = s; outcome = b.outcome } ∷ []; transcript = before.transcript ++ b.items; is_spent = false }) (sym (with_acts_is w.history b.acts))
    ∙ ap (λ m. record { world = m.world; kept = before.kept ++ record { step = s; outcome = b.outcome } ∷ []; transcript = before.transcript ++ m.items; is_spent = false }) moved

pub step_is : (before after : open_worlds.OpenWorld) (s : Step) (w : worlds.World) (b : Brought) → scenes.Does w b (plans.plan before.world s) → after ≡ after_step before s w b
    → open_worlds.MakesStep before s after
step_is before after s w b does is = record { outcome = b.outcome; may = does.may; same = is ∙ same_step before s w b does }

pub made_is : (before w after : worlds.World) (s : Step) (b : Brought) (kept_before kept_after : List KeptStep) (items_before items_after : List Item)
    → scenes.Does w b (plans.plan before s) → after ≡ record w { history = w.history ++ b.acts } → kept_after ≡ kept_before ++ record { step = s; outcome = b.outcome } ∷ []
    → items_after ≡ items_before ++ b.items → open_worlds.IsMade before s after kept_before kept_after items_before items_after
made_is before w after s b kept_before kept_after items_before items_after does world kept items =
    rw world (rw kept (rw items (step_is (record { world = before; kept = kept_before; transcript = items_before; is_spent = false }) (after_step (record { world = before; kept = kept_before; transcript = items_before; is_spent = false }) s w b) s w b does refl)))
