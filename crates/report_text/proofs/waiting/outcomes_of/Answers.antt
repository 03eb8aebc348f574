use Rattle.std.proofs.Common.{ℕ, ◌+◌, Bool, ◌||◌, drop, sym, ap, ◌∙◌}
use Rattle.std.specs.List.{filter_map, list_any}
use Rattle.std.specs.BTreeSet.{contains, BTreeSet}
use Rattle.spec_report.specs.Items as spec
use Rattle.report_text.specs.CallTexts as call_texts
use Rattle.report_text.proofs.Sets.{kept-some, kept-none}
use Rattle.report_text.proofs.waiting.outcomes_of.Goals.{in-Some+in_ok-insert, in_default}
use Rattle.report_text.proofs.waiting.outcomes_of.Goals as goal

pub items-preserved : goal.items-preserved
items-preserved c a =
    let items = c.args.items.now in
    let i = c.items.item-index in
    let rest : Bool → Bool = λ b. b || list_any (spec.is_call a) (filter_map spec.outcome_key (drop (i + 1) items)) in
    elim c.match-outcome_of.branch [
      | in-Some+in_ok-insert w ↦
          ap (λ (s : BTreeSet (ℕ × ℕ)). rest (contains call_texts.call_cmp s a)) w.outcomes-is
          ∙ ap rest (w.in_ok-insert.ensures.updates.0 a)
          ∙ kept-some spec.outcome_key a items i c.item-item.result (search c.items-test.true) (contains call_texts.call_cmp c.items.outcomes a) _
          w.in-Some.call c.item-item.is (sym w.in-Some.is ∙ c.outcome_of.ensures) (c.items.invariant a)
      | in_default w ↦
          ap (λ (s : BTreeSet (ℕ × ℕ)). rest (contains call_texts.call_cmp s a)) w.outcomes-is
          ∙ kept-none spec.outcome_key a items i c.item-item.result (search c.items-test.true) (contains call_texts.call_cmp c.items.outcomes a) _
          c.item-item.is (sym w.in_default.is ∙ c.outcome_of.ensures) (c.items.invariant a)
    ]
