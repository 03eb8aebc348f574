use Rattle.std.proofs.Common.{◌≡◌, ℕ, ◌||◌, drop}
use Rattle.std.specs.List.{filter_map, list_any}
use Rattle.std.specs.BTreeSet.{contains}
use Rattle.spec_report.specs.Items as spec
use Rattle.report_text.specs.CallTexts as call_texts
use Rattle.report_text.proofs.waiting.outcomes_of.Given as goal

-- a call has an outcome where the set has it, or one of the items that are left is its outcome
abbrev pub invariant-items : goal.invariant-items
invariant-items l =
    (a : ℕ × ℕ)
    → (contains call_texts.call_cmp l.outcomes a || list_any (spec.is_call a) (filter_map spec.outcome_key (drop l.item-index l.items)))
    ≡ list_any (spec.is_call a) (filter_map spec.outcome_key l.items)
