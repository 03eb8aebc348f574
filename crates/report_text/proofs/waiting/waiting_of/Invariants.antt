use Rattle.std.proofs.Common.{◌≡◌, ◌++◌, not, drop, filter}
use Rattle.std.specs.List.{filter_map, list_any}
use Rattle.spec_report.specs.Items as spec
use Rattle.report_text.proofs.waiting.waiting_of.Given as goal

-- the calls so far, and those that wait among the items that are left
abbrev pub invariant-items : goal.invariant-items
invariant-items l =
    l.waiting ++ filter (λ a. not (list_any (spec.is_call a) (filter_map spec.outcome_key l.items))) (filter_map spec.called_of (drop l.item-index l.items))
    ≡ spec.waiting_of l.items
