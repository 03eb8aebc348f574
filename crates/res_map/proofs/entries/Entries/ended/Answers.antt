use Rattle.std.proofs.Common.{List, ℕ, ◌≡◌, ap, ◌∙◌}
use Rattle.std.specs.List.{list_any}
use Rattle.std.specs.List.Sorted.{IsStrictlySortedBy}
use Rattle.std.specs.BTreeMap.{is_at}
use Rattle.std.specs.BTreeSet.{BTreeSet}
use Rattle.spec_book.specs.Dict as dicts
use Rattle.spec_book.specs.Resources as resources
use Rattle.res_deadlines.specs.Deadlines as deadlines
use Rattle.res_map.specs.Lives as lives
use Rattle.res_map.proofs.Ended.{keys_are_ended, IfOk-both}
use Rattle.res_map.proofs.entries.Entries.ended.Goals as goal

pub returns-clause-keys : goal.returns-clause-keys
returns-clause-keys c =
    let time = c.args.time in
    let es = c.self.inside.items.entries in
    let ds = c.self.inside.deadlines in
    IfOk-both c.passed.result
    (λ (keys : BTreeSet (List ℕ)). (key : List ℕ) → list_any (is_at (dicts.bytes_cmp key)) keys.keys ≡ deadlines.has_passed dicts.bytes_cmp time ds key)
    (λ keys. IsStrictlySortedBy dicts.bytes_cmp keys.keys) (λ keys. keys.keys ≡ lives.ended_keys time c.args.self.now)
    (λ keys has in_order. keys_are_ended time es ds keys.keys c.self.invariant.0 c.self.invariant.1 in_order has
    ∙ ap (λ (es : List (List ℕ × resources.MapItem)). lives.ended_keys time es) c.self.view_is)
    c.passed.ensures.keys c.passed.ensures.ascending
