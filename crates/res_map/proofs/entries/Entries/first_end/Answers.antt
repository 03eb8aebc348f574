use Rattle.std.proofs.Common.{ℕ, List, ap, ◌∙◌}
use Rattle.spec_book.specs.Resources as resources
use Rattle.res_map.specs.Lives as lives
use Rattle.res_map.proofs.First.{first_end-index}
use Rattle.res_map.proofs.entries.Entries.first_end.Goals as goal

pub returns : goal.returns
returns c =
    let ds = c.self.inside.deadlines in
    c.first.ensures.time
    ∙ (first_end-index c.self.inside.items.entries ds c.self.invariant.0 c.self.invariant.1 (rw (← c.first.ensures.time) c.first.ensures.least)
    ∙ ap (λ (es : List (List ℕ × resources.MapItem)). lives.first_end es) c.self.view_is)
