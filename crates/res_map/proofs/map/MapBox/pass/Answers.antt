use Rattle.std.proofs.Common.{◌∙◌, ℕ, List, ap, refl, filter}
use Rattle.spec_book.specs.MapTurn as map_turns
use Rattle.spec_book.specs.Resources as resources
use Rattle.res_map.specs.Told as told
use Rattle.res_map.proofs.Gone.{without_keys-ended, tell_keys-keys_of}
use Rattle.res_map.proofs.map.MapBox.pass.Goals as goal

pub returns-clause-ok : goal.returns-clause-ok
returns-clause-ok c =
    let name = c.args.name.now in
    let s = c.self.inside in
    c.in_ok-told.ensures
    ∙ rw (← c.self.view_is)
    (ap (λ (keys : List (List ℕ)). told.tell_keys name s.listeners keys) c.in_ok-ended.ensures.keys
    ∙ tell_keys-keys_of name s.listeners (filter (λ (e : List ℕ × resources.MapItem). map_turns.life_ended c.args.time e.1.life) s.entries))

pub returns-clause-after : goal.returns-clause-after
returns-clause-after c =
    rw (← c.self.view_is, c.remove_all.ensures, c.in_ok-ended.ensures.keys, without_keys-ended c.args.time c.self.inside.entries c.in_ok-ended.ensures.ascending) refl
