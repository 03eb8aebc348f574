-- The entry goes, and its end with the key that the map held.
use Rattle.std.proofs.Common.{◌≡◌, sym, Some}
use Rattle.std.proofs.lemmas.Map.Lookups.{exact_bytes}
use Rattle.res_map.proofs.Index.{IsIndexed-removed}
use Rattle.res_map.proofs.entries.Entries.remove.Goals as goal

pub invariant_of-self-2 : goal.invariant_of-self-2
invariant_of-self-2 c =
    let held : c.in_ok-own.own ≡ c.args.key.now = sym (exact_bytes c.args.key.now c.in_ok-own.own c.in_ok-own.ensures.same_key) in (
      c.remove_entry.ensures.ordered,
      IsIndexed-removed c.self.inside.items.entries c.remove_entry.new.self.entries c.self.inside.deadlines c.forget.new.self c.args.key.now (Some c.in_ok-own.item)
          c.self.invariant.1 (sym c.in_ok-own.ensures.value) c.remove_entry.ensures.updates.0 (rw (← c.end.ensures, ← held) c.forget.ensures),
    )
