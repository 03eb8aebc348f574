-- What a client does in its turn, and the line of it.
use Rattle.std.specs.Prelude.{ℕ, nat_le, nat_eq, if◌then◌else◌}
use Rattle.ax_types.specs.declared.scripts.Line.TheVariants as line
use Rattle.ax_types.specs.declared.steps.Step.TheVariants as step
use Rattle.spec_gen.specs.Generator as generators
use Rattle.script_gen.specs.declared.turns.Deed.{Deed}
use Rattle.script_gen.specs.declared.turns.Deed.TheVariants as deed

-- what the number that was drawn for it stands for
abbrev pub deed_of : ℕ → Deed
deed_of number =
    if nat_le number 3 then deed.Add else
    if nat_le number 5 then deed.Put else
    if nat_eq number 6 then deed.Get else
    if nat_eq number 7 then deed.Fresh else
    if nat_eq number 8 then deed.Settle else deed.Keep

-- the turn of this client that does it; `x` is the state after the draw for what it does
abbrev pub turn_doing : ℕ → Deed → ℕ → generators.DrawnTurn
turn_doing client deed.Add x =
    let a = generators.next_state x in record { line = generators.add_line client (generators.drawn a 100); state = a }
turn_doing client deed.Put x =
    let a = generators.next_state x in
    let b = generators.next_state a in
    record { line = generators.put_line client (generators.drawn a 20) (generators.drawn b 100); state = b }
turn_doing client deed.Get x =
    let a = generators.next_state x in record { line = generators.get_line client (generators.drawn a 20); state = a }
turn_doing client deed.Fresh x = record { line = generators.fresh_line client; state = x }
turn_doing client deed.Settle x = record { line = line.Settle 1; state = x }
turn_doing client deed.Keep x = record { line = line.Do (step.Keep client); state = x }
