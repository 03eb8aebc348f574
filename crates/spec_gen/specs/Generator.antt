-- The generator of scripts: a number sets off a row of draws, and the draws give the lines.
use Rattle.std.specs.Prelude.{ℕ, zero, suc, ◌+◌, ◌*◌, ◌/◌, ◌%◌, ◌^◌, pos, nat_le, nat_eq, if◌then◌else◌, List, [], ◌∷◌, ◌++◌, length, codes}
use Rattle.std.specs.Fmt.{decimal}
use Rattle.ax_types.specs.Places as lists
use Rattle.ax_types.specs.declared.ops.MapOp.TheVariants as map_op
use Rattle.ax_types.specs.declared.ops.LongOp.TheVariants as long_op
use Rattle.ax_types.specs.declared.ops.Op.TheVariants as op
use Rattle.ax_types.specs.declared.ops.MapQuery.TheVariants as map_query
use Rattle.ax_types.specs.declared.ops.LongQuery.TheVariants as long_query
use Rattle.ax_types.specs.declared.ops.Query.TheVariants as query
use Rattle.ax_types.specs.declared.ops.Level.TheVariants.{Seq, Lin}
use Rattle.ax_types.specs.declared.scripts.Line.{Line}
use Rattle.ax_types.specs.declared.scripts.Line.TheVariants as line
use Rattle.ax_types.specs.declared.scripts.Script.{Script}
use Rattle.ax_types.specs.declared.steps.Step.TheVariants as step

-- the state after a draw
abbrev pub next_state : ℕ → ℕ
next_state x = (1103515245 * x + 12345) % 2 ^ 31

-- what was drawn where this is the state after the draw: a number below m
abbrev pub drawn : ℕ → ℕ → ℕ
drawn x m = (x / 65536) % m

-- a line, and the state after its draws
pub record DrawnTurn : Type 0 where
  pub line : Line
  pub state : ℕ

-- `call C long n add V`
abbrev pub add_line : ℕ → ℕ → Line
add_line client value = line.Do (step.Call client (codes "n") (op.Long (long_op.Add (pos value))))

-- `call C map m put kI vJ`
abbrev pub put_line : ℕ → ℕ → ℕ → Line
put_line client key value =
    line.Do (step.Call client (codes "m") (op.Map (map_op.Put (codes "k" ++ decimal key) (codes "v" ++ decimal value))))

-- `query C seq map m get kI`
abbrev pub get_line : ℕ → ℕ → Line
get_line client key = line.Do (step.Query client Seq (codes "m") (query.Map (map_query.Get (codes "k" ++ decimal key))))

-- `query C lin long n get`
abbrev pub fresh_line : ℕ → Line
fresh_line client = line.Do (step.Query client Lin (codes "n") (query.Long long_query.Get))

-- the turn of this client by the number drawn for what it does; `x` is the state after that draw
abbrev pub turn_for : ℕ → ℕ → ℕ → DrawnTurn
turn_for client what x =
    let a = next_state x in
    let b = next_state a in
    if nat_le what 3 then record { line = add_line client (drawn a 100); state = a } else
    if nat_le what 5 then record { line = put_line client (drawn a 20) (drawn b 100); state = b } else
    if nat_eq what 6 then record { line = get_line client (drawn a 20); state = a } else
    if nat_eq what 7 then record { line = fresh_line client; state = x } else
    if nat_eq what 8 then record { line = line.Settle 1; state = x } else
    record { line = line.Do (step.Keep client); state = x }

-- a turn draws its client, what it does, and the numbers that it needs
abbrev pub drawn_turn : ℕ → DrawnTurn
drawn_turn x =
    let a = next_state x in
    let b = next_state a in
    turn_for (1 + drawn a 4) (drawn b 10) b

-- the lines of so many turns, the first of them with this number; a `settle 1` follows every eighth, and stands at the end
abbrev pub turns : ℕ → ℕ → ℕ → List Line
turns zero number x = line.Settle 1 ∷ []
turns (suc left) number x =
    let t = drawn_turn x in
    if nat_eq (number % 8) 0 then t.line ∷ line.Settle 1 ∷ turns left (number + 1) t.state
    else t.line ∷ turns left (number + 1) t.state

-- the lines before the turns: a leader, and a session for each client
abbrev pub set_up_lines : List Line
set_up_lines =
    line.Do (step.Elect 1) ∷ line.Settle 1 ∷ line.Do (step.Open 1 1) ∷ line.Do (step.Open 2 2)
    ∷ line.Do (step.Open 3 3) ∷ line.Do (step.Open 4 1) ∷ line.Settle 1 ∷ []

unfoldable pub turn_count : ℕ
turn_count = 2000

-- the lines after the cluster line
abbrev pub generated_lines : ℕ → List Line
generated_lines seed = set_up_lines ++ turns turn_count 1 seed

-- the script of a number: the cluster line is its first line
abbrev pub gen_script : ℕ → Script
gen_script seed = record {
  nodes = 3;
  clients = 4;
  timeout = 1000000;
  lines = lists.numbered 2 (generated_lines seed);
  callers = [];
  plan = [];
  feeds = [];
  last_line = 1 + length (generated_lines seed);
}
