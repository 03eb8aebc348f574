-- The words of the command line: which words are a command of `axrun`, and which command they are.
use Rattle.std.specs.Prelude.{◌&&◌, ◌||◌, Bool, true, false, not, is_some, is_none, List, Option, Some, None, option_map, option_and_then, if◌then◌else◌, codes, bytes_eq}
use Rattle.std.specs.Option.{option_map_or}
use Rattle.ax_types.specs.declared.limits.TheConstants.{MAX_SEED}
use Rattle.clap.specs.declared.builder.action.ArgAction.TheVariants.{Set, SetTrue}
use Rattle.clap.specs.Faults.{fault_of}
use Rattle.clap.specs.Simple.{App, matches_of, new_app, new_rule, on_top, with_rule}
use Rattle.clap.specs.Walk.{Row, Rule, Text, first_of, is_empty}
use Rattle.ax_types.specs.declared.scripts.Command.{Command}
use Rattle.ax_types.specs.declared.scripts.Command.TheVariants as command
use Rattle.spec_text.specs.Words as text_words

-- ---- what `clap` reads

abbrev pub positional : Text → Bool → Rule
positional name is_required = record (new_rule name) { action = Some Set; required = is_required }

abbrev pub flag : Text → Rule
flag name = record (new_rule name) { long = Some name; action = Some SetTrue }

abbrev pub option : Text → Rule
option name = record (new_rule name) { long = Some name; action = Some Set }

-- the words do not hold the program's name, and there is no flag for help and none for the version
abbrev pub plain_axrun : App
plain_axrun = on_top (λ s. record s { no_binary_name = true; disable_help_flag = true; disable_version_flag = true })
    (new_app (codes "axrun"))

-- `axrun COMMAND [OPERAND] [--json] [--steps] [--nodes N] [--timeout T]`
unfoldable pub axrun : App
axrun =
    with_rule (with_rule (with_rule (with_rule (with_rule (with_rule plain_axrun
    (positional (codes "command") true)) (positional (codes "operand") false))
    (flag (codes "json"))) (flag (codes "steps")))
    (option (codes "nodes"))) (option (codes "timeout"))

-- what the words give beside the command
pub record Operands : Type 0 where
  pub operand : Option Text
  pub json : Bool
  pub steps : Bool
  pub nodes : Option Text
  pub timeout : Option Text

abbrev pub is_set : Option Text → Bool
is_set value = option_map_or (λ v. bytes_eq v (codes "true")) value false

abbrev pub operands : List Row → Operands
operands rows = record {
  operand = first_of (codes "operand") rows;
  json = is_set (first_of (codes "json") rows);
  steps = is_set (first_of (codes "steps") rows);
  nodes = first_of (codes "nodes") rows;
  timeout = first_of (codes "timeout") rows;
}

-- ---- which command it is

-- no flag or option is given but those that the command takes: `--json`, `--steps`, and `--nodes` with `--timeout`
abbrev pub takes_only : Bool → Bool → Bool → Operands → Bool
takes_only json steps options g =
    (json || not g.json) && ((steps || not g.steps) && (options || not (is_some g.nodes || is_some g.timeout)))

-- `run [--json]`
abbrev pub run_of : Operands → Option Command
run_of g = if takes_only true false false g && is_none g.operand then Some (command.Run g.json) else None

-- `run-in FOLDER [--json]`
abbrev pub run_in_of : Operands → Option Command
run_in_of g =
    if takes_only true false false g then option_map (λ folder. command.RunIn folder g.json) g.operand else None

-- `gen SEED`, with a seed from 0 to 2,147,483,647
abbrev pub gen_of : Operands → Option Command
gen_of g =
    if takes_only false false false g then option_map command.Gen (option_and_then (text_words.number_within 0 MAX_SEED) g.operand)
    else None

-- `race [--steps]`
abbrev pub race_of : Operands → Option Command
race_of g = if takes_only false true false g && is_none g.operand then Some (command.Race g.steps) else None

-- `upgrade FOLDER`
abbrev pub upgrade_of : Operands → Option Command
upgrade_of g = if takes_only false false false g then option_map command.Upgrade g.operand else None

-- `audit TIMEOUT`
abbrev pub audit_of : Operands → Option Command
audit_of g =
    if takes_only false false false g then option_map command.Audit (option_and_then text_words.timeout_of g.operand) else None

-- `salvage FOLDER --nodes N --timeout TIMEOUT`
abbrev pub salvage_of : Operands → Option Command
salvage_of g =
    if takes_only false false true g
    then option_and_then (λ folder. text_words.both (command.Salvage folder) (option_and_then (text_words.number_within 1 9) g.nodes)
    (option_and_then text_words.timeout_of g.timeout)) g.operand
    else None

abbrev pub command_by : Text → Operands → Option Command
command_by word g =
    if bytes_eq word (codes "run") then run_of g
    else if bytes_eq word (codes "run-in") then run_in_of g
    else if bytes_eq word (codes "gen") then gen_of g
    else if bytes_eq word (codes "race") then race_of g
    else if bytes_eq word (codes "upgrade") then upgrade_of g
    else if bytes_eq word (codes "audit") then audit_of g
    else if bytes_eq word (codes "salvage") then salvage_of g
    else None

abbrev pub command_in : List Row → Option Command
command_in rows = option_and_then (λ word. command_by word (operands rows)) (first_of (codes "command") rows)

-- the command of these words; none where `clap` refuses them, or no command has them
abbrev pub command_of_words : List Text → Option Command
command_of_words words = if is_empty (fault_of axrun words) then command_in (matches_of axrun words) else None
