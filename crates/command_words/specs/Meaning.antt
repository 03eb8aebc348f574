-- What the reader of words answers, as the definitions say it.
use Rattle.std.specs.Prelude.{◌≡◌, false, true, ⊤, List, Option, Some, None, Result, Ok, Err}
use Rattle.clap.specs.declared.parser.matches.ArgMatches.{ArgMatches}
use Rattle.clap.specs.Faults.{fault_of}
use Rattle.clap.specs.Matches.{found_of}
use Rattle.clap.specs.Simple.{matches_of}
use Rattle.clap.specs.Walk.{Text, is_empty, rows_of}
use Rattle.spec_command.specs.CommandLine as command_lines
use Rattle.command_words.specs.declared.words.WordsRefused.{WordsRefused}
use Rattle.command_words.specs.declared.words.WordsRefused.TheVariants.{Usage, NoMemory}

-- the answer is the value that is meant, or Usage where none is; want of memory says nothing
abbrev pub Means : {A : Type 0} → Option A → Result A WordsRefused → Type 0
Means meant (Ok x) = meant ≡ Some x
Means meant (Err Usage) = meant ≡ None
Means meant (Err NoMemory) = ⊤

-- the words have no fault and these matches, or they have a fault
abbrev pub Parses : List Text → Result ArgMatches WordsRefused → Type 0
Parses words (Ok m) = (is_empty (fault_of command_lines.axrun words) ≡ true) × (rows_of (found_of m) ≡ matches_of command_lines.axrun words)
Parses words (Err Usage) = is_empty (fault_of command_lines.axrun words) ≡ false
Parses words (Err NoMemory) = ⊤
