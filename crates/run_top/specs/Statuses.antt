-- The statuses of runs that write nothing, of runs that are given up, and of runs that end.
use Rattle.ax_io.specs.declared.sources.ReadError.{ReadError}
use Rattle.ax_io.specs.declared.sources.ReadError.TheVariants as read_error
use Rattle.ax_types.specs.declared.scripts.RunEnd.{RunEnd}
use Rattle.ax_types.specs.declared.scripts.RunEnd.TheVariants as ends
use Rattle.ax_types.specs.declared.statuses.Status.{Status}
use Rattle.ax_types.specs.declared.statuses.Status.TheVariants as status
use Rattle.command_words.specs.declared.words.WordsRefused.{WordsRefused}
use Rattle.command_words.specs.declared.words.WordsRefused.TheVariants as words_refused
use Rattle.store_opening.specs.declared.opening.OpenRefused.{OpenRefused}
use Rattle.store_opening.specs.declared.opening.OpenRefused.TheVariants as open_refused
use Rattle.script_run.specs.declared.telling.GivenUp.{GivenUp}
use Rattle.script_run.specs.declared.telling.GivenUp.TheVariants as given_up
use Rattle.run_top.specs.declared.refusals.Refused.{Refused}
use Rattle.run_top.specs.declared.refusals.Refused.TheVariants as refused

abbrev pub status_of : Refused → Status
status_of refused.Usage = status.Usage
status_of (refused.Script line why) = status.Script line why
status_of refused.ReadFault = status.ReadFault
status_of (refused.StoreNotEmpty node) = status.StoreNotEmpty node
status_of (refused.StoreFault node) = status.StoreFault node
status_of refused.NoMemory = status.NoMemory

abbrev pub of_words : WordsRefused → Refused
of_words words_refused.Usage = refused.Usage
of_words words_refused.NoMemory = refused.NoMemory

abbrev pub of_read : ReadError → Refused
of_read read_error.Failed = refused.ReadFault
of_read read_error.NoMemory = refused.NoMemory

abbrev pub of_opening : OpenRefused → Refused
of_opening (open_refused.NotEmpty node) = refused.StoreNotEmpty node
of_opening (open_refused.Fault node) = refused.StoreFault node
of_opening open_refused.NoMemory = refused.NoMemory

abbrev pub of_given_up : GivenUp → Status
of_given_up given_up.NoMemory = status.NoMemory
of_given_up given_up.WriteFault = status.WriteFault

-- all lines were run, or a line needs one step more than a run may have
abbrev pub of_end : RunEnd → Status
of_end ends.Done = status.Done
of_end (ends.StepLimit line) = status.StepLimit line
