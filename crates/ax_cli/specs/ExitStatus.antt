-- The number that the process ends with, and the line that it prints for it.
use Rattle.std.specs.Prelude.{ℕ, List, [], ◌∷◌, ◌++◌, codes}
use Rattle.std.specs.Fmt.{decimal}
use Rattle.ax_types.specs.declared.statuses.Status.{Status}
use Rattle.ax_types.specs.declared.statuses.Status.TheVariants as status
use Rattle.ax_types.specs.declared.statuses.Why.{Why}
use Rattle.ax_types.specs.declared.statuses.Why.TheVariants as why
use Rattle.ax_types.specs.declared.statuses.ReportWhy.{ReportWhy}
use Rattle.ax_types.specs.declared.statuses.ReportWhy.TheVariants as report_why

abbrev pub exit_number_of : Status → ℕ
exit_number_of status.Done = 0
exit_number_of status.Usage = 1
exit_number_of (status.Script line w) = 2
exit_number_of status.ReadFault = 3
exit_number_of status.WriteFault = 4
exit_number_of status.NoMemory = 5
exit_number_of (status.StoreNotEmpty node) = 6
exit_number_of (status.StoreFault node) = 6
exit_number_of (status.StepLimit line) = 7
exit_number_of status.NoThread = 8
exit_number_of (status.StoreBad node at) = 9
exit_number_of (status.NotReport w) = 10
exit_number_of (status.NoMajority good nodes) = 11

abbrev pub why_word : Why → List ℕ
why_word why.Cluster = codes "Cluster"
why_word why.LineTooLong = codes "LineTooLong"
why_word why.TooLong = codes "TooLong"
why_word why.Grammar = codes "Grammar"
why_word why.NoSession = codes "NoSession"

abbrev pub report_why_word : ReportWhy → List ℕ
report_why_word report_why.TooLong = codes "TooLong"
report_why_word report_why.Json = codes "Json"
report_why_word report_why.Shape = codes "Shape"

abbrev pub status_text : Status → List ℕ
status_text status.Done = codes "done"
status_text status.Usage =
    codes "usage: axrun run|run-in DIR|gen N|race|upgrade DIR|audit T|salvage DIR [--json] [--steps] [--nodes N] [--timeout T]"
status_text (status.Script line w) = codes "script: line " ++ (decimal line ++ (codes ": " ++ why_word w))
status_text status.ReadFault = codes "read fault"
status_text status.WriteFault = codes "write fault"
status_text status.NoMemory = codes "no memory"
status_text (status.StoreNotEmpty node) = codes "store " ++ (decimal node ++ codes " not empty")
status_text (status.StoreFault node) = codes "store " ++ (decimal node ++ codes " fault")
status_text (status.StepLimit line) = codes "step limit at line " ++ decimal line
status_text status.NoThread = codes "no thread"
status_text (status.StoreBad node at) = codes "store " ++ (decimal node ++ (codes " bad at " ++ decimal at))
status_text (status.NotReport w) = codes "report: " ++ report_why_word w
status_text (status.NoMajority good nodes) = codes "no majority: " ++ (decimal good ++ (codes " of " ++ decimal nodes))
