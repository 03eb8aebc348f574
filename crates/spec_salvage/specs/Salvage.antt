-- A salvage: of the stores that are left the newest log, and the acts that it holds.
use Rattle.std.specs.Prelude.{ℕ, Bool, if◌then◌else◌, List, [], ◌∷◌, ◌++◌, length, map, flat_map, codes, Option, Some, None, Result, Ok, Err}
use Rattle.std.specs.Fmt.{decimal}
use Rattle.ax_types.specs.declared.entries.Act.{Act}
use Rattle.ax_types.specs.declared.findings.Found.{Found}
use Rattle.ax_types.specs.declared.findings.Found.TheVariants as found
use Rattle.ax_types.specs.declared.statuses.Status.{Status}
use Rattle.ax_types.specs.declared.statuses.Status.TheVariants as status
use Rattle.spec_raft.specs.Majority as majorities
use Rattle.spec_journal.specs.Journal as journals
use Rattle.spec_report.specs.CallLines as call_lines
use Rattle.spec_report.specs.Items as report_items
use Rattle.spec_report.specs.Report as reports
use Rattle.spec_run.specs.KeptStores as kept_stores

-- what the store of a node is to a salvage
abbrev pub found_of : ℕ → journals.Remains → Found
found_of node journals.Nothing = found.Empty node
found_of node (journals.Good content) = found.Good node content
found_of node (journals.Bad at) = found.Bad node at

abbrev pub good_in : Found → List kept_stores.FoundStore
good_in (found.Good node content) = record { node = node; content = content } ∷ []
good_in f = []

-- the good ones, in order
abbrev pub goods : List Found → List kept_stores.FoundStore
goods fs = flat_map good_in fs

-- more than half of the stores are good
abbrev pub has_majority : List Found → Bool
has_majority fs = majorities.is_most (length (goods fs)) (length fs)

-- `store K TERM LAST`, `store K empty`, `store K bad AT`
abbrev pub store_line : Found → List ℕ
store_line (found.Good node content) = call_lines.three_operands (codes "store") (decimal node) (decimal content.term) (decimal (length content.log))
store_line (found.Empty node) = call_lines.two_operands (codes "store") (decimal node) (codes "empty")
store_line (found.Bad node at) = call_lines.three_operands (codes "store") (decimal node) (codes "bad") (decimal at)

-- `newest K`, then the history that its log tells
abbrev pub newest_lines : ℕ → Option kept_stores.FoundStore → List (List ℕ)
newest_lines timeout None = []
newest_lines timeout (Some best) =
    let history : List (ℕ × Act) = kept_stores.acts_of timeout best.content.log in
    call_lines.one_operand (codes "newest") (decimal best.node) ∷ reports.history_line history ∷ reports.act_lines 1 history

abbrev pub salvage_lines : ℕ → List Found → List (List ℕ)
salvage_lines timeout fs = codes "salvage 1" ∷ map store_line fs ++ (newest_lines timeout (kept_stores.newest (goods fs)) ++ codes "end done" ∷ [])

-- what a salvage of these stores writes, or that too few of them are good
abbrev pub salvaged : ℕ → List Found → Result (List ℕ) Status
salvaged timeout fs =
    if has_majority fs then Ok (report_items.lines_text (salvage_lines timeout fs)) else Err (status.NoMajority (length (goods fs)) (length fs))
