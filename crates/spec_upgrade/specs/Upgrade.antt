-- The upgrade of nodes' journals to the present version, and the line of each.
use Rattle.std.specs.Prelude.{ℕ, suc, List, [], ◌∷◌, ◌++◌, length, codes, Result, Ok, Err}
use Rattle.std.specs.Fmt.{decimal}
use Rattle.ax_types.specs.declared.entries.Loaded.{Loaded}
use Rattle.ax_types.specs.declared.entries.Upgraded.{Upgraded}
use Rattle.ax_types.specs.declared.statuses.Status.{Status}
use Rattle.ax_types.specs.declared.statuses.Status.TheVariants as status
use Rattle.spec_journal.specs.Records as journal_records
use Rattle.spec_journal.specs.Journal as journals
use Rattle.spec_report.specs.CallLines as call_lines
use Rattle.spec_report.specs.Items as report_items

-- the records of a journal once it is upgraded
abbrev pub upgraded_records : List journal_records.Record → List journal_records.Record
upgraded_records before = before ++ journals.upgrade_records before

-- what an upgrade finds: the version that the journal had, and the number of its entries; or where the bytes are no journal
abbrev pub finding : List journal_records.Record → Loaded → Upgraded
finding records content = record { version = journals.version_of records; entries = length content.log }

abbrev pub finding_of : journals.Journal → Result Upgraded ℕ
finding_of j = elim (journals.loaded_of j) [ Ok content ↦ Ok (finding j.records content) | Err at ↦ Err at ]

-- `store K version V entries N`
abbrev pub upgrade_line : ℕ → Upgraded → List ℕ
upgrade_line node u =
    call_lines.two_operands (codes "store") (decimal node) (call_lines.three_operands (codes "version") (decimal u.version) (codes "entries") (decimal u.entries))

-- a line more, unless a later store is no journal
abbrev pub with_upgrade_line : List ℕ → Result (List (List ℕ)) Status → Result (List (List ℕ)) Status
with_upgrade_line line (Ok lines) = Ok (line ∷ lines)
with_upgrade_line line (Err bad) = Err bad

-- the lines of stores, the first of them of this node, or the first that is no journal
abbrev pub upgrade_lines : ℕ → List journals.Journal → Result (List (List ℕ)) Status
upgrade_lines node [] = Ok []
upgrade_lines node (j ∷ js) = elim (finding_of j) [ Ok u ↦ with_upgrade_line (upgrade_line node u) (upgrade_lines (suc node) js) | Err at ↦ Err (status.StoreBad node at) ]

-- what an upgrade of the journals of nodes 1, 2, 3 .. writes, or the first that is no journal
abbrev pub upgrade_text : List journals.Journal → Result (List ℕ) Status
upgrade_text js = elim (upgrade_lines 1 js) [ Ok lines ↦ Ok (report_items.lines_text lines) | Err bad ↦ Err bad ]
