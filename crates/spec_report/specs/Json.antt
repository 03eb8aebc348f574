-- The JSON form of a report: the text, with no space, of one object, and a newline.
use Rattle.std.specs.Prelude.{ℕ, List, [], ◌∷◌, ◌++◌, map, codes}
use Rattle.serde_json.specs.Data.{Data, Items, unsigned, number, string, array, object, no_members, member}
use Rattle.serde_json.specs.View.{items_of}
use Rattle.serde_json.specs.Written.{compact_text}
use Rattle.ax_types.specs.declared.scripts.Report.{Report}
use Rattle.spec_report.specs.Items as report_items
use Rattle.spec_report.specs.Report as reports

-- lines as strings
abbrev pub strings_of : List (List ℕ) → Items
strings_of lines = items_of (map string lines)

-- the object of a report's end and its three lists
abbrev pub report_object : List ℕ → Data → Data → Data → Data
report_object end history items waiting = object
    (member (codes "end") (string end)
    (member (codes "history") history
    (member (codes "items") items
    (member (codes "report") (number (unsigned 1))
    (member (codes "waiting") waiting
    no_members)))))

-- the object of a report: its lists hold the lines, without their newlines
abbrev pub report_data : Report → Data
report_data report = report_object
    (reports.end_word report.end)
    (array (strings_of (reports.act_lines 1 report.history)))
    (array (strings_of (map report_items.item_line report.items)))
    (array (strings_of (map report_items.waiting_line report.waiting)))

abbrev pub json_text : Report → List ℕ
json_text report = compact_text (report_data report) ++ (10 ∷ [])
