-- Which JSON values are reports, and which report each is; and why bytes are none.
use Rattle.std.specs.Prelude.{ℕ, suc, ◌+◌, nat_lt, nat_eq, Bool, false, List, [], ◌∷◌, length, Option, Some, None, option_map, option_and_then, Result, Ok, Err, if◌then◌else◌, codes}
use Rattle.std.specs.Str.{is_utf8}
use Rattle.serde_json.specs.Data.{Data, Items, Members, no_items, item, no_members, member, object}
use Rattle.serde_json.specs.Find.{get, as_number, as_u64, as_str, as_array}
use Rattle.serde_json.specs.Read.{read}
use Rattle.ax_types.specs.declared.limits.TheConstants.{MAX_REPORT}
use Rattle.ax_types.specs.declared.entries.Act.{Act}
use Rattle.ax_types.specs.declared.items.Item.{Item}
use Rattle.ax_types.specs.declared.scripts.Report.{Report}
use Rattle.ax_types.specs.declared.scripts.RunEnd.{RunEnd}
use Rattle.ax_types.specs.declared.statuses.ReportWhy.{ReportWhy}
use Rattle.ax_types.specs.declared.statuses.ReportWhy.TheVariants as report_why
use Rattle.spec_text.specs.Words as text_words
use Rattle.spec_report_read.specs.ItemWords as item_words

-- ---- lines, which are strings

-- the words of a line
abbrev pub line_words : Data → Option (List text_words.Word)
line_words d = option_map text_words.words_of (as_str d)

abbrev pub item_in : Data → Option Item
item_in d = option_and_then item_words.item_from (line_words d)

abbrev pub entry_in : ℕ → Data → Option (ℕ × Act)
entry_in place d = option_and_then (item_words.entry_from place) (line_words d)

abbrev pub waiting_call_in : Data → Option (ℕ × ℕ)
waiting_call_in d = option_and_then item_words.waiting_call_from (line_words d)

-- f of each thing and its place, of which the first is this one, where it has a value for all
abbrev pub each_in : {T : Type 0} → (ℕ → Data → Option T) → ℕ → Items → Option (List T)
each_in f place no_items = Some []
each_in f place (item d ds) = text_words.both (λ x xs. x ∷ xs) (f place d) (each_in f (place + 1) ds)

abbrev pub items_in : Items → Option (List Item)
items_in lines = each_in (λ place d. item_in d) 1 lines

abbrev pub history_in : Items → Option (List (ℕ × Act))
history_in lines = each_in entry_in 1 lines

abbrev pub waiting_calls_in : Items → Option (List (ℕ × ℕ))
waiting_calls_in lines = each_in (λ place d. waiting_call_in d) 1 lines

abbrev pub run_end_in : Data → Option RunEnd
run_end_in d = option_and_then item_words.run_end_from (line_words d)

-- ---- the object

abbrev pub items_array : Data → Option (List Item)
items_array d = option_and_then items_in (as_array d)

abbrev pub history_array : Data → Option (List (ℕ × Act))
history_array d = option_and_then history_in (as_array d)

abbrev pub waiting_array : Data → Option (List (ℕ × ℕ))
waiting_array d = option_and_then waiting_calls_in (as_array d)

-- the number 1
abbrev pub is_one : Data → Bool
is_one d = item_words.is_that_number 1 (option_and_then as_u64 (as_number d))

-- of an end and the three lists
abbrev pub listed_report : Data → Data → Data → Data → Option Report
listed_report end history items waiting =
    option_and_then (λ e. option_and_then (λ h. option_and_then (λ i. option_map (λ w. record { items = i; history = h; waiting = w; end = e })
    (waiting_array waiting)) (items_array items)) (history_array history)) (run_end_in end)

-- of the values of the five keys
abbrev pub keyed_report : Option Data → Option Data → Option Data → Option Data → Option Data → Option Report
keyed_report (Some end) (Some history) (Some items) (Some version) (Some waiting) = if is_one version then listed_report end history items waiting else None
keyed_report _ _ _ _ _ = None

abbrev pub count_of_members : Members → ℕ
count_of_members no_members = 0
count_of_members (member k d ms) = suc (count_of_members ms)

abbrev pub has_five_members : Data → Bool
has_five_members (object ms) = nat_eq (count_of_members ms) 5
has_five_members _ = false

-- the report of an object with five keys: `end`, `history`, `items`, `report` and `waiting`
abbrev pub report_from_data : Data → Option Report
report_from_data d =
    if has_five_members d then keyed_report (get (codes "end") d) (get (codes "history") d) (get (codes "items") d) (get (codes "report") d) (get (codes "waiting") d)
    else None

-- ---- bytes

-- the JSON value of bytes
abbrev pub data_from_bytes : List ℕ → Option Data
data_from_bytes bytes = if is_utf8 bytes then read bytes else None

abbrev pub or_shape : Option Report → Result Report ReportWhy
or_shape None = Err report_why.Shape
or_shape (Some r) = Ok r

abbrev pub or_json : Option Data → Result Report ReportWhy
or_json None = Err report_why.Json
or_json (Some d) = or_shape (report_from_data d)

-- the bytes of the longest report
unfoldable pub longest_report : ℕ
longest_report = MAX_REPORT

unfoldable pub is_longer : List ℕ → Bool
is_longer bytes = nat_lt longest_report (length bytes)

-- the report of bytes, or the first reason why they are none
abbrev pub read_report_from : List ℕ → Result Report ReportWhy
read_report_from bytes = if is_longer bytes then Err report_why.TooLong else or_json (data_from_bytes bytes)
