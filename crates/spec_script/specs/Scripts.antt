-- How bytes are read as a script, and which line is refused and why where they are none.
use Rattle.std.specs.Prelude.{ℕ, ◌+◌, ◌-◌, ◌==◌, ◌&&◌, Bool, true, false, not, nat_lt, min, max, List, [], ◌∷◌, ◌++◌, length, take, replicate, slice_index, slice_set, Option, Some, None, option_map, option_and_then, Result, Ok, Err, if◌then◌else◌, codes, bytes_eq}
use Rattle.std.specs.List.{slice_split}
use Rattle.ax_types.specs.declared.limits.TheConstants.{MAX_SCRIPT, MAX_LINE, MAX_CALLS, MAX_ROUND}
use Rattle.ax_types.specs.declared.ops.WindowCall.{WindowCall}
use Rattle.ax_types.specs.declared.scripts.Line.{Line}
use Rattle.ax_types.specs.declared.scripts.Line.TheVariants as line
use Rattle.ax_types.specs.declared.scripts.Script.{Script}
use Rattle.ax_types.specs.declared.statuses.Why.{Why}
use Rattle.ax_types.specs.declared.statuses.Why.TheVariants as why
use Rattle.ax_types.specs.declared.steps.Step.{Step}
use Rattle.ax_types.specs.declared.steps.Step.TheVariants as step
use Rattle.ax_types.specs.declared.steps.WatchKind.{WatchKind}
use Rattle.spec_text.specs.Words as text_words
use Rattle.spec_text.specs.OperationWords as operation_words
use Rattle.spec_script.specs.StepLines as step_lines

-- ---- one line

-- a line that does nothing: it is empty or begins with `#`
abbrev pub is_skipped : List ℕ → Bool
is_skipped [] = true
is_skipped (b ∷ bs) = b == 35

-- what has been read: the script so far, the greatest caller, and how many calls each of 16 callers has
pub record Draft : Type 0 where
  pub script : Script
  pub callers : ℕ
  pub totals : List ℕ

abbrev pub new_draft : ℕ → ℕ → ℕ → Draft
new_draft nodes clients timeout = record {
  script = record {
    nodes = nodes;
    clients = clients;
    timeout = timeout;
    lines = [];
    callers = [];
    plan = [];
    feeds = [];
    last_line = 0;
  };
  callers = 0;
  totals = replicate 16 0;
}

-- by the three words of a cluster line that are always the same
abbrev pub is_cluster_line : text_words.Word → text_words.Word → text_words.Word → Bool
is_cluster_line a b c = bytes_eq a (codes "cluster") && (bytes_eq b (codes "clients") && bytes_eq c (codes "timeout"))

-- by its numbers of nodes and clients and its timeout
abbrev pub sized_draft : text_words.Word → text_words.Word → text_words.Word → Option Draft
sized_draft n m t = option_and_then (λ nodes. text_words.both (new_draft nodes) (text_words.client_of 16 m) (text_words.timeout_of t)) (text_words.node_of 9 n)

-- `cluster N clients M timeout T`
abbrev pub cluster_draft : List text_words.Word → Option Draft
cluster_draft (a ∷ n ∷ b ∷ m ∷ c ∷ t ∷ []) = if is_cluster_line a b c then sized_draft n m t else None
cluster_draft _ = None

-- a line after the cluster line that `run` takes: a step, `flush` or `settle K`
abbrev pub line_of : ℕ → ℕ → List text_words.Word → Option Line
line_of nodes clients [] = None
line_of nodes clients (w ∷ ws) =
    if bytes_eq w (codes "flush") then operation_words.without_operands line.Flush ws
    else if bytes_eq w (codes "settle") then option_map line.Settle (step_lines.only_node nodes ws)
    else option_map line.Do (step_lines.step_of nodes clients (w ∷ ws))

abbrev pub is_empty : {A : Type 0} → List A → Bool
is_empty [] = true
is_empty (x ∷ xs) = false

-- whether lines of `race` have come, after which no line of the set-up may stand
abbrev pub is_set_up : Script → Bool
is_set_up s = not (is_empty s.callers && (is_empty s.plan && is_empty s.feeds))

-- what is read where the line with this number is that of the set-up
abbrev pub with_line : ℕ → Draft → Line → Draft
with_line number d l = record d { script = record d.script { lines = d.script.lines ++ (number, l) ∷ [] } }

abbrev pub after_set_up_line : ℕ → List text_words.Word → Draft → Option Draft
after_set_up_line number ws d =
    if is_set_up d.script then None
    else option_map (with_line number d) (line_of d.script.nodes d.script.clients ws)

abbrev pub with_caller : ℕ → Draft → ℕ → ℕ → WindowCall → Draft
with_caller number d caller count call = record {
  script = record d.script {
    callers = d.script.callers ++ record { line = number; caller = caller; count = count; call = call } ∷ [];
  };
  callers = max d.callers caller;
  totals = slice_set d.totals (caller - 1) (slice_index d.totals (caller - 1) + count);
}

-- a caller's number: it is known, or the next one
abbrev pub caller_of : Draft → text_words.Word → Option ℕ
caller_of d w = text_words.number_within 1 (min 16 (d.callers + 1)) w

-- a number of calls: the caller has 10,000 calls at most
abbrev pub count_of : Draft → ℕ → text_words.Word → Option ℕ
count_of d caller w = text_words.number_within 1 (MAX_CALLS - slice_index d.totals (caller - 1)) w

-- `caller I N CALL`, behind its first word
abbrev pub after_caller : ℕ → List text_words.Word → Draft → Option Draft
after_caller number (i ∷ n ∷ ws) d =
    option_and_then (λ caller. text_words.both (with_caller number d caller) (count_of d caller n) (operation_words.call_of ws)) (caller_of d i)
after_caller number _ d = None

-- whether a step may stand behind `at R`
abbrev pub is_planned : Step → Bool
is_planned (step.Elect node) = true
is_planned (step.Beat node) = true
is_planned (step.Crash node) = true
is_planned (step.Start node) = true
is_planned (step.Clock node time) = true
is_planned (step.Expire node) = true
is_planned (step.Cut one other) = true
is_planned (step.Join one other) = true
is_planned (step.Switch client node) = client == 1
is_planned (step.Keep client) = client == 1
is_planned _ = false

abbrev pub planned : Step → Option Step
planned s = if is_planned s then Some s else None

abbrev pub with_plan : Draft → ℕ → Step → Draft
with_plan d round s = record d { script = record d.script { plan = d.script.plan ++ (round, s) ∷ [] } }

-- `at R LINE`, behind its first word
abbrev pub after_plan : List text_words.Word → Draft → Option Draft
after_plan (r ∷ ws) d =
    text_words.both (with_plan d) (text_words.number_within 1 MAX_ROUND r)
    (option_and_then planned (step_lines.step_of d.script.nodes d.script.clients ws))
after_plan [] d = None

abbrev pub with_feed : Draft → ℕ × WatchKind → Draft
with_feed d feed = record d { script = record d.script { feeds = d.script.feeds ++ feed ∷ [] } }

-- `feed C KIND`, behind its first word: there are 16 at most
abbrev pub after_feed : List text_words.Word → Draft → Option Draft
after_feed ws d =
    if nat_lt (length d.script.feeds) 16 then option_map (with_feed d) (step_lines.client_and_watch d.script.clients ws) else None

-- a line that only `race` takes, or one of the set-up
abbrev pub after_race_line : ℕ → List text_words.Word → Draft → Option Draft
after_race_line number [] d = None
after_race_line number (w ∷ ws) d =
    if bytes_eq w (codes "caller") then after_caller number ws d
    else if bytes_eq w (codes "at") then after_plan ws d
    else if bytes_eq w (codes "feed") then after_feed ws d
    else after_set_up_line number (w ∷ ws) d

-- the line with this number was the last that is not empty
abbrev pub at_line : ℕ → Draft → Draft
at_line number d = record d { script = record d.script { last_line = number } }

-- what has been read after a line with words; none where it is no line of the grammar
abbrev pub after_words : Bool → ℕ → List text_words.Word → Draft → Option Draft
after_words race number ws d =
    option_map (at_line number) (if race then after_race_line number ws d else after_set_up_line number ws d)

-- after a line that does nothing
abbrev pub after_skipped : ℕ → List ℕ → Draft → Draft
after_skipped number l d = if is_empty l then d else at_line number d

-- ---- which reason a line is refused for, if any

-- a line and where it stands
pub record LinePosition : Type 0 where
  pub race : Bool
  pub number : ℕ
  -- no newline ends it
  pub is_last : Bool
  -- it holds the byte after the longest script
  pub is_past : Bool

-- a line and a script have a greatest length
abbrev pub in_limits : Bool → List ℕ → Option Why
in_limits is_past l =
    if nat_lt MAX_LINE (length l) then Some why.LineTooLong
    else if is_past then Some why.TooLong
    else None

-- what has been read, or why the line is refused: of its reasons that come first which is handed in
abbrev pub unless_refused : {A : Type 0} → Option Why → Result A Why → Result A Why
unless_refused (Some reason) r = Err reason
unless_refused None r = r

abbrev pub or_refused : {A : Type 0} → Why → Option A → Result A Why
or_refused reason None = Err reason
or_refused reason (Some x) = Ok x

abbrev pub after_cluster : LinePosition → List ℕ → Option Draft → Result (Option Draft) Why
after_cluster p l None = Err why.Cluster
after_cluster p l (Some d) = unless_refused (in_limits p.is_past l) (Ok (Some (at_line p.number d)))

-- after a line where the cluster line is due
abbrev pub after_first : LinePosition → List ℕ → Result (Option Draft) Why
after_first p l =
    if is_skipped l then
    (if p.is_last then Err why.Cluster else unless_refused (in_limits p.is_past l) (Ok None))
    else after_cluster p l (cluster_draft (text_words.words_of l))

-- after a later line
abbrev pub after_later : LinePosition → List ℕ → Draft → Result (Option Draft) Why
after_later p l d = unless_refused (in_limits p.is_past l)
    (if is_skipped l then Ok (Some (after_skipped p.number l d))
    else or_refused why.Grammar (option_map (λ e. Some e) (after_words p.race p.number (text_words.words_of l) d)))

abbrev pub after_line : LinePosition → List ℕ → Option Draft → Result (Option Draft) Why
after_line p l None = after_first p l
after_line p l (Some d) = after_later p l d

-- ---- all lines

-- the first line that is refused, and the first reason for it
pub record Refusal : Type 0 where
  pub line : ℕ
  pub why : Why

abbrev pub holds_last_byte : List (List ℕ) → Bool
holds_last_byte [] = true
holds_last_byte ([] ∷ []) = true
holds_last_byte _ = false

-- where a line with this number stands, with these lines after it. Where the input is too long, its last byte is the one
-- after the longest script.
abbrev pub position_of : Bool → Bool → ℕ → List (List ℕ) → LinePosition
position_of race is_long number more = record {
  race = race;
  number = number;
  is_last = is_empty more;
  is_past = is_long && holds_last_byte more;
}

abbrev pub script_of : ℕ → Option Draft → Result Script Refusal
script_of number None = Err (record { line = number; why = why.Cluster })
script_of number (Some d) = Ok d.script

abbrev pub go_on : ℕ → Result (Option Draft) Why → (Option Draft → Result Script Refusal) → Result Script Refusal
go_on number (Err reason) next = Err (record { line = number; why = reason })
go_on number (Ok d) next = next d

abbrev pub read_lines : Bool → Bool → List (List ℕ) → ℕ → Option Draft → Result Script Refusal
read_lines race is_long [] number d = script_of number d
read_lines race is_long (l ∷ more) number d =
    go_on number (after_line (position_of race is_long number more) l d) (read_lines race is_long more (number + 1))

-- the bytes of the longest script
unfoldable pub longest_script : ℕ
longest_script = MAX_SCRIPT

unfoldable pub is_too_long : List ℕ → Bool
is_too_long bytes = nat_lt longest_script (length bytes)

abbrev pub bytes_up_to_limit : Bool → List ℕ → List ℕ
bytes_up_to_limit false bytes = bytes
bytes_up_to_limit true bytes = take (longest_script + 1) bytes

-- the bytes that are judged: all, or those up to the one after the longest script
abbrev pub judged_bytes : List ℕ → List ℕ
judged_bytes bytes = bytes_up_to_limit (is_too_long bytes) bytes

-- the script, or the first line that is refused and why. Of several reasons the first of Cluster, LineTooLong, TooLong and Grammar counts.
abbrev pub read_script_of : Bool → List ℕ → Result Script Refusal
read_script_of race bytes =
    read_lines race (is_too_long bytes) (slice_split (λ b. b == 10) (judged_bytes bytes)) 1 None
