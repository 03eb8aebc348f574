-- A step is read from the words of its text.
use Rattle.std.proofs.Common.{◌≡◌, ℕ, ◌≤◌, true, nat_lt, List, [], ◌∷◌, refl, ap, ◌∙◌, lit<, codes, arith}
use Rattle.std.proofs.lemmas.Bool.Decides.{nat_tests}
use Rattle.std.specs.Prelude.{Some, None, option_and_then, option_map, if◌then◌else◌}
use Rattle.std.specs.Option.{option_or}
use Rattle.std.specs.Fmt.{decimal}
use Rattle.ax_types.specs.Ends as ends
use Rattle.ax_types.specs.declared.ids.End.{End}
use Rattle.ax_types.specs.declared.ids.End.TheVariants.{Node, Client}
use Rattle.ax_types.specs.declared.ops.Level.{Level}
use Rattle.ax_types.specs.declared.ops.Level.TheVariants.{Seq, Lin}
use Rattle.ax_types.specs.declared.steps.Step.{Step}
use Rattle.ax_types.specs.declared.steps.Step.TheVariants as step
use Rattle.ax_types.specs.declared.steps.WatchKind.{WatchKind}
use Rattle.ax_types.specs.declared.steps.WatchKind.TheVariants.{All, Changes, Grants}
use Rattle.spec_report.specs.CallLines as call_lines
use Rattle.spec_report.specs.Items as items
use Rattle.spec_text.specs.Words as text_words
use Rattle.spec_script.specs.StepLines as step_lines
use Rattle.law_report.proofs.Words.{IsLine, above, all-weaker, join, word}
use Rattle.law_report.proofs.Numbers.{decimal-above, number_line}
use Rattle.law_report.proofs.Operations.{op-line, op_words}
use Rattle.law_report.proofs.Queries.{query-line, query_words}
use Rattle.law_script.specs.StepForms as step_forms
use Rattle.law_script.proofs.Numbers.{number_within-read}
use Rattle.law_script.proofs.Operations.{command_call-read}
use Rattle.law_script.proofs.Parts.{both-read, pair-read}
use Rattle.law_script.proofs.Queries.{leveled_call-read}
use Rattle.law_script.proofs.Splits.{words-line}

-- the words of a step
abbrev pub step_words : Step → List text_words.Word
step_words (step.Elect node) = codes "elect" ∷ decimal node ∷ []
step_words (step.Beat node) = codes "beat" ∷ decimal node ∷ []
step_words (step.Crash node) = codes "crash" ∷ decimal node ∷ []
step_words (step.Start node) = codes "start" ∷ decimal node ∷ []
step_words (step.Clock node time) = codes "clock" ∷ decimal node ∷ decimal time ∷ []
step_words (step.Expire node) = codes "expire" ∷ decimal node ∷ []
step_words (step.Cut one other) = codes "cut" ∷ ends.link_end_text one ∷ ends.link_end_text other ∷ []
step_words (step.Join one other) = codes "join" ∷ ends.link_end_text one ∷ ends.link_end_text other ∷ []
step_words (step.Deliver number) = codes "deliver" ∷ decimal number ∷ []
step_words (step.Drop number) = codes "drop" ∷ decimal number ∷ []
step_words (step.Short number bytes) = codes "short" ∷ decimal number ∷ decimal bytes ∷ []
step_words step.List = codes "list" ∷ []
step_words (step.Open client node) = codes "open" ∷ decimal client ∷ decimal node ∷ []
step_words (step.Switch client node) = codes "switch" ∷ decimal client ∷ decimal node ∷ []
step_words (step.Resend client) = codes "resend" ∷ decimal client ∷ []
step_words (step.Keep client) = codes "keep" ∷ decimal client ∷ []
step_words (step.Close client) = codes "close" ∷ decimal client ∷ []
step_words (step.Watch client kind) = codes "watch" ∷ decimal client ∷ items.watch_text kind ∷ []
step_words (step.Call client name op) = codes "call" ∷ decimal client ∷ op_words name op
step_words (step.Query client level name query) = codes "query" ∷ decimal client ∷ call_lines.level_text level ∷ query_words name query

-- ---- the text of a step is a line of these words

number-above : (n : ℕ) → above 32 (decimal n) ≡ true
number-above n = all-weaker (nat_lt 46) (nat_lt 32) (λ x e. grind (arith, nat_tests)) (decimal n) (decimal-above n)

end-line : (e : End) → IsLine (ends.link_end_text e) (ends.link_end_text e ∷ [])
end-line (Node k) = word (110 ∷ decimal k) (number-above k)
end-line (Client c) = word (99 ∷ decimal c) (number-above c)

watch-line : (kind : WatchKind) → IsLine (items.watch_text kind) (items.watch_text kind ∷ [])
watch-line All = word (codes "all") refl
watch-line Changes = word (codes "changes") refl
watch-line Grants = word (codes "grants") refl

level-line : (level : Level) → IsLine (call_lines.level_text level) (call_lines.level_text level ∷ [])
level-line Seq = word (codes "seq") refl
level-line Lin = word (codes "lin") refl

pub step-line : (nodes clients : ℕ) (s : Step) → step_forms.IsStep nodes clients s → IsLine (step_lines.step_text s) (step_words s)
step-line nodes clients (step.Elect node) h = join (word (codes "elect") refl) (number_line node)
step-line nodes clients (step.Beat node) h = join (word (codes "beat") refl) (number_line node)
step-line nodes clients (step.Crash node) h = join (word (codes "crash") refl) (number_line node)
step-line nodes clients (step.Start node) h = join (word (codes "start") refl) (number_line node)
step-line nodes clients (step.Clock node time) h = join (word (codes "clock") refl) (join (number_line node) (number_line time))
step-line nodes clients (step.Expire node) h = join (word (codes "expire") refl) (number_line node)
step-line nodes clients (step.Cut one other) h = join (word (codes "cut") refl) (join (end-line one) (end-line other))
step-line nodes clients (step.Join one other) h = join (word (codes "join") refl) (join (end-line one) (end-line other))
step-line nodes clients (step.Deliver number) h = join (word (codes "deliver") refl) (number_line number)
step-line nodes clients (step.Drop number) h = join (word (codes "drop") refl) (number_line number)
step-line nodes clients (step.Short number bytes) h = join (word (codes "short") refl) (join (number_line number) (number_line bytes))
step-line nodes clients step.List h = word (codes "list") refl
step-line nodes clients (step.Open client node) h = join (word (codes "open") refl) (join (number_line client) (number_line node))
step-line nodes clients (step.Switch client node) h = join (word (codes "switch") refl) (join (number_line client) (number_line node))
step-line nodes clients (step.Resend client) h = join (word (codes "resend") refl) (number_line client)
step-line nodes clients (step.Keep client) h = join (word (codes "keep") refl) (number_line client)
step-line nodes clients (step.Close client) h = join (word (codes "close") refl) (number_line client)
step-line nodes clients (step.Watch client kind) h = join (word (codes "watch") refl) (join (number_line client) (watch-line kind))
step-line nodes clients (step.Call client name op) h = join (word (codes "call") refl) (join (number_line client) (op-line name op h.1 h.2))
step-line nodes clients (step.Query client level name query) h =
    join (word (codes "query") refl) (join (number_line client) (join (level-line level) (query-line name query h.1 h.2)))

-- ---- the words of a step are read as that step

end-read : (nodes clients : ℕ) (e : End) → nodes ≤ 9 → clients ≤ 16 → step_forms.IsLinkEnd nodes clients e → step_lines.end_of nodes clients (ends.link_end_text e) ≡ Some e
end-read nodes clients (Node k) n c h = ap (option_map Node) (number_within-read 1 nodes k (omega arith) h)
end-read nodes clients (Client k) n c h = ap (option_map Client) (number_within-read 1 clients k (omega arith) h)

link-read : (nodes clients : ℕ) (one other : End) → nodes ≤ 9 → clients ≤ 16 → step_forms.IsLinkOf nodes clients one other
    → step_lines.link_of nodes clients (ends.link_end_text one ∷ ends.link_end_text other ∷ []) ≡ Some (one, other)
link-read nodes clients one other n c h =
    (λ i. option_and_then (λ e. option_and_then (step_lines.link_between e) (end-read nodes clients other n c h.1 i)) (end-read nodes clients one n c h.0 i))
    ∙ ap (λ v. if v then Some (one, other) else None) h.2

watch-read : (kind : WatchKind) → step_lines.watch_kind_of (items.watch_text kind) ≡ Some kind
watch-read All = refl
watch-read Changes = refl
watch-read Grants = refl

node_found : (nodes clients : ℕ) (s : Step) → step_lines.node_step_of nodes (step_words s) ≡ Some s → step_lines.step_of nodes clients (step_words s) ≡ Some s
node_found nodes clients s h =
    let ws : List text_words.Word = step_words s in
    ap (λ o. option_or o (option_or (step_lines.network_step_of nodes clients ws) (option_or (step_lines.client_step_of nodes clients ws) (step_lines.call_step_of clients ws)))) h

network_found : (nodes clients : ℕ) (s : Step) → step_lines.node_step_of nodes (step_words s) ≡ None → step_lines.network_step_of nodes clients (step_words s) ≡ Some s
    → step_lines.step_of nodes clients (step_words s) ≡ Some s
network_found nodes clients s e h =
    let ws : List text_words.Word = step_words s in
    λ i. option_or (e i) (option_or (h i) (option_or (step_lines.client_step_of nodes clients ws) (step_lines.call_step_of clients ws)))

client_found : (nodes clients : ℕ) (s : Step) → step_lines.node_step_of nodes (step_words s) ≡ None → step_lines.network_step_of nodes clients (step_words s) ≡ None
    → step_lines.client_step_of nodes clients (step_words s) ≡ Some s → step_lines.step_of nodes clients (step_words s) ≡ Some s
client_found nodes clients s e f h =
    λ i. option_or (e i) (option_or (f i) (option_or (h i) (step_lines.call_step_of clients (step_words s))))

call_found : (nodes clients : ℕ) (s : Step) → step_lines.node_step_of nodes (step_words s) ≡ None → step_lines.network_step_of nodes clients (step_words s) ≡ None
    → step_lines.client_step_of nodes clients (step_words s) ≡ None → step_lines.call_step_of clients (step_words s) ≡ Some s → step_lines.step_of nodes clients (step_words s) ≡ Some s
call_found nodes clients s e f g h = λ i. option_or (e i) (option_or (f i) (option_or (g i) (h i)))

-- numbers of a cluster have 64 bits
pub step-read : (nodes clients : ℕ) (s : Step) → nodes ≤ 9 → clients ≤ 16 → step_forms.IsStep nodes clients s → step_lines.step_of nodes clients (step_words s) ≡ Some s
step-read nodes clients (step.Elect node) n c h =
    node_found nodes clients (step.Elect node) (ap (option_map step.Elect) (number_within-read 1 nodes node (omega arith) h))
step-read nodes clients (step.Beat node) n c h =
    node_found nodes clients (step.Beat node) (ap (option_map step.Beat) (number_within-read 1 nodes node (omega arith) h))
step-read nodes clients (step.Crash node) n c h =
    node_found nodes clients (step.Crash node) (ap (option_map step.Crash) (number_within-read 1 nodes node (omega arith) h))
step-read nodes clients (step.Start node) n c h =
    node_found nodes clients (step.Start node) (ap (option_map step.Start) (number_within-read 1 nodes node (omega arith) h))
step-read nodes clients (step.Clock node time) n c h =
    node_found nodes clients (step.Clock node time) (ap (option_map (λ (p : ℕ × ℕ). step.Clock p.0 p.1))
    (pair-read (number_within-read 1 nodes node (omega arith) h.0) (number_within-read 0 1000000000000000 time (lit< tt) h.1)))
step-read nodes clients (step.Expire node) n c h =
    node_found nodes clients (step.Expire node) (ap (option_map step.Expire) (number_within-read 1 nodes node (omega arith) h))
step-read nodes clients (step.Cut one other) n c h =
    network_found nodes clients (step.Cut one other) refl (ap (option_map (λ (p : End × End). step.Cut p.0 p.1)) (link-read nodes clients one other n c h))
step-read nodes clients (step.Join one other) n c h =
    network_found nodes clients (step.Join one other) refl (ap (option_map (λ (p : End × End). step.Join p.0 p.1)) (link-read nodes clients one other n c h))
step-read nodes clients (step.Deliver number) n c h =
    network_found nodes clients (step.Deliver number) refl (ap (option_map step.Deliver) (number_within-read 0 1000000000 number (lit< tt) h))
step-read nodes clients (step.Drop number) n c h =
    network_found nodes clients (step.Drop number) refl (ap (option_map step.Drop) (number_within-read 0 1000000000 number (lit< tt) h))
step-read nodes clients (step.Short number bytes) n c h =
    network_found nodes clients (step.Short number bytes) refl (ap (option_map (λ (p : ℕ × ℕ). step.Short p.0 p.1))
    (pair-read (number_within-read 0 1000000000 number (lit< tt) h.0) (number_within-read 0 1000000000 bytes (lit< tt) h.1)))
step-read nodes clients step.List n c h = network_found nodes clients step.List refl refl
step-read nodes clients (step.Open client node) n c h =
    client_found nodes clients (step.Open client node) refl refl (ap (option_map (λ (p : ℕ × ℕ). step.Open p.0 p.1))
    (pair-read (number_within-read 1 clients client (omega arith) h.0) (number_within-read 1 nodes node (omega arith) h.1)))
step-read nodes clients (step.Switch client node) n c h =
    client_found nodes clients (step.Switch client node) refl refl (ap (option_map (λ (p : ℕ × ℕ). step.Switch p.0 p.1))
    (pair-read (number_within-read 1 clients client (omega arith) h.0) (number_within-read 1 nodes node (omega arith) h.1)))
step-read nodes clients (step.Resend client) n c h =
    client_found nodes clients (step.Resend client) refl refl (ap (option_map step.Resend) (number_within-read 1 clients client (omega arith) h))
step-read nodes clients (step.Keep client) n c h =
    client_found nodes clients (step.Keep client) refl refl (ap (option_map step.Keep) (number_within-read 1 clients client (omega arith) h))
step-read nodes clients (step.Close client) n c h =
    client_found nodes clients (step.Close client) refl refl (ap (option_map step.Close) (number_within-read 1 clients client (omega arith) h))
step-read nodes clients (step.Watch client kind) n c h =
    client_found nodes clients (step.Watch client kind) refl refl (ap (option_map (λ (p : ℕ × WatchKind). step.Watch p.0 p.1))
    (pair-read (number_within-read 1 clients client (omega arith) h) (watch-read kind)))
step-read nodes clients (step.Call client name op) n c h =
    call_found nodes clients (step.Call client name op) refl refl refl
    (both-read step_lines.made_call (number_within-read 1 clients client (omega arith) h.0) (command_call-read name op h.1 h.2 h.3))
step-read nodes clients (step.Query client level name query) n c h =
    call_found nodes clients (step.Query client level name query) refl refl refl
    (both-read step_lines.made_call (number_within-read 1 clients client (omega arith) h.0) (leveled_call-read level name query h.1 h.2))

-- the text of a step is read as that step
pub step-back : (nodes clients : ℕ) (s : Step) → nodes ≤ 9 → clients ≤ 16 → step_forms.IsStep nodes clients s → step_lines.step_of nodes clients (text_words.words_of (step_lines.step_text s)) ≡ Some s
step-back nodes clients s n c h = ap (step_lines.step_of nodes clients) (words-line (step-line nodes clients s h)) ∙ step-read nodes clients s n c h
