-- How a step is read from the words of its line, and how it is written.
use Rattle.std.specs.Prelude.{ℕ, ◌==◌, Bool, true, false, not, List, [], ◌∷◌, Option, Some, None, option_map, option_and_then, if◌then◌else◌, codes, bytes_eq}
use Rattle.std.specs.Option.{option_or}
use Rattle.std.specs.Fmt.{decimal}
use Rattle.ax_types.specs.Ends as ax_types_ends
use Rattle.ax_types.specs.declared.ids.End.{End}
use Rattle.ax_types.specs.declared.ids.End.TheVariants.{Node, Client}
use Rattle.ax_types.specs.declared.ops.WindowCall.{WindowCall}
use Rattle.ax_types.specs.declared.ops.WindowCall.TheVariants as call
use Rattle.ax_types.specs.declared.steps.Step.{Step}
use Rattle.ax_types.specs.declared.steps.Step.TheVariants as step
use Rattle.ax_types.specs.declared.steps.WatchKind.{WatchKind}
use Rattle.ax_types.specs.declared.steps.WatchKind.TheVariants.{All, Changes, Grants}
use Rattle.spec_report.specs.CallLines as call_lines
use Rattle.spec_report.specs.Items as items
use Rattle.spec_text.specs.Words as text_words
use Rattle.spec_text.specs.OperationWords as operation_words

-- ---- operands

abbrev pub only_node : ℕ → List text_words.Word → Option ℕ
only_node nodes (k ∷ []) = text_words.node_of nodes k
only_node nodes _ = None

abbrev pub node_and_time : ℕ → List text_words.Word → Option (ℕ × ℕ)
node_and_time nodes (k ∷ t ∷ []) = text_words.both (λ node time. (node, time)) (text_words.node_of nodes k) (text_words.time_of t)
node_and_time nodes _ = None

abbrev pub only_number : List text_words.Word → Option ℕ
only_number (p ∷ []) = text_words.packet_number_of p
only_number _ = None

abbrev pub number_and_bytes : List text_words.Word → Option (ℕ × ℕ)
number_and_bytes (p ∷ b ∷ []) = text_words.both (λ number bytes. (number, bytes)) (text_words.packet_number_of p) (text_words.packet_number_of b)
number_and_bytes _ = None

abbrev pub only_client : ℕ → List text_words.Word → Option ℕ
only_client clients (c ∷ []) = text_words.client_of clients c
only_client clients _ = None

abbrev pub client_and_node : ℕ → ℕ → List text_words.Word → Option (ℕ × ℕ)
client_and_node nodes clients (c ∷ k ∷ []) = text_words.both (λ client node. (client, node)) (text_words.client_of clients c) (text_words.node_of nodes k)
client_and_node nodes clients _ = None

abbrev pub watch_kind_of : text_words.Word → Option WatchKind
watch_kind_of w =
    if bytes_eq w (codes "all") then Some All
    else if bytes_eq w (codes "changes") then Some Changes
    else if bytes_eq w (codes "grants") then Some Grants
    else None

abbrev pub client_and_watch : ℕ → List text_words.Word → Option (ℕ × WatchKind)
client_and_watch clients (c ∷ kind ∷ []) = text_words.both (λ client kind. (client, kind)) (text_words.client_of clients c) (watch_kind_of kind)
client_and_watch clients _ = None

-- `nK` or `cC`
abbrev pub end_of : ℕ → ℕ → text_words.Word → Option End
end_of nodes clients [] = None
end_of nodes clients (b ∷ bs) =
    if b == 110 then option_map Node (text_words.node_of nodes bs)
    else if b == 99 then option_map Client (text_words.client_of clients bs)
    else None

-- two ends are those of a link where they differ and not both are clients
abbrev pub is_link : End → End → Bool
is_link (Node a) (Node b) = not (a == b)
is_link (Node a) (Client c) = true
is_link (Client c) (Node a) = true
is_link (Client c) (Client d) = false

abbrev pub link_between : End → End → Option (End × End)
link_between one other = if is_link one other then Some (one, other) else None

abbrev pub link_of : ℕ → ℕ → List text_words.Word → Option (End × End)
link_of nodes clients (e ∷ f ∷ []) =
    option_and_then (λ one. option_and_then (link_between one) (end_of nodes clients f)) (end_of nodes clients e)
link_of nodes clients _ = None

-- ---- steps, by their words

abbrev pub node_step_of : ℕ → List text_words.Word → Option Step
node_step_of nodes [] = None
node_step_of nodes (w ∷ ws) =
    if bytes_eq w (codes "elect") then option_map step.Elect (only_node nodes ws)
    else if bytes_eq w (codes "beat") then option_map step.Beat (only_node nodes ws)
    else if bytes_eq w (codes "crash") then option_map step.Crash (only_node nodes ws)
    else if bytes_eq w (codes "start") then option_map step.Start (only_node nodes ws)
    else if bytes_eq w (codes "expire") then option_map step.Expire (only_node nodes ws)
    else if bytes_eq w (codes "clock") then option_map (λ p. step.Clock p.0 p.1) (node_and_time nodes ws)
    else None

abbrev pub network_step_of : ℕ → ℕ → List text_words.Word → Option Step
network_step_of nodes clients [] = None
network_step_of nodes clients (w ∷ ws) =
    if bytes_eq w (codes "cut") then option_map (λ p. step.Cut p.0 p.1) (link_of nodes clients ws)
    else if bytes_eq w (codes "join") then option_map (λ p. step.Join p.0 p.1) (link_of nodes clients ws)
    else if bytes_eq w (codes "deliver") then option_map step.Deliver (only_number ws)
    else if bytes_eq w (codes "drop") then option_map step.Drop (only_number ws)
    else if bytes_eq w (codes "short") then option_map (λ p. step.Short p.0 p.1) (number_and_bytes ws)
    else if bytes_eq w (codes "list") then operation_words.without_operands step.List ws
    else None

abbrev pub client_step_of : ℕ → ℕ → List text_words.Word → Option Step
client_step_of nodes clients [] = None
client_step_of nodes clients (w ∷ ws) =
    if bytes_eq w (codes "open") then option_map (λ p. step.Open p.0 p.1) (client_and_node nodes clients ws)
    else if bytes_eq w (codes "switch") then option_map (λ p. step.Switch p.0 p.1) (client_and_node nodes clients ws)
    else if bytes_eq w (codes "resend") then option_map step.Resend (only_client clients ws)
    else if bytes_eq w (codes "keep") then option_map step.Keep (only_client clients ws)
    else if bytes_eq w (codes "close") then option_map step.Close (only_client clients ws)
    else if bytes_eq w (codes "watch") then option_map (λ p. step.Watch p.0 p.1) (client_and_watch clients ws)
    else None

-- a client's call as a step
abbrev pub made_call : ℕ → WindowCall → Step
made_call client (call.Command name op) = step.Call client name op
made_call client (call.Query level name query) = step.Query client level name query

abbrev pub call_step_of : ℕ → List text_words.Word → Option Step
call_step_of clients (w ∷ c ∷ ws) =
    if bytes_eq w (codes "call") then text_words.both made_call (text_words.client_of clients c) (operation_words.command_call_of ws)
    else if bytes_eq w (codes "query") then text_words.both made_call (text_words.client_of clients c) (operation_words.leveled_call_of ws)
    else None
call_step_of clients _ = None

-- the step of these words, in a cluster of this many nodes and clients
abbrev pub step_of : ℕ → ℕ → List text_words.Word → Option Step
step_of nodes clients ws =
    option_or (node_step_of nodes ws)
    (option_or (network_step_of nodes clients ws)
    (option_or (client_step_of nodes clients ws) (call_step_of clients ws)))

-- ---- how a step is written

abbrev pub step_text : Step → List ℕ
step_text (step.Elect node) = call_lines.one_operand (codes "elect") (decimal node)
step_text (step.Beat node) = call_lines.one_operand (codes "beat") (decimal node)
step_text (step.Crash node) = call_lines.one_operand (codes "crash") (decimal node)
step_text (step.Start node) = call_lines.one_operand (codes "start") (decimal node)
step_text (step.Clock node time) = call_lines.two_operands (codes "clock") (decimal node) (decimal time)
step_text (step.Expire node) = call_lines.one_operand (codes "expire") (decimal node)
step_text (step.Cut one other) = call_lines.two_operands (codes "cut") (ax_types_ends.link_end_text one) (ax_types_ends.link_end_text other)
step_text (step.Join one other) = call_lines.two_operands (codes "join") (ax_types_ends.link_end_text one) (ax_types_ends.link_end_text other)
step_text (step.Deliver number) = call_lines.one_operand (codes "deliver") (decimal number)
step_text (step.Drop number) = call_lines.one_operand (codes "drop") (decimal number)
step_text (step.Short number bytes) = call_lines.two_operands (codes "short") (decimal number) (decimal bytes)
step_text step.List = codes "list"
step_text (step.Open client node) = call_lines.two_operands (codes "open") (decimal client) (decimal node)
step_text (step.Switch client node) = call_lines.two_operands (codes "switch") (decimal client) (decimal node)
step_text (step.Resend client) = call_lines.one_operand (codes "resend") (decimal client)
step_text (step.Keep client) = call_lines.one_operand (codes "keep") (decimal client)
step_text (step.Close client) = call_lines.one_operand (codes "close") (decimal client)
step_text (step.Watch client kind) = call_lines.two_operands (codes "watch") (decimal client) (items.watch_text kind)
step_text (step.Call client name op) = call_lines.two_operands (codes "call") (decimal client) (call_lines.op_text name op)
step_text (step.Query client level name query) =
    call_lines.three_operands (codes "query") (decimal client) (call_lines.level_text level) (call_lines.query_text name query)
