-- Which steps a script of a cluster can hold: nodes and clients of the cluster, numbers within their limits, ends that make a link,
-- and names, keys and texts of their forms.
use Rattle.std.specs.Prelude.{ℕ, ◌≡◌, ◌≤◌, true}
use Rattle.ax_types.specs.declared.limits.TheConstants.{MAX_LIFE, MAX_CLOCK, MAX_PACKET}
use Rattle.ax_types.specs.declared.ids.End.{End}
use Rattle.ax_types.specs.declared.ids.End.TheVariants.{Node, Client}
use Rattle.ax_types.specs.declared.ops.MapOp.TheVariants as map_op
use Rattle.ax_types.specs.declared.ops.Op.{Op}
use Rattle.ax_types.specs.declared.ops.Op.TheVariants as op
use Rattle.ax_types.specs.declared.steps.Step.{Step}
use Rattle.ax_types.specs.declared.steps.Step.TheVariants as step
use Rattle.spec_script.specs.StepLines as step_lines
use Rattle.spec_wire.specs.Ranges as ranges

abbrev pub IsWithin : ℕ → ℕ → ℕ → Type 0
IsWithin low high n = (low ≤ n) × (n ≤ high)

-- an end of a link in a cluster of this many nodes and clients
abbrev pub IsLinkEnd : ℕ → ℕ → End → Type 0
IsLinkEnd nodes clients (Node k) = IsWithin 1 nodes k
IsLinkEnd nodes clients (Client c) = IsWithin 1 clients c

abbrev pub IsLinkOf : ℕ → ℕ → End → End → Type 0
IsLinkOf nodes clients one other = IsLinkEnd nodes clients one × IsLinkEnd nodes clients other × (step_lines.is_link one other ≡ true)

-- an entry of a map that has a life has one of at most 1,000,000,000
abbrev pub HasLife : Op → Type 0
HasLife (op.Map (map_op.PutFor key text life)) = IsWithin 1 MAX_LIFE life
HasLife _ = Unit {0}

-- a step of a script whose cluster has this many nodes and clients
abbrev pub IsStep : ℕ → ℕ → Step → Type 0
IsStep nodes clients (step.Elect node) = IsWithin 1 nodes node
IsStep nodes clients (step.Beat node) = IsWithin 1 nodes node
IsStep nodes clients (step.Crash node) = IsWithin 1 nodes node
IsStep nodes clients (step.Start node) = IsWithin 1 nodes node
IsStep nodes clients (step.Clock node time) = IsWithin 1 nodes node × IsWithin 0 MAX_CLOCK time
IsStep nodes clients (step.Expire node) = IsWithin 1 nodes node
IsStep nodes clients (step.Cut one other) = IsLinkOf nodes clients one other
IsStep nodes clients (step.Join one other) = IsLinkOf nodes clients one other
IsStep nodes clients (step.Deliver number) = IsWithin 0 MAX_PACKET number
IsStep nodes clients (step.Drop number) = IsWithin 0 MAX_PACKET number
IsStep nodes clients (step.Short number bytes) = IsWithin 0 MAX_PACKET number × IsWithin 0 MAX_PACKET bytes
IsStep nodes clients step.List = Unit {0}
IsStep nodes clients (step.Open client node) = IsWithin 1 clients client × IsWithin 1 nodes node
IsStep nodes clients (step.Switch client node) = IsWithin 1 clients client × IsWithin 1 nodes node
IsStep nodes clients (step.Resend client) = IsWithin 1 clients client
IsStep nodes clients (step.Keep client) = IsWithin 1 clients client
IsStep nodes clients (step.Close client) = IsWithin 1 clients client
IsStep nodes clients (step.Watch client kind) = IsWithin 1 clients client
IsStep nodes clients (step.Call client name op) = IsWithin 1 clients client × ranges.IsName name × ranges.FitsOp op × HasLife op
IsStep nodes clients (step.Query client level name query) = IsWithin 1 clients client × ranges.IsName name × ranges.FitsQuery query
