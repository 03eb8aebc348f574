-- What a resource holds, by its kind, and what an act at a resource gives.
use Rattle.std.specs.Prelude.{ℕ, List, [], Option, None, ℤ, pos, map}
use Rattle.ax_types.specs.declared.ops.Kind.{Kind}
use Rattle.ax_types.specs.declared.ops.Kind.TheVariants as kind
use Rattle.ax_types.specs.declared.replies.Reply.{Reply}
use Rattle.ax_types.specs.declared.replies.Event.{Event}
use Rattle.ax_types.specs.declared.replies.Turn.{Turn}

-- the log time at which a map's entry was set, and the life that it was given
pub record Span : Type 0 where
  pub set_at : ℕ
  pub length : ℕ

-- what stands at a map's key: the text, and its life where it has one
pub record MapItem : Type 0 where
  pub text : List ℕ
  pub life : Option Span

-- a map: its entries in ascending order of key, and the sessions that listen
pub record MapState : Type 0 where
  pub entries : List (List ℕ × MapItem)
  pub listeners : List ℕ

-- a value: a text or none, and the sessions that listen
pub record ValueState : Type 0 where
  pub text : Option (List ℕ)
  pub listeners : List ℕ

-- the holder of a lock, with the place of the act that granted it
pub record Holder : Type 0 where
  pub session : ℕ
  pub fence : ℕ

-- a lock: its holder or none, and the sessions that wait, the first to come first
pub record LockState : Type 0 where
  pub holder : Option Holder
  pub waiting : List ℕ

-- the leader of a group, with the place of the act that made it leader
pub record GroupLeader : Type 0 where
  pub session : ℕ
  pub term : ℕ

-- a group: its members, the first to join first, its leader or none, and the sessions that listen
pub record GroupState : Type 0 where
  pub members : List ℕ
  pub leader : Option GroupLeader
  pub listeners : List ℕ

-- a resource: a set has its texts in ascending order, a queue its texts from first to last, a multimap its pairs of key
-- and text in ascending order, a topic the sessions that subscribe
pub data Resource : Type 0 where
  AMap : MapState → Resource
  AValue : ValueState → Resource
  ALong : ℤ → Resource
  ALock : LockState → Resource
  AGroup : GroupState → Resource
  ASet : List (List ℕ) → Resource
  AQueue : List (List ℕ) → Resource
  AMultimap : List (List ℕ × List ℕ) → Resource
  ATopic : List ℕ → Resource

abbrev pub new_map : MapState
new_map = record { entries = []; listeners = [] }

abbrev pub new_value : ValueState
new_value = record { text = None; listeners = [] }

abbrev pub new_lock : LockState
new_lock = record { holder = None; waiting = [] }

abbrev pub new_group : GroupState
new_group = record { members = []; leader = None; listeners = [] }

-- a new resource of a kind
abbrev pub new_resource : Kind → Resource
new_resource kind.Map = AMap new_map
new_resource kind.Value = AValue new_value
new_resource kind.Long = ALong (pos 0)
new_resource kind.Lock = ALock new_lock
new_resource kind.Group = AGroup new_group
new_resource kind.Set = ASet []
new_resource kind.Queue = AQueue []
new_resource kind.Multimap = AMultimap []
new_resource kind.Topic = ATopic []

-- what an act gives: the state after it, the reply, and who is told what
pub record Acted (S : Type 0) : Type 0 where
  pub state : S
  pub turn : Turn

-- a state with a reply, and nobody told
abbrev pub replied : {S : Type 0} → S → Reply → Acted S
replied s r = record { state = s; turn = record { reply = r; told = [] } }

-- a state with a reply, and sessions told
abbrev pub told_too : {S : Type 0} → S → Reply → List (ℕ × Event) → Acted S
told_too s r told = record { state = s; turn = record { reply = r; told = told } }

-- an event to each session, in their order
abbrev pub tell : List ℕ → Event → List (ℕ × Event)
tell listeners event = map (λ s. (s, event)) listeners
