-- What arrives of a packet.
use Rattle.std.specs.Prelude.{ℕ, nat_lt, Option, Some, None, List, take, if◌then◌else◌}
use Rattle.ax_types.specs.declared.packets.Payload.{Payload}
use Rattle.spec_wire.specs.Spelling as spelling

-- the payload, where all bytes of its spelling arrive
abbrev pub arrived : Option ℕ → Payload → Option Payload
arrived None p = Some p
arrived (Some bytes) p = if nat_lt bytes (spelling.payload_length p) then None else Some p

-- the bytes that arrive
abbrev pub front : Option ℕ → List ℕ → List ℕ
front None bytes = bytes
front (Some most) bytes = take most bytes

-- the payload that was read
abbrev pub payload_in : Option (Payload × ℕ) → Option Payload
payload_in None = None
payload_in (Some p) = Some p.0
