-- The order of the connections.
use Rattle.std.specs.Prelude.{ℕ, suc, ◌<◌, Bool, false, nat_eq, nat_lt, Option, Some, None, List, [], ◌∷◌, if◌then◌else◌}
use Rattle.spec_server.specs.Gates as gates

-- sessions rise, above one
abbrev pub RiseAbove : ℕ → List gates.Connection → Type 0
RiseAbove session [] = Unit {0}
RiseAbove session (c ∷ cs) = (session < c.session) × RiseAbove c.session cs

abbrev pub ConnectionsRise : List gates.Connection → Type 0
ConnectionsRise [] = Unit {0}
ConnectionsRise (c ∷ cs) = RiseAbove c.session cs

-- how many connections stand before the place of a session
abbrev pub connections_below : ℕ → List gates.Connection → ℕ
connections_below session [] = 0
connections_below session (c ∷ cs) = if nat_lt c.session session then suc (connections_below session cs) else 0

-- whether a connection is there, and is of this session
abbrev pub is_connection_of : ℕ → Option gates.Connection → Bool
is_connection_of session None = false
is_connection_of session (Some c) = nat_eq c.session session
