-- What contracts see of a server.
use Rattle.std.specs.Prelude.{Bool}
use Rattle.spec_server.specs.Servers as servers

-- the server of the definitions, and whether want of memory has left a step half done
pub record ServerState : Type 0 where
  pub server : servers.Server
  pub is_spent : Bool
