-- What contracts see of a client.
use Rattle.std.specs.Prelude.{ℕ, suc, Bool}
use Rattle.spec_client.specs.Clients as clients

-- the client of the definitions, and how many times its switch was moved
pub record MovedClient : Type 0 where
  pub client : clients.Client
  pub moves : ℕ

-- the client of the definitions, how many calls changed it, and whether want of memory has left one of them half done
pub record CountedClient : Type 0 where
  pub client : clients.Client
  pub calls : ℕ
  pub is_spent : Bool

-- a client that one more call has changed
abbrev pub changed_to : CountedClient → clients.Client → CountedClient
changed_to s c = record s { client = c; calls = suc s.calls }
