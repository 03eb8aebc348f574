-- Queries are held one behind the other.
use Rattle.std.proofs.Common.{◌≡◌, refl, List, [], ◌∷◌, ◌++◌}
use Rattle.ax_types.specs.declared.sessions.Held.{Held}
use Rattle.spec_server.specs.Gates as gates

pub hold_more : (gate hs is : List Held) → gates.with_all_held gate (hs ++ is) ≡ gates.with_all_held (gates.with_all_held gate hs) is
hold_more gate [] is = refl
hold_more gate (h ∷ hs) is = hold_more (gates.with_held gate h) hs is
