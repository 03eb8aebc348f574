-- The connection of a session stands at its place, or there is none.
use Rattle.std.proofs.Common.{◌≡◌, ◌∙◌, sym, subst, List, get_or}
use Rattle.spec_server.specs.Gates as gates
use Rattle.server_parts.specs.ConnectionOrder as order
use Rattle.server_parts.proofs.ConnectionAt.{found_there, none_there}
use Rattle.server_parts.proofs.connections.Connections.connection.Goals as goal

pub returns-then-is_at : goal.returns-then-is_at
returns-then-is_at c =
    let found : gates.Connection = c.index-found.result.now in
    let is = subst (λ (bs : List gates.Connection). found ≡ get_or bs c.index-place.result found) c.self.view_is c.index-found.ensures in
    found_there c.args.session c.index-place.result c.args.self.now found c.index-place.ensures.index (sym c.is_at.ensures ∙ c.if-is_at.true) is

pub returns-else-is_at : goal.returns-else-is_at
returns-else-is_at c =
    none_there c.args.session c.index-place.result c.args.self.now (subst order.ConnectionsRise c.self.view_is c.self.invariant) c.index-place.ensures.index
    (sym c.is_at.ensures ∙ c.if-is_at.false)
