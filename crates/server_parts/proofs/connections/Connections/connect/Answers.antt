-- The session has its connection at its place.
use Rattle.std.proofs.Common.{◌≡◌, ◌∙◌, sym, subst, true, false, List, slice_get, slice_set}
use Rattle.spec_server.specs.Gates as gates
use Rattle.server_parts.specs.ConnectionOrder as order
use Rattle.server_parts.proofs.ConnectionAt.{set_there, insert_there, connected_rise}
use Rattle.server_parts.proofs.connections.Connections.connect.Goals as goal

pub invariant_of-self : goal.invariant_of-self
invariant_of-self c =
    let cs : List gates.Connection = c.self.inside.all.items in
    let at = subst (λ (bs : List gates.Connection). c.index-place.result ≡ order.connections_below c.args.session bs) (sym c.self.view_is) c.index-place.ensures.index in
    let there = subst (λ (bs : List gates.Connection). order.is_connection_of c.args.session (slice_get bs c.index-place.result) ≡ true) (sym c.self.view_is) (sym c.is_at.ensures ∙ c.if-is_at.true) in
    subst order.ConnectionsRise (sym (set_there c.args.session c.args.client c.index-place.result cs at there)) (connected_rise c.args.session c.args.client cs c.self.invariant)

pub invariant_of-self-in-Continue-1 : goal.invariant_of-self-in-Continue-1
invariant_of-self-in-Continue-1 c =
    let cs : List gates.Connection = c.self.inside.all.items in
    let at = subst (λ (bs : List gates.Connection). c.index-place.result ≡ order.connections_below c.args.session bs) (sym c.self.view_is) c.index-place.ensures.index in
    let apart = subst (λ (bs : List gates.Connection). order.is_connection_of c.args.session (slice_get bs c.index-place.result) ≡ false) (sym c.self.view_is) (sym c.is_at.ensures ∙ c.if-is_at.false) in
    subst order.ConnectionsRise (sym (c.in_ok-insert.ensures.items ∙ insert_there c.args.session c.args.client c.index-place.result cs at apart))
    (connected_rise c.args.session c.args.client cs c.self.invariant)

pub returns-then-is_at-clause-ok : goal.returns-then-is_at-clause-ok
returns-then-is_at-clause-ok c =
    let cs : List gates.Connection = c.self.inside.all.items in
    let at = subst (λ (bs : List gates.Connection). c.index-place.result ≡ order.connections_below c.args.session bs) (sym c.self.view_is) c.index-place.ensures.index in
    let there = subst (λ (bs : List gates.Connection). order.is_connection_of c.args.session (slice_get bs c.index-place.result) ≡ true) (sym c.self.view_is) (sym c.is_at.ensures ∙ c.if-is_at.true) in
    subst (λ (bs : List gates.Connection). slice_set cs c.index-place.result (record { session = c.args.session; client = c.args.client }) ≡ gates.connected bs c.args.session c.args.client)
    c.self.view_is (set_there c.args.session c.args.client c.index-place.result cs at there)

pub returns-in_ok-insert-clause-ok : goal.returns-in_ok-insert-clause-ok
returns-in_ok-insert-clause-ok c =
    let cs : List gates.Connection = c.self.inside.all.items in
    let at = subst (λ (bs : List gates.Connection). c.index-place.result ≡ order.connections_below c.args.session bs) (sym c.self.view_is) c.index-place.ensures.index in
    let apart = subst (λ (bs : List gates.Connection). order.is_connection_of c.args.session (slice_get bs c.index-place.result) ≡ false) (sym c.self.view_is) (sym c.is_at.ensures ∙ c.if-is_at.false) in
    subst (λ (bs : List gates.Connection). c.insert.new.self.items ≡ gates.connected bs c.args.session c.args.client)
    c.self.view_is (c.in_ok-insert.ensures.items ∙ insert_there c.args.session c.args.client c.index-place.result cs at apart)
