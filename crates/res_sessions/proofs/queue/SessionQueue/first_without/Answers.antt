-- The first session stays, or the second comes in its place.
use Rattle.std.proofs.Common.{◌≡◌, true, false, rules}
use Rattle.std.specs.Ordering.{nat_cmp}
use Rattle.std.specs.BTreeMap.{is_at}
use Rattle.res_sessions.proofs.Sessions.{first_of_none, first_of_others, first_of_rest}
use Rattle.res_sessions.proofs.queue.SessionQueue.first_without.Goals as goal

pub returns-in-None : goal.returns-in-None
returns-in-None c = first_of_none c.args.self.now c.args.session c.at.result c.at.ensures c.in-None.is

pub returns-then-is_eq : goal.returns-then-is_eq
returns-then-is_eq c =
    let same : is_at (nat_cmp c.args.session) c.in-Some.first ≡ true = search rules in
    first_of_rest c.args.self.now c.args.session c.in-Some.first c.at.result c.at-then-is_eq.result c.at.ensures c.in-Some.is same
    c.at-then-is_eq.ensures

pub returns-else-is_eq : goal.returns-else-is_eq
returns-else-is_eq c =
    let other : is_at (nat_cmp c.args.session) c.in-Some.first ≡ false = search rules in
    first_of_others c.args.self.now c.args.session c.in-Some.first c.at.result c.at.ensures c.in-Some.is other
