use Rattle.std.proofs.Common.{◌≤◌, ◌<◌, length, arith, ap, ◌∙◌}
use Rattle.spec_raft.specs.Majority as majorities
use Rattle.raft_vote.proofs.Voted.{room, voted, votes_pushed}
use Rattle.raft_vote.proofs.ballot.Ballot.add_voter.Goals as goal

pub bounds-self-inside-self-inside : goal.bounds-self-inside-self-inside
bounds-self-inside-self-inside c =
    let one : 1 ≤ c.number.result = omega (arith, c.number.ensures.number, c.number.ensures.within.0) in
    let member : c.number.result ≤ c.self.inside.nodes = omega (arith, c.number.ensures.number, c.requires.member, ap (λ b. b.nodes) c.self.view_is) in
    room c.self.inside.me c.self.inside.nodes c.self.inside.voter_count c.number.result c.self.inside.voters c.self.invariant one member
    (ap (λ b. majorities.is_in b.votes c.number.result) c.self.view_is ∙ ap (λ k. majorities.is_in c.args.self.now.votes k) c.number.ensures.number ∙ c.requires.once)

pub invariant_of-self : goal.invariant_of-self
invariant_of-self c =
    let one : 1 ≤ c.number.result = omega (arith, c.number.ensures.number, c.number.ensures.within.0) in
    let member : c.number.result ≤ c.self.inside.nodes = omega (arith, c.number.ensures.number, c.requires.member, ap (λ b. b.nodes) c.self.view_is) in
    let once = ap (λ b. majorities.is_in b.votes c.number.result) c.self.view_is ∙ ap (λ k. majorities.is_in c.args.self.now.votes k) c.number.ensures.number ∙ c.requires.once in
    let lt : c.self.inside.voter_count < length c.self.inside.voters = omega (arith, c.self.told, room c.self.inside.me c.self.inside.nodes c.self.inside.voter_count c.number.result c.self.inside.voters c.self.invariant one member once) in
    voted c.self.inside.me c.self.inside.nodes c.self.inside.voter_count c.number.result c.self.inside.voters c.self.invariant one member once lt

pub returns : goal.returns
returns c =
    let one : 1 ≤ c.number.result = omega (arith, c.number.ensures.number, c.number.ensures.within.0) in
    let member : c.number.result ≤ c.self.inside.nodes = omega (arith, c.number.ensures.number, c.requires.member, ap (λ b. b.nodes) c.self.view_is) in
    let once = ap (λ b. majorities.is_in b.votes c.number.result) c.self.view_is ∙ ap (λ k. majorities.is_in c.args.self.now.votes k) c.number.ensures.number ∙ c.requires.once in
    let lt : c.self.inside.voter_count < length c.self.inside.voters = omega (arith, c.self.told, room c.self.inside.me c.self.inside.nodes c.self.inside.voter_count c.number.result c.self.inside.voters c.self.invariant one member once) in
    votes_pushed c.args.self.now c.self.inside.me c.self.inside.nodes c.self.inside.term c.self.inside.voter_count c.args.node c.number.result c.self.inside.vote c.self.inside.voters c.self.view_is c.number.ensures.number lt
