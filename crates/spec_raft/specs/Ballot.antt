-- A node's term, its vote in it, and as a candidate the votes that it got (Ongaro 2014, 3.4).
use Rattle.std.specs.Prelude.{ℕ, suc, Bool, true, ◌&&◌, not, nat_eq, nat_lt, Option, Some, None, List, [], ◌∷◌, ◌++◌, if◌then◌else◌}
use Rattle.ax_types.specs.declared.entries.Entry.{Entry}
use Rattle.spec_raft.specs.Majority as majorities
use Rattle.spec_raft.specs.Log as logs

pub record Ballot : Type 0 where
  pub me : ℕ
  pub nodes : ℕ
  pub term : ℕ
  pub vote : Option ℕ
  -- who voted for this node in this term, in the order in which the votes came
  pub votes : List ℕ

abbrev pub ballot_of : ℕ → ℕ → ℕ → Option ℕ → Ballot
ballot_of me nodes term vote = record { me = me; nodes = nodes; term = term; vote = vote; votes = [] }

-- the next term, with the own vote (begin)
abbrev pub begun : Ballot → Ballot
begun b = record b { term = suc b.term; vote = Some b.me; votes = b.me ∷ [] }

-- whether a term is above the own one, and the ballot after it was seen (see)
abbrev pub is_above : Ballot → ℕ → Bool
is_above b term = nat_lt b.term term

abbrev pub seen_ballot : Ballot → ℕ → Ballot
seen_ballot b term = if is_above b term then record b { term = term; vote = None; votes = [] } else b

-- whether the vote of this term is free for a node
abbrev pub is_free : Option ℕ → ℕ → Bool
is_free None from = true
is_free (Some k) from = nat_eq k from

-- whether a candidate gets the vote, and the ballot after its request (grant; Ongaro 2014, 3.6.1)
abbrev pub is_granted : Ballot → List Entry → ℕ → ℕ → ℕ → ℕ → Bool
is_granted b log term from last last_term = nat_eq term b.term && is_free b.vote from && logs.newer_or_equal log last_term last

abbrev pub granted : Ballot → List Entry → ℕ → ℕ → ℕ → ℕ → Ballot
granted b log term from last last_term = if is_granted b log term from last last_term then record b { vote = Some from } else b

-- whether more than half of the nodes voted for this one
abbrev pub is_elected : Ballot → Bool
is_elected b = majorities.is_most (majorities.count (majorities.is_in b.votes) (majorities.cluster_of b.nodes)) b.nodes

-- the ballot after a vote was counted, and whether this vote first made a majority (count)
abbrev pub counted : Ballot → ℕ → Ballot
counted b from = if majorities.is_in b.votes from then b else record b { votes = b.votes ++ from ∷ [] }

abbrev pub is_winning : Ballot → ℕ → Bool
is_winning b from = not (is_elected b) && is_elected (counted b from)
