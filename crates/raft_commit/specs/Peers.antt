-- The other nodes by their positions, and the places that they hold.
use Rattle.std.specs.Prelude.{ℕ, suc, ◌-◌, max, nat_eq, nat_le, nat_lt, List, [], ◌∷◌, if◌then◌else◌}
use Rattle.spec_raft.specs.Progress.{Peer, is_held}

-- how many stand before a node, all where it is none of them
abbrev pub peer_index : List Peer → ℕ → ℕ
peer_index [] k = 0
peer_index (p ∷ peers) k = if nat_eq p.node k then 0 else suc (peer_index peers k)

-- the greatest place below one up to which one of them holds the log
abbrev pub matched_below : List Peer → ℕ → ℕ
matched_below [] place = 0
matched_below (p ∷ peers) place = if nat_lt p.matched place then max p.matched (matched_below peers place) else matched_below peers place

-- the next place to look at below one that may not be committed
abbrev pub place_before : List Peer → ℕ → ℕ
place_before peers place = if is_held (λ p. nat_le place p.matched) peers then place - 1 else matched_below peers place

-- what a new leader knows of a node, unless that is the leader itself
abbrev pub other_from : ℕ → ℕ → ℕ → List Peer
other_from me first k = if nat_eq k me then [] else record { node = k; next = first; matched = 0; acked = 0 } ∷ []
