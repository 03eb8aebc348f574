-- Elections without packets: each packet is replaced by the stable fact that it carries.
use Rattle.std.specs.Prelude.{◌≡◌, ◌≢◌, ◌⊎◌, ℕ, suc, ◌≤◌, ◌<◌, Bool, true, false, List, nat_eq, if◌then◌else◌}
use Rattle.spec_past.specs.Matching as matchings

-- a role is 0 for a follower, 1 for a candidate, 2 for a leader; a node that is down counts as a follower
pub record Voter : Type 0 where
  pub term : ℕ
  pub vote : ℕ
  pub role : ℕ
  pub votes : ℕ → Bool

-- f, but x at i
abbrev pub put : {X : Type 0} → (ℕ → X) → ℕ → X → ℕ → X
put f i x j = if nat_eq j i then x else f j

abbrev pub put2 : {X : Type 0} → (ℕ → ℕ → X) → ℕ → ℕ → X → ℕ → ℕ → X
put2 f t i x = put f t (put (f t) i x)

pub record Poll : Type 0 where
  pub member : ℕ → Voter
  pub led : ℕ → Bool
  pub leader : ℕ → ℕ
  pub voters : ℕ → ℕ → Bool
  pub cast : ℕ → ℕ → ℕ

pub record Fair (nodes : List ℕ) (w : Poll) : Type 0 where
  pub named : (t : ℕ) → w.led t ≡ true → w.leader t ≢ 0
  pub own : (j : ℕ) → (w.member j).role ≢ 0 → ((w.member j).vote ≡ j) × (j ≢ 0)
  pub leads : (t : ℕ) → w.led t ≡ true → t ≤ (w.member (w.leader t)).term
  pub stays : (t v : ℕ) → w.cast t v ≢ 0 → (t < (w.member v).term) ⊎ ((t ≡ (w.member v).term) × ((w.member v).vote ≡ w.cast t v))
  pub kept : (v : ℕ) → (w.member v).vote ≢ 0 → w.cast (w.member v).term v ≡ (w.member v).vote
  pub other : (j : ℕ) → (w.member j).role ≡ 1 → w.led (w.member j).term ≡ true → w.leader (w.member j).term ≢ j
  pub counted : (j v : ℕ) → (w.member j).role ≡ 1 → (w.member j).votes v ≡ true → w.cast (w.member j).term v ≡ j
  pub most : (t : ℕ) → w.led t ≡ true → matchings.IsMost (w.voters t) nodes
  pub chose : (t v : ℕ) → w.led t ≡ true → w.voters t v ≡ true → w.cast t v ≡ w.leader t
  pub rules : (j : ℕ) → (w.member j).role ≡ 2 → (w.led (w.member j).term ≡ true) × (w.leader (w.member j).term ≡ j)

abbrev pub nobody : ℕ → Bool
nobody v = false

-- a higher term is seen; also a crash, where the term stays: see `falls`
abbrev pub raises : Poll → ℕ → ℕ → Poll
raises w j t = record w { member = put w.member j (record { term = t; vote = 0; role = 0; votes = nobody }) }

abbrev pub falls : Poll → ℕ → Poll
falls w j = record w { member = put w.member j (record { term = (w.member j).term; vote = (w.member j).vote; role = 0; votes = nobody }) }

abbrev pub campaigns : Poll → ℕ → Poll
campaigns w j = record w {
  member = put w.member j (record { term = suc (w.member j).term; vote = j; role = 1; votes = put nobody j true });
  cast = put w.cast (suc (w.member j).term) (put (w.cast (suc (w.member j).term)) j j);
}

abbrev pub grants : Poll → ℕ → ℕ → Poll
grants w j c = record w {
  member = put w.member j (record { term = (w.member j).term; vote = c; role = (w.member j).role; votes = (w.member j).votes });
  cast = put w.cast (w.member j).term (put (w.cast (w.member j).term) j c);
}

abbrev pub counts : Poll → ℕ → ℕ → Poll
counts w j v = record w { member = put w.member j (record { term = (w.member j).term; vote = (w.member j).vote; role = (w.member j).role; votes = put (w.member j).votes v true }) }

abbrev pub wins : Poll → ℕ → Poll
wins w j = record w {
  member = put w.member j (record { term = (w.member j).term; vote = (w.member j).vote; role = 2; votes = nobody });
  led = put w.led (w.member j).term true;
  leader = put w.leader (w.member j).term j;
  voters = put w.voters (w.member j).term (w.member j).votes;
}
