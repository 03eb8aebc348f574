-- The headline: what a run shows is faithful to one history. Each session's commands there begin those that it called, each
-- once; every reply and read is the plain resource's answer there; events come in the order of their places, once, before
-- responses that name them; a session's reads never go back; linearizable reads miss no commit before their request reached
-- the leader; and after an expiry is told, the calls without an outcome are in doubt or lost.
use Rattle.std.specs.Prelude.{ℕ, ◌≡◌, List, length}
use Rattle.ax_types.specs.declared.items.Item.{Item}
use Rattle.spec_book.specs.History as histories
use Rattle.spec_claims.specs.Transcript as transcripts
use Rattle.spec_claims.specs.Once as claims_once
use Rattle.spec_claims.specs.Right as claims_right
use Rattle.spec_claims.specs.FreshReads as fresh_reads
use Rattle.spec_claims.specs.Heard as claims_heard
use Rattle.spec_claims.specs.OutcomeOrder as outcome_order

-- one session's part
pub record IsFaithfulTo (items : List Item) (h : histories.History) (s : ℕ) : Type 0 where
  pub once : claims_once.IsOnce items h s
  pub growing : transcripts.EachItem (fresh_reads.IsGrowing h s) items
  pub heard : claims_heard.IsHeard items h s
  pub outcomes : transcripts.EachItem (outcome_order.IsOutcome s) items
  pub in_session : transcripts.EachItem (outcome_order.IsInSession h s) items

pub record IsFaithful (timeout : ℕ) (shown : List transcripts.Shown) (h : histories.History) : Type 0 where
  pub lawful : histories.IsLawful timeout h
  pub right : transcripts.EachItem (claims_right.IsRight h) (transcripts.transcript shown)
  pub committed : transcripts.EachItem claims_right.IsCommitted (transcripts.transcript shown)
  pub ordered : transcripts.EachItem claims_right.IsOrdered (transcripts.transcript shown)
  pub fresh : transcripts.EachItem fresh_reads.IsFresh (transcripts.transcript shown)
  pub watched : claims_heard.AreWatched shown
  pub ends : outcome_order.AreEnds shown
  pub sessions : (s : ℕ) → IsFaithfulTo (transcripts.transcript shown) h s
  pub whole : length h ≡ transcripts.greatest_commit (transcripts.transcript shown)
