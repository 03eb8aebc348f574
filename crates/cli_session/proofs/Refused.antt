-- What refuses a call, and answers that nothing waits for.
use Rattle.std.proofs.Common.{◌≡◌, ℕ, ◌<◌, Bool, true, false, [], Option, Some, None, refl, arith, length}
use Rattle.std.specs.Prelude.{if◌then◌else◌, is_some, not, nat_le}
use Rattle.std.proofs.lemmas.Bool.Decides.{nat_tests}
use Rattle.ax_types.specs.declared.items.SkipReason.{SkipReason}
use Rattle.ax_types.specs.declared.items.SkipReason.TheVariants as reason
use Rattle.ax_types.specs.declared.sessions.Got.{Got}
use Rattle.spec_sequencer.specs.Sequencers as sequencers
use Rattle.spec_client.specs.Clients as clients
use Rattle.spec_client.specs.Receipts as receipts
use Rattle.cli_sequencer.specs.Waiting as waiting
use Rattle.cli_session.specs.Refusals as refusals

-- where nothing refuses a call, fewer than the most calls are unanswered
pub room_free : (c : clients.Client) → clients.call_refusal c ≡ None → length c.sequencer.calls < sequencers.most_unanswered
room_free c free = by_live (not (clients.is_live_client c.state)) free
  where
    by_full : (b : Bool) → nat_le sequencers.most_unanswered (sequencers.unanswered_count c.sequencer) ≡ b → clients.refused_if b reason.WindowFull ≡ None
        → length c.sequencer.calls < sequencers.most_unanswered
    by_full true e none = absurd (cc)
    by_full false e none = grind (arith, nat_tests)

    by_live : (b : Bool) → (if b then Some reason.NoSession else clients.refused_if (nat_le sequencers.most_unanswered (sequencers.unanswered_count c.sequencer)) reason.WindowFull) ≡ None
        → length c.sequencer.calls < sequencers.most_unanswered
    by_live true none = absurd (cc)
    by_live false none = by_full (nat_le sequencers.most_unanswered (sequencers.unanswered_count c.sequencer)) refl none

-- a refusal comes of a reason
pub reason_none : (o : Option SkipReason) → refusals.refusal_by o ≡ None → o ≡ None
reason_none None is = refl
reason_none (Some r) is = absurd (cc)

pub room_by : (c : clients.Client) → refusals.refusal_by (clients.call_refusal c) ≡ None → length c.sequencer.calls < sequencers.most_unanswered
room_by c free = room_free c (reason_none (clients.call_refusal c) free)

-- nothing is sent where there is nothing to send
pub to_server_none : (c : clients.Client) → clients.to_server c [] ≡ []
to_server_none c = by_server c.switch.server
  where
    by_server : (o : Option ℕ) → clients.sends_of o [] ≡ []
    by_server None = refl
    by_server (Some node) = refl

-- an answer that no call waits for is ignored
pub gets_none : (c : clients.Client) (o : Option sequencers.Unanswered) (g : Got) → waiting.waiting_number o ≡ None → receipts.gets c o g ≡ clients.ignores c
gets_none c None g is = refl
gets_none c (Some u) g is = by_test (is_some u.got) is
  where
    by_test : (b : Bool) → (if b then None else Some u.number) ≡ None
        → (if b then clients.ignores c else receipts.releases (record c { sequencer = sequencers.with_answer c.sequencer u.number g }) []) ≡ clients.ignores c
    by_test true e = refl
    by_test false e = absurd (cc)

pub gets_some : (c : clients.Client) (o : Option sequencers.Unanswered) (g : Got) (n : ℕ) → waiting.waiting_number o ≡ Some n
    → receipts.gets c o g ≡ receipts.releases (record c { sequencer = sequencers.with_answer c.sequencer n g }) []
gets_some c None g n is = absurd (cc)
gets_some c (Some u) g n is = by_test (is_some u.got) is
  where
    by_test : (b : Bool) → (if b then None else Some u.number) ≡ Some n
        → (if b then clients.ignores c else receipts.releases (record c { sequencer = sequencers.with_answer c.sequencer u.number g }) []) ≡ receipts.releases (record c { sequencer = sequencers.with_answer c.sequencer n g }) []
    by_test true e = absurd (cc)
    by_test false e =
        let number : u.number ≡ n = cc in
        rw number refl
