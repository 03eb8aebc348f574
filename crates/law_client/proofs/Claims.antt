-- What is claimed of each item that a client gives, from how it stands.
use Rattle.std.proofs.Common.{◌≡◌, ℕ, suc, ◌+◌, ◌≤◌, List, ◌∷◌, ◌++◌, length, refl, ap, sym, ◌∙◌, subst, ⊎_elim, arith, count_by}
use Rattle.std.specs.Prelude.{true, not, nat_eq, is_some, Option, Some, None, option_map, if◌then◌else◌}
use Rattle.std.specs.List.{AllByRecursion}
use Rattle.ax_types.specs.Places as lists
use Rattle.ax_types.specs.declared.entries.Act.{Act}
use Rattle.ax_types.specs.declared.entries.Act.TheVariants as act
use Rattle.ax_types.specs.declared.items.Item.{Item}
use Rattle.ax_types.specs.declared.items.Item.TheVariants as item
use Rattle.ax_types.specs.declared.ops.Level.{Level}
use Rattle.ax_types.specs.declared.ops.Op.{Op}
use Rattle.ax_types.specs.declared.ops.Query.{Query}
use Rattle.ax_types.specs.declared.ops.WindowCall.{WindowCall}
use Rattle.ax_types.specs.declared.ops.WindowCall.TheVariants as call
use Rattle.ax_types.specs.declared.replies.Event.{Event}
use Rattle.ax_types.specs.declared.replies.How.{How}
use Rattle.ax_types.specs.declared.sessions.Got.{Got}
use Rattle.spec_book.specs.History as histories
use Rattle.spec_claims.specs.Transcript as transcripts
use Rattle.spec_claims.specs.Once as claims_once
use Rattle.spec_claims.specs.Right as claims_right
use Rattle.spec_claims.specs.FreshReads as fresh_reads
use Rattle.spec_claims.specs.Heard as claims_heard
use Rattle.spec_claims.specs.OutcomeOrder as outcome_order
use Rattle.spec_claims.specs.Payloads.{IsHeardIn, IsOpeningOf}
use Rattle.spec_sequencer.specs.Sequencers as sequencers
use Rattle.spec_client.specs.Clients as clients
use Rattle.spec_client.specs.Receipts as receipts
use Rattle.law_client.specs.Standing as standing
use Rattle.law_client.specs.Promises as promises
use Rattle.law_release.proofs.Tests.{by_test, on_or_off, equal}
use Rattle.law_client.proofs.Chain.{IsChain, end_of, last_end, heard_chain, all_heard, covers, all_in}
use Rattle.law_client.proofs.Shown.{told_stands}
use Rattle.law_client.proofs.Own.{client_at, reads_since}

-- an outcome of session s with a number, asked of session t
rises_for : (t s n : ℕ) (above : List Item) (x : Item) → transcripts.outcome_of t x ≡ (if nat_eq t s then Some n else None) → AllByRecursion (outcome_order.IsBelowNumber s n) above → outcome_order.IsRising t above x
rises_for t s n above x e a =
    ⊎_elim (λ f. let k : transcripts.outcome_of t x ≡ Some n = e ∙ ap (λ b. if b then Some n else None) f in rw k (subst (λ u. AllByRecursion (outcome_order.IsBelowNumber u n) above) (sym (equal t s f)) a)) (λ f. let k : transcripts.outcome_of t x ≡ None = e ∙ ap (λ b. if b then Some n else None) f in rw k tt) (on_or_off (nat_eq t s))

gapless_for : (t s n : ℕ) (above : List Item) (x : Item) → transcripts.outcome_of t x ≡ (if nat_eq t s then Some n else None) → n ≡ transcripts.outcome_count s above + 1 → outcome_order.IsGapless t above x
gapless_for t s n above x e a =
    ⊎_elim (λ f. let k : transcripts.outcome_of t x ≡ Some n = e ∙ ap (λ b. if b then Some n else None) f in rw k (subst (λ u. n ≡ transcripts.outcome_count u above + 1) (sym (equal t s f)) a)) (λ f. let k : transcripts.outcome_of t x ≡ None = e ∙ ap (λ b. if b then Some n else None) f in rw k tt) (on_or_off (nat_eq t s))

-- the events up to the place of an answer stand above, where the last of them was heard
pub heard_upto : (h : histories.History) (c : clients.Client) (above : List Item) (s p : ℕ) → (o : standing.IsOwn h c above s) → histories.last_told h s p ≤ c.sequencer.heard → claims_heard.AreHeardUpto h s p above
heard_upto h c above s p o le =
    all_in (λ e. e.place ≤ p → transcripts.StandsIn (item.Event s e.place e.prev e.events) above) (histories.events h s)
    (λ e a l.
    let chain : IsChain 0 (o.told ++ o.rest) = subst (IsChain 0) o.whole (heard_chain h s (length h)).0 in
    let b : IsHeardIn e (o.told ++ o.rest) = subst (IsHeardIn e) o.whole a in
    let up : e.place ≤ histories.last_told h s p = covers h s p e a l in
    let last : end_of 0 o.told ≡ c.sequencer.heard = sym (last_end o.told) ∙ o.last in
    let d : IsHeardIn e o.told = all_heard 0 o.told o.rest e chain b (omega (arith, up, le, last)) in
    told_stands s e above (subst (IsHeardIn e) (sym o.is_told) d))

-- what stands above the outcome of a call
pub record IsNext (h : histories.History) (above : List Item) (s n : ℕ) : Type 0 where
  pub rises : AllByRecursion (outcome_order.IsBelowNumber s n) above
  pub gapless : n ≡ transcripts.outcome_count s above + 1
  pub unanswered : count_by (outcome_order.is_unanswered s) above ≡ 0
  pub opened : count_by (claims_right.is_opened s) above ≡ 1

pub next_of : (h : histories.History) (c : clients.Client) (above : List Item) (s n : ℕ) → (o : standing.IsOwn h c above s) → n ≡ suc o.done → IsNext h above s n
next_of h c above s n o e = record {
  rises = subst (λ k. AllByRecursion (outcome_order.IsBelowNumber s k) above) (sym e) o.below;
  gapless = omega (arith, e, o.outcomes);
  unanswered = o.unanswered;
  opened = o.opened;
}

-- a reply to a command
reply_claimed : (h : histories.History) (above : List Item) (s n : ℕ) (name : List ℕ) (o : Op) (g : Got) (seq : ℕ)
    → IsNext h above s n → standing.EndsAbove s above 0 → transcripts.StandsIn (item.Called s n (call.Command name o)) above
    → claims_heard.AreHeardUpto h s g.place above → seq ≡ transcripts.commands_upto s n above → standing.IsTrueReply h s seq g
    → promises.IsClaimed h above (item.Reply s n g.place g.reply)
reply_claimed h above s n name o g seq next ends called events rank is =
    let x = item.Reply s n g.place g.reply in
    record {
      outcome = λ t. (
        tt,
        rises_for t s n above x refl next.rises,
        gapless_for t s n above x refl next.gapless,
        λ e. subst (λ u. ((d : List ℕ) × (p : Op) × transcripts.StandsIn (item.Called u n (call.Command d p)) above) × (count_by (outcome_order.is_unanswered u) above ≡ 0)) (sym e) ((name, o, called), next.unanswered),
      );
      in_session = λ t e. subst (λ u. outcome_order.IsOpenFor u above) (sym e) (next.opened, ends);
      growing = λ t. tt;
      after_events = λ t e. subst (λ u. claims_heard.AreHeardUpto h u g.place above) (sym e) events;
      right = (subst (λ k. option_map (λ d. d.0) (lists.at_place (histories.dos h s) k) ≡ Some g.place) rank is.place, is.reply);
      reached = tt;
      within = tt;
    }

-- what a query reads
read_claimed : (h : histories.History) (above : List Item) (s n : ℕ) (l : Level) (name : List ℕ) (q : Query) (g : Got)
    → IsNext h above s n → standing.EndsAbove s above 0 → transcripts.StandsIn (item.Called s n (call.Query l name q)) above
    → claims_heard.AreHeardUpto h s g.place above → AllByRecursion (fresh_reads.IsUpto s g.place) above → standing.IsTrueRead h above s n l name q g
    → promises.IsClaimed h above (item.Read s n l g.place g.reach g.reply)
read_claimed h above s n l name q g next ends called events reads is =
    let x = item.Read s n l g.place g.reach g.reply in
    record {
      outcome = λ t. (
        tt,
        rises_for t s n above x refl next.rises,
        gapless_for t s n above x refl next.gapless,
        λ e. subst (λ u. ((d : List ℕ) × (p : Query) × transcripts.StandsIn (item.Called u n (call.Query l d p)) above) × (count_by (outcome_order.is_unanswered u) above ≡ 0)) (sym e) ((name, q, called), next.unanswered),
      );
      in_session = λ t e. subst (λ u. outcome_order.IsOpenFor u above) (sym e) (next.opened, ends);
      growing = λ t e. subst (λ u. AllByRecursion (fresh_reads.IsUpto u g.place) above × (transcripts.commands_below u n above ≤ claims_once.dos_upto h u g.place)) (sym e) (reads, is.behind);
      after_events = λ t e. subst (λ u. claims_heard.AreHeardUpto h u g.place above) (sym e) events;
      right = ((name, q, called, is.answer), is.live);
      reached = is.reached;
      within = is.within;
    }

-- what becomes of a call at the end of its session
doubt_claimed : (h : histories.History) (above : List Item) (s n : ℕ) → IsNext h above s n → promises.IsClaimed h above (item.Doubt s n)
doubt_claimed h above s n next = record {
  outcome = λ t. (
    tt,
    rises_for t s n above (item.Doubt s n) refl next.rises,
    gapless_for t s n above (item.Doubt s n) refl next.gapless,
    λ e. subst (λ u. count_by (outcome_order.is_unanswered u) above ≡ 0) (sym e) next.unanswered,
  );
  in_session = λ t. tt;
  growing = λ t. tt;
  after_events = λ t. tt;
  right = tt;
  reached = tt;
  within = tt;
}

lost_claimed : (h : histories.History) (above : List Item) (s n : ℕ) → IsNext h above s n → promises.IsClaimed h above (item.Lost s n)
lost_claimed h above s n next = record {
  outcome = λ t. (
    tt,
    rises_for t s n above (item.Lost s n) refl next.rises,
    gapless_for t s n above (item.Lost s n) refl next.gapless,
    λ e. subst (λ u. count_by (outcome_order.is_unanswered u) above ≡ 0) (sym e) next.unanswered,
  );
  in_session = λ t. tt;
  growing = λ t. tt;
  after_events = λ t. tt;
  right = tt;
  reached = tt;
  within = tt;
}

pub end_claimed : (h : histories.History) (above : List Item) (s n : ℕ) (u : sequencers.Unanswered) → IsNext h above s u.number → promises.IsClaimed h above (receipts.outcome_at_end s u)
end_claimed h above s n u next = by_test (promises.IsClaimed h above) (sequencers.is_query u) (item.Lost s u.number) (item.Doubt s u.number) (λ e. lost_claimed h above s u.number next) (λ e. doubt_claimed h above s u.number next)

pub unsent_claimed : (h : histories.History) (c : clients.Client) (above : List Item) (s : ℕ) → (o : standing.IsOwn h c above s) → o.done ≡ c.calls → standing.EndsAbove s above 1 → promises.IsClaimed h above (item.Unsent s (suc c.calls))
unsent_claimed h c above s o all ends =
    let x = item.Unsent s (suc c.calls) in
    let next : IsNext h above s (suc c.calls) = next_of h c above s (suc c.calls) o (ap (λ k. suc k) (sym all)) in
    record {
      outcome = λ t. (
        λ e. subst (λ u. suc c.calls ≡ length (transcripts.calls u above) + count_by (outcome_order.is_unsent u) above + 1) (sym e) (omega (arith, o.called)),
        rises_for t s (suc c.calls) above x refl next.rises,
        gapless_for t s (suc c.calls) above x refl next.gapless,
        λ e. subst (λ u. count_by (outcome_order.is_unanswered u) above ≡ 0) (sym e) next.unanswered,
      );
      in_session = λ t e. subst (λ u. count_by (outcome_order.is_ended u) above ≡ 1) (sym e) ends;
      growing = λ t. tt;
      after_events = λ t. tt;
      right = tt;
      reached = tt;
      within = tt;
    }

pub called_claimed : (h : histories.History) (c : clients.Client) (above : List Item) (s : ℕ) (w : WindowCall) → (o : standing.IsOwn h c above s) → standing.EndsAbove s above 0 → standing.UnsentAbove s above 0
    → promises.IsClaimed h above (item.Called s (suc c.calls) w)
called_claimed h c above s w o ends unsent = record {
  outcome = λ t. (
    λ e. subst (λ u. (suc c.calls ≡ length (transcripts.calls u above) + 1) × (count_by (outcome_order.is_unsent u) above ≡ 0)) (sym e) (omega (arith, o.called, unsent), unsent),
    tt,
    tt,
    tt,
  );
  in_session = λ t e. subst (λ u. outcome_order.IsOpenFor u above) (sym e) (o.opened, ends);
  growing = λ t. tt;
  after_events = λ t. tt;
  right = tt;
  reached = tt;
  within = tt;
}

pub event_claimed : (h : histories.History) (c : clients.Client) (above : List Item) (s p prev : ℕ) (es : List Event) → (o : standing.IsOwn h c above s) → standing.EndsAbove s above 0
    → promises.IsClaimed h above (item.Event s p prev es)
event_claimed h c above s p prev es o ends = record {
  outcome = λ t. (tt, tt, tt, tt);
  in_session = λ t e. subst (λ u. outcome_order.IsOpenFor u above) (sym e) (o.opened, ends);
  growing = λ t. tt;
  after_events = λ t. tt;
  right = tt;
  reached = tt;
  within = tt;
}

pub ended_claimed : (h : histories.History) (c : clients.Client) (above : List Item) (s p : ℕ) (way : How) → (o : standing.IsOwn h c above s) → standing.EndsAbove s above 0 → outcome_order.IsEndOf s way (lists.at_place h p)
    → promises.IsClaimed h above (item.Ended s p way)
ended_claimed h c above s p way o ends is = record {
  outcome = λ t. (tt, tt, tt, tt);
  in_session = λ t e. subst (λ u. outcome_order.IsOpenFor u above × outcome_order.IsEndOf u way (lists.at_place h p)) (sym e) ((o.opened, ends), is);
  growing = λ t. tt;
  after_events = λ t. tt;
  right = tt;
  reached = tt;
  within = tt;
}

is_opening : (c opening : ℕ) (a : Option (ℕ × Act)) → IsOpeningOf c opening a → claims_right.IsOpening c a
is_opening c opening None e = e
is_opening c opening (Some (time, act.Open d o)) e = e.0
is_opening c opening (Some (time, act.Nothing)) e = e
is_opening c opening (Some (time, act.Keep s)) e = e
is_opening c opening (Some (time, act.Do s name o)) e = e
is_opening c opening (Some (time, act.Close s)) e = e
is_opening c opening (Some (time, act.Expire s)) e = e

pub opened_claimed : (h : histories.History) (above : List Item) (s me opening : ℕ) → IsOpeningOf me opening (lists.at_place h s) → count_by (claims_right.is_opened s) above ≡ 0
    → promises.IsClaimed h above (item.Opened s me)
opened_claimed h above s me opening is none = record {
  outcome = λ t. (tt, tt, tt, tt);
  in_session = λ t. tt;
  growing = λ t. tt;
  after_events = λ t. tt;
  right = (is_opening me opening (lists.at_place h s) is, none);
  reached = tt;
  within = tt;
}

-- the answer of the first call without an outcome
pub answer_claimed : (h : histories.History) (c : clients.Client) (above : List Item) (s read : ℕ) (u : sequencers.Unanswered) (us : List sequencers.Unanswered) (r : clients.Request) (rs : List clients.Request) (g : Got)
    → standing.IsOwn h (client_at c (u ∷ us) (r ∷ rs) read) above s → standing.EndsAbove s above 0
    → u.got ≡ Some g → g.events ≤ c.sequencer.heard → (sequencers.is_query u ≡ true → read ≤ g.place)
    → promises.IsClaimed h above (receipts.answer_item s g r r.call)
answer_claimed h c above s read u us r rs g o ends got heard place =
    let d = client_at c (u ∷ us) (r ∷ rs) read in
    let a : (r.number ≡ suc o.done) × standing.IsOpenCall h above s u r × standing.AreOpenCalls h above s (suc o.done) us rs = o.asked in
    let i : standing.IsOpenCall h above s u r = a.1 in
    by_call r.call i.called i.asked_so (subst (standing.IsTrueGot h above s r r.call) got i.got) (next_of h d above s r.number o a.0)
    (λ last. heard_upto h d above s g.place o (subst (λ k. k ≤ c.sequencer.heard) last heard))
    (λ q. reads_since s read g.place above (place q) o.reads)
  where
    by_call : (w : WindowCall) → transcripts.StandsIn (item.Called s r.number w) above → standing.IsAskedSo above s u r w → standing.IsTrueGot h above s r w (Some g) → IsNext h above s r.number
        → (g.events ≡ histories.last_told h s g.place → claims_heard.AreHeardUpto h s g.place above)
        → (sequencers.is_query u ≡ true → AllByRecursion (fresh_reads.IsUpto s g.place) above)
        → promises.IsClaimed h above (receipts.answer_item s g r w)
    by_call (call.Command name o) called so is next events reads = reply_claimed h above s r.number name o g r.seq next ends called (events is.last_event) so.2 is
    by_call (call.Query l name q) called so is next events reads = read_claimed h above s r.number l name q g next ends called (events is.last_event) (reads (ap (λ o. not (is_some o)) so.0)) is
