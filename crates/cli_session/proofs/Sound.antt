-- What holds of a client between its calls holds after each.
use Rattle.std.proofs.Common.{◌≡◌, ℕ, suc, ◌+◌, ◌^◌, ◌<◌, ◌≤◌, add-one, Bool, true, false, List, [], ◌∷◌, Option, Some, None, refl, sym, subst, ◌∙◌, arith}
use Rattle.std.specs.Prelude.{if◌then◌else◌, is_some, ◌&&◌}
use Rattle.ax_types.specs.declared.entries.Batch.{Batch}
use Rattle.ax_types.specs.declared.items.Item.{Item}
use Rattle.ax_types.specs.declared.items.Item.TheVariants as item
use Rattle.ax_types.specs.declared.ops.Level.{Level}
use Rattle.ax_types.specs.declared.ops.Op.{Op}
use Rattle.ax_types.specs.declared.ops.Query.{Query}
use Rattle.ax_types.specs.declared.packets.Payload.{Payload}
use Rattle.ax_types.specs.declared.packets.Payload.TheVariants as payload
use Rattle.ax_types.specs.declared.replies.How.{How}
use Rattle.ax_types.specs.declared.sessions.Got.{Got}
use Rattle.ax_types.specs.declared.sessions.Heard.{Heard}
use Rattle.ax_types.specs.declared.sessions.Heard.TheVariants as heard
use Rattle.spec_sequencer.specs.Sequencers as sequencers
use Rattle.spec_client.specs.Clients as clients
use Rattle.spec_client.specs.Receipts as receipts
use Rattle.cli_session.specs.Numbered as numbered
use Rattle.cli_session.specs.CountedClients as counted
use Rattle.cli_session.proofs.Numbers.{AreNumbered-push, AreNumbered-raised, AreNumbered-answered}
use Rattle.cli_session.proofs.Release.{sound_releases}

pub counted_new : (me : ℕ) → numbered.IsCounted (clients.new_client me) 0
counted_new me = record { sound = record { last = refl; numbered = omega arith }; calls = omega arith; commands = omega arith }

-- parts that a step leaves alone
pub counted_more : (c : clients.Client) (n : ℕ) → numbered.IsCounted c n → numbered.IsCounted c (suc n)
counted_more c n is = record { sound = is.sound; calls = omega (arith, is.calls); commands = omega (arith, is.commands) }

pub counted_opens : (c : clients.Client) (node n : ℕ) → numbered.IsCounted c n → numbered.IsCounted (clients.opens c node).client (suc n)
counted_opens c node n is = record { sound = record { last = is.sound.last; numbered = is.sound.numbered }; calls = omega (arith, is.calls); commands = omega (arith, is.commands) }

pub counted_closes : (c : clients.Client) (n : ℕ) → numbered.IsCounted c n → numbered.IsCounted (clients.closes c).client (suc n)
counted_closes c n is = record { sound = record { last = is.sound.last; numbered = is.sound.numbered }; calls = omega (arith, is.calls); commands = omega (arith, is.commands) }

pub counted_switches : (c : clients.Client) (node n : ℕ) → numbered.IsCounted c n → numbered.IsCounted (clients.switches c node).client (suc n)
counted_switches c node n is = record { sound = record { last = is.sound.last; numbered = is.sound.numbered }; calls = omega (arith, is.calls); commands = omega (arith, is.commands) }

pub counted_unsent : (c : clients.Client) (n : ℕ) → numbered.IsCounted c n → numbered.IsCounted (clients.unsent c) (suc n)
counted_unsent c n is = record {
  sound = record { last = is.sound.last; numbered = AreNumbered-raised 0 c.sequencer.calls c.requests c.calls (suc c.calls) (omega arith) is.sound.numbered };
  calls = omega (arith, is.calls);
  commands = omega (arith, is.commands);
}

pub kept_unsent : (p : counted.MovedClient) (n : ℕ) (is_spent : Bool) → n < 2 ^ 32 → numbered.FitTogether p n is_spent → numbered.FitTogether (record p { client = clients.unsent p.client }) (n + 1) is_spent
kept_unsent p n is_spent room is =
    rw (add-one n) (record { within = omega (arith, room); moves = omega (arith, is.moves); counted = λ e. counted_unsent p.client n (is.counted e) })

pub counted_makes_call : (c : clients.Client) (name : List ℕ) (o : Op) (n : ℕ) → numbered.IsCounted c n → numbered.IsCounted (clients.makes_call c name o).client (suc n)
counted_makes_call c name o n is = record {
  sound = record { last = refl; numbered = AreNumbered-push 0 c.sequencer.calls c.requests c.calls _ _ refl refl refl is.sound.numbered };
  calls = omega (arith, is.calls);
  commands = omega (arith, is.commands);
}

pub counted_queries : (c : clients.Client) (l : Level) (name : List ℕ) (q : Query) (n : ℕ) → numbered.IsCounted c n → numbered.IsCounted (clients.queries c l name q).client (suc n)
counted_queries c l name q n is = record {
  sound = record { last = is.sound.last; numbered = AreNumbered-push 0 c.sequencer.calls c.requests c.calls _ _ refl refl refl is.sound.numbered };
  calls = omega (arith, is.calls);
  commands = omega (arith, is.commands);
}

pub kept_makes_call : (p : counted.MovedClient) (name : List ℕ) (o : Op) (n : ℕ) (is_spent : Bool) → n < 2 ^ 32 → numbered.FitTogether p n is_spent
    → numbered.FitTogether (record p { client = (clients.makes_call p.client name o).client }) (n + 1) is_spent
kept_makes_call p name o n is_spent room is =
    rw (add-one n) (record { within = omega (arith, room); moves = omega (arith, is.moves); counted = λ e. counted_makes_call p.client name o n (is.counted e) })

pub kept_queries : (p : counted.MovedClient) (l : Level) (name : List ℕ) (q : Query) (n : ℕ) (is_spent : Bool) → n < 2 ^ 32 → numbered.FitTogether p n is_spent
    → numbered.FitTogether (record p { client = (clients.queries p.client l name q).client }) (n + 1) is_spent
kept_queries p l name q n is_spent room is =
    rw (add-one n) (record { within = omega (arith, room); moves = omega (arith, is.moves); counted = λ e. counted_queries p.client l name q n (is.counted e) })

-- receipts
counted_releases : (c : clients.Client) (first : List Item) (n : ℕ) → numbered.IsCounted c n → numbered.IsCounted (receipts.releases c first).client n
counted_releases c first n is = record { sound = sound_releases c first is.sound; calls = is.calls; commands = is.commands }

by_test : (P : clients.Client → Type 0) (b : Bool) (s t : clients.ClientStep) → P s.client → P t.client → P (let x : clients.ClientStep = if b then s else t in x.client)
by_test P true s t p q = p
by_test P false s t p q = q

counted_answered : (c : clients.Client) (number : ℕ) (g : Got) (n : ℕ) → numbered.IsCounted c n → numbered.IsCounted (record c { sequencer = sequencers.with_answer c.sequencer number g }) n
counted_answered c number g n is = record {
  sound = record { last = is.sound.last; numbered = AreNumbered-answered 0 c.sequencer.calls c.requests c.calls number g is.sound.numbered };
  calls = is.calls;
  commands = is.commands;
}

pub sound_answered : (c : clients.Client) (number : ℕ) (g : Got) → numbered.IsSound c → numbered.IsSound (record c { sequencer = sequencers.with_answer c.sequencer number g })
sound_answered c number g is = record { last = is.last; numbered = AreNumbered-answered 0 c.sequencer.calls c.requests c.calls number g is.numbered }

counted_gets : (c : clients.Client) (o : Option sequencers.Unanswered) (g : Got) (n : ℕ) → numbered.IsCounted c n → numbered.IsCounted (receipts.gets c o g).client n
counted_gets c None g n is = is
counted_gets c (Some u) g n is = by_test (λ d. numbered.IsCounted d n) (is_some u.got) (clients.ignores c) _ is (counted_releases _ [] n (counted_answered c u.number g n is))

heard_at-last : (h : Heard) (q : sequencers.Sequencer) (b : Batch) → (sequencers.heard_at h q b).last ≡ q.last
heard_at-last heard.Old q b = refl
heard_at-last heard.Taken q b = refl
heard_at-last (heard.Missing k) q b = refl

heard_at-calls : (h : Heard) (q : sequencers.Sequencer) (b : Batch) → (sequencers.heard_at h q b).calls ≡ q.calls
heard_at-calls heard.Old q b = refl
heard_at-calls heard.Taken q b = refl
heard_at-calls (heard.Missing k) q b = refl

pub sound_heard : (c : clients.Client) (b : Batch) → numbered.IsSound c → numbered.IsSound (record c { sequencer = sequencers.with_heard c.sequencer b })
sound_heard c b is = record {
  last = heard_at-last (sequencers.heard_of c.sequencer b) c.sequencer b ∙ is.last;
  numbered = rw (heard_at-calls (sequencers.heard_of c.sequencer b) c.sequencer b) is.numbered;
}

counted_batch : (c : clients.Client) (node : ℕ) (b : Batch) (h : Heard) (n : ℕ) → numbered.IsCounted c n → numbered.IsCounted (receipts.takes_batch c node b h).client n
counted_batch c node b heard.Old n is = is
counted_batch c node b heard.Taken n is = counted_releases (record c { sequencer = sequencers.with_heard c.sequencer b }) (item.Event (clients.own_session c.state) b.place b.prev b.events ∷ []) n (record { sound = sound_heard c b is.sound; calls = is.calls; commands = is.commands })
counted_batch c node b (heard.Missing h) n is = is

counted_opened : (c : clients.Client) (session n : ℕ) → numbered.IsCounted (receipts.takes_opened c session).client n
counted_opened c session n = record { sound = record { last = refl; numbered = omega arith }; calls = omega arith; commands = omega arith }

counted_end : (c : clients.Client) (session place : ℕ) (h : How) (n : ℕ) → numbered.IsCounted c n → numbered.IsCounted (receipts.takes_end c session place h).client n
counted_end c session place h n is = record { sound = record { last = is.sound.last; numbered = omega arith }; calls = is.calls; commands = is.commands }

counted_receives : (c : clients.Client) (node : ℕ) (p : Payload) (n : ℕ) → numbered.IsCounted c n → numbered.IsCounted (receipts.receives c node p).client n
counted_receives c node (payload.Vote a b d) n is = is
counted_receives c node (payload.VoteReply a b) n is = is
counted_receives c node (payload.Append a b d e f g) n is = is
counted_receives c node (payload.AppendReply a b d e) n is = is
counted_receives c node (payload.Register a b) n is = is
counted_receives c node (payload.Keep a b d e) n is = is
counted_receives c node (payload.Command a b d e f) n is = is
counted_receives c node (payload.Close a b) n is = is
counted_receives c node (payload.Query a b d e f g h i) n is = is
counted_receives c node (payload.Connect a b d) n is = is
counted_receives c node (payload.Reset a b d) n is = is
counted_receives c node (payload.Opened opening session) n is =
    by_test (λ d. numbered.IsCounted d n) (clients.is_opening c.state && sequencers.accepts c.switch opening) (receipts.takes_opened c session) (clients.ignores c) (counted_opened c session n) is
counted_receives c node (payload.Reply session seq place events reply) n is =
    by_test (λ d. numbered.IsCounted d n) (receipts.is_own_live c session) _ (clients.ignores c) (counted_gets c _ _ n is) is
counted_receives c node (payload.Answer session number l place events term arrival reply) n is =
    by_test (λ d. numbered.IsCounted d n) (receipts.is_own_live c session) _ (clients.ignores c) (counted_gets c _ _ n is) is
counted_receives c node (payload.Gap session last) n is =
    by_test (λ d. numbered.IsCounted d n) (receipts.is_own_live c session) _ (clients.ignores c) is is
counted_receives c node (payload.Batch session place prev events) n is =
    by_test (λ d. numbered.IsCounted d n) (receipts.is_own c session) _ (clients.ignores c) (counted_batch c node _ _ n is) is
counted_receives c node (payload.Ended session place h) n is =
    by_test (λ d. numbered.IsCounted d n) (receipts.is_own c session) _ (clients.ignores c) (counted_end c session place h n is) is

pub counted_received : (c : clients.Client) (node : ℕ) (p : Payload) (n : ℕ) → numbered.IsCounted c n → numbered.IsCounted (receipts.receives c node p).client (suc n)
counted_received c node p n is = counted_more _ n (counted_receives c node p n is)

pub kept_received : (p q : counted.MovedClient) (node : ℕ) (pl : Payload) (n : ℕ) (is_spent : Bool) → n < 2 ^ 32 → is_spent ≡ false → numbered.FitTogether p n is_spent
    → q.client ≡ (receipts.receives p.client node pl).client → q.moves ≤ suc p.moves → numbered.FitTogether q (n + 1) false
kept_received p q node pl n is_spent room whole is same moved =
    rw (add-one n) (record {
      within = omega (arith, room);
      moves = omega (arith, is.moves, moved);
      counted = λ e. subst (λ (d : clients.Client). numbered.IsCounted d (suc n)) (sym same) (counted_received p.client node pl n (is.counted whole));
    })
