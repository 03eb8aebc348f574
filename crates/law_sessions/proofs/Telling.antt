-- The session state tells what the plain book of its acts tells.
use Rattle.std.proofs.Common.{◌≡◌, ℕ, zero, suc, nat_lt, List, [], ◌∷◌, Option, Some, None, take, filter, refl, sym, ap, ◌∙◌, subst}
use Rattle.std.specs.List.{AllByRecursion}
use Rattle.ax_types.specs.declared.entries.Batch.{Batch}
use Rattle.ax_types.specs.declared.entries.Entry.{Entry}
use Rattle.ax_types.specs.declared.packets.Payload.TheVariants as payload
use Rattle.spec_book.specs.History as histories
use Rattle.spec_sessions.specs.Tables as table
use Rattle.spec_sessions.specs.Outboxes as outboxes
use Rattle.spec_sessions.specs.Sessions as sessions
use Rattle.spec_run.specs.KeptStores as kept_stores
use Rattle.law_told.proofs.Growth.{book_end}
use Rattle.law_told.proofs.Named.{IsLiveNow, live_end}
use Rattle.law_told.proofs.Lists.{all_since}
use Rattle.law_sessions.specs.Folds as folds
use Rattle.law_sessions.proofs.Finding.{equal, found_passes, any_found, all_filter}
use Rattle.law_sessions.proofs.States.{IsBatchIn, IsBoxIn, IsStateOf, is_session, is_box, live_found, past_found, found_seq, found_batch, kept_found}
use Rattle.law_sessions.proofs.Runs.{whole, acts_split, entry_goes}

all_take : {X : Type 0} (P : X → Type 0) (n : ℕ) (xs : List X) → AllByRecursion P xs → AllByRecursion P (take n xs)
all_take P zero xs h = tt
all_take P (suc n) [] h = tt
all_take P (suc n) (x ∷ xs) h = (h.0, all_take P n xs h.1)

after_true : (h : histories.History) (c t heard : ℕ) (o : Option outboxes.Outbox) → ((b : outboxes.Outbox) → o ≡ Some b → IsBoxIn h b × (b.session ≡ t)) → AllByRecursion (λ (b : Batch). folds.IsTrueOf h c (payload.Batch t b.place b.prev b.events)) (sessions.after_in o heard)
after_true h c t heard None f = tt
after_true h c t heard (Some o) f =
    let g = f o refl in
    all_take _ outboxes.most_batches (filter (λ x. nat_lt heard x.place) o.batches.kept)
    (all_filter _ (λ x. nat_lt heard x.place) o.batches.kept
    (all_since (IsBatchIn h o.session) (λ (b : Batch). folds.IsTrueOf h c (payload.Batch t b.place b.prev b.events)) (λ b k items. subst (λ s. IsBatchIn h s b) g.1 k) o.batches.kept g.0.batches))

pub tells : (timeout : ℕ) (es : List Entry) (h : histories.History) (s : sessions.Sessions) → IsStateOf timeout es h s → folds.TellsFold h s
tells timeout es h s r = record {
  applied = r.applied;
  book = r.book ∙ sym (book_end h);
  live = λ t e.
      let f = live_found timeout es h s t r e in
      record { live = live_end h t ∙ subst (IsLiveNow h) f.row_is f.good.live; seq = found_seq timeout es h s t r f; batch = found_batch timeout es h s t r f };
  all_live = λ t l.
      let f = any_found (is_session t) s.table.live (r.table.all t (sym (live_end h t) ∙ l)) in
      ap (λ x. table.state_with x (table.past_session s.table t)) f.1;
  ended = λ c t p way e items. past_found timeout es h s t p way r e;
  reply = λ c t seq k e items. kept_found timeout es h s t seq k r e;
  batches = λ c t heard. after_true h c t heard (outboxes.outbox_of s.boxes t) (λ b e. let a = found_passes (IsBoxIn h) (is_box t) s.boxes b r.boxes e in (a.0, equal b.session t a.1));
}

pub state_tells_fold : folds.StateTellsFold
state_tells_fold timeout es = tells timeout es (kept_stores.acts_of timeout es) (folds.sessions_after timeout es) (whole timeout es)

pub entry_gives_fold : folds.EntryGivesFold
entry_gives_fold timeout es e =
    let s : sessions.Sessions = folds.sessions_after timeout es in
    subst (λ g. folds.GivesFold g (sessions.applied_of s (suc s.applied) e)) (sym (acts_split (sessions.new_sessions timeout) es (e ∷ [])))
    (entry_goes timeout es (kept_stores.acts_of timeout es) s e (whole timeout es)).gives
