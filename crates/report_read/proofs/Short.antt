-- Too few words are read as nothing.
use Rattle.std.proofs.Common.{◌≡◌, ℕ, ◌<◌, List, [], ◌∷◌, length, refl, arith}
use Rattle.std.specs.Prelude.{Option, Some, None}
use Rattle.ax_types.specs.declared.items.Item.TheVariants as item
use Rattle.spec_text.specs.Words as text_words
use Rattle.spec_report_read.specs.ReplyWords as reply_words
use Rattle.spec_report_read.specs.ItemWords as item_words
use Rattle.report_read.specs.ReadAnswers as read_answers

pub short_event : (ws : List text_words.Word) → length ws < 2 → reply_words.event_from ws ≡ None
short_event [] h = refl
short_event (a ∷ []) h = refl
short_event (a ∷ b ∷ ws) h = absurd (omega arith)

pub short_called : (ws : List text_words.Word) → length ws < 2 → item_words.called_item_from ws ≡ None
short_called [] h = refl
short_called (a ∷ []) h = refl
short_called (a ∷ b ∷ ws) h = absurd (omega arith)

pub short_reply_item : (ws : List text_words.Word) → length ws < 3 → item_words.reply_item_from ws ≡ None
short_reply_item [] h = refl
short_reply_item (a ∷ []) h = refl
short_reply_item (a ∷ b ∷ []) h = refl
short_reply_item (a ∷ b ∷ c ∷ ws) h = absurd (omega arith)

pub short_read_item : (ws : List text_words.Word) → length ws < 5 → item_words.read_item_from ws ≡ None
short_read_item [] h = refl
short_read_item (a ∷ []) h = refl
short_read_item (a ∷ b ∷ []) h = refl
short_read_item (a ∷ b ∷ c ∷ []) h = refl
short_read_item (a ∷ b ∷ c ∷ d ∷ []) h = refl
short_read_item (a ∷ b ∷ c ∷ d ∷ e ∷ ws) h = absurd (omega arith)

pub short_event_item : (ws : List text_words.Word) → length ws < 4 → item_words.event_item_from ws ≡ None
short_event_item [] h = refl
short_event_item (a ∷ []) h = refl
short_event_item (a ∷ b ∷ []) h = refl
short_event_item (a ∷ b ∷ c ∷ []) h = refl
short_event_item (a ∷ b ∷ c ∷ d ∷ ws) h = absurd (omega arith)

pub short_watched : (ws : List text_words.Word) → length ws < 4 → item_words.watched_from ws ≡ None
short_watched [] h = refl
short_watched (a ∷ []) h = refl
short_watched (a ∷ b ∷ []) h = refl
short_watched (a ∷ b ∷ c ∷ []) h = refl
short_watched (a ∷ b ∷ c ∷ d ∷ ws) h = absurd (omega arith)

pub short_entry : (place : ℕ) (ws : List text_words.Word) → length ws < 2 → item_words.entry_from place ws ≡ None
short_entry place [] h = refl
short_entry place (a ∷ []) h = refl
short_entry place (a ∷ b ∷ ws) h = absurd (omega arith)

pub short_reach_item : (ws : List text_words.Word) → length ws < 2 → item_words.reach_item_from ws ≡ None
short_reach_item [] h = refl
short_reach_item (a ∷ []) h = refl
short_reach_item (a ∷ b ∷ ws) h = absurd (omega arith)

-- where the second part is none, neither is
none_both : {A B C : Type 0} (f : A → B → C) (x : Option A) → text_words.both f x None ≡ None
none_both f None = refl
none_both f (Some x) = refl

pub reach_parts : (k a : text_words.Word) (ws : List text_words.Word)
    → text_words.both (λ r p. item.Reach r.0 r.1 r.2 p.0 p.1) (item_words.node_and_arrival k a) (reply_words.two_numbers64 ws) ≡ item_words.reach_item_from (k ∷ a ∷ ws)
reach_parts k a [] = none_both (λ r p. item.Reach r.0 r.1 r.2 p.0 p.1) (item_words.node_and_arrival k a)
reach_parts k a (x ∷ []) = none_both (λ r p. item.Reach r.0 r.1 r.2 p.0 p.1) (item_words.node_and_arrival k a)
reach_parts k a (x ∷ y ∷ []) = refl
reach_parts k a (x ∷ y ∷ z ∷ ws) = none_both (λ r p. item.Reach r.0 r.1 r.2 p.0 p.1) (item_words.node_and_arrival k a)

pub pending_parts : (n : text_words.Word) (ws : List text_words.Word)
    → text_words.both (λ number s. item.Pending number s.0 s.1 s.2) (reply_words.number64_from n) (read_answers.packet_sent_from ws) ≡ item_words.pending_from (n ∷ ws)
pending_parts n [] = none_both (λ number s. item.Pending number s.0 s.1 s.2) (reply_words.number64_from n)
pending_parts n (x ∷ []) = none_both (λ number s. item.Pending number s.0 s.1 s.2) (reply_words.number64_from n)
pending_parts n (x ∷ y ∷ []) = none_both (λ number s. item.Pending number s.0 s.1 s.2) (reply_words.number64_from n)
pending_parts n (x ∷ y ∷ z ∷ []) = refl
pending_parts n (x ∷ y ∷ z ∷ w ∷ ws) = none_both (λ number s. item.Pending number s.0 s.1 s.2) (reply_words.number64_from n)
