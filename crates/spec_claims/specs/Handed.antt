-- A queue hands each offered text to at most one poll, in order.
use Rattle.std.specs.Prelude.{ℕ, ◌≡◌, ◌<◌, ◌+◌, Bool, true, false, nat_lt, if◌then◌else◌, List, [], ◌∷◌, Some, flat_map, count_by}
use Rattle.std.specs.BTreeMap.{is_at}
use Rattle.ax_types.specs.Places as lists
use Rattle.ax_types.specs.declared.ops.Op.TheVariants as op
use Rattle.ax_types.specs.declared.ops.QueueOp.TheVariants as queue
use Rattle.ax_types.specs.declared.replies.Reply.{Reply}
use Rattle.ax_types.specs.declared.replies.Reply.TheVariants as reply
use Rattle.ax_types.specs.declared.entries.Act.{Act}
use Rattle.ax_types.specs.declared.entries.Act.TheVariants as act
use Rattle.ax_types.specs.declared.items.Item.{Item}
use Rattle.ax_types.specs.declared.items.Item.TheVariants as item
use Rattle.spec_book.specs.Dict as dicts
use Rattle.spec_book.specs.Book as books
use Rattle.spec_book.specs.History as histories
use Rattle.spec_claims.specs.Transcript as transcripts

-- an act with its place and its reply
pub record Replied : Type 0 where
  pub place : ℕ
  pub act : Act
  pub reply : Reply

-- the acts of a history with their replies, of which the first has the place after `done`
abbrev pub replied_after : ℕ → books.Book → histories.History → List Replied
replied_after done book [] = []
replied_after done book (a ∷ acts) =
    let turned = books.acted book (done + 1) a.0 a.1 in
    (record { place = done + 1; act = a.1; reply = turned.turn.reply }) ∷ replied_after (done + 1) turned.state acts

-- the texts that were offered to the queue of a name, each with its place
abbrev pub offered : List ℕ → Replied → List (ℕ × List ℕ)
offered name r = taken_in r.act r.reply
  where
    taken_in : Act → Reply → List (ℕ × List ℕ)
    taken_in (act.Do s n (op.Queue (queue.Offer v))) reply.Yes = if is_at (dicts.bytes_cmp name) n then (r.place, v) ∷ [] else []
    taken_in _ _ = []

-- the texts that polls took from it, each with its place
abbrev pub polled : List ℕ → Replied → List (ℕ × List ℕ)
polled name r = taken_out r.act r.reply
  where
    taken_out : Act → Reply → List (ℕ × List ℕ)
    taken_out (act.Do s n (op.Queue queue.Poll)) (reply.Found v) = if is_at (dicts.bytes_cmp name) n then (r.place, v) ∷ [] else []
    taken_out _ _ = []

-- the places of polls that found it empty
abbrev pub polled_empty : List ℕ → Replied → List ℕ
polled_empty name r = found_none r.act r.reply
  where
    found_none : Act → Reply → List ℕ
    found_none (act.Do s n (op.Queue queue.Poll)) reply.Nothing = if is_at (dicts.bytes_cmp name) n then r.place ∷ [] else []
    found_none _ _ = []

abbrev pub offers : List ℕ → histories.History → List (ℕ × List ℕ)
offers name h = flat_map (offered name) (replied_after 0 [] h)

abbrev pub takes : List ℕ → histories.History → List (ℕ × List ℕ)
takes name h = flat_map (polled name) (replied_after 0 [] h)

abbrev pub empty_polls : List ℕ → histories.History → List ℕ
empty_polls name h = flat_map (polled_empty name) (replied_after 0 [] h)

-- how many stand below a place
abbrev pub before : ℕ → List (ℕ × List ℕ) → ℕ
before p xs = count_by (λ x. nat_lt x.0 p) xs

-- a reply's place is that of no reply above it
abbrev pub is_reply_at : ℕ → Item → Bool
is_reply_at p (item.Reply s n q r) = is_same q
  where
    is_same : ℕ → Bool
    is_same q = if nat_lt p q then false else (if nat_lt q p then false else true)
is_reply_at p x = false

abbrev pub IsOfItsOwn : List Item → Item → Type 0
IsOfItsOwn above (item.Reply s n p r) = count_by (is_reply_at p) above ≡ 0
IsOfItsOwn above x = Unit {0}

-- of each name the k-th take has the text of the k-th offer, which stands at a smaller place; a poll finds nothing where as
-- many takes as offers stand before it; and no two replies have one place
pub record IsHanded (items : List Item) (h : histories.History) : Type 0 where
  pub in_order : (name : List ℕ) (k p : ℕ) (v : List ℕ) → lists.at_place (takes name h) k ≡ Some (p, v)
      → (q : ℕ) × (lists.at_place (offers name h) k ≡ Some (q, v)) × (q < p)
  pub empty : (name : List ℕ) (k p : ℕ) → lists.at_place (empty_polls name h) k ≡ Some p
      → before p (takes name h) ≡ before p (offers name h)
  pub own_place : transcripts.EachItem IsOfItsOwn items
