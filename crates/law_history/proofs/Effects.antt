-- What one act does to the queue of a name: it offers a text, takes one, finds none, or nothing.
use Rattle.std.proofs.Common.{◌≡◌, ℕ, Bool, true, false, cond, List, [], ◌∷◌, ◌++◌, Option, Some, None, refl, sym, ap, ◌∙◌, subst, map}
use Rattle.std.specs.BTreeMap.{is_at}
use Rattle.ax_types.specs.declared.ops.Op.{Op}
use Rattle.ax_types.specs.declared.ops.Op.TheVariants as op
use Rattle.ax_types.specs.declared.ops.QueueOp.TheVariants as queue
use Rattle.ax_types.specs.declared.entries.Act.{Act}
use Rattle.ax_types.specs.declared.entries.Act.TheVariants as act
use Rattle.ax_types.specs.declared.replies.Reply.{Reply}
use Rattle.ax_types.specs.declared.replies.Reply.TheVariants as reply
use Rattle.spec_book.specs.Limits as limits
use Rattle.spec_book.specs.Dict as dicts
use Rattle.spec_book.specs.Resources as resources
use Rattle.spec_book.specs.Book as books
use Rattle.spec_claims.specs.Handed as handed
use Rattle.law_history.proofs.Found.{same_name, found_with_same, found_with_other}

-- the texts of a queue, none where the resource is of another kind
abbrev pub texts : resources.Resource → List (List ℕ)
texts (resources.AQueue s) = s
texts r = []

abbrev pub texts_at : Option resources.Resource → List (List ℕ)
texts_at None = []
texts_at (Some r) = texts r

-- the texts of the queue at a name
abbrev pub queue_of : books.Book → List ℕ → List (List ℕ)
queue_of book name = texts_at (dicts.found book name)

-- what an act at a place gives to the lists of offers, takes and empty polls, and to the texts of the queue
pub data Effect (p : ℕ) (offers takes : List (ℕ × List ℕ)) (empties : List ℕ) (before after : List (List ℕ)) : Type 0 where
  Offers : (v : List ℕ) → offers ≡ (p, v) ∷ [] → takes ≡ [] → empties ≡ [] → after ≡ before ++ v ∷ [] → Effect p offers takes empties before after
  Takes : (v : List ℕ) → offers ≡ [] → takes ≡ (p, v) ∷ [] → empties ≡ [] → before ≡ v ∷ after → Effect p offers takes empties before after
  FindsNone : offers ≡ [] → takes ≡ [] → empties ≡ p ∷ [] → before ≡ [] → after ≡ [] → Effect p offers takes empties before after
  Leaves : offers ≡ [] → takes ≡ [] → empties ≡ [] → after ≡ before → Effect p offers takes empties before after

abbrev pub HasEffect : List ℕ → ℕ → Act → Reply → List (List ℕ) → List (List ℕ) → Type 0
HasEffect name p a r before after =
    let x : handed.Replied = record { place = p; act = a; reply = r } in
    Effect p (handed.offered name x) (handed.polled name x) (handed.polled_empty name x) before after

-- at one resource
offer_effect : (name n : List ℕ) (p s : ℕ) (v : List ℕ) (q : List (List ℕ)) (b : Bool) → is_at (dicts.bytes_cmp name) n ≡ true
    → HasEffect name p (act.Do s n (op.Queue (queue.Offer v))) (cond b (resources.replied q reply.Full) (resources.replied (q ++ v ∷ []) reply.Yes)).turn.reply q
    (cond b (resources.replied q reply.Full) (resources.replied (q ++ v ∷ []) reply.Yes)).state
offer_effect name n p s v q true e = Leaves refl refl refl refl
offer_effect name n p s v q false e = Offers v (ap (λ b. cond b ((p, v) ∷ []) []) e) refl refl refl

resource_effect : (name n : List ℕ) (p time s : ℕ) (o : Op) (r : resources.Resource) → is_at (dicts.bytes_cmp name) n ≡ true
    → HasEffect name p (act.Do s n o) (books.resource_act n p time s o r).turn.reply (texts r) (texts (books.resource_act n p time s o r).state)
resource_effect name n p time s (op.Queue (queue.Offer v)) (resources.AQueue q) e = offer_effect name n p s v q (limits.is_full q) e
resource_effect name n p time s (op.Queue queue.Poll) (resources.AQueue []) e = FindsNone refl refl (ap (λ b. cond b (p ∷ []) []) e) refl refl
resource_effect name n p time s (op.Queue queue.Poll) (resources.AQueue (v ∷ q)) e = Takes v refl (ap (λ b. cond b ((p, v) ∷ []) []) e) refl refl
resource_effect name n p time s (op.Queue (queue.Offer v)) r e = Leaves refl refl refl refl
resource_effect name n p time s (op.Queue queue.Poll) r e = Leaves refl refl refl refl
resource_effect name n p time s (op.Map o) (resources.AMap x) e = Leaves refl refl refl refl
resource_effect name n p time s (op.Value o) (resources.AValue x) e = Leaves refl refl refl refl
resource_effect name n p time s (op.Long o) (resources.ALong x) e = Leaves refl refl refl refl
resource_effect name n p time s (op.Lock o) (resources.ALock x) e = Leaves refl refl refl refl
resource_effect name n p time s (op.Group o) (resources.AGroup x) e = Leaves refl refl refl refl
resource_effect name n p time s (op.Set o) (resources.ASet x) e = Leaves refl refl refl refl
resource_effect name n p time s (op.Multimap o) (resources.AMultimap x) e = Leaves refl refl refl refl
resource_effect name n p time s (op.Topic o) (resources.ATopic x) e = Leaves refl refl refl refl
resource_effect name n p time s o r e = Leaves refl refl refl refl

new_texts : (o : Op) → texts (resources.new_resource (books.op_kind o)) ≡ []
new_texts (op.Map o) = refl
new_texts (op.Value o) = refl
new_texts (op.Long o) = refl
new_texts (op.Lock o) = refl
new_texts (op.Group o) = refl
new_texts (op.Set o) = refl
new_texts (op.Queue o) = refl
new_texts (op.Multimap o) = refl
new_texts (op.Topic o) = refl

-- a book with no room
full_effect : (name n : List ℕ) (p s : ℕ) (o : Op) (ts : List (List ℕ)) → HasEffect name p (act.Do s n o) reply.Full ts ts
full_effect name n p s (op.Queue (queue.Offer v)) ts = Leaves refl refl refl refl
full_effect name n p s (op.Queue queue.Poll) ts = Leaves refl refl refl refl
full_effect name n p s o ts = Leaves refl refl refl refl

-- at the name itself
changed_effect : (name n : List ℕ) (p s : ℕ) (o : Op) (book : books.Book) (before : List (List ℕ)) (a : resources.Acted resources.Resource) → name ≡ n
    → HasEffect name p (act.Do s n o) a.turn.reply before (texts a.state)
    → HasEffect name p (act.Do s n o) a.turn.reply before (queue_of (dicts.with_entry book n a.state) name)
changed_effect name n p s o book before a e h =
    let f : dicts.found (dicts.with_entry book n a.state) name ≡ Some a.state = subst (λ m. dicts.found (dicts.with_entry book m a.state) name ≡ Some a.state) e (found_with_same book name a.state) in
    subst (HasEffect name p (act.Do s n o) a.turn.reply before) (sym (ap texts_at f)) h

made_effect : (name n : List ℕ) (p time s : ℕ) (o : Op) (book : books.Book) (b : Bool) → is_at (dicts.bytes_cmp name) n ≡ true → dicts.found book name ≡ None
    → HasEffect name p (act.Do s n o) (cond b (resources.replied book reply.Full) (books.at_name book n (books.resource_act n p time s o (resources.new_resource (books.op_kind o))))).turn.reply
    [] (queue_of (cond b (resources.replied book reply.Full) (books.at_name book n (books.resource_act n p time s o (resources.new_resource (books.op_kind o))))).state name)
made_effect name n p time s o book true e f = subst (HasEffect name p (act.Do s n o) reply.Full []) (sym (ap texts_at f)) (full_effect name n p s o [])
made_effect name n p time s o book false e f =
    let a : resources.Acted resources.Resource = books.resource_act n p time s o (resources.new_resource (books.op_kind o)) in
    changed_effect name n p s o book [] a (same_name name n e)
    (subst (λ ts. HasEffect name p (act.Do s n o) a.turn.reply ts (texts a.state)) (new_texts o) (resource_effect name n p time s o (resources.new_resource (books.op_kind o)) e))

turn_at_effect : (name n : List ℕ) (p time s : ℕ) (o : Op) (book : books.Book) (r : Option resources.Resource) → is_at (dicts.bytes_cmp name) n ≡ true → dicts.found book name ≡ r
    → HasEffect name p (act.Do s n o) (books.turn_at book p time s n o r).turn.reply (texts_at r) (queue_of (books.turn_at book p time s n o r).state name)
turn_at_effect name n p time s o book None e f = made_effect name n p time s o book (limits.is_full book) e f
turn_at_effect name n p time s o book (Some r) e f =
    changed_effect name n p s o book (texts r) (books.resource_act n p time s o r) (same_name name n e) (resource_effect name n p time s o r e)

-- at another name
record IsApart (name : List ℕ) (x : handed.Replied) : Type 0 where
  no_offer : handed.offered name x ≡ []
  no_take : handed.polled name x ≡ []
  not_empty : handed.polled_empty name x ≡ []

apart : (name n : List ℕ) (p s : ℕ) (o : Op) (r : Reply) → is_at (dicts.bytes_cmp name) n ≡ false → IsApart name (record { place = p; act = act.Do s n o; reply = r })
apart name n p s (op.Queue (queue.Offer v)) reply.Yes e = record { no_offer = ap (λ b. cond b ((p, v) ∷ []) []) e; no_take = refl; not_empty = refl }
apart name n p s (op.Queue (queue.Offer v)) r e = record { no_offer = refl; no_take = refl; not_empty = refl }
apart name n p s (op.Queue queue.Poll) (reply.Found v) e = record { no_offer = refl; no_take = ap (λ b. cond b ((p, v) ∷ []) []) e; not_empty = refl }
apart name n p s (op.Queue queue.Poll) reply.Nothing e = record { no_offer = refl; no_take = refl; not_empty = ap (λ b. cond b (p ∷ []) []) e }
apart name n p s (op.Queue queue.Poll) r e = record { no_offer = refl; no_take = refl; not_empty = refl }
apart name n p s o r e = record { no_offer = refl; no_take = refl; not_empty = refl }

made_other : (name n : List ℕ) (book : books.Book) (a : resources.Acted resources.Resource) (b : Bool) → is_at (dicts.bytes_cmp name) n ≡ false
    → queue_of (cond b (resources.replied book reply.Full) (books.at_name book n a)).state name ≡ queue_of book name
made_other name n book a true e = refl
made_other name n book a false e = ap texts_at (found_with_other book name n a.state e)

turn_at_other : (name n : List ℕ) (p time s : ℕ) (o : Op) (book : books.Book) (r : Option resources.Resource) → is_at (dicts.bytes_cmp name) n ≡ false
    → queue_of (books.turn_at book p time s n o r).state name ≡ queue_of book name
turn_at_other name n p time s o book None e = made_other name n book (books.resource_act n p time s o (resources.new_resource (books.op_kind o))) (limits.is_full book) e
turn_at_other name n p time s o book (Some r) e = ap texts_at (found_with_other book name n (books.resource_act n p time s o r).state e)

turn_effect : (name n : List ℕ) (p time s : ℕ) (o : Op) (book : books.Book) (b : Bool) → is_at (dicts.bytes_cmp name) n ≡ b
    → HasEffect name p (act.Do s n o) (books.turn book p time s n o).turn.reply (queue_of book name) (queue_of (books.turn book p time s n o).state name)
turn_effect name n p time s o book true e =
    let f : dicts.found book name ≡ dicts.found book n = ap (dicts.found book) (same_name name n e) in
    subst (λ r. HasEffect name p (act.Do s n o) (books.turn book p time s n o).turn.reply (texts_at r) (queue_of (books.turn book p time s n o).state name)) (sym f)
    (turn_at_effect name n p time s o book (dicts.found book n) e f)
turn_effect name n p time s o book false e =
    let a : IsApart name (record { place = p; act = act.Do s n o; reply = (books.turn book p time s n o).turn.reply }) = apart name n p s o (books.turn book p time s n o).turn.reply e in
    Leaves a.no_offer a.no_take a.not_empty (turn_at_other name n p time s o book (dicts.found book n) e)

-- the end of lives and of sessions
texts_cond : (b : Bool) (x y : resources.Resource) (v w : Option resources.Resource) → texts x ≡ texts y → texts_at v ≡ texts_at w → texts_at (cond b (Some x) v) ≡ texts_at (cond b (Some y) w)
texts_cond true x y v w h k = h
texts_cond false x y v w h k = k

changed_texts : (f : List ℕ → resources.Resource → resources.Resource) → ((n : List ℕ) (r : resources.Resource) → texts (f n r) ≡ texts r) → (book : books.Book) (name : List ℕ)
    → queue_of (map (λ e. (e.0, f e.0 e.1)) book) name ≡ queue_of book name
changed_texts f k [] name = refl
changed_texts f k (e ∷ book) name =
    texts_cond (is_at (dicts.bytes_cmp name) e.0) (f e.0 e.1) e.1 (dicts.found (map (λ e. (e.0, f e.0 e.1)) book) name) (dicts.found book name) (k e.0 e.1) (changed_texts f k book name)

pass_texts : (time : ℕ) (r : resources.Resource) → texts (books.resource_pass time r) ≡ texts r
pass_texts time (resources.AMap s) = refl
pass_texts time r = refl

unlistened_texts : (s : ℕ) (r : resources.Resource) → texts (books.unlistened s r) ≡ texts r
unlistened_texts s (resources.AMap x) = refl
unlistened_texts s (resources.AValue x) = refl
unlistened_texts s (resources.AGroup x) = refl
unlistened_texts s (resources.ATopic x) = refl
unlistened_texts s r = refl

end_texts : (n : List ℕ) (p s : ℕ) (r : resources.Resource) → texts (books.resource_end n p s r).state ≡ texts r
end_texts n p s (resources.ALock x) = refl
end_texts n p s (resources.AGroup x) = refl
end_texts n p s r = refl

pass_queue : (time : ℕ) (book : books.Book) (name : List ℕ) → queue_of (books.pass time book) name ≡ queue_of book name
pass_queue time book name = changed_texts (λ n r. books.resource_pass time r) (λ n r. pass_texts time r) book name

ended_queue : (p time s : ℕ) (book : books.Book) (name : List ℕ) → queue_of (books.left_by p s (books.pass time (books.all_unlistened s book))) name ≡ queue_of book name
ended_queue p time s book name =
    changed_texts (λ n r. (books.resource_end n p s r).state) (λ n r. end_texts n p s r) (books.pass time (books.all_unlistened s book)) name
    ∙ pass_queue time (books.all_unlistened s book) name
    ∙ changed_texts (λ n r. books.unlistened s r) (λ n r. unlistened_texts s r) book name

-- of each act
pub act_effect : (name : List ℕ) (book : books.Book) (p time : ℕ) (a : Act)
    → HasEffect name p a (books.acted book p time a).turn.reply (queue_of book name) (queue_of (books.acted book p time a).state name)
act_effect name book p time (act.Do s n o) =
    subst (λ ts. HasEffect name p (act.Do s n o) (books.turn (books.pass time book) p time s n o).turn.reply ts (queue_of (books.turn (books.pass time book) p time s n o).state name))
    (pass_queue time book name) (turn_effect name n p time s o (books.pass time book) (is_at (dicts.bytes_cmp name) n) refl)
act_effect name book p time (act.Close s) = Leaves refl refl refl (ended_queue p time s book name)
act_effect name book p time (act.Expire s) = Leaves refl refl refl (ended_queue p time s book name)
act_effect name book p time a = Leaves refl refl refl (pass_queue time book name)
