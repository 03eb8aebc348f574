-- Histories: one list of acts with their log times, place 1 first, and the fold over it.
use Rattle.std.specs.Prelude.{ℕ, zero, suc, ◌-◌, ◌+◌, ◌≤◌, ◌≡◌, Bool, true, false, not, ◌&&◌, nat_le, nat_eq, if◌then◌else◌, IsTrue, List, [], ◌∷◌, ◌++◌, length, take, Option, Some, None, map, filter, option_map}
use Rattle.std.specs.List.{list_any}
use Rattle.ax_types.specs.Places as lists
use Rattle.ax_types.specs.declared.ops.Op.{Op}
use Rattle.ax_types.specs.declared.entries.Act.{Act}
use Rattle.ax_types.specs.declared.entries.Act.TheVariants as act
use Rattle.ax_types.specs.declared.replies.Reply.{Reply}
use Rattle.ax_types.specs.declared.replies.Event.{Event}
use Rattle.ax_types.specs.declared.replies.Turn.{Turn}
use Rattle.spec_book.specs.Book as books

-- the acts by place, each with its log time
abbrev pub History : Type 0
History = List (ℕ × Act)

-- the book after some more acts, of which the first has the place after `done`
abbrev pub book_after : ℕ → books.Book → History → books.Book
book_after done book [] = book
book_after done book (a ∷ acts) = book_after (done + 1) (books.acted book (done + 1) a.0 a.1).state acts

-- the book after the first p acts
abbrev pub book_at : History → ℕ → books.Book
book_at h p = book_after 0 [] (take p h)

-- what the act at a place gives
abbrev pub turn_there : History → ℕ → Option (ℕ × Act) → Option Turn
turn_there h p None = None
turn_there h p (Some a) = Some (books.acted (book_at h (p - 1)) p a.0 a.1).turn

abbrev pub turn_of : History → ℕ → Option Turn
turn_of h p = turn_there h p (lists.at_place h p)

-- the reply of the act at a place
abbrev pub history_reply : History → ℕ → Option Reply
history_reply h p = option_map (λ t. t.reply) (turn_of h p)

-- the events of one session among what is told
abbrev pub events_for : ℕ → List (ℕ × Event) → List Event
events_for s told = map (λ e. e.1) (filter (λ e. nat_eq s e.0) told)

abbrev pub told_of : ℕ → Option Turn → List Event
told_of s None = []
told_of s (Some t) = events_for s t.told

-- the events given to a session at a place
abbrev pub told_at : History → ℕ → ℕ → List Event
told_at h p s = told_of s (turn_of h p)

-- whether an act opens a session
abbrev pub is_open : Option (ℕ × Act) → Bool
is_open None = false
is_open (Some a) = opens a.1
  where
    opens : Act → Bool
    opens (act.Open c o) = true
    opens _ = false

-- whether an act ends the session
abbrev pub ends : ℕ → Act → Bool
ends s (act.Close t) = nat_eq s t
ends s (act.Expire t) = nat_eq s t
ends s _ = false

-- whether the session is live after place p: it was opened, and no act up to p ended it
abbrev pub is_live : History → ℕ → ℕ → Bool
is_live h p s = is_open (lists.at_place h s) && nat_le s p && not (list_any (λ a. ends s a.1) (take p h))

-- the session that an act is of, but for an opening
abbrev pub session_of : Act → Option ℕ
session_of (act.Keep s) = Some s
session_of (act.Do s name o) = Some s
session_of (act.Close s) = Some s
session_of (act.Expire s) = Some s
session_of _ = None

-- the time of the last sign of life of a session among acts, of which the first has the place after `done`
abbrev pub sign_after : ℕ → ℕ → ℕ → History → ℕ
sign_after s done last [] = last
sign_after s done last (a ∷ acts) = sign_after s (done + 1) (signed s (done + 1) a.0 last a.1) acts
  where
    signed : ℕ → ℕ → ℕ → ℕ → Act → ℕ
    signed s p time last (act.Open c o) = if nat_eq s p then time else last
    signed s p time last (act.Keep t) = if nat_eq s t then time else last
    signed s p time last _ = last

-- the time of the last opening or keep-alive of the session before place p
abbrev pub sign : History → ℕ → ℕ → ℕ
sign h p s = sign_after s 0 0 (take (p - 1) h)

-- what has to hold of an act at a place for the history to be lawful
abbrev pub IsDue : History → ℕ → ℕ → ℕ × Act → Type 0
IsDue h timeout p a = due_by a.1
  where
    due_by : Act → Type 0
    due_by (act.Expire s) = timeout ≤ a.0 - sign h p s
    due_by _ = Unit {0}

abbrev pub IsOfLive : History → ℕ → Option ℕ → Type 0
IsOfLive h p None = Unit {0}
IsOfLive h p (Some s) = IsTrue (is_live h (p - 1) s)

-- a lawful history: times never fall; what is done, kept, closed or expired is of a live session; and a session expires
-- only where its last sign is at least the timeout ago
pub record IsLawful (timeout : ℕ) (h : History) : Type 0 where
  pub times : (p : ℕ) (a b : ℕ × Act) → lists.at_place h p ≡ Some a → lists.at_place h (suc p) ≡ Some b → a.0 ≤ b.0
  pub live : (p : ℕ) (a : ℕ × Act) → lists.at_place h p ≡ Some a → IsOfLive h p (session_of a.1)
  pub due : (p : ℕ) (a : ℕ × Act) → lists.at_place h p ≡ Some a → IsDue h timeout p a

-- what a session is told at one place, with the place before at which it was told anything, or 0
pub record Heard : Type 0 where
  pub place : ℕ
  pub prev : ℕ
  pub events : List Event

-- the place of the last of them, or 0
abbrev pub last_place : List Heard → ℕ
last_place [] = 0
last_place (e ∷ []) = e.place
last_place (e ∷ f ∷ es) = last_place (f ∷ es)

-- with what is told at one more place, if anything is
abbrev pub heard_too : ℕ → List Event → List Heard → List Heard
heard_too p [] heard = heard
heard_too p (e ∷ es) heard = heard ++ (record { place = p; prev = last_place heard; events = e ∷ es }) ∷ []

-- what the session is told at the first p places, in order
abbrev pub heard_upto : History → ℕ → ℕ → List Heard
heard_upto h s zero = []
heard_upto h s (suc p) = heard_too (suc p) (told_at h (suc p) s) (heard_upto h s p)

-- all that the session is told
abbrev pub events : History → ℕ → List Heard
events h s = heard_upto h s (length h)

-- the last place, up to p, at which the session was told anything, or 0
abbrev pub last_told : History → ℕ → ℕ → ℕ
last_told h s p = last_place (heard_upto h s p)

-- the acts of a session at resources, in order of place: each with its place
abbrev pub dos_after : ℕ → ℕ → History → List (ℕ × (List ℕ × Op))
dos_after s done [] = []
dos_after s done (a ∷ acts) = with_do s (done + 1) a.1 (dos_after s (done + 1) acts)
  where
    with_do : ℕ → ℕ → Act → List (ℕ × (List ℕ × Op)) → List (ℕ × (List ℕ × Op))
    with_do s p (act.Do t name o) rest = if nat_eq s t then (p, (name, o)) ∷ rest else rest
    with_do s p _ rest = rest

abbrev pub dos : History → ℕ → List (ℕ × (List ℕ × Op))
dos h s = dos_after s 0 h
