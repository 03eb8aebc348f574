-- Whether a session hears what it is told, in order and before each response, by one walk.
use Rattle.std.specs.Prelude.{ℕ, nat_lt, nat_eq, Bool, true, false, ◌&&◌, if◌then◌else◌, List, [], ◌∷◌}
use Rattle.ax_types.specs.declared.items.Item.{Item}
use Rattle.ax_types.specs.declared.items.Item.TheVariants as item
use Rattle.spec_book.specs.History as histories
use Rattle.spec_audit.specs.SameValues as same_values

-- a batch that comes next among those that are left
abbrev pub is_next : histories.Heard → List histories.Heard → Bool
is_next e [] = false
is_next e (f ∷ rest) = same_values.is_same_heard e f

abbrev pub behind_next : List histories.Heard → List histories.Heard
behind_next [] = []
behind_next (f ∷ rest) = rest

-- none of those that are left is told up to a place
abbrev pub none_upto : ℕ → List histories.Heard → Bool
none_upto p [] = true
none_upto p (f ∷ rest) = nat_lt p f.place

abbrev pub hears : ℕ → List histories.Heard → List Item → Bool
hears s rest [] = true
hears s rest (item.Event t p prev es ∷ items) =
    if nat_eq s t then is_next (record { place = p; prev = prev; events = es }) rest && hears s (behind_next rest) items else hears s rest items
hears s rest (item.Reply t n p r ∷ items) = if nat_eq s t then none_upto p rest && hears s rest items else hears s rest items
hears s rest (item.Read t n l p reach r ∷ items) = if nat_eq s t then none_upto p rest && hears s rest items else hears s rest items
hears s rest (x ∷ items) = hears s rest items
