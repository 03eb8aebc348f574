-- A walk over some names of a book, in their order: each resource that stands at one of them is changed and tells.
use Rattle.std.specs.Prelude.{ℕ, List, [], ◌∷◌, ◌++◌, map, flat_map, Option, Some, None}
use Rattle.ax_types.specs.declared.replies.Reply.TheVariants as reply
use Rattle.ax_types.specs.declared.replies.Event.{Event}
use Rattle.spec_book.specs.Dict as dicts
use Rattle.spec_book.specs.Resources as resources
use Rattle.spec_book.specs.Book as books

-- what is done at a name's resource
abbrev pub Visit : Type 0
Visit = List ℕ → resources.Resource → resources.Acted resources.Resource

abbrev pub visited_at : Visit → books.Book → List ℕ → Option resources.Resource → resources.Acted books.Book
visited_at f book name None = resources.replied book reply.Done
visited_at f book name (Some r) = books.at_name book name (f name r)

abbrev pub visited : Visit → books.Book → List ℕ → resources.Acted books.Book
visited f book name = visited_at f book name (dicts.found book name)

-- the walk over the names: what is told is told in their order
abbrev pub walked_state : Visit → List (List ℕ) → books.Book → books.Book
walked_state f [] book = book
walked_state f (name ∷ names) book = walked_state f names (visited f book name).state

abbrev pub walked_told : Visit → List (List ℕ) → books.Book → List (ℕ × Event)
walked_told f [] book = []
walked_told f (name ∷ names) book = (visited f book name).turn.told ++ walked_told f names (visited f book name).state

-- the same at every name of the book
abbrev pub whole_state : Visit → books.Book → books.Book
whole_state f book = map (λ e. (e.0, (f e.0 e.1).state)) book

abbrev pub whole_told : Visit → books.Book → List (ℕ × Event)
whole_told f book = flat_map (λ e. (f e.0 e.1).turn.told) book

-- the visits of a session's end, and of a log time: it listens no more, lives end, it leaves
abbrev pub unlisten_visit : ℕ → Visit
unlisten_visit session name r = resources.replied (books.unlistened session r) reply.Done

abbrev pub pass_visit : ℕ → Visit
pass_visit time name r = resources.told_too (books.resource_pass time r) reply.Done (books.resource_passed name time r)

abbrev pub leave_visit : ℕ → ℕ → Visit
leave_visit place session name r = books.resource_end name place session r
