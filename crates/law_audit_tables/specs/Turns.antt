-- What each act of a history gives, by one walk with the book.
use Rattle.std.specs.Prelude.{ℕ, ◌+◌, List, [], ◌∷◌}
use Rattle.ax_types.specs.declared.replies.Turn.{Turn}
use Rattle.spec_book.specs.Book as books
use Rattle.spec_book.specs.History as histories

-- what the acts behind so many give to a book
abbrev pub turns_after : ℕ → books.Book → histories.History → List Turn
turns_after done book [] = []
turns_after done book (a ∷ acts) =
    (books.acted book (done + 1) a.0 a.1).turn ∷ turns_after (done + 1) (books.acted book (done + 1) a.0 a.1).state acts

abbrev pub turns_of : histories.History → List Turn
turns_of h = turns_after 0 [] h
