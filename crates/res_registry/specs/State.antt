-- What a book is seen as.
use Rattle.std.specs.Prelude.{Bool}
use Rattle.spec_book.specs.Book as books

-- the resources by name, and whether want of memory has left an act half done
pub record BookState : Type 0 where
  pub resources : books.Book
  pub is_spent : Bool
