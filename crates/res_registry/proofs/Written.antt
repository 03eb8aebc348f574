-- A resource that is written where it stands is a visit to its name.
use Rattle.std.proofs.Common.{◌≡◌, ℕ, ◌∙◌, sym, ap, List, Option, Some}
use Rattle.std.specs.List.Sorted.{IsStrictlySortedBy}
use Rattle.std.specs.BTreeMap.{is_at}
use Rattle.std.specs.Map.{keys_of, set_value}
use Rattle.spec_book.specs.Dict as dicts
use Rattle.spec_book.specs.Resources as resources
use Rattle.spec_book.specs.Book as books
use Rattle.res_map.proofs.Written.{set_value-with}
use Rattle.res_registry.specs.Walk as walks

-- the book after a visit to a resource that is there
pub written : (f : walks.Visit) (book after : books.Book) (name : List ℕ) (r w : resources.Resource) → IsStrictlySortedBy dicts.bytes_cmp (keys_of book)
    → dicts.found book name ≡ Some r → w ≡ (f name r).state → after ≡ set_value (is_at (dicts.bytes_cmp name)) book w
    → after ≡ (walks.visited f book name).state
written f book after name r w sorted there is set =
    set
    ∙ (set_value-with book name r w sorted there
    ∙ (ap (λ (v : resources.Resource). dicts.with_entry book name v) is ∙ sym (ap (λ (o : Option resources.Resource). (walks.visited_at f book name o).state) there)))
