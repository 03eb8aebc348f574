-- What comes of putting an item at a key.
use Rattle.std.specs.Prelude.{ℕ, if◌then◌else◌, List, Option, Some, None}
use Rattle.spec_book.specs.Limits as limits
use Rattle.spec_book.specs.Dict as dicts
use Rattle.spec_book.specs.Resources as resources
use Rattle.res_map.specs.declared.entries.Put.{Put}
use Rattle.res_map.specs.declared.entries.Put.TheVariants as put

-- what is answered, by what stood at the key
abbrev pub put_at : List (List ℕ × resources.MapItem) → Option resources.MapItem → Put
put_at entries None = if limits.is_full entries then put.Full else put.New
put_at entries (Some old) = put.Replaced old

-- the entries after it
abbrev pub entries_put : List ℕ → resources.MapItem → List (List ℕ × resources.MapItem) → Option resources.MapItem → List (List ℕ × resources.MapItem)
entries_put key item entries None = if limits.is_full entries then entries else dicts.with_entry entries key item
entries_put key item entries (Some old) = dicts.with_entry entries key item
