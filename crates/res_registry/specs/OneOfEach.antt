-- A resource has each session at most once in each of its lists, so a session that leaves it is gone.
use Rattle.std.specs.Prelude.{◌≡◌, ℕ, List, Some}
use Rattle.spec_book.specs.Dict as dicts
use Rattle.spec_book.specs.Resources as resources
use Rattle.spec_book.specs.Book as books
use Rattle.res_sessions.specs.EachOnce as each_once

abbrev pub IsSingle : resources.Resource → Type 0
IsSingle (resources.AMap s) = each_once.EachOnce s.listeners
IsSingle (resources.AValue s) = each_once.EachOnce s.listeners
IsSingle (resources.ALock s) = each_once.EachOnce s.waiting
IsSingle (resources.AGroup s) = each_once.EachOnce s.members × each_once.EachOnce s.listeners
IsSingle (resources.ATopic s) = each_once.EachOnce s
IsSingle r = Unit {0}

-- each resource of a book has each session at most once
abbrev pub AreSingle : books.Book → Type 0
AreSingle book = (name : List ℕ) (r : resources.Resource) → dicts.found book name ≡ Some r → IsSingle r
