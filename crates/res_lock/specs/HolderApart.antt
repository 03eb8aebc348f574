-- What a lock keeps of its holder.
use Rattle.std.specs.Prelude.{◌≡◌, ℕ, false, List, Option, None, Some}
use Rattle.spec_book.specs.Dict as dicts
use Rattle.spec_book.specs.Resources as resources

-- the holder does not wait
abbrev pub HolderApart : Option resources.Holder → List ℕ → Type 0
HolderApart None waiting = Unit {0}
HolderApart (Some h) waiting = dicts.has_session waiting h.session ≡ false
