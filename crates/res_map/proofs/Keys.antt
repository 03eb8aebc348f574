-- Names and keys are equal exactly where their comparison is.
use Rattle.std.proofs.Common.{◌≡◌, ℕ, true, List}
use Rattle.std.specs.Ordering.{eq_by_cmp}
use Rattle.std.specs.Cmp.{IsEquivalence}
use Rattle.std.specs.Cmp.Lexicographic.{nat_list_cmp_total}
use Rattle.std.specs.BTreeMap.{is_at}
use Rattle.std.proofs.lemmas.Cmp.{eq_by_cmp_equiv}
use Rattle.std.proofs.lemmas.Map.Lookups.{exact_bytes}
use Rattle.std.proofs.lemmas.Map.Views.{tells_apart}
use Rattle.spec_book.specs.Dict as dicts

pub keys_equiv : IsEquivalence (eq_by_cmp dicts.bytes_cmp)
keys_equiv = eq_by_cmp_equiv nat_list_cmp_total

pub key_at_itself : (a : List ℕ) → is_at (dicts.bytes_cmp a) a ≡ true
key_at_itself a = keys_equiv.refl a

-- a key at which a comparison is equal is the same key
pub same_key : (a b : List ℕ) → is_at (dicts.bytes_cmp a) b ≡ true → a ≡ b
same_key a b h = tells_apart exact_bytes a b h

pub same_key_swapped : (a b : List ℕ) → is_at (dicts.bytes_cmp a) b ≡ is_at (dicts.bytes_cmp b) a
same_key_swapped a b = keys_equiv.symm a b
