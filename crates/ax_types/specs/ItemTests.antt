-- Tests on items.
use Rattle.std.specs.Prelude.{Bool, true, false}
use Rattle.ax_types.specs.declared.items.Item.{Item}
use Rattle.ax_types.specs.declared.items.Item.TheVariants as item

abbrev pub is_skip : Item → Bool
is_skip (item.Skip reason) = true
is_skip _ = false
