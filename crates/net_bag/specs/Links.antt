-- The links that are cut, and a flag for each link that there may be.
use Rattle.std.specs.Prelude.{◌≡◌, ℕ, ◌≤◌, Bool, Some, List, length, take, slice_get}
use Rattle.std.specs.List.{list_any}
use Rattle.ax_types.specs.declared.ids.End.{End}
use Rattle.spec_raft.specs.Majority as majorities
use Rattle.spec_cluster.specs.Bag as bags
use Rattle.net_bag.specs.EndNumbers as ends

-- whether the flags tell which of these links are cut
abbrev pub AreTold : List bags.Link → List Bool → Type 0
AreTold links flags = (a b : End) → ends.IsEnd a → ends.IsEnd b → slice_get flags (ends.link_number a b) ≡ Some (list_any (bags.is_between a b) links)

-- the flags tell what is cut, and no link is cut twice
pub record IsLinks (cut_count : ℕ) (links : List bags.Link) (flags : List Bool) : Type 0 where
  pub places : length links ≡ 625
  pub flag_count : length flags ≡ 625
  pub small : cut_count ≤ 625
  pub told : AreTold (take cut_count links) flags
  pub each_once : cut_count ≤ majorities.count (λ b. b) flags
