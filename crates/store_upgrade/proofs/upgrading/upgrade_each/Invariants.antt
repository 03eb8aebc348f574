use Rattle.std.proofs.Common.{◌≡◌, ℕ, length}
use Rattle.ax_types.specs.Places as lists
use Rattle.store_upgrade.specs.UpgradedStores as upgraded
use Rattle.store_upgrade.proofs.upgrading.upgrade_each.Given as goal

-- the stores so far are upgraded, and this was found in them; those behind them are as before
abbrev pub invariant-nodes : goal.invariant-nodes
invariant-nodes g l = record {
  so_far : upgraded.AreUpgraded g.S.NodeStore.told g.S.NodeStore.version g.S.NodeStore.needs_load l.index l.fn.stores.items l.stores.items;
  found : upgraded.AreFindingsUpTo g.S.NodeStore.told g.S.NodeStore.version l.index l.fn.stores.items l.found;
  count : length l.found ≡ l.index;
  behind : upgraded.BehindStays l.index l.fn.stores.items l.stores.items;
  tells : (k : ℕ) → upgraded.TellsAsBefore g.S.NodeStore.told (lists.at_place l.fn.stores.items k) (lists.at_place l.stores.items k);
  size : length l.stores.items ≡ length l.fn.stores.items;
}
