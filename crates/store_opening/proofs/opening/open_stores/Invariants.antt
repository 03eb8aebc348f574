use Rattle.std.proofs.Common.{◌≡◌, ℕ, length}
use Rattle.ax_types.specs.Places as lists
use Rattle.store_opening.specs.Opened as opened
use Rattle.store_opening.proofs.opening.open_stores.Given as goal

-- the stores so far are opened, and those behind them are as before
abbrev pub invariant-nodes : goal.invariant-nodes
invariant-nodes g l = record {
  so_far : opened.AreOpened g.S.NodeStore.told g.S.NodeStore.needs_load l.index l.fn.stores.items l.stores.items;
  behind : opened.RestStays l.index l.fn.stores.items l.stores.items;
  tells : (k : ℕ) → opened.TellSame g.S.NodeStore.told (lists.at_place l.fn.stores.items k) (lists.at_place l.stores.items k);
  size : length l.stores.items ≡ length l.fn.stores.items;
}
