-- What a step replaces of what its node keeps, so that it can be had back.
use Rattle.std.specs.Prelude.{ℕ, ◌≡◌, Option, Some, None, List, [], drop}
use Rattle.ax_types.specs.declared.entries.Entry.{Entry}
use Rattle.ax_types.specs.declared.entries.Loaded.{Loaded}
use Rattle.ax_types.specs.declared.raft.Saves.{Saves}
use Rattle.spec_node.specs.Saving as saving
use Rattle.world_saves.specs.declared.replaced.Replaced.{Replaced}

-- entries, where some were cut
abbrev pub if_cut : Option ℕ → List Entry → List Entry
if_cut None es = []
if_cut (Some last) es = es

-- the entries that a cut takes away
abbrev pub AreCutOff : Option ℕ → List Entry → List Entry → Type 0
AreCutOff None log es = Unit {0}
AreCutOff (Some last) log es = es ≡ drop last log

pub record IsReplaced (kept : Loaded) (cut : Option ℕ) (r : Replaced) : Type 0 where
  pub term : r.term ≡ kept.term
  pub vote : r.vote ≡ kept.vote
  pub cut_off : AreCutOff cut kept.log r.cut_off

-- a step with these saves led from what was kept to what its node keeps
pub record LeadsTo (kept : Loaded) (s : Saves) (r : Replaced) (after : Loaded) : Type 0 where
  pub replaced : IsReplaced kept s.cut r
  pub all : after ≡ saving.all_saved kept (saving.calls_of s)
