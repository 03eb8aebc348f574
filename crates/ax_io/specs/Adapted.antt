-- A reader or a writer of the standard library as a source or a sink: what it is made over, and the faults so far.
use Rattle.std.specs.Prelude.{ℕ}

pub record Adapted (Inner : Type 0) : Type 0 where
  pub inner : Inner
  pub faults : ℕ
