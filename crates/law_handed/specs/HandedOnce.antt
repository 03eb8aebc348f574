-- What is faithful hands out once, and so does every run.
use Rattle.std.specs.Prelude.{ℕ, List}
use Rattle.ax_types.specs.declared.steps.KeptStep.{KeptStep}
use Rattle.spec_book.specs.History as histories
use Rattle.spec_claims.specs.Transcript as transcripts
use Rattle.spec_claims.specs.Faithful as faithful
use Rattle.spec_claims.specs.Handed as handed
use Rattle.spec_run.specs.Run as runs

abbrev pub FaithfulRunsHandOnce : Type 0
FaithfulRunsHandOnce = (timeout : ℕ) (shown : List transcripts.Shown) (h : histories.History)
    → faithful.IsFaithful timeout shown h → handed.IsHanded (transcripts.transcript shown) h

abbrev pub RunsHandOnce : Type 0
RunsHandOnce = (nodes clients timeout : ℕ) (steps : List KeptStep)
    → handed.IsHanded (transcripts.transcript (runs.run nodes clients timeout steps).shown) (runs.run nodes clients timeout steps).world.history
