-- Why a source was not read to its end.
use Rattle.std.specs.Prelude.{◌≡◌, ℕ, List, codes, Result, Ok, Err}
use Rattle.ax_io.specs.declared.sources.ReadError.{ReadError}
use Rattle.ax_io.specs.declared.sources.ReadError.TheVariants.{Failed, NoMemory}

-- the text of it
abbrev pub read_error_text : ReadError → List ℕ
read_error_text Failed = codes "a read failed"
read_error_text NoMemory = codes "no memory"

-- a reading in which no read failed leaves the count of faults as it was, also where memory was wanted
abbrev pub StandsUnlessFailed : {T : Type 0} → ℕ → ℕ → Result T ReadError → Type 0
StandsUnlessFailed before now (Ok bytes) = now ≡ before
StandsUnlessFailed before now (Err NoMemory) = now ≡ before
StandsUnlessFailed before now (Err Failed) = Unit {0}
