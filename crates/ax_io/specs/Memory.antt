-- The source and the sink that live in memory, and what each of their calls does.
use Rattle.std.specs.Prelude.{ℕ, Bool, ◌==◌, if◌then◌else◌, List, ◌++◌, length, take, drop, Option, find}
use Rattle.std.specs.List.{list_any}
use Rattle.std.specs.Option.{option_map}
use Rattle.ax_io.specs.Count as counts

-- a source in memory: the bytes still to come, the numbers of the calls that fail, counted from 1,
-- the calls made so far, and how many of them failed
pub record MemInput : Type 0 where
  pub content : List ℕ
  pub failing : List ℕ
  pub calls : ℕ
  pub faults : ℕ

-- whether the next read fails
abbrev pub fails_next : MemInput → Bool
fails_next s = list_any (λ call. call == counts.one_more s.calls) s.failing

-- the source after a read into a buffer of so many places
abbrev pub after_read : MemInput → ℕ → MemInput
after_read s places =
    if fails_next s
    then record s { calls = counts.one_more s.calls; faults = counts.one_more s.faults }
    else record s { calls = counts.one_more s.calls; content = drop places s.content }

-- the buffer after a read
abbrev pub buffer_after_read : MemInput → List ℕ → List ℕ
buffer_after_read s buffer =
    if fails_next s
    then buffer
    else take (length buffer) s.content ++ drop (length s.content) buffer

-- a sink in memory: the bytes taken so far, for each call that fails its number, counted from 1, and
-- how many bytes are kept of it, the calls made so far, and how many of them failed
pub record MemOutput : Type 0 where
  pub content : List ℕ
  pub failing : List (ℕ × ℕ)
  pub calls : ℕ
  pub faults : ℕ

-- how many bytes are kept of the next call, where it is one that fails
abbrev pub kept_next : MemOutput → Option ℕ
kept_next s = option_map (λ pair. pair.1) (find (λ pair. pair.0 == counts.one_more s.calls) s.failing)

-- the sink after a call that took these bytes
abbrev pub after_put : MemOutput → List ℕ → MemOutput
after_put s bytes = record s { content = s.content ++ bytes; calls = counts.one_more s.calls }

-- the sink after a call that failed, and kept these bytes
abbrev pub after_fault : MemOutput → List ℕ → MemOutput
after_fault s bytes =
    record s { content = s.content ++ bytes; calls = counts.one_more s.calls; faults = counts.one_more s.faults }
