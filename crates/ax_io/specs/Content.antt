-- What calls do to the content of a source, which is the bytes still to come, or of a sink, the bytes taken so far.
-- `None` is a content that is not told. It stays so, and a told one stays told.
use Rattle.std.specs.Prelude.{◌≡◌, ℕ, ◌<◌, ◌≤◌, List, [], ◌++◌, length, take, drop, Option, None, Some, OnSome, IfSome}

-- the content, and then the bytes
abbrev pub append_told : Option (List ℕ) → List ℕ → Option (List ℕ)
append_told None bytes = None
append_told (Some content) bytes = Some (content ++ bytes)

-- the bytes, and then the content
abbrev pub prepend_told : List ℕ → Option (List ℕ) → Option (List ℕ)
prepend_told bytes None = None
prepend_told bytes (Some content) = Some (bytes ++ content)

-- a read that moved n bytes, from the front of the content to the front of the buffer
pub record Moves (before now : Option (List ℕ)) (n : ℕ) (old new : List ℕ) : Type 0 where
  pub within : n ≤ length old
  pub moved : before ≡ prepend_told (take n new) now
  pub beyond : OnSome before (drop n new ≡ drop n old)
  pub ends : n ≡ 0 → 0 < length old → IfSome before (λ content. content ≡ [])

-- a read that failed, and moved nothing
pub record MovesNothing (before now : Option (List ℕ)) (old new : List ℕ) : Type 0 where
  pub content : now ≡ before
  pub buffer : OnSome before (new ≡ old)

-- the first bytes of a list, at most so many
unfoldable pub first_bytes : ℕ → List ℕ → List ℕ
first_bytes most bytes = take most bytes

-- a reading to the end, or to so many bytes, that gave these bytes
pub record ReadsFirst (before now : Option (List ℕ)) (most : ℕ) (bytes : List ℕ) : Type 0 where
  pub within : length bytes ≤ most
  pub moved : before ≡ prepend_told bytes now
  pub first : IfSome before (λ content. bytes ≡ first_bytes most content)

-- a reading that was given up: a front of the content is lost
pub record LosesFront (before now : Option (List ℕ)) : Type 0 where
  pub lost : List ℕ
  pub moved : before ≡ prepend_told lost now

-- a sink took a front of the bytes
pub record TakesFront (before now : Option (List ℕ)) (bytes : List ℕ) : Type 0 where
  pub kept : List ℕ
  pub rest : List ℕ
  pub front : bytes ≡ kept ++ rest
  pub taken : now ≡ append_told before kept
