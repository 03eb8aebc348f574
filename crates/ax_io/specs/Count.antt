-- The count of faults of a source, a sink or another object of the outside: 64 bits, and it never falls.
use Rattle.std.specs.Prelude.{◌≡◌, ℕ, ◌+◌, ◌-◌, ◌^◌, ◌≤◌, min, Result, OnOk, OnErr}

-- a count after one more; it stands still at its end
abbrev pub one_more : ℕ → ℕ
one_more count = min (count + 1) (2 ^ 64 - 1)

-- the count rose, or stands at its end
abbrev pub Rose : ℕ → ℕ → Type 0
Rose before now = one_more before ≤ now

-- what a call did to the count: it did not fall, a success means that it stands as before, and a failure that it rose
pub record Counted {T E : Type 0} (before now : ℕ) (result : Result T E) : Type 0 where
  pub never_falls : before ≤ now
  pub stands : OnOk result (now ≡ before)
  pub rises : OnErr result (Rose before now)
