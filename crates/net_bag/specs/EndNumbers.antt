-- The ends of links by number: the nodes of a cluster and then its clients.
use Rattle.std.specs.Prelude.{◌≡◌, ℕ, ◌+◌, ◌-◌, ◌*◌, ◌≤◌, nat_lt, if◌then◌else◌}
use Rattle.ax_types.specs.declared.ids.End.{End}
use Rattle.ax_types.specs.declared.ids.End.TheVariants as end

-- whether there may be such an end
abbrev pub IsEnd : End → Type 0
IsEnd (end.Node k) = (1 ≤ k) × (k ≤ 9)
IsEnd (end.Client c) = (1 ≤ c) × (c ≤ 16)

-- the number of an end, from 0
abbrev pub end_number : End → ℕ
end_number (end.Node k) = k - 1
end_number (end.Client c) = 8 + c

-- the number of the way from one end to another
abbrev pub way_number : End → End → ℕ
way_number a b = 25 * end_number a + end_number b

-- the number of the link between two ends, whichever comes first
abbrev pub link_number : End → End → ℕ
link_number a b = if nat_lt (end_number a) (end_number b) then way_number a b else way_number b a
