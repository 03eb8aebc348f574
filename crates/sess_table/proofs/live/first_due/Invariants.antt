use Rattle.std.proofs.Common.{◌≡◌, ◌≤◌, ◌-◌, ◌++◌, length, drop}
use Rattle.sess_table.specs.Live as lives
use Rattle.sess_table.proofs.live.first_due.Given as goal

abbrev pub invariant-more : goal.invariant-more
invariant-more l =
    (length l.due ≤ 16)
    × (l.due ++ lives.due_in l.limit (drop l.next l.sessions.entries) (drop l.next l.signs) ≡ lives.due_in l.limit l.sessions.entries l.signs)

abbrev pub decreases-more : goal.decreases-more
decreases-more l = 16 - length l.due
