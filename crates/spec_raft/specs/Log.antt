-- A log: a list of entries, by places from 1 (Ongaro 2014, 3.5).
use Rattle.std.specs.Prelude.{ℕ, suc, ◌-◌, Bool, ◌&&◌, ◌||◌, nat_eq, nat_lt, nat_le, Option, Some, None, List, [], ◌∷◌, ◌++◌, length, take, drop, if◌then◌else◌}
use Rattle.ax_types.specs.declared.limits.TheConstants.{MAX_APPEND}
use Rattle.ax_types.specs.Places as lists
use Rattle.ax_types.specs.declared.entries.Entry.{Entry}
use Rattle.ax_types.specs.declared.raft.Change.{Change}

-- the most entries in one append packet
abbrev pub most_entries : ℕ
most_entries = MAX_APPEND

abbrev pub entry_term : Option Entry → ℕ
entry_term None = 0
entry_term (Some e) = e.term

abbrev pub entry_time : Option Entry → ℕ
entry_time None = 0
entry_time (Some e) = e.time

-- the term at a place, 0 at place 0
abbrev pub term_at : List Entry → ℕ → ℕ
term_at log p = entry_term (lists.at_place log p)

-- the term and the time of the last entry, 0 where there is none
abbrev pub last_term : List Entry → ℕ
last_term log = term_at log (length log)

abbrev pub last_time : List Entry → ℕ
last_time log = entry_time (lists.at_place log (length log))

-- whether a log so described is at least as up to date as this one (Ongaro 2014, 3.6.1)
abbrev pub newer_or_equal : List Entry → ℕ → ℕ → Bool
newer_or_equal log other_term other_last = nat_lt (last_term log) other_term || (nat_eq other_term (last_term log) && nat_le (length log) other_last)

-- whether the log holds the entry before those of an append packet; place 0 always matches (Ongaro 2014, 3.5)
abbrev pub match_at : List Entry → ℕ → ℕ → Bool
match_at log prev prev_term = nat_eq prev 0 || (nat_le prev (length log) && nat_eq (term_at log prev) prev_term)

-- the first place after p at which an entry here and the one sent for it differ in their terms
abbrev pub conflict_after : ℕ → List Entry → List Entry → Option ℕ
conflict_after p [] sent = None
conflict_after p (x ∷ xs) [] = None
conflict_after p (x ∷ xs) (e ∷ sent) = if nat_eq x.term e.term then conflict_after (suc p) xs sent else Some (suc p)

-- the place of the first entry in conflict with those sent for the places after prev
abbrev pub first_conflict : List Entry → ℕ → List Entry → Option ℕ
first_conflict log prev sent = conflict_after prev (drop prev log) sent

-- what stays of the log where the entry at this place and all after it are cut
abbrev pub cut_before : List Entry → Option ℕ → List Entry
cut_before log None = log
cut_before log (Some p) = take (p - 1) log

-- of the entries sent for the places after prev, those beyond this log
abbrev pub lacking : List Entry → ℕ → List Entry → List Entry
lacking log prev sent = drop (length log - prev) sent

-- the log after entries in conflict were cut and lacking ones added, and what was done (Ongaro 2014, 3.5)
abbrev pub stays : List Entry → ℕ → List Entry → List Entry
stays log prev sent = cut_before log (first_conflict log prev sent)

abbrev pub added : List Entry → ℕ → List Entry → List Entry
added log prev sent = lacking (stays log prev sent) prev sent

abbrev pub cut_and_added : List Entry → ℕ → List Entry → List Entry
cut_and_added log prev sent = stays log prev sent ++ added log prev sent

abbrev pub change_of : List Entry → ℕ → List Entry → Change
change_of log prev sent = record { cut = first_conflict log prev sent; added = length (added log prev sent) }

-- the entries from a place on, as many as one append packet takes
abbrev pub run_from : List Entry → ℕ → List Entry
run_from log p = take most_entries (drop (p - 1) log)
