-- One pass with tables finds what the conditions of the audit say.
use Rattle.std.specs.Prelude.{ℕ, ◌≡◌, List, [], map}
use Rattle.ax_types.specs.Places as lists
use Rattle.ax_types.specs.declared.items.Item.{Item}
use Rattle.spec_book.specs.History as histories
use Rattle.spec_report.specs.Items as report_items
use Rattle.spec_audit.specs.HistoryCondition as history_condition
use Rattle.spec_audit.specs.ItemConditions as item_conditions
use Rattle.spec_audit.specs.SessionConditions as session_conditions
use Rattle.spec_audit.specs.Audit as audits
use Rattle.law_audit_tables.specs.SignTable as signs
use Rattle.law_audit_tables.specs.Turns as turns
use Rattle.law_audit_tables.specs.OutcomeWalk as outcome_walk
use Rattle.law_audit_tables.specs.OnceWalk as once_walk
use Rattle.law_audit_tables.specs.HeardWalk as heard_walk
use Rattle.law_audit_tables.specs.ReadWalk as read_walk
use Rattle.law_audit_tables.specs.EndWalk as end_walk

abbrev pub SignsFindLawful : Type 0
SignsFindLawful = (timeout : ℕ) (h : histories.History) → signs.are_allowed timeout [] 0 h ≡ history_condition.is_lawful timeout h

abbrev pub TurnsAreGiven : Type 0
TurnsAreGiven = (h : histories.History) (p : ℕ) → lists.at_place (turns.turns_of h) p ≡ histories.turn_of h p

abbrev pub OutcomesAreWalked : Type 0
OutcomesAreWalked = (s : ℕ) (items : List Item)
    → outcome_walk.are_in_order s outcome_walk.nothing_known items ≡ item_conditions.each_shown (session_conditions.is_in_order s) items

abbrev pub OnceIsWalked : Type 0
OnceIsWalked = (h : histories.History) (s : ℕ) (items : List Item)
    → once_walk.take_effect s 0 (histories.dos h s) items ≡ session_conditions.takes_effect_once items h s

abbrev pub HeardIsWalked : Type 0
HeardIsWalked = (h : histories.History) (s : ℕ) (items : List Item)
    → heard_walk.hears s (histories.events h s) items ≡ session_conditions.hears_in_order items h s

abbrev pub ReadsAreWalked : Type 0
ReadsAreWalked = (h : histories.History) (s : ℕ) (items : List Item)
    → read_walk.grow s (map (λ d. d.0) (histories.dos h s)) [] 0 items ≡ item_conditions.each_shown (session_conditions.is_growing h s) items

abbrev pub EndsAreWalked : Type 0
EndsAreWalked = (h : histories.History) (s : ℕ) (items : List Item)
    → end_walk.run_course h s end_walk.nothing_yet items ≡ session_conditions.ends_rightly items h s

abbrev pub WaitingIsTold : Type 0
WaitingIsTold = (items : List Item) → audits.waiting_of_items items ≡ report_items.waiting_of items
