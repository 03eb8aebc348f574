-- The audit of a report: the ten conditions in order, and the first that fails with the least session that breaks it.
use Rattle.std.specs.Prelude.{ℕ, ◌+◌, nat_lt, nat_eq, Bool, true, ◌&&◌, if◌then◌else◌, List, [], ◌∷◌, ◌++◌, not, length, filter, flat_map, Option, Some, None}
use Rattle.std.specs.List.{list_any}
use Rattle.ax_types.specs.declared.entries.Act.{Act}
use Rattle.ax_types.specs.declared.entries.Act.TheVariants as act
use Rattle.ax_types.specs.declared.findings.Clause.{Clause}
use Rattle.ax_types.specs.declared.findings.Clause.TheVariants as clause
use Rattle.ax_types.specs.declared.findings.Verdict.{Verdict}
use Rattle.ax_types.specs.declared.findings.Verdict.TheVariants as verdict
use Rattle.ax_types.specs.declared.items.Item.{Item}
use Rattle.ax_types.specs.declared.items.Item.TheVariants as item
use Rattle.spec_book.specs.History as histories
use Rattle.spec_claims.specs.Transcript as transcripts
use Rattle.spec_audit.specs.SameValues as same_values
use Rattle.spec_audit.specs.HistoryCondition as history_condition
use Rattle.spec_audit.specs.ItemConditions as item_conditions
use Rattle.spec_audit.specs.SessionConditions as session_conditions

-- a report that is audited, without its end
pub record Audited : Type 0 where
  pub items : List Item
  pub history : histories.History
  pub waiting : List (ℕ × ℕ)

-- the calls without an outcome, in the order of the report
abbrev pub has_outcome : List Item → ℕ → ℕ → Bool
has_outcome items s n = list_any (transcripts.is_outcome s n) items

abbrev pub waiting_in : List Item → Item → List (ℕ × ℕ)
waiting_in items (item.Called s n c) = if has_outcome items s n then [] else (s, n) ∷ []
waiting_in items x = []

abbrev pub waiting_of_items : List Item → List (ℕ × ℕ)
waiting_of_items items = flat_map (waiting_in items) items

abbrev pub is_same_pair : ℕ × ℕ → ℕ × ℕ → Bool
is_same_pair a b = nat_eq a.0 b.0 && nat_eq a.1 b.1

-- the sessions that items and acts name
abbrev pub session_of_item : Item → List ℕ
session_of_item (item.Reach k t a s n) = s ∷ []
session_of_item (item.Opened s c) = s ∷ []
session_of_item (item.Called s n c) = s ∷ []
session_of_item (item.Event s p prev es) = s ∷ []
session_of_item (item.Watched c kind s p e) = s ∷ []
session_of_item (item.Reply s n p r) = s ∷ []
session_of_item (item.Read s n l p reach r) = s ∷ []
session_of_item (item.Ended s p way) = s ∷ []
session_of_item (item.Doubt s n) = s ∷ []
session_of_item (item.Lost s n) = s ∷ []
session_of_item (item.Unsent s n) = s ∷ []
session_of_item (item.Unanswered s n) = s ∷ []
session_of_item x = []

abbrev pub sessions_from : ℕ → histories.History → List ℕ
sessions_from p [] = []
sessions_from p (a ∷ acts) = of_act a.1 ++ sessions_from (p + 1) acts
  where
    of_act : Act → List ℕ
    of_act (act.Open c opening) = p ∷ []
    of_act (act.Keep s) = s ∷ []
    of_act (act.Do s name o) = s ∷ []
    of_act (act.Close s) = s ∷ []
    of_act (act.Expire s) = s ∷ []
    of_act act.Nothing = []

abbrev pub sessions : Audited → List ℕ
sessions a = flat_map session_of_item a.items ++ sessions_from 1 a.history

-- the conditions of the whole report, and those of each session
abbrev pub whole_holds : ℕ → Audited → Clause → Bool
whole_holds timeout a clause.Lawful = history_condition.is_lawful timeout a.history
whole_holds timeout a clause.Right = item_conditions.each_shown (item_conditions.is_right a.items a.history) a.items
whole_holds timeout a clause.Length = nat_eq (length a.history) (transcripts.greatest_commit a.items)
whole_holds timeout a clause.Fresh = item_conditions.each_shown item_conditions.is_fresh a.items
whole_holds timeout a clause.Waiting = same_values.are_same is_same_pair a.waiting (waiting_of_items a.items)
whole_holds timeout a c = true

abbrev pub session_holds : Audited → Clause → ℕ → Bool
session_holds a clause.Once s = session_conditions.takes_effect_once a.items a.history s
session_holds a clause.Growing s = item_conditions.each_shown (session_conditions.is_growing a.history s) a.items
session_holds a clause.Heard s = session_conditions.hears_in_order a.items a.history s
session_holds a clause.Outcomes s = item_conditions.each_shown (session_conditions.is_in_order s) a.items
session_holds a clause.Ends s = session_conditions.ends_rightly a.items a.history s
session_holds a c s = true

-- the least of some sessions
abbrev pub least_session : List ℕ → Option ℕ
least_session [] = None
least_session (s ∷ ss) = Some (lesser s (least_session ss))
  where
    lesser : ℕ → Option ℕ → ℕ
    lesser s None = s
    lesser s (Some t) = if nat_lt t s then t else s

-- the session that breaks a condition: 0 where the condition is of the whole report
abbrev pub broken_by : ℕ → Audited → Clause → Option ℕ
broken_by timeout a c = if whole_holds timeout a c then least_session (filter (λ s. not (session_holds a c s)) (sessions a)) else Some 0

-- the first that fails of some conditions
abbrev pub or_later : Clause → Option ℕ → Verdict → Verdict
or_later c None later = later
or_later c (Some s) later = verdict.Broken c s

abbrev pub verdict_of : ℕ → Audited → List Clause → Verdict
verdict_of timeout a [] = verdict.Faithful
verdict_of timeout a (c ∷ cs) = or_later c (broken_by timeout a c) (verdict_of timeout a cs)

abbrev pub clauses : List Clause
clauses = clause.Lawful ∷ clause.Right ∷ clause.Length ∷ clause.Fresh ∷ clause.Once ∷ clause.Growing ∷ clause.Heard ∷ clause.Outcomes ∷ clause.Ends ∷ clause.Waiting ∷ []

-- what an audit says of a report
abbrev pub audit : ℕ → Audited → Verdict
audit timeout a = verdict_of timeout a clauses
