-- Whether what the items say of one session is right, by one walk with the calls above and whether the session was opened.
use Rattle.std.specs.Prelude.{ℕ, nat_eq, nat_le, nat_lt, Bool, true, false, not, ◌&&◌, ◌||◌, if◌then◌else◌, List, [], ◌∷◌, ◌++◌, length, option_map, count_by}
use Rattle.std.specs.List.{list_any}
use Rattle.ax_types.specs.Places as lists
use Rattle.ax_types.specs.declared.ops.WindowCall.{WindowCall}
use Rattle.ax_types.specs.declared.items.Item.{Item}
use Rattle.ax_types.specs.declared.items.Item.TheVariants as item
use Rattle.spec_book.specs.History as histories
use Rattle.spec_claims.specs.Transcript as transcripts
use Rattle.spec_claims.specs.Right as right
use Rattle.spec_audit.specs.ItemConditions as item_conditions
use Rattle.law_audit_tables.specs.Digest as digests

-- calls of the session, each with its number
abbrev pub Calls : Type 0
Calls = List (ℕ × WindowCall)

abbrev pub is_twice : Calls → ℕ → Bool
is_twice all n = nat_lt 1 (count_by (λ c. nat_eq n c.0) all)

abbrev pub commands_upto : ℕ → Calls → ℕ
commands_upto n calls = count_by (λ c. transcripts.is_command c.1 && nat_le c.0 n) calls

-- whether an item of the session is right, by all its calls and by those above
abbrev pub may_say : histories.History → ℕ → Calls → Calls → Bool → Item → Bool
may_say h s all calls opened (item.Opened t c) = item_conditions.is_opening_by c (lists.at_place h s) && not opened
may_say h s all calls opened (item.Reply t n p r) =
    list_any (item_conditions.is_command_numbered n) calls && not (is_twice all n)
    && item_conditions.is_some_place p (option_map (λ d. d.0) (lists.at_place (histories.dos h s) (commands_upto n calls)))
    && item_conditions.is_some_reply r (histories.history_reply h p)
may_say h s all calls opened (item.Read t n l p reach r) =
    list_any (item_conditions.is_query_answered h n p l r) calls && not (is_twice all n) && histories.is_live h p s && nat_le p (length h)
may_say h s all calls opened x = true

abbrev pub says_right : histories.History → ℕ → Calls → Calls → Bool → List Item → Bool
says_right h s all calls opened [] = true
says_right h s all calls opened (x ∷ items) =
    if digests.is_of s x
    then may_say h s all calls opened x && says_right h s all (transcripts.called_by s x ++ calls) (right.is_opened s x || opened) items
    else says_right h s all calls opened items
