-- The conditions of all items, found session by session in their digests.
use Rattle.std.specs.Prelude.{ℕ, ◌≡◌, Bool, true, false, List, []}
use Rattle.std.specs.List.{list_all}
use Rattle.ax_types.specs.declared.items.Item.{Item}
use Rattle.spec_book.specs.History as histories
use Rattle.spec_claims.specs.Transcript as transcripts
use Rattle.spec_audit.specs.ItemConditions as item_conditions
use Rattle.law_audit_tables.specs.Digest as digests
use Rattle.law_audit_tables.specs.RightWalk as right_walk
use Rattle.law_audit_tables.specs.FreshWalk as fresh_walk

abbrev pub RightBySession : Type 0
RightBySession = (h : histories.History) (ss : List ℕ) (items : List Item) → digests.are_named ss items ≡ true
    → item_conditions.each_shown (item_conditions.is_right items h) items
    ≡ list_all (λ s. right_walk.says_right h s (transcripts.calls s items) [] false (digests.digest s 0 false items)) ss

abbrev pub FreshBySession : Type 0
FreshBySession = (ss : List ℕ) (items : List Item) → digests.are_named ss items ≡ true
    → item_conditions.each_shown item_conditions.is_fresh items ≡ list_all (λ s. fresh_walk.reads_fresh s 0 [] [] (digests.digest s 0 false items)) ss
