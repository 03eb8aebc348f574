-- The two indexes have all that they are to have after a change of a book.
use Rattle.std.proofs.Common.{◌≡◌, ℕ, true, false, List, Option, Some, sym, ◌∙◌}
use Rattle.std.specs.BTreeMap.{is_at}
use Rattle.spec_book.specs.Dict as dicts
use Rattle.spec_book.specs.Resources as resources
use Rattle.spec_book.specs.Book as books
use Rattle.res_deadlines.specs.Deadlines as deadlines
use Rattle.res_deadlines.proofs.Index.{ChangesDeadline-elsewhere}
use Rattle.res_registry.specs.Indexes as registry_indexes
use Rattle.res_registry.specs.OneOfEach as one_of_each
use Rattle.res_registry.specs.Walk as walks
use Rattle.res_registry.proofs.Changes.{end_after}
use Rattle.res_registry.proofs.Found.{same_key_swapped}
use Rattle.res_registry.proofs.Known.{known-pass, known-unlistened, known-end}
use Rattle.res_registry.proofs.Quiet.{ends-unlistened, ends-end}
use Rattle.res_registry.proofs.Single.{IsSingle-pass, IsSingle-unlistened, IsSingle-end}
use Rattle.res_registry.proofs.Each.{Each, Each-with, Each-whole}

-- what the indexes need to have of a resource
abbrev NeedsEnd : List (ℕ × List ℕ) → List ℕ → resources.Resource → Type 0
NeedsEnd ends name r = (time : ℕ) → registry_indexes.next_end r ≡ Some time → deadlines.has_deadline dicts.bytes_cmp ends time name ≡ true

abbrev NeedsName : List (ℕ × List (List ℕ)) → List ℕ → resources.Resource → Type 0
NeedsName index name r = (s : ℕ) → registry_indexes.knows r s ≡ true → dicts.has_text (registry_indexes.session_names index s) name ≡ true

-- an index that has all that another has
abbrev pub KeepsNames : List (ℕ × List (List ℕ)) → List (ℕ × List (List ℕ)) → Type 0
KeepsNames old new = (s : ℕ) (name : List ℕ) → dicts.has_text (registry_indexes.session_names old s) name ≡ true → dicts.has_text (registry_indexes.session_names new s) name ≡ true

each_end : (book : books.Book) (ends : List (ℕ × List ℕ)) → registry_indexes.HasEnds book ends → Each (NeedsEnd ends) book
each_end book ends has = λ k r there time is. has k r time there is

from_each_end : (book : books.Book) (ends : List (ℕ × List ℕ)) → Each (NeedsEnd ends) book → registry_indexes.HasEnds book ends
from_each_end book ends each = λ k r time there is. each k r there time is

each_name : (book : books.Book) (index : List (ℕ × List (List ℕ))) → registry_indexes.HasNames book index → Each (NeedsName index) book
each_name book index has = λ k r there s is. has k r s there is

from_each_name : (book : books.Book) (index : List (ℕ × List (List ℕ))) → Each (NeedsName index) book → registry_indexes.HasNames book index
from_each_name book index each = λ k r s there is. each k r there s is

-- ---- after a resource was put at a name
-- the index has what the resource needs, and what it had of other names
HasEnds-put : (book : books.Book) (ends now : List (ℕ × List ℕ)) (name : List ℕ) (after : resources.Resource) → registry_indexes.HasEnds book ends
    → ((time : ℕ) (k : List ℕ) → is_at (dicts.bytes_cmp name) k ≡ false → deadlines.has_deadline dicts.bytes_cmp ends time k ≡ true → deadlines.has_deadline dicts.bytes_cmp now time k ≡ true)
    → ((time : ℕ) → registry_indexes.next_end after ≡ Some time → deadlines.has_deadline dicts.bytes_cmp now time name ≡ true)
    → registry_indexes.HasEnds (dicts.with_entry book name after) now
HasEnds-put book ends now name after has others here =
    from_each_end (dicts.with_entry book name after) now (Each-with (NeedsEnd now) book name after
    (λ k r there apart time is. others time k (same_key_swapped name k ∙ apart) (has k r time there is)) here)

pub HasNames-with : (book : books.Book) (index now : List (ℕ × List (List ℕ))) (name : List ℕ) (after : resources.Resource) → registry_indexes.HasNames book index → KeepsNames index now
    → ((s : ℕ) → registry_indexes.knows after s ≡ true → dicts.has_text (registry_indexes.session_names now s) name ≡ true)
    → registry_indexes.HasNames (dicts.with_entry book name after) now
HasNames-with book index now name after has keeps here =
    from_each_name (dicts.with_entry book name after) now (Each-with (NeedsName now) book name after (λ k r there apart s is. keeps s k (has k r s there is)) here)

pub AreSingle-with : (book : books.Book) (name : List ℕ) (after : resources.Resource) → one_of_each.AreSingle book → one_of_each.IsSingle after → one_of_each.AreSingle (dicts.with_entry book name after)
AreSingle-with book name after single here = Each-with (λ k r. one_of_each.IsSingle r) book name after (λ k r there apart. single k r there) here

-- the next end at a name was one that the index had, and is another that the index has
pub HasEnds-with : (book : books.Book) (ends now : List (ℕ × List ℕ)) (name : List ℕ) (after : resources.Resource) (before : Option ℕ)
    → deadlines.ChangesDeadline dicts.bytes_cmp ends now name before (registry_indexes.next_end after)
    → ((time : ℕ) → before ≡ Some time → deadlines.has_deadline dicts.bytes_cmp ends time name ≡ true)
    → registry_indexes.HasEnds book ends → registry_indexes.HasEnds (dicts.with_entry book name after) now
HasEnds-with book ends now name after before changes had has =
    HasEnds-put book ends now name after has (λ time k apart is. ChangesDeadline-elsewhere dicts.bytes_cmp ends now name before (registry_indexes.next_end after) changes time k apart ∙ is)
    (λ time is. end_after ends now name before (registry_indexes.next_end after) changes time is (had time))

-- ---- after visits that make no new need

pub HasEnds-whole : (f : walks.Visit) (book : books.Book) (ends : List (ℕ × List ℕ))
    → ((k : List ℕ) (r : resources.Resource) → registry_indexes.next_end (f k r).state ≡ registry_indexes.next_end r) → registry_indexes.HasEnds book ends → registry_indexes.HasEnds (walks.whole_state f book) ends
HasEnds-whole f book ends same has =
    from_each_end (walks.whole_state f book) ends (Each-whole (NeedsEnd ends) (NeedsEnd ends) f book
    (λ k r needs time is. needs time (sym (same k r) ∙ is)) (each_end book ends has))

pub HasNames-whole : (f : walks.Visit) (book : books.Book) (index : List (ℕ × List (List ℕ)))
    → ((k : List ℕ) (r : resources.Resource) (s : ℕ) → registry_indexes.knows (f k r).state s ≡ true → registry_indexes.knows r s ≡ true) → registry_indexes.HasNames book index → registry_indexes.HasNames (walks.whole_state f book) index
HasNames-whole f book index known has =
    from_each_name (walks.whole_state f book) index (Each-whole (NeedsName index) (NeedsName index) f book
    (λ k r needs s is. needs s (known k r s is)) (each_name book index has))

-- ---- after the steps of a session's end
pub HasEnds-unlistened : (session : ℕ) (book : books.Book) (ends : List (ℕ × List ℕ)) → registry_indexes.HasEnds book ends → registry_indexes.HasEnds (books.all_unlistened session book) ends
HasEnds-unlistened session book ends = HasEnds-whole (walks.unlisten_visit session) book ends (λ k r. ends-unlistened session r)

pub HasEnds-left : (place session : ℕ) (book : books.Book) (ends : List (ℕ × List ℕ)) → registry_indexes.HasEnds book ends → registry_indexes.HasEnds (books.left_by place session book) ends
HasEnds-left place session book ends = HasEnds-whole (walks.leave_visit place session) book ends (λ k r. ends-end k place session r)

pub HasNames-unlistened : (session : ℕ) (book : books.Book) (index : List (ℕ × List (List ℕ))) → registry_indexes.HasNames book index → registry_indexes.HasNames (books.all_unlistened session book) index
HasNames-unlistened session book index = HasNames-whole (walks.unlisten_visit session) book index (λ k r s. known-unlistened session r s)

pub HasNames-pass : (time : ℕ) (book : books.Book) (index : List (ℕ × List (List ℕ))) → registry_indexes.HasNames book index → registry_indexes.HasNames (books.pass time book) index
HasNames-pass time book index = HasNames-whole (walks.pass_visit time) book index (λ k r s. known-pass time r s)

pub HasNames-left : (place session : ℕ) (book : books.Book) (index : List (ℕ × List (List ℕ))) → registry_indexes.HasNames book index → registry_indexes.HasNames (books.left_by place session book) index
HasNames-left place session book index = HasNames-whole (walks.leave_visit place session) book index (λ k r s. known-end k place session r s)

pub AreSingle-unlistened : (session : ℕ) (book : books.Book) → one_of_each.AreSingle book → one_of_each.AreSingle (books.all_unlistened session book)
AreSingle-unlistened session book =
    Each-whole (λ k r. one_of_each.IsSingle r) (λ k r. one_of_each.IsSingle r) (walks.unlisten_visit session) book (λ k r single. IsSingle-unlistened session r single)

pub AreSingle-pass : (time : ℕ) (book : books.Book) → one_of_each.AreSingle book → one_of_each.AreSingle (books.pass time book)
AreSingle-pass time book = Each-whole (λ k r. one_of_each.IsSingle r) (λ k r. one_of_each.IsSingle r) (walks.pass_visit time) book (λ k r single. IsSingle-pass time r single)

pub AreSingle-left : (place session : ℕ) (book : books.Book) → one_of_each.AreSingle book → one_of_each.AreSingle (books.left_by place session book)
AreSingle-left place session book =
    Each-whole (λ k r. one_of_each.IsSingle r) (λ k r. one_of_each.IsSingle r) (walks.leave_visit place session) book (λ k r single. IsSingle-end k place session r single)
