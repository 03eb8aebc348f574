-- From claims on each item to tests on each item.
use Rattle.std.proofs.Common.{◌≡◌, ℕ, ◌≤◌, Bool, true, List, [], ◌∷◌, refl, arith}
use Rattle.ax_types.specs.declared.items.Item.{Item}
use Rattle.ax_types.specs.declared.items.Item.TheVariants as item
use Rattle.spec_claims.specs.Transcript as transcripts
use Rattle.spec_audit.specs.ItemConditions as item_conditions
use Rattle.law_audit.proofs.Tests.{both}

pub tested : (P : List Item → Item → Type 0) (test : List Item → Item → Bool) → ((above : List Item) (x : Item) → P above x → test above x ≡ true)
    → (above xs : List Item) → transcripts.EachBelow P above xs → item_conditions.each_below test above xs ≡ true
tested P test h above [] e = refl
tested P test h above (x ∷ xs) e = both (test above x) _ (h above x e.0) (tested P test h (x ∷ above) xs e.1)

pub together : (P Q : List Item → Item → Type 0) (above xs : List Item) → transcripts.EachBelow P above xs → transcripts.EachBelow Q above xs
    → transcripts.EachBelow (λ up x. P up x × Q up x) above xs
together P Q above [] p q = tt
together P Q above (x ∷ xs) p q = ((p.0, q.0), together P Q (x ∷ above) xs p.1 q.1)

pub of_all : (P : ℕ → List Item → Item → Type 0) (above xs : List Item) → ((s : ℕ) → transcripts.EachBelow (P s) above xs)
    → transcripts.EachBelow (λ up x. (s : ℕ) → P s up x) above xs
of_all P above [] h = tt
of_all P above (x ∷ xs) h = ((λ s. (h s).0), of_all P (x ∷ above) xs (λ s. (h s).1))

-- what is committed above is at most what is committed in all
abbrev pub IsBounded : ℕ → List Item → Item → Type 0
IsBounded n above x = transcripts.greatest_commit above ≤ n

commit_of : (n : ℕ) (x : Item) (xs : List Item) → transcripts.greatest_commit (x ∷ xs) ≤ n → transcripts.greatest_commit xs ≤ n
commit_of n (item.Commit p) xs h = omega (arith, h)
commit_of n (item.Leader k t) xs h = h
commit_of n (item.Reach k t a s m) xs h = h
commit_of n (item.Halted k) xs h = h
commit_of n (item.Opened s c) xs h = h
commit_of n (item.Called s m c) xs h = h
commit_of n (item.Event s p prev es) xs h = h
commit_of n (item.Watched c kind s p e) xs h = h
commit_of n (item.Reply s m p r) xs h = h
commit_of n (item.Read s m l p reach r) xs h = h
commit_of n (item.Ended s p how) xs h = h
commit_of n (item.Doubt s m) xs h = h
commit_of n (item.Lost s m) xs h = h
commit_of n (item.Unsent s m) xs h = h
commit_of n (item.Unanswered s m) xs h = h
commit_of n (item.Listed count) xs h = h
commit_of n (item.Pending m from to kind) xs h = h
commit_of n (item.Skip reason) xs h = h

commit_upto : (n : ℕ) (x : Item) (above xs : List Item) → transcripts.greatest_commit above ≤ n → transcripts.greatest_commit (x ∷ xs) ≤ n
    → transcripts.greatest_commit (x ∷ above) ≤ n
commit_upto n (item.Commit p) above xs g h = omega (arith, g, h)
commit_upto n (item.Leader k t) above xs g h = g
commit_upto n (item.Reach k t a s m) above xs g h = g
commit_upto n (item.Halted k) above xs g h = g
commit_upto n (item.Opened s c) above xs g h = g
commit_upto n (item.Called s m c) above xs g h = g
commit_upto n (item.Event s p prev es) above xs g h = g
commit_upto n (item.Watched c kind s p e) above xs g h = g
commit_upto n (item.Reply s m p r) above xs g h = g
commit_upto n (item.Read s m l p reach r) above xs g h = g
commit_upto n (item.Ended s p how) above xs g h = g
commit_upto n (item.Doubt s m) above xs g h = g
commit_upto n (item.Lost s m) above xs g h = g
commit_upto n (item.Unsent s m) above xs g h = g
commit_upto n (item.Unanswered s m) above xs g h = g
commit_upto n (item.Listed count) above xs g h = g
commit_upto n (item.Pending m from to kind) above xs g h = g
commit_upto n (item.Skip reason) above xs g h = g

pub bounded : (n : ℕ) (above xs : List Item) → transcripts.greatest_commit above ≤ n → transcripts.greatest_commit xs ≤ n
    → transcripts.EachBelow (IsBounded n) above xs
bounded n above [] g h = tt
bounded n above (x ∷ xs) g h = (g, bounded n (x ∷ above) xs (commit_upto n x above xs g h) (commit_of n x xs h))
