-- No condition fails of what is faithful.
use Rattle.std.proofs.Common.{◌≡◌, ℕ, ◌≤◌, Bool, true, not, List, [], ◌∷◌, None, refl, ap, ◌∙◌, subst, length, filter, arith}
use Rattle.ax_types.specs.declared.findings.Clause.{Clause}
use Rattle.ax_types.specs.declared.findings.Clause.TheVariants as clause
use Rattle.ax_types.specs.declared.findings.Verdict.TheVariants as verdict
use Rattle.ax_types.specs.declared.items.Item.{Item}
use Rattle.spec_book.specs.History as histories
use Rattle.spec_claims.specs.Transcript as transcripts
use Rattle.spec_claims.specs.Right as right
use Rattle.spec_claims.specs.FreshReads as fresh_reads
use Rattle.spec_claims.specs.OutcomeOrder as outcome_order
use Rattle.spec_claims.specs.Faithful as claims_faithful
use Rattle.spec_audit.specs.ItemConditions as item_conditions
use Rattle.spec_audit.specs.Audit as audits
use Rattle.law_audit.specs.FaithfulAudit as laws
use Rattle.law_audit.proofs.Tests.{both, nat_same, same_number}
use Rattle.law_audit.proofs.Same as same
use Rattle.law_audit.proofs.Walks as walks
use Rattle.law_audit.proofs.Lawful as lawful
use Rattle.law_audit.proofs.Calls as calls
use Rattle.law_audit.proofs.Conditions as conditions
use Rattle.law_audit.proofs.Sessions as sessions
use Rattle.law_audit.proofs.Ends as ends

none_left : (test : ℕ → Bool) → ((s : ℕ) → test s ≡ true) → (ss : List ℕ) → filter (λ s. not (test s)) ss ≡ []
none_left test h [] = refl
none_left test h (s ∷ ss) = rw (h s) (none_left test h ss)

passes : (timeout : ℕ) (a : audits.Audited) (c : Clause) → audits.whole_holds timeout a c ≡ true → ((s : ℕ) → audits.session_holds a c s ≡ true)
    → audits.broken_by timeout a c ≡ None
passes timeout a c w h = rw w (ap audits.least_session (none_left (audits.session_holds a c) h (audits.sessions a)))

no_failure : (timeout : ℕ) (a : audits.Audited) → ((c : Clause) → audits.broken_by timeout a c ≡ None) → (cs : List Clause) → audits.verdict_of timeout a cs ≡ verdict.Faithful
no_failure timeout a h [] = refl
no_failure timeout a h (c ∷ cs) = ap (λ b. audits.or_later c b (audits.verdict_of timeout a cs)) (h c) ∙ no_failure timeout a h cs

numbered : (s : ℕ) (above xs : List Item) → transcripts.EachBelow (outcome_order.IsOutcome s) above xs
    → transcripts.EachBelow (outcome_order.IsNumbered s) above xs
numbered s above [] k = tt
numbered s above (x ∷ xs) k = (k.0.0, numbered s (x ∷ above) xs k.1)

rights : (timeout : ℕ) (shown : List transcripts.Shown) (h : histories.History) → claims_faithful.IsFaithful timeout shown h
    → item_conditions.each_shown (item_conditions.is_right (transcripts.transcript shown) h) (transcripts.transcript shown) ≡ true
rights timeout shown h f =
    let items : List Item = transcripts.transcript shown in
    let outcomes : transcripts.EachItem (λ up x. (s : ℕ) → outcome_order.IsOutcome s up x) items =
    walks.of_all outcome_order.IsOutcome [] items (λ s. (f.sessions s).outcomes) in
    let bounded : transcripts.EachItem (walks.IsBounded (length h)) items = walks.bounded (length h) [] items (omega arith) (subst (λ n. n ≤ length h) f.whole (omega arith)) in
    walks.tested (conditions.IsKnown items h) (item_conditions.is_right items h)
    (conditions.is_right items h (λ s n. calls.once_at_most s n [] items (numbered s [] items (f.sessions s).outcomes))) [] items
    (walks.together (λ up x. right.IsRight h up x × right.IsCommitted up x) (λ up x. ((s : ℕ) → outcome_order.IsOutcome s up x) × walks.IsBounded (length h) up x) [] items
    (walks.together (right.IsRight h) right.IsCommitted [] items f.right f.committed)
    (walks.together (λ up x. (s : ℕ) → outcome_order.IsOutcome s up x) (walks.IsBounded (length h)) [] items outcomes bounded))

pair_same : (p : ℕ × ℕ) → audits.is_same_pair p p ≡ true
pair_same p = both _ _ (nat_same p.0) (nat_same p.1)

holds : (timeout : ℕ) (shown : List transcripts.Shown) (h : histories.History) → claims_faithful.IsFaithful timeout shown h
    → (c : Clause) → audits.broken_by timeout (laws.reported shown h) c ≡ None
holds timeout shown h f clause.Lawful = passes timeout (laws.reported shown h) clause.Lawful (lawful.lawful timeout h f.lawful) (λ s. refl)
holds timeout shown h f clause.Right = passes timeout (laws.reported shown h) clause.Right (rights timeout shown h f) (λ s. refl)
holds timeout shown h f clause.Length = passes timeout (laws.reported shown h) clause.Length (same_number _ _ f.whole) (λ s. refl)
holds timeout shown h f clause.Fresh =
    passes timeout (laws.reported shown h) clause.Fresh
    (walks.tested fresh_reads.IsFresh item_conditions.is_fresh conditions.is_fresh [] (transcripts.transcript shown) f.fresh) (λ s. refl)
holds timeout shown h f clause.Once =
    passes timeout (laws.reported shown h) clause.Once refl (λ s. sessions.takes_effect_once (transcripts.transcript shown) h s (f.sessions s).once)
holds timeout shown h f clause.Growing =
    passes timeout (laws.reported shown h) clause.Growing refl (λ s. sessions.grows (transcripts.transcript shown) h s (f.sessions s).growing)
holds timeout shown h f clause.Heard =
    passes timeout (laws.reported shown h) clause.Heard refl (λ s. sessions.hears_in_order (transcripts.transcript shown) h s (f.sessions s).heard)
holds timeout shown h f clause.Outcomes =
    passes timeout (laws.reported shown h) clause.Outcomes refl (λ s. sessions.in_order (transcripts.transcript shown) s (f.sessions s).outcomes)
holds timeout shown h f clause.Ends =
    passes timeout (laws.reported shown h) clause.Ends refl
    (λ s. both _ _ (sessions.in_session (transcripts.transcript shown) h s (f.sessions s).in_session) (ends.ends s [] shown f.ends))
holds timeout shown h f clause.Waiting =
    passes timeout (laws.reported shown h) clause.Waiting (same.are_same audits.is_same_pair pair_same (audits.waiting_of_items (transcripts.transcript shown))) (λ s. refl)

pub faithful : laws.FaithfulIsAudited
faithful timeout shown h f = no_failure timeout (laws.reported shown h) (holds timeout shown h f) audits.clauses
