-- The laws of agreement and of reads hold of a cluster to which a list of steps leads from the beginning.
use Rattle.std.proofs.Common.{ℕ, ◌≤◌, subst}
use Rattle.spec_cluster.specs.Cluster as clusters
use Rattle.law_agreement.specs.Agreement as laws
use Rattle.law_agreement.proofs.Agreement as agreement
use Rattle.law_reads.specs.Reads as read_laws
use Rattle.law_reads.proofs.Transitions as service
use Rattle.law_origin.specs.Origin as origins
use Rattle.law_origin.proofs.Steps.{entries_have_origin}
use Rattle.raft_world.specs.Reached.{IsRunOf, HaveOrigin}

-- what holds after every list of steps holds of it
held : (P : ℕ → clusters.Cluster → Type 0) → laws.Always P → (n : ℕ) (c : clusters.Cluster) → 1 ≤ n → IsRunOf n c → P n c
held P law n c one r = subst (P n) r.leads_here (law n r.steps one)

pub one_leads : (n : ℕ) (c : clusters.Cluster) → 1 ≤ n → IsRunOf n c → laws.OneLeads n c
one_leads = held laws.OneLeads (agreement.always laws.OneLeads (λ n s one h. agreement.one_leads n s h))

pub led_once : (n : ℕ) (c : clusters.Cluster) → 1 ≤ n → IsRunOf n c → laws.LedOnce n c
led_once = held laws.LedOnce (agreement.always laws.LedOnce (λ n s one h. agreement.led_once n s h))

pub logs_match : (n : ℕ) (c : clusters.Cluster) → 1 ≤ n → IsRunOf n c → laws.LogsMatch n c
logs_match = held laws.LogsMatch (agreement.always laws.LogsMatch (λ n s one h. agreement.logs_match n s h))

pub leaders_hold : (n : ℕ) (c : clusters.Cluster) → 1 ≤ n → IsRunOf n c → laws.LeadersHold n c
leaders_hold = held laws.LeadersHold (agreement.always laws.LeadersHold (λ n s one h. agreement.leaders_hold n s h))

pub logs_begin : (n : ℕ) (c : clusters.Cluster) → 1 ≤ n → IsRunOf n c → laws.LogsBegin n c
logs_begin = held laws.LogsBegin (agreement.always laws.LogsBegin (λ n s one h. agreement.logs_begin n s h))

pub times_rise : (n : ℕ) (c : clusters.Cluster) → 1 ≤ n → IsRunOf n c → laws.TimesRise n c
times_rise = held laws.TimesRise (agreement.always laws.TimesRise (λ n s one h. agreement.times_never_fall n s h))

pub majority_keeps : (n : ℕ) (c : clusters.Cluster) → 1 ≤ n → IsRunOf n c → laws.MajorityKeeps n c
majority_keeps = held laws.MajorityKeeps (agreement.always laws.MajorityKeeps agreement.majority_keeps)

pub newest_begins : (n : ℕ) (c : clusters.Cluster) → 1 ≤ n → IsRunOf n c → laws.NewestBegins n c
newest_begins = held laws.NewestBegins (agreement.always laws.NewestBegins (λ n s one h. agreement.newest_begins n s h))

pub reads_are_fresh : (n : ℕ) (c : clusters.Cluster) → 1 ≤ n → IsRunOf n c → read_laws.ReadsAreFresh n c
reads_are_fresh = held read_laws.ReadsAreFresh (service.always read_laws.ReadsAreFresh (λ n s h. h.serves.givens))

pub reads_differ : (n : ℕ) (c : clusters.Cluster) → 1 ≤ n → IsRunOf n c → read_laws.ReadsDiffer n c
reads_differ = held read_laws.ReadsDiffer (service.always read_laws.ReadsDiffer (λ n s h. h.serves.once))

pub reads_are_numbered : (n : ℕ) (c : clusters.Cluster) → 1 ≤ n → IsRunOf n c → read_laws.ReadsAreNumbered n c
reads_are_numbered = held read_laws.ReadsAreNumbered (service.always read_laws.ReadsAreNumbered (λ n s h. h.serves.numbered))

-- each entry has an origin
pub have_origin : (n : ℕ) (c : clusters.Cluster) → IsRunOf n c → HaveOrigin n c
have_origin n c r = record { steps = r.steps; leads_here = r.leads_here; entries = subst (origins.AllEntries (origins.HasOrigin n r.steps)) r.leads_here (entries_have_origin n r.steps) }
