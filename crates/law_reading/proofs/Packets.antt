-- The readers of payloads read what is spelled, and nothing else.
use Rattle.std.proofs.Common.{◌≡◌, ℕ, ◌≤◌, Bool, true, List, [], ◌∷◌, ◌++◌, length, Ok, refl, ap, append_assoc, nat_eq, arith, ◌∙◌, leb, ltb}
use Rattle.std.specs.Prelude.{◌^◌, IsTrue, ◌&&◌}
use Rattle.std.specs.List.{flat_map, AllByRecursion}
use Rattle.std.proofs.lemmas.Bool.{ltb-true, lt-ltb, leb-true, le-leb, eqb-true, eqb-false, eq-eqb, ne_eqb}
use Rattle.ax_types.specs.declared.entries.Entry.{Entry}
use Rattle.ax_types.specs.declared.ops.Query.{Query}
use Rattle.ax_types.specs.declared.ops.Level.{Level}
use Rattle.ax_types.specs.declared.ops.Level.TheVariants.{Seq, Lin}
use Rattle.ax_types.specs.declared.replies.How.{How}
use Rattle.ax_types.specs.declared.replies.How.TheVariants.{Closed, Expired}
use Rattle.ax_types.specs.declared.replies.Reply.{Reply}
use Rattle.ax_types.specs.declared.replies.Event.{Event}
use Rattle.ax_types.specs.declared.packets.Payload.{Payload}
use Rattle.ax_types.specs.declared.packets.Payload.TheVariants as payload
use Rattle.spec_wire.specs.NumberBytes as number_bytes
use Rattle.spec_wire.specs.Ranges as ranges
use Rattle.spec_wire.specs.OperationBytes as operation_bytes
use Rattle.spec_wire.specs.Spelling as wire_spelling
use Rattle.spec_reading.specs.Packets as packets
use Rattle.law_reading.proofs.Readers.{Reads, IsStable, IsExact, exact_bind, exact_ok, exact_as, exact_wrong, exact_if, exact_tag, exact_byte, exact_two, exact_three, stable_bind, stable_ok, stable_wrong, stable_if, stable_byte, stable_two, stable_three, again_two, again_three, again_bind, many_reads}
use Rattle.law_reading.proofs.Fields.{name_reads, u64_reads, u32_reads, client_reads, truth_reads, within_reads, small_reads, and_true, both}
use Rattle.law_reading.proofs.Queries.{query_reads}
use Rattle.law_reading.proofs.Answers.{event_reads, reply_reads, IsReply}
use Rattle.law_reading.proofs.Entries.{entry_reads, again_command, again_keep, exact_command, exact_keep, stable_command, stable_keep}

-- ---- levels, ways to end, and reaches

abbrev AnyLevel : Level → Type 0
AnyLevel l = Unit {0}

level_again : (l : Level) (rest : List ℕ) → packets.level_at (wire_spelling.level_bytes l ++ rest) ≡ Ok (l, rest)
level_again Seq rest = refl
level_again Lin rest = refl

level_reads : Reads packets.level_at wire_spelling.level_bytes AnyLevel
level_reads = record {
  again = λ l rest fits. level_again l rest;
  exact = exact_bind _ exact_byte (λ n fn. exact_tag n 0 (exact_ok Seq refl tt) (exact_tag n 1 (exact_ok Lin refl tt) exact_wrong));
  stable = stable_bind _ stable_byte (λ n. stable_if (nat_eq n 0) (stable_ok Seq) (stable_if (nat_eq n 1) (stable_ok Lin) stable_wrong));
}

abbrev AnyHow : How → Type 0
AnyHow h = Unit {0}

how_again : (h : How) (rest : List ℕ) → packets.how_at (wire_spelling.how_bytes h ++ rest) ≡ Ok (h, rest)
how_again Closed rest = refl
how_again Expired rest = refl

how_reads : Reads packets.how_at wire_spelling.how_bytes AnyHow
how_reads = record {
  again = λ h rest fits. how_again h rest;
  exact = exact_bind _ exact_byte (λ n fn. exact_tag n 0 (exact_ok Closed refl tt) (exact_tag n 1 (exact_ok Expired refl tt) exact_wrong));
  stable = stable_bind _ stable_byte (λ n. stable_if (nat_eq n 0) (stable_ok Closed) (stable_if (nat_eq n 1) (stable_ok Expired) stable_wrong));
}

abbrev IsReach : Level → ℕ → Type 0
IsReach Seq n = (0 ≤ n) × (n ≤ 0)
IsReach Lin n = ranges.IsNumber n

reach_reads : (l : Level) → Reads (packets.reach_at l) number_bytes.u64_bytes (IsReach l)
reach_reads Seq = within_reads 0 0 (omega arith)
reach_reads Lin = u64_reads

reaches_of : (l : Level) (term arrival : ℕ) → ranges.IsNumber term → ranges.IsNumber arrival → wire_spelling.reach_is_spelled l term arrival ≡ true → IsReach l term × IsReach l arrival
reaches_of Seq term arrival ft fa h =
    let tests = and_true (nat_eq term 0) (nat_eq arrival 0) h in
    let no_term = eqb-true term 0 tests.0 in
    let no_arrival = eqb-true arrival 0 tests.1 in
    ((omega arith, omega arith), (omega arith, omega arith))
reaches_of Lin term arrival ft fa h = (ft, fa)

reach_numbers : (l : Level) (term arrival : ℕ) → IsReach l term → IsReach l arrival → ranges.IsNumber term × ranges.IsNumber arrival × (wire_spelling.reach_is_spelled l term arrival ≡ true)
reach_numbers Seq term arrival ft fa =
    let no_term : term ≡ 0 = omega arith in
    let no_arrival : arrival ≡ 0 = omega arith in
    (omega arith, omega arith, both (nat_eq term 0) (nat_eq arrival 0) (eq-eqb term 0 no_term) (eq-eqb arrival 0 no_arrival))
reach_numbers Lin term arrival ft fa = (ft, fa, refl)

-- ---- the events of a batch

abbrev AreEvents : List Event → Type 0
AreEvents events = AllByRecursion ranges.FitsEvent events × IsTrue (leb 1 (length events) && ltb (length events) (2 ^ 32))

events_reads : Reads packets.events_at wire_spelling.events_bytes AreEvents
unfolding packets.events_at
events_reads = record {
  again = λ events rest fits.
      let tests = and_true (leb 1 (length events)) (ltb (length events) (2 ^ 32)) fits.1 in
      let some : 1 ≤ length events = leb-true _ _ tests.0 in
      let none : length events ≡ 0 → ⊥ = λ e. omega arith in
      rw (append_assoc (number_bytes.u32_bytes (length events)) (flat_map operation_bytes.event_bytes events) rest, u32_reads.again (length events) (flat_map operation_bytes.event_bytes events ++ rest) (ltb-true _ _ tests.1), ne_eqb (length events) 0 none)
      ((many_reads (length events) event_reads).again events rest (refl, fits.0));
  exact = exact_bind _ u32_reads.exact (λ count fc. exact_if (nat_eq count 0) (λ none. exact_wrong) (λ some. exact_as (many_reads count event_reads).exact
      (λ events fs.
      let other : count ≡ 0 → ⊥ = eqb-false count 0 some in
      let long : 1 ≤ length events = omega (arith, fs.0) in
      (rw fs.0 refl, (fs.1, both _ _ (le-leb 1 (length events) long) (lt-ltb (length events) (2 ^ 32) (omega (arith, fs.0, fc))))))));
  stable = stable_bind _ u32_reads.stable (λ count. stable_if (nat_eq count 0) stable_wrong (many_reads count event_reads).stable);
}

-- ---- payloads

-- a payload that has a spelling
abbrev pub IsPayload : Payload → Type 0
IsPayload p = ranges.FitsPayload p × IsTrue (wire_spelling.is_spelled p)

append_again : (term prev prev_term commit round : ℕ) (entries : List Entry) (rest : List ℕ)
    → ranges.IsNumber term → ranges.IsNumber prev → ranges.IsNumber prev_term → ranges.IsNumber commit → ranges.IsNumber round → AllByRecursion ranges.FitsEntry entries → length entries ≤ 16
    → packets.append_at (number_bytes.u64_bytes term ++ number_bytes.u64_bytes prev ++ number_bytes.u64_bytes prev_term ++ number_bytes.u64_bytes commit ++ number_bytes.u64_bytes round ++ wire_spelling.entries_bytes entries ++ rest)
    ≡ Ok (payload.Append term prev prev_term commit round entries, rest)
unfolding packets.append_at
append_again term prev prev_term commit round entries rest ft fp fpt fc fr fe few = simp append_assoc
    (again_bind _ term _ _ u64_reads ft (again_bind _ prev _ _ u64_reads fp (again_bind _ prev_term _ _ u64_reads fpt (again_bind _ commit _ _ u64_reads fc (again_bind _ round _ _ u64_reads fr
    (again_bind _ (length entries) _ _ (small_reads 0 16 (omega arith)) (omega arith, few) (again_bind _ entries _ _ (many_reads (length entries) entry_reads) (refl, fe) refl)))))))

append_reply_again : (term : ℕ) (ok : Bool) (place : ℕ) (round : ℕ) (rest : List ℕ)
    → ranges.IsNumber term → ranges.IsNumber place → ranges.IsNumber round
    → packets.append_reply_at (number_bytes.u64_bytes term ++ number_bytes.truth_bytes ok ++ number_bytes.u64_bytes place ++ number_bytes.u64_bytes round ++ rest) ≡ Ok (payload.AppendReply term ok place round, rest)
unfolding packets.append_reply_at
append_reply_again term ok place round rest f_term f_place f_round = simp append_assoc
    (again_bind _ term _ _ u64_reads f_term (again_bind _ ok _ _ truth_reads tt (again_bind _ place _ _ u64_reads f_place (again_bind _ round _ _ u64_reads f_round refl))))

reply_payload_again : (session : ℕ) (seq : ℕ) (place : ℕ) (events : ℕ) (reply : Reply) (rest : List ℕ)
    → ranges.IsNumber session → ranges.IsNumber seq → ranges.IsNumber place → ranges.IsNumber events → IsReply reply
    → packets.reply_payload_at (number_bytes.u64_bytes session ++ number_bytes.u64_bytes seq ++ number_bytes.u64_bytes place ++ number_bytes.u64_bytes events ++ operation_bytes.reply_bytes reply ++ rest) ≡ Ok (payload.Reply session seq place events reply, rest)
unfolding packets.reply_payload_at
reply_payload_again session seq place events reply rest f_session f_seq f_place f_events f_reply = simp append_assoc
    (again_bind _ session _ _ u64_reads f_session (again_bind _ seq _ _ u64_reads f_seq (again_bind _ place _ _ u64_reads f_place (again_bind _ events _ _ u64_reads f_events (again_bind _ reply _ _ reply_reads f_reply refl)))))

answer_again : (session : ℕ) (call : ℕ) (level : Level) (place : ℕ) (events : ℕ) (term : ℕ) (arrival : ℕ) (reply : Reply) (rest : List ℕ)
    → ranges.IsNumber session → ranges.IsNumber call → ranges.IsNumber place → ranges.IsNumber events → IsReach level term → IsReach level arrival → IsReply reply
    → packets.answer_at (number_bytes.u64_bytes session ++ number_bytes.u64_bytes call ++ wire_spelling.level_bytes level ++ number_bytes.u64_bytes place ++ number_bytes.u64_bytes events ++ number_bytes.u64_bytes term ++ number_bytes.u64_bytes arrival ++ operation_bytes.reply_bytes reply ++ rest) ≡ Ok (payload.Answer session call level place events term arrival reply, rest)
unfolding packets.answer_at
answer_again session call level place events term arrival reply rest f_session f_call f_place f_events f_term f_arrival f_reply = simp append_assoc
    (again_bind _ session _ _ u64_reads f_session (again_bind _ call _ _ u64_reads f_call (again_bind _ level _ _ level_reads tt (again_bind _ place _ _ u64_reads f_place (again_bind _ events _ _ u64_reads f_events (again_bind _ term _ _ (reach_reads level) f_term (again_bind _ arrival _ _ (reach_reads level) f_arrival (again_bind _ reply _ _ reply_reads f_reply refl))))))))

regrouped : (a b c d e : List ℕ) → a ++ b ++ c ++ d ++ e ≡ a ++ (b ++ (c ++ (d ++ e)))
regrouped a b c d e = simp append_assoc

batch_again : (session : ℕ) (place : ℕ) (prev : ℕ) (events : List Event) (rest : List ℕ)
    → ranges.IsNumber session → ranges.IsNumber place → ranges.IsNumber prev → AreEvents events
    → packets.batch_at (number_bytes.u64_bytes session ++ number_bytes.u64_bytes place ++ number_bytes.u64_bytes prev ++ wire_spelling.events_bytes events ++ rest) ≡ Ok (payload.Batch session place prev events, rest)
unfolding packets.batch_at
batch_again session place prev events rest f_session f_place f_prev f_events =
    ap packets.batch_at (regrouped (number_bytes.u64_bytes session) (number_bytes.u64_bytes place) (number_bytes.u64_bytes prev) (wire_spelling.events_bytes events) rest)
    ∙ (again_bind _ session _ _ u64_reads f_session (again_bind _ place _ _ u64_reads f_place (again_bind _ prev _ _ u64_reads f_prev (again_bind _ events _ _ events_reads f_events refl))))

query_payload_again : (client : ℕ) (session : ℕ) (call : ℕ) (level : Level) (seen : ℕ) (seq : ℕ) (name : List ℕ) (query : Query) (rest : List ℕ)
    → ranges.IsClient client → ranges.IsNumber session → ranges.IsNumber call → ranges.IsNumber seen → ranges.IsNumber seq → ranges.IsName name → ranges.FitsQuery query
    → packets.query_payload_at ((client ∷ []) ++ number_bytes.u64_bytes session ++ number_bytes.u64_bytes call ++ wire_spelling.level_bytes level ++ number_bytes.u64_bytes seen ++ number_bytes.u64_bytes seq ++ number_bytes.counted_bytes name ++ operation_bytes.query_bytes query ++ rest) ≡ Ok (payload.Query client session call level seen seq name query, rest)
unfolding packets.query_payload_at
query_payload_again client session call level seen seq name query rest f_client f_session f_call f_seen f_seq f_name f_query =
    let flat : number_bytes.u64_bytes session ++ number_bytes.u64_bytes call ++ wire_spelling.level_bytes level ++ number_bytes.u64_bytes seen ++ number_bytes.u64_bytes seq ++ number_bytes.counted_bytes name ++ operation_bytes.query_bytes query ++ rest ≡ number_bytes.u64_bytes session ++ (number_bytes.u64_bytes call ++ (wire_spelling.level_bytes level ++ (number_bytes.u64_bytes seen ++ (number_bytes.u64_bytes seq ++ (number_bytes.counted_bytes name ++ (operation_bytes.query_bytes query ++ rest)))))) = simp append_assoc in
    ap (λ (t : List ℕ). packets.query_payload_at (client ∷ t)) flat
    ∙ (again_bind _ client _ _ client_reads f_client (again_bind _ session _ _ u64_reads f_session (again_bind _ call _ _ u64_reads f_call (again_bind _ level _ _ level_reads tt (again_bind _ seen _ _ u64_reads f_seen (again_bind _ seq _ _ u64_reads f_seq (again_bind _ name _ _ name_reads f_name (again_bind _ query _ _ query_reads f_query refl))))))))

payload_again : (x : Payload) (rest : List ℕ) → IsPayload x → packets.payload_at (wire_spelling.payload_bytes x ++ rest) ≡ Ok (x, rest)
unfolding packets.payload_at
payload_again (payload.Vote a b c) rest ((fa, fb, fc), s) = again_three payload.Vote u64_reads u64_reads u64_reads a b c rest fa fb fc
payload_again (payload.VoteReply a b) rest (fa, s) = again_two payload.VoteReply u64_reads truth_reads a b rest fa tt
payload_again (payload.Append a b c d e entries) rest ((fa, fb, fc, fd, fe, fs), s) = append_again a b c d e entries rest fa fb fc fd fe fs (leb-true _ _ s)
payload_again (payload.AppendReply a b c d) rest ((fa, fc, fd), s) = append_reply_again a b c d rest fa fc fd
payload_again (payload.Register a b) rest ((fa, fb), s) = again_two payload.Register client_reads u64_reads a b rest fa fb
payload_again (payload.Keep a b c d) rest ((fa, fb, fc, fd), s) = again_keep payload.Keep a b c d rest fa fb fc fd
payload_again (payload.Command a b c d e) rest ((fa, fb, fc, fd, fe), s) = again_command payload.Command a b c d e rest fa fb fc fd fe
payload_again (payload.Close a b) rest ((fa, fb), s) = again_two payload.Close client_reads u64_reads a b rest fa fb
payload_again (payload.Query a b c l d e n q) rest ((fa, fb, fc, fd, fe, fn, fq), s) = query_payload_again a b c l d e n q rest fa fb fc fd fe fn fq
payload_again (payload.Connect a b c) rest ((fa, fb, fc), s) = again_three payload.Connect client_reads u64_reads u64_reads a b c rest fa fb fc
payload_again (payload.Reset a b c) rest ((fa, fb, fc), s) = again_three payload.Reset client_reads u64_reads u64_reads a b c rest fa fb fc
payload_again (payload.Opened a b) rest ((fa, fb), s) = again_two payload.Opened u64_reads u64_reads a b rest fa fb
payload_again (payload.Reply a b c d r) rest ((fa, fb, fc, fd, fr), s) = reply_payload_again a b c d r rest fa fb fc fd (fr, s)
payload_again (payload.Gap a b) rest ((fa, fb), s) = again_two payload.Gap u64_reads u64_reads a b rest fa fb
payload_again (payload.Answer a b l c d t i r) rest ((fa, fb, fc, fd, ft, fi, fr), s) =
    let tests = and_true (wire_spelling.reach_is_spelled l t i) (wire_spelling.reply_is_spelled r) s in
    let reaches = reaches_of l t i ft fi tests.0 in
    answer_again a b l c d t i r rest fa fb fc fd reaches.0 reaches.1 (fr, tests.1)
payload_again (payload.Batch a b c events) rest ((fa, fb, fc, fe), s) = batch_again a b c events rest fa fb fc (fe, s)
payload_again (payload.Ended a b h) rest ((fa, fb), s) = again_three payload.Ended u64_reads u64_reads how_reads a b h rest fa fb tt

append_reply_exact : IsExact wire_spelling.payload_bytes IsPayload (4 ∷ []) packets.append_reply_at
unfolding packets.append_reply_at
append_reply_exact = exact_bind _ u64_reads.exact (λ a f_a. exact_bind _ truth_reads.exact (λ b f_b. exact_bind _ u64_reads.exact (λ c f_c. exact_bind _ u64_reads.exact (λ d f_d. exact_ok (payload.AppendReply a b c d) refl ((f_a, f_c, f_d), refl)))))

append_reply_stable : IsStable packets.append_reply_at
unfolding packets.append_reply_at
append_reply_stable = stable_bind _ u64_reads.stable (λ a. stable_bind _ truth_reads.stable (λ b. stable_bind _ u64_reads.stable (λ c. stable_bind _ u64_reads.stable (λ d. stable_ok (payload.AppendReply a b c d)))))

reply_payload_exact : IsExact wire_spelling.payload_bytes IsPayload (13 ∷ []) packets.reply_payload_at
unfolding packets.reply_payload_at
reply_payload_exact = exact_bind _ u64_reads.exact (λ a f_a. exact_bind _ u64_reads.exact (λ b f_b. exact_bind _ u64_reads.exact (λ c f_c. exact_bind _ u64_reads.exact (λ d f_d. exact_bind _ reply_reads.exact (λ r f_r. exact_ok (payload.Reply a b c d r) refl ((f_a, f_b, f_c, f_d, f_r.0), f_r.1))))))

reply_payload_stable : IsStable packets.reply_payload_at
unfolding packets.reply_payload_at
reply_payload_stable = stable_bind _ u64_reads.stable (λ a. stable_bind _ u64_reads.stable (λ b. stable_bind _ u64_reads.stable (λ c. stable_bind _ u64_reads.stable (λ d. stable_bind _ reply_reads.stable (λ r. stable_ok (payload.Reply a b c d r))))))

query_payload_exact : IsExact wire_spelling.payload_bytes IsPayload (9 ∷ []) packets.query_payload_at
unfolding packets.query_payload_at
query_payload_exact = exact_bind _ client_reads.exact (λ a f_a. exact_bind _ u64_reads.exact (λ b f_b. exact_bind _ u64_reads.exact (λ c f_c. exact_bind _ level_reads.exact (λ l f_l. exact_bind _ u64_reads.exact (λ d f_d. exact_bind _ u64_reads.exact (λ e f_e. exact_bind _ name_reads.exact (λ n f_n. exact_bind _ query_reads.exact (λ q f_q. exact_ok (payload.Query a b c l d e n q) refl ((f_a, f_b, f_c, f_d, f_e, f_n, f_q), refl)))))))))

query_payload_stable : IsStable packets.query_payload_at
unfolding packets.query_payload_at
query_payload_stable = stable_bind _ client_reads.stable (λ a. stable_bind _ u64_reads.stable (λ b. stable_bind _ u64_reads.stable (λ c. stable_bind _ level_reads.stable (λ l. stable_bind _ u64_reads.stable (λ d. stable_bind _ u64_reads.stable (λ e. stable_bind _ name_reads.stable (λ n. stable_bind _ query_reads.stable (λ q. stable_ok (payload.Query a b c l d e n q)))))))))

batch_exact : IsExact wire_spelling.payload_bytes IsPayload (16 ∷ []) packets.batch_at
unfolding packets.batch_at
batch_exact = exact_bind _ u64_reads.exact (λ a f_a. exact_bind _ u64_reads.exact (λ b f_b. exact_bind _ u64_reads.exact (λ c f_c. exact_bind _ events_reads.exact (λ e f_e. exact_ok (payload.Batch a b c e) refl ((f_a, f_b, f_c, f_e.0), f_e.1)))))

batch_stable : IsStable packets.batch_at
unfolding packets.batch_at
batch_stable = stable_bind _ u64_reads.stable (λ a. stable_bind _ u64_reads.stable (λ b. stable_bind _ u64_reads.stable (λ c. stable_bind _ events_reads.stable (λ e. stable_ok (payload.Batch a b c e)))))

append_exact : IsExact wire_spelling.payload_bytes IsPayload (3 ∷ []) packets.append_at
unfolding packets.append_at
append_exact = exact_bind _ u64_reads.exact (λ a fa. exact_bind _ u64_reads.exact (λ b fb. exact_bind _ u64_reads.exact (λ c fc. exact_bind _ u64_reads.exact (λ d fd. exact_bind _ u64_reads.exact (λ e fe.
    exact_bind _ (small_reads 0 16 (omega arith)).exact (λ count fn. exact_bind _ (many_reads count entry_reads).exact (λ entries fs.
    exact_ok (payload.Append a b c d e entries) (append_spelled a b c d e count entries fs.0) ((fa, fb, fc, fd, fe, fs.1), le-leb _ _ (omega (arith, fs.0, fn.1))))))))))
  where
    append_spelled : (a b c d e count : ℕ) (entries : List Entry) → length entries ≡ count
        → (3 ∷ number_bytes.u64_bytes a) ++ number_bytes.u64_bytes b ++ number_bytes.u64_bytes c ++ number_bytes.u64_bytes d ++ number_bytes.u64_bytes e ++ (count ∷ []) ++ flat_map wire_spelling.entry_bytes entries ≡ wire_spelling.payload_bytes (payload.Append a b c d e entries)
    append_spelled a b c d e count entries is_count = rw (← is_count) (append_assoc ((3 ∷ number_bytes.u64_bytes a) ++ number_bytes.u64_bytes b ++ number_bytes.u64_bytes c ++ number_bytes.u64_bytes d ++ number_bytes.u64_bytes e) (length entries ∷ []) (flat_map wire_spelling.entry_bytes entries))

append_stable : IsStable packets.append_at
unfolding packets.append_at
append_stable = stable_bind _ u64_reads.stable (λ a. stable_bind _ u64_reads.stable (λ b. stable_bind _ u64_reads.stable (λ c. stable_bind _ u64_reads.stable (λ d. stable_bind _ u64_reads.stable (λ e.
    stable_bind _ (small_reads 0 16 (omega arith)).stable (λ count. stable_bind _ (many_reads count entry_reads).stable (λ entries. stable_ok (payload.Append a b c d e entries))))))))

answer_exact : IsExact wire_spelling.payload_bytes IsPayload (15 ∷ []) packets.answer_at
unfolding packets.answer_at
answer_exact = exact_bind _ u64_reads.exact (λ a fa. exact_bind _ u64_reads.exact (λ b fb. exact_bind _ level_reads.exact (λ l fl. exact_bind _ u64_reads.exact (λ c fc. exact_bind _ u64_reads.exact (λ d fd.
    exact_bind _ (reach_reads l).exact (λ t ft. exact_bind _ (reach_reads l).exact (λ i fi. exact_bind _ reply_reads.exact (λ r fr.
    let numbers = reach_numbers l t i ft fi in
    exact_ok (payload.Answer a b l c d t i r) refl ((fa, fb, fc, fd, numbers.0, numbers.1, fr.0), both (wire_spelling.reach_is_spelled l t i) (wire_spelling.reply_is_spelled r) numbers.2 fr.1)))))))))

answer_stable : IsStable packets.answer_at
unfolding packets.answer_at
answer_stable = stable_bind _ u64_reads.stable (λ a. stable_bind _ u64_reads.stable (λ b. stable_bind _ level_reads.stable (λ l. stable_bind _ u64_reads.stable (λ c. stable_bind _ u64_reads.stable (λ d.
    stable_bind _ (reach_reads l).stable (λ t. stable_bind _ (reach_reads l).stable (λ i. stable_bind _ reply_reads.stable (λ r. stable_ok (payload.Answer a b l c d t i r)))))))))

pub payload_reads : Reads packets.payload_at wire_spelling.payload_bytes IsPayload
unfolding packets.payload_at
payload_reads = record {
  again = payload_again;
  exact = exact_bind _ exact_byte (λ n fn.
      exact_tag n 1 (exact_three payload.Vote u64_reads u64_reads u64_reads (λ a b c. refl) (λ a b c fa fb fc. ((fa, fb, fc), refl))) (
      exact_tag n 2 (exact_two payload.VoteReply u64_reads truth_reads (λ a b. refl) (λ a b fa fb. (fa, refl))) (
      exact_tag n 3 append_exact (
      exact_tag n 4 append_reply_exact (
      exact_tag n 5 (exact_two payload.Register client_reads u64_reads (λ a b. refl) (λ a b fa fb. ((fa, fb), refl))) (
      exact_tag n 6 (exact_keep 6 payload.Keep (λ a b c d. refl) (λ a b c d fa fb fc fd. ((fa, fb, fc, fd), refl))) (
      exact_tag n 7 (exact_command 7 payload.Command (λ a b c d e. refl) (λ a b c d e fa fb fc fd fe. ((fa, fb, fc, fd, fe), refl))) (
      exact_tag n 8 (exact_two payload.Close client_reads u64_reads (λ a b. refl) (λ a b fa fb. ((fa, fb), refl))) (
      exact_tag n 9 query_payload_exact (
      exact_tag n 10 (exact_three payload.Connect client_reads u64_reads u64_reads (λ a b c. refl) (λ a b c fa fb fc. ((fa, fb, fc), refl))) (
      exact_tag n 11 (exact_three payload.Reset client_reads u64_reads u64_reads (λ a b c. refl) (λ a b c fa fb fc. ((fa, fb, fc), refl))) (
      exact_tag n 12 (exact_two payload.Opened u64_reads u64_reads (λ a b. refl) (λ a b fa fb. ((fa, fb), refl))) (
      exact_tag n 13 reply_payload_exact (
      exact_tag n 14 (exact_two payload.Gap u64_reads u64_reads (λ a b. refl) (λ a b fa fb. ((fa, fb), refl))) (
      exact_tag n 15 answer_exact (
      exact_tag n 16 batch_exact (
      exact_tag n 17 (exact_three payload.Ended u64_reads u64_reads how_reads (λ a b c. refl) (λ a b c fa fb fc. ((fa, fb), refl))) (
      exact_wrong))))))))))))))))));
  stable = stable_bind _ stable_byte (λ n.
      stable_if (nat_eq n 1) (stable_three payload.Vote u64_reads.stable u64_reads.stable u64_reads.stable) (
      stable_if (nat_eq n 2) (stable_two payload.VoteReply u64_reads.stable truth_reads.stable) (
      stable_if (nat_eq n 3) append_stable (
      stable_if (nat_eq n 4) append_reply_stable (
      stable_if (nat_eq n 5) (stable_two payload.Register client_reads.stable u64_reads.stable) (
      stable_if (nat_eq n 6) (stable_keep payload.Keep) (
      stable_if (nat_eq n 7) (stable_command payload.Command) (
      stable_if (nat_eq n 8) (stable_two payload.Close client_reads.stable u64_reads.stable) (
      stable_if (nat_eq n 9) query_payload_stable (
      stable_if (nat_eq n 10) (stable_three payload.Connect client_reads.stable u64_reads.stable u64_reads.stable) (
      stable_if (nat_eq n 11) (stable_three payload.Reset client_reads.stable u64_reads.stable u64_reads.stable) (
      stable_if (nat_eq n 12) (stable_two payload.Opened u64_reads.stable u64_reads.stable) (
      stable_if (nat_eq n 13) reply_payload_stable (
      stable_if (nat_eq n 14) (stable_two payload.Gap u64_reads.stable u64_reads.stable) (
      stable_if (nat_eq n 15) answer_stable (
      stable_if (nat_eq n 16) batch_stable (
      stable_if (nat_eq n 17) (stable_three payload.Ended u64_reads.stable u64_reads.stable how_reads.stable) (
      stable_wrong))))))))))))))))));
}
