-- The readers of entries and payloads read what is spelled, and nothing else.
use Rattle.std.proofs.Common.{◌≡◌, ℕ, List, [], ◌∷◌, ◌++◌, Ok, refl, ap, append_assoc, nat_eq, ◌∙◌}
use Rattle.ax_types.specs.declared.entries.Body.{Body}
use Rattle.ax_types.specs.declared.entries.Body.TheVariants as body
use Rattle.ax_types.specs.declared.entries.Entry.{Entry}
use Rattle.ax_types.specs.declared.ops.Op.{Op}
use Rattle.spec_wire.specs.NumberBytes as number_bytes
use Rattle.spec_wire.specs.Ranges as ranges
use Rattle.spec_wire.specs.OperationBytes as operation_bytes
use Rattle.spec_wire.specs.Spelling as spelling
use Rattle.spec_reading.specs.Packets as packets
use Rattle.law_reading.proofs.Readers.{Reads, IsStable, IsExact, exact_bind, exact_ok, exact_wrong, exact_tag, exact_byte, exact_one, exact_two, stable_bind, stable_ok, stable_wrong, stable_if, stable_byte, stable_one, stable_two, again_one, again_two, again_bind}
use Rattle.law_reading.proofs.Fields.{name_reads, u64_reads, client_reads}
use Rattle.law_reading.proofs.Operations.{op_reads}

-- ---- fields that bodies and payloads share

abbrev spelled_command : ℕ → ℕ → ℕ → ℕ → List ℕ → Op → List ℕ
spelled_command number client session seq name op =
    number ∷ client ∷ number_bytes.u64_bytes session ++ number_bytes.u64_bytes seq ++ number_bytes.counted_bytes name ++ operation_bytes.op_bytes op

abbrev spelled_keep : ℕ → ℕ → ℕ → ℕ → ℕ → List ℕ
spelled_keep number client session answered heard =
    number ∷ client ∷ number_bytes.u64_bytes session ++ number_bytes.u64_bytes answered ++ number_bytes.u64_bytes heard

pub again_command : {V : Type 0} (make : ℕ → ℕ → ℕ → List ℕ → Op → V) (client session seq : ℕ) (name : List ℕ) (op : Op) (rest : List ℕ)
    → ranges.IsClient client → ranges.IsNumber session → ranges.IsNumber seq → ranges.IsName name → ranges.FitsOp op
    → packets.command_fields make ((client ∷ []) ++ number_bytes.u64_bytes session ++ number_bytes.u64_bytes seq ++ number_bytes.counted_bytes name ++ operation_bytes.op_bytes op ++ rest) ≡ Ok (make client session seq name op, rest)
again_command make client session seq name op rest f_client f_session f_seq f_name f_op =
    let flat : number_bytes.u64_bytes session ++ number_bytes.u64_bytes seq ++ number_bytes.counted_bytes name ++ operation_bytes.op_bytes op ++ rest ≡ number_bytes.u64_bytes session ++ (number_bytes.u64_bytes seq ++ (number_bytes.counted_bytes name ++ (operation_bytes.op_bytes op ++ rest))) = simp append_assoc in
    ap (λ (t : List ℕ). packets.command_fields make (client ∷ t)) flat
    ∙ again_bind _ client _ _ client_reads f_client ((again_bind _ session _ _ u64_reads f_session (again_bind _ seq _ _ u64_reads f_seq (again_bind _ name _ _ name_reads f_name (again_bind _ op _ _ op_reads f_op refl)))))

pub again_keep : {V : Type 0} (make : ℕ → ℕ → ℕ → ℕ → V) (client session answered heard : ℕ) (rest : List ℕ)
    → ranges.IsClient client → ranges.IsNumber session → ranges.IsNumber answered → ranges.IsNumber heard
    → packets.keep_fields make ((client ∷ []) ++ number_bytes.u64_bytes session ++ number_bytes.u64_bytes answered ++ number_bytes.u64_bytes heard ++ rest) ≡ Ok (make client session answered heard, rest)
again_keep make client session answered heard rest f_client f_session f_answered f_heard =
    let flat : number_bytes.u64_bytes session ++ number_bytes.u64_bytes answered ++ number_bytes.u64_bytes heard ++ rest ≡ number_bytes.u64_bytes session ++ (number_bytes.u64_bytes answered ++ (number_bytes.u64_bytes heard ++ rest)) = simp append_assoc in
    ap (λ (t : List ℕ). packets.keep_fields make (client ∷ t)) flat
    ∙ again_bind _ client _ _ client_reads f_client ((again_bind _ session _ _ u64_reads f_session (again_bind _ answered _ _ u64_reads f_answered (again_bind _ heard _ _ u64_reads f_heard refl))))

pub exact_command : {V : Type 0} {write : V → List ℕ} {Fits : V → Type 0} (number : ℕ) (make : ℕ → ℕ → ℕ → List ℕ → Op → V)
    → ((client session seq : ℕ) (name : List ℕ) (op : Op) → spelled_command number client session seq name op ≡ write (make client session seq name op))
    → ((client session seq : ℕ) (name : List ℕ) (op : Op) → ranges.IsClient client → ranges.IsNumber session → ranges.IsNumber seq → ranges.IsName name → ranges.FitsOp op → Fits (make client session seq name op))
    → IsExact write Fits (number ∷ []) (packets.command_fields make)
exact_command number make same fits =
    exact_bind _ client_reads.exact (λ client f_client. exact_bind _ u64_reads.exact (λ session f_session. exact_bind _ u64_reads.exact (λ seq f_seq. exact_bind _ name_reads.exact (λ name f_name. exact_bind _ op_reads.exact (λ op f_op. exact_ok (make client session seq name op) (same client session seq name op) (fits client session seq name op f_client f_session f_seq f_name f_op))))))

pub exact_keep : {V : Type 0} {write : V → List ℕ} {Fits : V → Type 0} (number : ℕ) (make : ℕ → ℕ → ℕ → ℕ → V)
    → ((client session answered heard : ℕ) → spelled_keep number client session answered heard ≡ write (make client session answered heard))
    → ((client session answered heard : ℕ) → ranges.IsClient client → ranges.IsNumber session → ranges.IsNumber answered → ranges.IsNumber heard → Fits (make client session answered heard))
    → IsExact write Fits (number ∷ []) (packets.keep_fields make)
exact_keep number make same fits =
    exact_bind _ client_reads.exact (λ client f_client. exact_bind _ u64_reads.exact (λ session f_session. exact_bind _ u64_reads.exact (λ answered f_answered. exact_bind _ u64_reads.exact (λ heard f_heard. exact_ok (make client session answered heard) (same client session answered heard) (fits client session answered heard f_client f_session f_answered f_heard)))))

pub stable_command : {V : Type 0} (make : ℕ → ℕ → ℕ → List ℕ → Op → V) → IsStable (packets.command_fields make)
stable_command make = stable_bind _ client_reads.stable (λ client. stable_bind _ u64_reads.stable (λ session. stable_bind _ u64_reads.stable (λ seq. stable_bind _ name_reads.stable (λ name. stable_bind _ op_reads.stable (λ op. stable_ok (make client session seq name op))))))

pub stable_keep : {V : Type 0} (make : ℕ → ℕ → ℕ → ℕ → V) → IsStable (packets.keep_fields make)
stable_keep make = stable_bind _ client_reads.stable (λ client. stable_bind _ u64_reads.stable (λ session. stable_bind _ u64_reads.stable (λ answered. stable_bind _ u64_reads.stable (λ heard. stable_ok (make client session answered heard)))))

-- ---- bodies and entries

body_again : (x : Body) (rest : List ℕ) → ranges.FitsBody x → packets.body_at (spelling.body_bytes x ++ rest) ≡ Ok (x, rest)
unfolding packets.body_at
body_again body.Blank rest fits = refl
body_again (body.Register client opening) rest (fc, fo) = again_two body.Register client_reads u64_reads client opening rest fc fo
body_again (body.Keep client session answered heard) rest (fc, fs, fa, fh) = again_keep body.Keep client session answered heard rest fc fs fa fh
body_again (body.Command client session seq name op) rest (fc, fs, fq, fn, fo) = again_command body.Command client session seq name op rest fc fs fq fn fo
body_again (body.Close client session) rest (fc, fs) = again_two body.Close client_reads u64_reads client session rest fc fs
body_again (body.Expire session) rest fs = again_one body.Expire u64_reads session rest fs

pub body_reads : Reads packets.body_at spelling.body_bytes ranges.FitsBody
unfolding packets.body_at
body_reads = record {
  again = body_again;
  exact = exact_bind _ exact_byte (λ n fn.
      exact_tag n 0 (exact_ok body.Blank refl tt) (
      exact_tag n 1 (exact_two body.Register client_reads u64_reads (λ a b. refl) (λ a b fa fb. (fa, fb))) (
      exact_tag n 2 (exact_keep 2 body.Keep (λ a b c d. refl) (λ a b c d fa fb fc fd. (fa, fb, fc, fd))) (
      exact_tag n 3 (exact_command 3 body.Command (λ a b c d e. refl) (λ a b c d e fa fb fc fd fe. (fa, fb, fc, fd, fe))) (
      exact_tag n 4 (exact_two body.Close client_reads u64_reads (λ a b. refl) (λ a b fa fb. (fa, fb))) (
      exact_tag n 5 (exact_one body.Expire u64_reads (λ a. refl) (λ a fa. fa))
      exact_wrong))))));
  stable = stable_bind _ stable_byte (λ n.
      stable_if (nat_eq n 0) (stable_ok body.Blank) (
      stable_if (nat_eq n 1) (stable_two body.Register client_reads.stable u64_reads.stable) (
      stable_if (nat_eq n 2) (stable_keep body.Keep) (
      stable_if (nat_eq n 3) (stable_command body.Command) (
      stable_if (nat_eq n 4) (stable_two body.Close client_reads.stable u64_reads.stable) (
      stable_if (nat_eq n 5) (stable_one body.Expire u64_reads.stable)
      stable_wrong))))));
}

abbrev make_entry : ℕ → ℕ → Body → Entry
make_entry term time body = record { term = term; time = time; body = body }

entry_again : (x : Entry) (rest : List ℕ) → ranges.FitsEntry x → packets.entry_at (spelling.entry_bytes x ++ rest) ≡ Ok (x, rest)
unfolding packets.entry_at
entry_again x rest fits = simp append_assoc
    (again_bind _ x.term _ _ u64_reads fits.term (again_bind _ x.time _ _ u64_reads fits.time (again_bind _ x.body _ _ body_reads fits.body refl)))

pub entry_reads : Reads packets.entry_at spelling.entry_bytes ranges.FitsEntry
unfolding packets.entry_at
entry_reads = record {
  again = entry_again;
  exact = exact_bind _ u64_reads.exact (λ term ft. exact_bind _ u64_reads.exact (λ time fi. exact_bind _ body_reads.exact (λ body fb.
      exact_ok (make_entry term time body) refl (record { term = ft; time = fi; body = fb }))));
  stable = stable_bind _ u64_reads.stable (λ term. stable_bind _ u64_reads.stable (λ time. stable_bind _ body_reads.stable (λ body. stable_ok (make_entry term time body))));
}
