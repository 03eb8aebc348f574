-- The readers of replies and events read what is spelled, and nothing else.
use Rattle.std.proofs.Common.{◌≡◌, ℕ, ◌<◌, List, ◌++◌, length, Ok, refl, append_assoc, nat_eq, arith}
use Rattle.std.specs.Prelude.{◌^◌, IsTrue}
use Rattle.std.specs.List.{flat_map, AllByRecursion}
use Rattle.std.proofs.lemmas.Bool.{ltb-true, lt-ltb}
use Rattle.ax_types.specs.declared.replies.Reply.{Reply}
use Rattle.ax_types.specs.declared.replies.Reply.TheVariants as reply
use Rattle.ax_types.specs.declared.replies.Event.{Event}
use Rattle.ax_types.specs.declared.replies.Event.TheVariants as event
use Rattle.spec_wire.specs.NumberBytes as number_bytes
use Rattle.spec_wire.specs.Ranges as ranges
use Rattle.spec_wire.specs.OperationBytes as operation_bytes
use Rattle.spec_wire.specs.Spelling as wire_spelling
use Rattle.spec_reading.specs.ReadReplies as read_replies
use Rattle.law_reading.proofs.Readers.{Reads, exact_bind, exact_ok, exact_as, exact_wrong, exact_tag, exact_byte, exact_one, exact_two, exact_three, stable_bind, stable_ok, stable_wrong, stable_if, stable_byte, stable_one, stable_two, stable_three, again_one, again_two, again_three, many_reads}
use Rattle.law_reading.proofs.Fields.{name_reads, text_reads, i64_reads, u64_reads, u32_reads}

-- a reply has a spelling
abbrev pub IsReply : Reply → Type 0
IsReply x = ranges.FitsReply x × IsTrue (wire_spelling.reply_is_spelled x)

abbrev AreMembers : List ℕ → Type 0
AreMembers sessions = AllByRecursion ranges.IsNumber sessions × (length sessions < 2 ^ 32)

members_reads : Reads read_replies.members_at operation_bytes.members_bytes AreMembers
unfolding read_replies.members_at
members_reads = record {
  again = λ sessions rest fits.
      rw (append_assoc (number_bytes.u32_bytes (length sessions)) (flat_map number_bytes.u64_bytes sessions) rest, u32_reads.again (length sessions) (flat_map number_bytes.u64_bytes sessions ++ rest) fits.1)
      ((many_reads (length sessions) u64_reads).again sessions rest (refl, fits.0));
  exact = exact_bind _ u32_reads.exact (λ count fc. exact_as (many_reads count u64_reads).exact
      (λ sessions fs. (rw fs.0 refl, (fs.1, omega (arith, fs.0, fc)))));
  stable = stable_bind _ u32_reads.stable (λ count. (many_reads count u64_reads).stable);
}

event_again : (x : Event) (rest : List ℕ) → ranges.FitsEvent x → read_replies.event_at (operation_bytes.event_bytes x ++ rest) ≡ Ok (x, rest)
unfolding read_replies.event_at
event_again (event.Changed a b c) rest (fa, fb, fc) = again_three event.Changed name_reads name_reads text_reads a b c rest fa fb fc
event_again (event.Removed a b) rest (fa, fb) = again_two event.Removed name_reads name_reads a b rest fa fb
event_again (event.Set a b) rest (fa, fb) = again_two event.Set name_reads text_reads a b rest fa fb
event_again (event.Cleared a) rest fa = again_one event.Cleared name_reads a rest fa
event_again (event.Granted a b) rest (fa, fb) = again_two event.Granted name_reads u64_reads a b rest fa fb
event_again (event.Joined a b) rest (fa, fb) = again_two event.Joined name_reads u64_reads a b rest fa fb
event_again (event.Left a b) rest (fa, fb) = again_two event.Left name_reads u64_reads a b rest fa fb
event_again (event.Elected a b c) rest (fa, fb, fc) = again_three event.Elected name_reads u64_reads u64_reads a b c rest fa fb fc
event_again (event.Message a b) rest (fa, fb) = again_two event.Message name_reads text_reads a b rest fa fb

pub event_reads : Reads read_replies.event_at operation_bytes.event_bytes ranges.FitsEvent
unfolding read_replies.event_at
event_reads = record {
  again = event_again;
  exact = exact_bind _ exact_byte (λ n fn.
      exact_tag n 1 (exact_three event.Changed name_reads name_reads text_reads (λ a b c. refl) (λ a b c fa fb fc. (fa, fb, fc))) (
      exact_tag n 2 (exact_two event.Removed name_reads name_reads (λ a b. refl) (λ a b fa fb. (fa, fb))) (
      exact_tag n 3 (exact_two event.Set name_reads text_reads (λ a b. refl) (λ a b fa fb. (fa, fb))) (
      exact_tag n 4 (exact_one event.Cleared name_reads (λ a. refl) (λ a fa. fa)) (
      exact_tag n 5 (exact_two event.Granted name_reads u64_reads (λ a b. refl) (λ a b fa fb. (fa, fb))) (
      exact_tag n 6 (exact_two event.Joined name_reads u64_reads (λ a b. refl) (λ a b fa fb. (fa, fb))) (
      exact_tag n 7 (exact_two event.Left name_reads u64_reads (λ a b. refl) (λ a b fa fb. (fa, fb))) (
      exact_tag n 8 (exact_three event.Elected name_reads u64_reads u64_reads (λ a b c. refl) (λ a b c fa fb fc. (fa, fb, fc))) (
      exact_tag n 9 (exact_two event.Message name_reads text_reads (λ a b. refl) (λ a b fa fb. (fa, fb))) (
      exact_wrong))))))))));
  stable = stable_bind _ stable_byte (λ n.
      stable_if (nat_eq n 1) (stable_three event.Changed name_reads.stable name_reads.stable text_reads.stable) (
      stable_if (nat_eq n 2) (stable_two event.Removed name_reads.stable name_reads.stable) (
      stable_if (nat_eq n 3) (stable_two event.Set name_reads.stable text_reads.stable) (
      stable_if (nat_eq n 4) (stable_one event.Cleared name_reads.stable) (
      stable_if (nat_eq n 5) (stable_two event.Granted name_reads.stable u64_reads.stable) (
      stable_if (nat_eq n 6) (stable_two event.Joined name_reads.stable u64_reads.stable) (
      stable_if (nat_eq n 7) (stable_two event.Left name_reads.stable u64_reads.stable) (
      stable_if (nat_eq n 8) (stable_three event.Elected name_reads.stable u64_reads.stable u64_reads.stable) (
      stable_if (nat_eq n 9) (stable_two event.Message name_reads.stable text_reads.stable) (
      stable_wrong))))))))));
}

reply_again : (x : Reply) (rest : List ℕ) → IsReply x → read_replies.reply_at (operation_bytes.reply_bytes x ++ rest) ≡ Ok (x, rest)
unfolding read_replies.reply_at
reply_again reply.Done rest fits = refl
reply_again reply.Nothing rest fits = refl
reply_again (reply.Found a) rest fits = again_one reply.Found text_reads a rest fits.0
reply_again reply.Yes rest fits = refl
reply_again reply.No rest fits = refl
reply_again (reply.Number a) rest fits = again_one reply.Number i64_reads a rest fits.0
reply_again (reply.Fence a) rest fits = again_one reply.Fence u64_reads a rest fits.0
reply_again (reply.Holder a b) rest fits = again_two reply.Holder u64_reads u64_reads a b rest fits.0.0 fits.0.1
reply_again (reply.Leader a b) rest fits = again_two reply.Leader u64_reads u64_reads a b rest fits.0.0 fits.0.1
reply_again (reply.Members a) rest fits = again_one reply.Members members_reads a rest (fits.0, ltb-true _ _ fits.1)
reply_again reply.Busy rest fits = refl
reply_again reply.Already rest fits = refl
reply_again reply.NotHolder rest fits = refl
reply_again reply.NotMember rest fits = refl
reply_again reply.Overflow rest fits = refl
reply_again reply.Full rest fits = refl
reply_again reply.WrongKind rest fits = refl

pub reply_reads : Reads read_replies.reply_at operation_bytes.reply_bytes IsReply
unfolding read_replies.reply_at
reply_reads = record {
  again = reply_again;
  exact = exact_bind _ exact_byte (λ n fn.
      exact_tag n 0 (exact_ok reply.Done refl (tt, refl)) (
      exact_tag n 1 (exact_ok reply.Nothing refl (tt, refl)) (
      exact_tag n 2 (exact_one reply.Found text_reads (λ a. refl) (λ a fa. (fa, refl))) (
      exact_tag n 3 (exact_ok reply.Yes refl (tt, refl)) (
      exact_tag n 4 (exact_ok reply.No refl (tt, refl)) (
      exact_tag n 5 (exact_one reply.Number i64_reads (λ a. refl) (λ a fa. (fa, refl))) (
      exact_tag n 6 (exact_one reply.Fence u64_reads (λ a. refl) (λ a fa. (fa, refl))) (
      exact_tag n 7 (exact_two reply.Holder u64_reads u64_reads (λ a b. refl) (λ a b fa fb. ((fa, fb), refl))) (
      exact_tag n 8 (exact_two reply.Leader u64_reads u64_reads (λ a b. refl) (λ a b fa fb. ((fa, fb), refl))) (
      exact_tag n 9 (exact_one reply.Members members_reads (λ a. refl) (λ a fa. (fa.0, lt-ltb _ _ fa.1))) (
      exact_tag n 10 (exact_ok reply.Busy refl (tt, refl)) (
      exact_tag n 11 (exact_ok reply.Already refl (tt, refl)) (
      exact_tag n 12 (exact_ok reply.NotHolder refl (tt, refl)) (
      exact_tag n 13 (exact_ok reply.NotMember refl (tt, refl)) (
      exact_tag n 14 (exact_ok reply.Overflow refl (tt, refl)) (
      exact_tag n 15 (exact_ok reply.Full refl (tt, refl)) (
      exact_tag n 16 (exact_ok reply.WrongKind refl (tt, refl)) (
      exact_wrong))))))))))))))))));
  stable = stable_bind _ stable_byte (λ n.
      stable_if (nat_eq n 0) (stable_ok reply.Done) (
      stable_if (nat_eq n 1) (stable_ok reply.Nothing) (
      stable_if (nat_eq n 2) (stable_one reply.Found text_reads.stable) (
      stable_if (nat_eq n 3) (stable_ok reply.Yes) (
      stable_if (nat_eq n 4) (stable_ok reply.No) (
      stable_if (nat_eq n 5) (stable_one reply.Number i64_reads.stable) (
      stable_if (nat_eq n 6) (stable_one reply.Fence u64_reads.stable) (
      stable_if (nat_eq n 7) (stable_two reply.Holder u64_reads.stable u64_reads.stable) (
      stable_if (nat_eq n 8) (stable_two reply.Leader u64_reads.stable u64_reads.stable) (
      stable_if (nat_eq n 9) (stable_one reply.Members members_reads.stable) (
      stable_if (nat_eq n 10) (stable_ok reply.Busy) (
      stable_if (nat_eq n 11) (stable_ok reply.Already) (
      stable_if (nat_eq n 12) (stable_ok reply.NotHolder) (
      stable_if (nat_eq n 13) (stable_ok reply.NotMember) (
      stable_if (nat_eq n 14) (stable_ok reply.Overflow) (
      stable_if (nat_eq n 15) (stable_ok reply.Full) (
      stable_if (nat_eq n 16) (stable_ok reply.WrongKind) (
      stable_wrong))))))))))))))))));
}
