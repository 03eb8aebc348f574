-- A script that is taken is not too long, so nothing of its source is left.
use Rattle.std.proofs.Common.{◌≡◌, ℕ, ◌+◌, ◌≤◌, ◌<◌, Bool, true, false, cond, List, [], ◌∷◌, ◌++◌, length, take, drop, min, nat_lt, refl, ap, sym, subst, ◌∙◌, arith}
use Rattle.std.specs.Prelude.{⊤, Option, Some, None, IfSome, Result, Ok, Err, IsErrAnd}
use Rattle.std.specs.Option.{option_map}
use Rattle.std.specs.List.{slice_split}
use Rattle.std.proofs.lemmas.Bool.Decides.{nat_tests}
use Rattle.ax_types.specs.declared.scripts.Script.{Script}
use Rattle.ax_types.specs.declared.statuses.Why.{Why}
use Rattle.ax_types.specs.declared.statuses.Why.TheVariants as why
use Rattle.ax_io.specs.Content as ax_io_content
use Rattle.ax_io.proofs.Fronts.{length-first_bytes}
use Rattle.std.proofs.Math.ListN.{drop_of_length-le}
use Rattle.std.proofs.lemmas.List.{take-append-drop, append_cancel_left}
use Rattle.spec_text.specs.Words as text_words
use Rattle.spec_script.specs.Scripts as scripts
use Rattle.script_text.proofs.LineLemmas.{newline, is_empty-split}
use Rattle.run_top.specs.Answers as answers
use Rattle.run_top.specs.Judging as judging
use Rattle.run_top.specs.declared.refusals.Refused.{Refused}
use Rattle.run_top.specs.declared.refusals.Refused.TheVariants as refused
use Rattle.run_top.specs.SourceRests as source_rests
use Rattle.run_top.specs.Statuses as statuses
use Rattle.store_opening.specs.declared.opening.OpenRefused.{OpenRefused}
use Rattle.store_opening.specs.declared.opening.OpenRefused.TheVariants as open_refused

abbrev pub Refuses : {A E : Type 0} → Result A E → Type 0
Refuses (Ok x) = ⊥
Refuses (Err e) = ⊤

-- a line that holds the byte after the longest script is refused
limited : (long : Bool) (r : Result (Option scripts.Draft) Why) → Refuses (scripts.unless_refused (cond long (Some why.LineTooLong) (Some why.TooLong)) r)
limited true r = tt
limited false r = tt

past_limit : (l : List ℕ) (r : Result (Option scripts.Draft) Why) → Refuses (scripts.unless_refused (scripts.in_limits true l) r)
past_limit l r = limited (nat_lt 512 (length l)) r

abbrev pub skipped_at : Bool → List ℕ → Result (Option scripts.Draft) Why
skipped_at is_last l = cond is_last (Err why.Cluster) (scripts.unless_refused (scripts.in_limits true l) (Ok None))

past_skipped : (is_last : Bool) (l : List ℕ) → Refuses (skipped_at is_last l)
past_skipped true l = tt
past_skipped false l = past_limit l (Ok None)

past_cluster : (race : Bool) (number : ℕ) (is_last : Bool) (l : List ℕ) (d : Option scripts.Draft)
    → Refuses (scripts.after_cluster (record { race = race; number = number; is_last = is_last; is_past = true }) l d)
past_cluster race number is_last l None = tt
past_cluster race number is_last l (Some d) = past_limit l (Ok (Some (scripts.at_line number d)))

past_first : (race : Bool) (number : ℕ) (is_last skipped : Bool) (l : List ℕ) (d : Option scripts.Draft)
    → Refuses (cond skipped (skipped_at is_last l)
    (scripts.after_cluster (record { race = race; number = number; is_last = is_last; is_past = true }) l d))
past_first race number is_last true l d = past_skipped is_last l
past_first race number is_last false l d = past_cluster race number is_last l d

past_line : (race : Bool) (number : ℕ) (is_last : Bool) (l : List ℕ) (d : Option scripts.Draft)
    → Refuses (scripts.after_line (record { race = race; number = number; is_last = is_last; is_past = true }) l d)
past_line race number is_last l None = past_first race number is_last (scripts.is_skipped l) l (scripts.cluster_draft (text_words.words_of l))
past_line race number is_last l (Some d) = past_limit l (cond (scripts.is_skipped l) (Ok (Some (scripts.after_skipped number l d)))
    (scripts.or_refused why.Grammar (option_map (λ e. Some e) (scripts.after_words race number (text_words.words_of l) d))))

-- where one line is refused, or all that come after it, the script is
refused_here : (number : ℕ) (r : Result (Option scripts.Draft) Why) (next : Option scripts.Draft → Result Script scripts.Refusal) → Refuses r → Refuses (scripts.go_on number r next)
refused_here number (Err reason) next h = tt
refused_here number (Ok d) next h = absurd h

refused_later : (number : ℕ) (r : Result (Option scripts.Draft) Why) (next : Option scripts.Draft → Result Script scripts.Refusal) → ((d : Option scripts.Draft) → Refuses (next d)) → Refuses (scripts.go_on number r next)
refused_later number (Err reason) next h = tt
refused_later number (Ok d) next h = h d

past_lines : (race : Bool) (number : ℕ) (l : List ℕ) (more : List (List ℕ)) (d : Option scripts.Draft) → Refuses (scripts.read_lines race true (l ∷ more) number d)
past_lines race number l [] d =
    refused_here number (scripts.after_line (scripts.position_of race true number []) l d) (scripts.read_lines race true [] (number + 1)) (past_line race number true l d)
past_lines race number l (m ∷ more) d =
    refused_later number (scripts.after_line (scripts.position_of race true number (m ∷ more)) l d) (scripts.read_lines race true (m ∷ more) (number + 1))
    (λ e. past_lines race (number + 1) m more e)

past_split : (race : Bool) (lines : List (List ℕ)) → scripts.is_empty lines ≡ false → Refuses (scripts.read_lines race true lines 1 None)
past_split race [] h = cc
past_split race (l ∷ more) h = past_lines race 1 l more None

too_long : (race long : Bool) (bytes : List ℕ) → long ≡ true → Refuses (scripts.read_lines race long (slice_split newline (scripts.judged_bytes bytes)) 1 None)
too_long race true bytes h = past_split race (slice_split newline (scripts.judged_bytes bytes)) (is_empty-split (scripts.judged_bytes bytes))
too_long race false bytes h = cc

-- what is taken is no longer than the longest script
not_long : (bytes : List ℕ) (s : Script) (long : Bool) (r : Result Script scripts.Refusal) → (long ≡ true → Refuses r) → r ≡ Ok s → long ≡ false
not_long bytes s false r refused taken = refl
not_long bytes s true (Ok t) refused taken = absurd (refused refl)
not_long bytes s true (Err e) refused taken = cc

short_script : (bytes : List ℕ) (s : Script) → answers.judged bytes ≡ Ok s → length bytes ≤ 1048576
unfolding scripts.is_too_long scripts.longest_script
short_script bytes s taken =
    let short : nat_lt 1048576 (length bytes) ≡ false = not_long bytes s (scripts.is_too_long bytes) (scripts.read_script_of false bytes) (too_long false (scripts.is_too_long bytes) bytes) taken in
    grind (arith, nat_tests)

nothing_left : (content : List ℕ) → length content ≤ 1048577 → source_rests.rest_of content ≡ []
unfolding source_rests.rest_of
nothing_left content short = drop_of_length-le content short

-- what a reading leaves behind the bytes that it gave
behind : (bytes rest content : List ℕ) → content ≡ bytes ++ rest → bytes ≡ ax_io_content.first_bytes 1048577 content → rest ≡ source_rests.rest_of content
unfolding ax_io_content.first_bytes source_rests.rest_of
behind bytes rest content whole first = append_cancel_left (take 1048577 content) rest (drop 1048577 content)
    (ap (λ b. b ++ rest) (sym first) ∙ sym whole ∙ sym (take-append-drop 1048577 content))

abbrev pub inside : Option (List ℕ) → List ℕ
inside None = []
inside (Some content) = content

pub reads_rest : (before now : Option (List ℕ)) (bytes : List ℕ) → ax_io_content.ReadsFirst before now 1048577 bytes → now ≡ source_rests.script_rest before
reads_rest None None bytes read = refl
reads_rest None (Some rest) bytes read = let moved = read.moved in cc
reads_rest (Some content) None bytes read = let moved = read.moved in cc
reads_rest (Some content) (Some rest) bytes read = ap Some (behind bytes rest content (ap inside read.moved) read.first)

-- so few bytes were read that they are all
all_read : (bytes content : List ℕ) → bytes ≡ ax_io_content.first_bytes 1048577 content → length bytes ≤ 1048576 → source_rests.rest_of content ≡ []
all_read bytes content first short =
    let count : length bytes ≡ min 1048577 (length content) = ap length first ∙ length-first_bytes 1048577 content in
    nothing_left content (omega (arith, short, count))

read_out : (before : Option (List ℕ)) (bytes : List ℕ) → IfSome before (λ content. bytes ≡ ax_io_content.first_bytes 1048577 content) → length bytes ≤ 1048576
    → source_rests.IsReadOut (source_rests.script_rest before)
read_out None bytes first short = tt
read_out (Some content) bytes first short = all_read bytes content first short

-- nothing is left of a source whose script was taken
pub taken_leaves : (before now : Option (List ℕ)) (bytes : List ℕ) (s : Script) → ax_io_content.ReadsFirst before now 1048577 bytes → answers.judged bytes ≡ Ok s
    → (now ≡ source_rests.script_rest before) × source_rests.IsReadOut now
taken_leaves before now bytes s read taken =
    let left = reads_rest before now bytes read in
    (left, subst source_rests.IsReadOut (sym left) (read_out before bytes read.first (short_script bytes s taken)))

-- where memory was wanted behind the reading, its bytes are the front that is lost
pub read_loses : (before now : Option (List ℕ)) (bytes : List ℕ) → ax_io_content.ReadsFirst before now 1048577 bytes → ax_io_content.LosesFront before now
read_loses before now bytes read = record { lost = bytes; moved = read.moved }

-- what a script that is refused leaves
refused_leaves : (A : Type 0) (before now : Option (List ℕ)) (bytes : List ℕ) (meant : Result (Script) scripts.Refusal) (e : Refused)
    → ax_io_content.ReadsFirst before now 1048577 bytes → judging.Judges meant (Err e) → source_rests.LeavesInput {A = A} before now (Err e)
refused_leaves A before now bytes meant refused.Usage read h = absurd h
refused_leaves A before now bytes meant (refused.Script line why) read h = reads_rest before now bytes read
refused_leaves A before now bytes meant refused.ReadFault read h = absurd h
refused_leaves A before now bytes meant (refused.StoreNotEmpty node) read h = absurd h
refused_leaves A before now bytes meant (refused.StoreFault node) read h = absurd h
refused_leaves A before now bytes meant refused.NoMemory read h = read_loses before now bytes read

pub refused_leaves_as : {A : Type 0} (before now : Option (List ℕ)) (bytes : List ℕ) (meant : Result (Script) scripts.Refusal) (e : Refused) (r : Result A Refused)
    → ax_io_content.ReadsFirst before now 1048577 bytes → judging.Judges meant (Err e) → IsErrAnd r (λ x. x ≡ e) → source_rests.LeavesInput before now r
refused_leaves_as before now bytes meant e (Ok x) read h is = absurd is
refused_leaves_as {A} before now bytes meant e (Err x) read h is =
    subst (λ (y : Refused). source_rests.LeavesInput {A = A} before now (Err y)) (sym is) (refused_leaves A before now bytes meant e read h)

-- a script was taken, and its stores were not opened, or memory was wanting
opening_leaves : (A : Type 0) (before now : Option (List ℕ)) (bytes : List ℕ) (s : Script) (e : OpenRefused)
    → ax_io_content.ReadsFirst before now 1048577 bytes → answers.judged bytes ≡ Ok s → source_rests.LeavesInput {A = A} before now (Err (statuses.of_opening e))
opening_leaves A before now bytes s (open_refused.NotEmpty node) read taken = taken_leaves before now bytes s read taken
opening_leaves A before now bytes s (open_refused.Fault node) read taken = taken_leaves before now bytes s read taken
opening_leaves A before now bytes s open_refused.NoMemory read taken = read_loses before now bytes read

pub opening_leaves_as : {A : Type 0} (before now : Option (List ℕ)) (bytes : List ℕ) (s : Script) (e : OpenRefused) (r : Result A Refused)
    → ax_io_content.ReadsFirst before now 1048577 bytes → answers.judged bytes ≡ Ok s → IsErrAnd r (λ x. x ≡ statuses.of_opening e) → source_rests.LeavesInput before now r
opening_leaves_as before now bytes s e (Ok x) read taken is = absurd is
opening_leaves_as {A} before now bytes s e (Err x) read taken is =
    subst (λ (y : Refused). source_rests.LeavesInput {A = A} before now (Err y)) (sym is) (opening_leaves A before now bytes s e read taken)
