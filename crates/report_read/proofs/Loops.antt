-- What a loop has read is a front of what is read of all, where each thing is read.
use Rattle.std.proofs.Common.{◌≡◌, ℕ, zero, suc, ◌+◌, ◌-◌, ◌≤◌, ◌<◌, List, [], ◌∷◌, ◌++◌, length, map, take, drop, get_or, drop-cons, refl, ap, sym, ◌∙◌, append_assoc, append-nil, arith}
use Rattle.std.specs.Prelude.{Option, Some, None, option_map}
use Rattle.serde_json.specs.Data.{Data}
use Rattle.serde_json.specs.View.{view, items_view}
use Rattle.serde_json.specs.declared.value.Value.{Value}
use Rattle.spec_text.specs.Words as text_words
use Rattle.ax_types.specs.declared.replies.Event.{Event}
use Rattle.spec_report_read.specs.ReplyWords as reply_words
use Rattle.spec_report_read.specs.ReportForm as report_form

drop-all : {T : Type 0} (xs : List T) (i : ℕ) → length xs ≤ i → drop i xs ≡ []
drop-all [] zero h = refl
drop-all [] (suc i) h = refl
drop-all (x ∷ xs) zero h = absurd (omega arith)
drop-all (x ∷ xs) (suc i) h = drop-all xs i (omega arith)

-- what is read, behind what is read already
abbrev pub behind_read : {T : Type 0} → List T → Option (List T) → Option (List T)
behind_read done more = option_map (λ xs. done ++ xs) more

more-read : {T : Type 0} (done : List T) (y : T) (more : Option (List T)) → behind_read done (text_words.both (λ x xs. x ∷ xs) (Some y) more) ≡ behind_read (done ++ y ∷ []) more
more-read done y None = refl
more-read done y (Some ys) = ap (λ zs. Some zs) (sym (append_assoc done (y ∷ []) ys))

none-read : {T : Type 0} (done : List T) (more : Option (List T)) → behind_read done (text_words.both (λ x xs. x ∷ xs) None more) ≡ None
none-read done more = refl

-- ---- the lines of an array

pub all-read : {T : Type 0} (f : ℕ → Data → Option T) (place i : ℕ) (vs : List Value) (done : List T) (whole : Option (List T)) → length vs ≤ i
    → whole ≡ behind_read done (report_form.each_in f place (items_view (drop i vs))) → Some done ≡ whole
all-read f place i vs done whole h e =
    sym (e ∙ ap (λ us. behind_read done (report_form.each_in f place (items_view us))) (drop-all vs i h) ∙ ap (λ xs. Some xs) (append-nil done))

pub line-read : {T : Type 0} (f : ℕ → Data → Option T) (place i : ℕ) (vs : List Value) (v : Value) (done : List T) (y : T) (whole : Option (List T)) → i < length vs
    → v ≡ get_or vs i v → Some y ≡ f place (view v) → whole ≡ behind_read done (report_form.each_in f place (items_view (drop i vs)))
    → whole ≡ behind_read (done ++ y ∷ []) (report_form.each_in f (place + 1) (items_view (drop (suc i) vs)))
line-read f place i vs v done y whole h is read e =
    e ∙ ap (λ us. behind_read done (report_form.each_in f place (items_view us))) (drop-cons vs i v h)
    ∙ ap (λ o. behind_read done (text_words.both (λ x xs. x ∷ xs) o (report_form.each_in f (place + 1) (items_view (drop (suc i) vs)))))
    (ap (λ u. f place (view u)) (sym is) ∙ sym read)
    ∙ more-read done y (report_form.each_in f (place + 1) (items_view (drop (suc i) vs)))

pub line-refused : {T : Type 0} (f : ℕ → Data → Option T) (place i : ℕ) (vs : List Value) (v : Value) (done : List T) (whole : Option (List T)) → i < length vs
    → v ≡ get_or vs i v → None ≡ f place (view v) → whole ≡ behind_read done (report_form.each_in f place (items_view (drop i vs))) → None ≡ whole
line-refused f place i vs v done whole h is read e =
    sym (e ∙ ap (λ us. behind_read done (report_form.each_in f place (items_view us))) (drop-cons vs i v h)
    ∙ ap (λ o. behind_read done (text_words.both (λ x xs. x ∷ xs) o (report_form.each_in f (place + 1) (items_view (drop (suc i) vs)))))
    (ap (λ u. f place (view u)) (sym is) ∙ sym read))

-- ---- events

pub event_read : (n : ℕ) (ws rest : List text_words.Word) (done : List Event) (e : Event) (whole : Option (List Event)) → 0 < n → Some e ≡ reply_words.first_event_from ws
    → rest ≡ reply_words.behind_event ws → whole ≡ behind_read done (reply_words.events_from n ws) → whole ≡ behind_read (done ++ e ∷ []) (reply_words.events_from (n - 1) rest)
event_read zero ws rest done e whole h read behind k = absurd (omega arith)
event_read (suc n) ws rest done e whole h read behind k =
    let less : n ≡ suc n - 1 = omega arith in
    k ∙ ap (λ o. behind_read done (text_words.both (λ x xs. x ∷ xs) o (reply_words.events_from n (reply_words.behind_event ws)))) (sym read)
    ∙ more-read done e (reply_words.events_from n (reply_words.behind_event ws))
    ∙ ap (λ us. behind_read (done ++ e ∷ []) (reply_words.events_from n us)) (sym behind)
    ∙ ap (λ m. behind_read (done ++ e ∷ []) (reply_words.events_from m rest)) less

-- a line at the index after
pub next_line_read : {T : Type 0} (f : ℕ → Data → Option T) (i : ℕ) (vs : List Value) (v : Value) (done : List T) (y : T) (whole : Option (List T)) → i < length vs
    → v ≡ get_or vs i v → Some y ≡ f (i + 1) (view v) → whole ≡ behind_read done (report_form.each_in f (i + 1) (items_view (drop i vs)))
    → whole ≡ behind_read (done ++ y ∷ []) (report_form.each_in f (i + 1 + 1) (items_view (drop (i + 1) vs)))
next_line_read f i vs v done y whole h is read e =
    let more : suc i ≡ i + 1 = omega arith in
    line-read f (i + 1) i vs v done y whole h is read e ∙ ap (λ j. behind_read (done ++ y ∷ []) (report_form.each_in f (i + 1 + 1) (items_view (drop j vs)))) more
