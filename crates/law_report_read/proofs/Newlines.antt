-- A newline behind a printed JSON text changes none of its tokens.
use Rattle.std.proofs.Common.{◌≡◌, ℕ, Bool, true, false, cond, ◌&&◌, List, [], ◌∷◌, ◌++◌, refl, sym, ap, ap₂, ◌∙◌, append_assoc}
use Rattle.json.specs.Token.{Token, begin_object, end_object, begin_array, end_array, key, string, number, boolean, null, bad}
use Rattle.json.specs.Word.{ends_word, word}
use Rattle.json.specs.Lex.{Lexeme, token, comma, colon, string_token, lex, between, fresh, punctuate, tokens}
use Rattle.json.specs.Print.{escape, quoted, token_text, begins, ends, print_from, print, IsPrintable, ArePrintable}
use Rattle.json.proofs.Printed.Strings.{content-escape, lex-escape}
use Rattle.json.proofs.Printed.Numbers.{lex-number, in_word-ended}

-- a newline
abbrev nl : List ℕ
nl = 10 ∷ []

abbrev lexemes_of : Token → List Lexeme
lexemes_of begin_object = token begin_object ∷ []
lexemes_of end_object = token end_object ∷ []
lexemes_of begin_array = token begin_array ∷ []
lexemes_of end_array = token end_array ∷ []
lexemes_of (key s) = token (string s) ∷ colon ∷ []
lexemes_of (string s) = token (string s) ∷ []
lexemes_of (number s) = token (number s) ∷ []
lexemes_of (boolean b) = token (boolean b) ∷ []
lexemes_of null = token null ∷ []
lexemes_of bad = []

-- after a value stands a comma, a closing bracket or the newline
after_value_ends : (ts : List Token) → ends_word (print_from true ts ++ nl) ≡ true
unfolding print_from
after_value_ends [] = refl
after_value_ends (begin_object ∷ ts) = refl
after_value_ends (end_object ∷ ts) = refl
after_value_ends (begin_array ∷ ts) = refl
after_value_ends (end_array ∷ ts) = refl
after_value_ends (key s ∷ ts) = refl
after_value_ends (string s ∷ ts) = refl
after_value_ends (number s ∷ ts) = refl
after_value_ends (boolean b ∷ ts) = refl
after_value_ends (null ∷ ts) = refl
after_value_ends (bad ∷ ts) = refl

after_value_ends_bare : (ts : List Token) → ends_word (print_from true ts) ≡ true
unfolding print_from
after_value_ends_bare [] = refl
after_value_ends_bare (begin_object ∷ ts) = refl
after_value_ends_bare (end_object ∷ ts) = refl
after_value_ends_bare (begin_array ∷ ts) = refl
after_value_ends_bare (end_array ∷ ts) = refl
after_value_ends_bare (key s ∷ ts) = refl
after_value_ends_bare (string s ∷ ts) = refl
after_value_ends_bare (number s ∷ ts) = refl
after_value_ends_bare (boolean b ∷ ts) = refl
after_value_ends_bare (null ∷ ts) = refl
after_value_ends_bare (bad ∷ ts) = refl

lex-quoted : (s r : List ℕ) → lex between (quoted s ++ r) ≡ token (string s) ∷ lex between r
unfolding lex
lex-quoted s r =
    let e = append_assoc (escape s) (34 ∷ []) r in
    ap (λ l. lex between (34 ∷ l)) e ∙ ap₂ (λ o l. token (string_token o) ∷ l) (content-escape s r) (lex-escape s r)

lex-token_text : (t : Token) (r : List ℕ) → IsPrintable t → (ends t ≡ true → ends_word r ≡ true) → lex between (token_text t ++ r) ≡ lexemes_of t ++ lex between r
unfolding lex word
lex-token_text begin_object r h ended = refl
lex-token_text end_object r h ended = refl
lex-token_text begin_array r h ended = refl
lex-token_text end_array r h ended = refl
lex-token_text (key s) r h ended = ap (lex between) (append_assoc (quoted s) (58 ∷ []) r) ∙ lex-quoted s (58 ∷ r)
lex-token_text (string s) r h ended = lex-quoted s r
lex-token_text (number s) r h ended = lex-number s r h (ended refl)
lex-token_text (boolean true) r h ended = ap₂ (λ b l. token (cond b (boolean true) bad) ∷ l) (ended refl) (in_word-ended r (ended refl))
lex-token_text (boolean false) r h ended = ap₂ (λ b l. token (cond b (boolean false) bad) ∷ l) (ended refl) (in_word-ended r (ended refl))
lex-token_text null r h ended = ap₂ (λ b l. token (cond b null bad) ∷ l) (ended refl) (in_word-ended r (ended refl))
lex-token_text bad r h ended = absurd h

lex-comma : (b : Bool) (r : List ℕ) → lex between (cond b (44 ∷ []) [] ++ r) ≡ cond b (comma ∷ []) [] ++ lex between r
unfolding lex
lex-comma true r = refl
lex-comma false r = refl

-- one token, and what stands behind it
lex-step : (c : Bool) (t : Token) (r : List ℕ) → IsPrintable t → (ends t ≡ true → ends_word r ≡ true)
    → lex between (cond (c && begins t) (44 ∷ []) [] ++ (token_text t ++ r)) ≡ cond (c && begins t) (comma ∷ []) [] ++ (lexemes_of t ++ lex between r)
lex-step c t r h ended = lex-comma (c && begins t) (token_text t ++ r) ∙ ap (λ l. cond (c && begins t) (comma ∷ []) [] ++ l) (lex-token_text t r h ended)

regroup : (a b c d : List ℕ) → (a ++ (b ++ c)) ++ d ≡ a ++ (b ++ (c ++ d))
regroup a b c d = simp append_assoc

lex-newline : (c : Bool) (ts : List Token) → ArePrintable ts → lex between (print_from c ts ++ nl) ≡ lex between (print_from c ts)
unfolding lex print_from ArePrintable
lex-newline c [] h = refl
lex-newline c (t ∷ ts) h =
    let rest = print_from (ends t) ts in
    ap (lex between) (regroup (cond (c && begins t) (44 ∷ []) []) (token_text t) rest nl)
    ∙ (lex-step c t (rest ++ nl) h.0 (λ e. ap (λ b. ends_word (print_from b ts ++ nl)) e ∙ after_value_ends ts)
    ∙ (ap (λ l. cond (c && begins t) (comma ∷ []) [] ++ (lexemes_of t ++ l)) (lex-newline (ends t) ts h.1)
    ∙ sym (lex-step c t rest h.0 (λ e. ap (λ b. ends_word (print_from b ts)) e ∙ after_value_ends_bare ts))))

pub tokens-newline : (ts : List Token) → ArePrintable ts → tokens (print ts ++ (10 ∷ [])) ≡ tokens (print ts)
tokens-newline ts h = ap (punctuate fresh) (lex-newline false ts h)
