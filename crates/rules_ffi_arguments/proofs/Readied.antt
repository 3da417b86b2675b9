-- Words prepared: what is written is read as it was, and no value ends a line.
use Rattle.std.proofs.Common.{◌≡◌, ℕ, ◌+◌, ◌-◌, List, [], ◌∷◌, ◌++◌, refl, sym, ap, ◌∙◌, subst, append_assoc, Bool, true, false, not, ◌&&◌, ◌==◌, cond, length, get_or, nat_lt, take, drop, reverse, suc, arith}
use Rattle.std.specs.Prelude.{Option, Some, None, option_map, Result, Ok, Err, is_some, bytes_eq}
use Rattle.std.specs.List.{list_all, All, position_or_len, onto_first}
use Rattle.std.specs.Option.{option_map_or}
use Rattle.std.proofs.lemmas.Bool.{eqb-true}
use Rattle.std.proofs.lemmas.List.{reverse-append}
use Rattle.std.proofs.lemmas.List.Folds.{list_all-append}
use Rattle.std.proofs.lemmas.List.Sums.{AllPass-from_list_all}
use Rattle.std.proofs.lemmas.List.Splits.{slice_split_at}
use Rattle.httparse.specs.Grammar.{is_token, is_token_byte, is_value_byte}
use Rattle.rules_fields.specs.Texts.{is_blank, skip_blanks, trimmed}
use Rattle.rules_fields.specs.Fields.{Field}
use Rattle.http1_message_parts.specs.Lines.{lines_of, row_of, fault_of, field_from, field_of}
use Rattle.http1_message_parts.specs.declared.reason.Reason.{Reason}
use Rattle.rules_ffi_arguments.specs.Given.{◌>>=◌, only_if}
use Rattle.rules_ffi_arguments.specs.declared.words.Word.{Word}
use Rattle.rules_ffi_arguments.specs.declared.words.Word.TheVariants.{Name, Secret, Targeted, Drop, Host, Refuse, Lifetime, NeverStore, OriginHost, OriginPrefix, QueryDrop, QuerySort, Encodings, CookieKeep, ResponseDrop, ForceLifetime, ForcePrivate}
use Rattle.rules_ffi_arguments.specs.Words.{Given, letter_of, word_named, word_lettered, takes, said_by, said_in_field, said_in_row, all_said, words_in, is_end, wrong_row}
use Rattle.rules_ffi_arguments.specs.Options.{lists_from, lists_in}
use Rattle.rules_ffi_arguments.specs.Prepared.{prepared_lines, prepared}

-- a word by its letter, which ends no line
lettered : (w : Word) → word_lettered (letter_of w) ≡ Some w
unfolding letter_of
lettered Name = refl
lettered Secret = refl
lettered Targeted = refl
lettered Drop = refl
lettered Host = refl
lettered Refuse = refl
lettered Lifetime = refl
lettered NeverStore = refl
lettered OriginHost = refl
lettered OriginPrefix = refl
lettered QueryDrop = refl
lettered QuerySort = refl
lettered Encodings = refl
lettered CookieKeep = refl
lettered ResponseDrop = refl
lettered ForceLifetime = refl
lettered ForcePrivate = refl

is_no_end : (w : Word) → (letter_of w == 10) ≡ false
unfolding letter_of
is_no_end Name = refl
is_no_end Secret = refl
is_no_end Targeted = refl
is_no_end Drop = refl
is_no_end Host = refl
is_no_end Refuse = refl
is_no_end Lifetime = refl
is_no_end NeverStore = refl
is_no_end OriginHost = refl
is_no_end OriginPrefix = refl
is_no_end QueryDrop = refl
is_no_end QuerySort = refl
is_no_end Encodings = refl
is_no_end CookieKeep = refl
is_no_end ResponseDrop = refl
is_no_end ForceLifetime = refl
is_no_end ForcePrivate = refl

-- no byte of it ends a line
abbrev is_clean : List ℕ → Bool
is_clean text = list_all (λ b. not (b == 10)) text

abbrev are_clean : List Given → Bool
are_clean ss = list_all (λ s. is_clean s.1) ss

and_first : (a b : Bool) → (a && b) ≡ true → a ≡ true
and_first true b h = refl
and_first false b h = cc

and_second : (a b : Bool) → (a && b) ≡ true → b ≡ true
and_second true b h = h
and_second false b h = cc

skip_all : (p : ℕ → Bool) (text : List ℕ) → list_all p text ≡ true → list_all p (skip_blanks text) ≡ true
skip_all p [] h = h
skip_all p (b ∷ text) h = go (is_blank b) (skip_all p text (and_second (p b) (list_all p text) h))
  where
    go : (t : Bool) → list_all p (skip_blanks text) ≡ true → list_all p (cond t (skip_blanks text) (b ∷ text)) ≡ true
    go true rest = rest
    go false rest = h

reverse_all : (p : ℕ → Bool) (text : List ℕ) → list_all p text ≡ true → list_all p (reverse text) ≡ true
reverse_all p [] h = h
reverse_all p (b ∷ text) h =
    ap (list_all p) (reverse-append (b ∷ []) text) ∙ list_all-append p (reverse text) (b ∷ [])
    ∙ both (list_all p (reverse text)) (p b) (reverse_all p text (and_second (p b) (list_all p text) h)) (and_first (p b) (list_all p text) h)
  where
    both : (a c : Bool) → a ≡ true → c ≡ true → (a && (c && true)) ≡ true
    both a c e f = rw (e, f) refl

trimmed_all : (p : ℕ → Bool) (text : List ℕ) → list_all p text ≡ true → list_all p (trimmed text) ≡ true
unfolding trimmed
trimmed_all p text h = reverse_all p (skip_blanks (reverse (skip_blanks text))) (skip_all p (reverse (skip_blanks text)) (reverse_all p (skip_blanks text) (skip_all p text h)))

value_is_clean : (text : List ℕ) → list_all is_value_byte text ≡ true → is_clean text ≡ true
value_is_clean [] h = refl
value_is_clean (b ∷ text) h = go (b == 10) refl (value_is_clean text (and_second (is_value_byte b) (list_all is_value_byte text) h))
  where
    go : (t : Bool) → (b == 10) ≡ t → is_clean text ≡ true → (not t && is_clean text) ≡ true
    go true e rest = let bad : is_value_byte 10 ≡ true = subst (λ (x : ℕ). is_value_byte x ≡ true) (eqb-true b 10 e) (and_first (is_value_byte b) (list_all is_value_byte text) h) in cc
    go false e rest = rest

field_is_clean : (before after : List ℕ) (f : Field) → field_from before after ≡ Ok f → is_clean f.1 ≡ true
field_is_clean before [] f e = cc
field_is_clean before (c ∷ v) f e = go (is_token before) (list_all is_value_byte v) refl e
  where
    go : (t b : Bool) → list_all is_value_byte v ≡ b → cond (t && b) (Ok (before, trimmed v)) (Err (fault_of before (c ∷ v))) ≡ Ok f → is_clean f.1 ≡ true
    go true true h k =
        let same : (before, trimmed v) ≡ f = cc in
        subst (λ (x : List ℕ). is_clean x ≡ true) (ap (λ (x : Field). x.1) same) (value_is_clean (trimmed v) (trimmed_all is_value_byte v h))
    go true false h k = cc
    go false b h k = cc

said_is_clean : (f : Field) (s : Given) → said_by f.0 f.1 ≡ Some s → is_clean f.1 ≡ true → is_clean s.1 ≡ true
said_is_clean f s e h = named (word_named f.0) e
  where
    chosen_one : (t : Bool) (w : Word) → only_if t (w, f.1) ≡ Some s → is_clean s.1 ≡ true
    chosen_one true w k = let same : (w, f.1) ≡ s = cc in subst (λ (x : List ℕ). is_clean x ≡ true) (ap (λ (x : Given). x.1) same) h
    chosen_one false w k = cc

    named : (o : Option Word) → (o >>= λ w. only_if (takes w f.1) (w, f.1)) ≡ Some s → is_clean s.1 ≡ true
    named None k = cc
    named (Some w) k = chosen_one (takes w f.1) w k

row_is_clean : (row : List ℕ) (s : Given) → said_in_row row ≡ Some s → is_clean s.1 ≡ true
row_is_clean row s e = go (field_of row) refl e
  where
    go : (r : Result Field Reason) → field_of row ≡ r → said_in_field r ≡ Some s → is_clean s.1 ≡ true
    go (Ok f) k h = said_is_clean f s h (field_is_clean (take (position_or_len (λ b. b == 58) row) row) (drop (position_or_len (λ b. b == 58) row) row) f k)
    go (Err r) k h = cc

all_are_clean : (lines : List (List ℕ)) (ss : List Given) → all_said false lines ≡ Some ss → are_clean ss ≡ true
all_are_clean [] ss e = let same : [] ≡ ss = cc in subst (λ (x : List Given). are_clean x ≡ true) same refl
all_are_clean (line ∷ lines) ss e = first (said_in_row (row_of line)) refl e (λ ts k. all_are_clean lines ts k)
  where
    rest : (s : Given) (o : Option (List Given)) → all_said false lines ≡ o → is_clean s.1 ≡ true → option_map (λ ts. s ∷ ts) o ≡ Some ss → ((ts : List Given) → all_said false lines ≡ Some ts → are_clean ts ≡ true) → are_clean ss ≡ true
    rest s None k h j ih = cc
    rest s (Some ts) k h j ih =
        let same : s ∷ ts ≡ ss = cc in
        subst (λ (x : List Given). are_clean x ≡ true) same (rw h (ih ts k))

    last : (t : Bool) → only_if t [] ≡ Some ss → are_clean ss ≡ true
    last true j = let same : [] ≡ ss = cc in subst (λ (x : List Given). are_clean x ≡ true) same refl
    last false j = cc

    first : (o : Option Given) → said_in_row (row_of line) ≡ o → option_map_or (λ s. option_map (λ ts. s ∷ ts) (all_said false lines)) o (only_if (is_end (row_of line) lines) []) ≡ Some ss → ((ts : List Given) → all_said false lines ≡ Some ts → are_clean ts ≡ true) → are_clean ss ≡ true
    first None k j ih = last (is_end (row_of line) lines) j
    first (Some s) k j ih = rest s (all_said false lines) refl (row_is_clean (row_of line) s k) j ih

not_false : (b : Bool) → not b ≡ true → b ≡ false
not_false true h = cc
not_false false h = refl

clean_all : (text : List ℕ) → is_clean text ≡ true → All (λ b. (b == 10) ≡ false) text
clean_all text h = λ k d lt. not_false (get_or text k d == 10) (AllPass-from_list_all (λ b. not (b == 10)) text h k d lt)

-- prepared words are read as they were
read_prepared : (ss : List Given) → are_clean ss ≡ true → all_said true (lines_of (prepared_lines ss)) ≡ Some ss
read_prepared [] h = refl
read_prepared (s ∷ ss) h =
    let line : lines_of ((letter_of s.0 ∷ s.1) ++ (10 ∷ prepared_lines ss)) ≡ (letter_of s.0 ∷ s.1) ∷ lines_of (prepared_lines ss) =
    slice_split_at (λ b. b == 10) (letter_of s.0 ∷ s.1) 10 (prepared_lines ss) (clean_all (letter_of s.0 ∷ s.1) (rw (is_no_end s.0) (and_first (is_clean s.1) (are_clean ss) h))) refl in
    ap (λ (t : List ℕ). all_said true (lines_of t)) (append_assoc (letter_of s.0 ∷ s.1) (10 ∷ []) (prepared_lines ss)) ∙ ap (all_said true) line
    ∙ ap (λ (o : Option Word). option_map_or (λ t. option_map (λ ts. t ∷ ts) (all_said true (lines_of (prepared_lines ss)))) (option_map (λ w. (w, s.1)) o) (only_if (is_end (row_of (letter_of s.0 ∷ s.1)) (lines_of (prepared_lines ss))) [])) (lettered s.0)
    ∙ ap (option_map (λ ts. s ∷ ts)) (read_prepared ss (and_second (is_clean s.1) (are_clean ss) h))

-- a name that begins with a 0 is none, so such a line says nothing
zero_field : (before after : List ℕ) → said_in_field (field_from (0 ∷ before) after) ≡ None
unfolding is_token_byte
zero_field before [] = refl
zero_field before (c ∷ after) = go (nat_lt 0 (length (0 ∷ before)))
  where
    go : (t : Bool) → said_in_field (cond ((t && false) && list_all is_value_byte after) (Ok (0 ∷ before, trimmed after)) (Err (fault_of (0 ∷ before) (c ∷ after)))) ≡ None
    go true = refl
    go false = refl

zero_row : (row : List ℕ) → said_in_row (0 ∷ row) ≡ None
zero_row row =
    let m = position_or_len (λ b. b == 58) row in
    let next : 1 + m ≡ suc m = omega arith in
    ap (λ n. said_in_field (field_from (take n (0 ∷ row)) (drop n (0 ∷ row)))) next ∙ zero_field (take m row) (drop m row)

zero_first : (line : List ℕ) → (row : List ℕ) × (row_of (0 ∷ line) ≡ 0 ∷ row)
zero_first [] = ([], refl)
zero_first (y ∷ ys) = go (bytes_eq (drop (length (0 ∷ y ∷ ys) - 1) (0 ∷ y ∷ ys)) (13 ∷ [])) refl (omega arith)
  where
    go : (t : Bool) → bytes_eq (drop (length (0 ∷ y ∷ ys) - 1) (0 ∷ y ∷ ys)) (13 ∷ []) ≡ t → length (0 ∷ y ∷ ys) - 1 ≡ suc (length ys) → (row : List ℕ) × (row_of (0 ∷ y ∷ ys) ≡ 0 ∷ row)
    go true k e = (take (length ys) (y ∷ ys), rw k (ap (λ n. take n (0 ∷ y ∷ ys)) e))
    go false k e = (y ∷ ys, rw k refl)

zero_says_nothing : (line : List ℕ) (lines : List (List ℕ)) → all_said false ((0 ∷ line) ∷ lines) ≡ None
zero_says_nothing line lines =
    let first = zero_first line in
    ap (λ (o : Option Given). option_map_or (λ s. option_map (λ ts. s ∷ ts) (all_said false lines)) o (only_if (is_end (row_of (0 ∷ line)) lines) [])) (ap said_in_row first.1 ∙ zero_row first.0)
    ∙ ap (λ (row : List ℕ). only_if (is_end row lines) []) first.1 ∙ go lines first.0
  where
    go : (lines : List (List ℕ)) (row : List ℕ) → only_if {A = List Given} (is_end (0 ∷ row) lines) [] ≡ None
    go [] row = refl
    go (l ∷ ls) row = refl

pub no_zero : (text : List ℕ) → all_said false (lines_of (0 ∷ text)) ≡ None
no_zero text = go (lines_of text)
  where
    go : (lines : List (List ℕ)) → all_said false (onto_first 0 lines) ≡ None
    go [] = zero_says_nothing [] []
    go (line ∷ lines) = zero_says_nothing line lines

right_all : (n : ℕ) (lines : List (List ℕ)) → wrong_row (n + 1) lines ≡ 0 → is_some (all_said false lines) ≡ true
right_all n [] h = refl
right_all n (line ∷ lines) h = first (said_in_row (row_of line)) h (λ k. right_all (n + 1) lines k)
  where
    kept : (s : Given) (o : Option (List Given)) → is_some o ≡ true → is_some (option_map (λ ts. s ∷ ts) o) ≡ true
    kept s None k = cc
    kept s (Some ts) k = refl

    last : (t : Bool) → cond t 0 (n + 1) ≡ 0 → is_some (only_if {A = List Given} t []) ≡ true
    last true k = refl
    last false k = absurd (omega arith)

    first : (o : Option Given) → cond (is_some o) (wrong_row (n + 1 + 1) lines) (cond (is_end (row_of line) lines) 0 (n + 1)) ≡ 0
        → (wrong_row (n + 1 + 1) lines ≡ 0 → is_some (all_said false lines) ≡ true)
        → is_some (option_map_or (λ s. option_map (λ ts. s ∷ ts) (all_said false lines)) o (only_if (is_end (row_of line) lines) [])) ≡ true
    first None k ih = last (is_end (row_of line) lines) k
    first (Some s) k ih = kept s (all_said false lines) (ih k)

pub right_are_prepared : (words : List ℕ) → wrong_row 1 (lines_of words) ≡ 0 → is_some (prepared words) ≡ true
right_are_prepared words h = go (all_said false (lines_of words)) (right_all 0 (lines_of words) h)
  where
    go : (o : Option (List Given)) → is_some o ≡ true → is_some (option_map (λ ss. 0 ∷ prepared_lines ss) o) ≡ true
    go None k = cc
    go (Some ss) k = refl

same_words : (words : List ℕ) (ss : List Given) → all_said false (lines_of words) ≡ Some ss → words_in words ≡ Some ss
same_words [] ss e = e
same_words (b ∷ words) ss e = go (b == 0) refl
  where
    go : (t : Bool) → (b == 0) ≡ t → cond t (all_said true (lines_of words)) (all_said false (lines_of (b ∷ words))) ≡ Some ss
    go true k =
        let none : all_said false (lines_of (b ∷ words)) ≡ None = subst (λ (x : ℕ). all_said false (lines_of (x ∷ words)) ≡ None) (sym (eqb-true b 0 k)) (no_zero words) in cc
    go false k = e

pub say_the_same : (words text : List ℕ) → prepared words ≡ Some text → lists_in text ≡ lists_in words
say_the_same words text e = go (all_said false (lines_of words)) refl e
  where
    go : (o : Option (List Given)) → all_said false (lines_of words) ≡ o → option_map (λ ss. 0 ∷ prepared_lines ss) o ≡ Some text → lists_in text ≡ lists_in words
    go None k h = cc
    go (Some ss) k h =
        let same : 0 ∷ prepared_lines ss ≡ text = cc in
        ap lists_in (sym same) ∙ ap (option_map lists_from) (read_prepared ss (all_are_clean (lines_of words) ss k)) ∙ ap (option_map lists_from) (sym (same_words words ss k))
