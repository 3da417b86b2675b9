-- Lines that were written are read as they were.
use Rattle.std.proofs.Common.{◌≡◌, ℕ, ◌+◌, ◌-◌, List, [], ◌∷◌, ◌++◌, refl, sym, ap, ◌∙◌, Bool, true, false, not, ◌&&◌, ◌==◌, cond, take, drop, length, suc, append_assoc, reverse, Ok, arith}
use Rattle.std.specs.Prelude.{bytes_eq, nat_lt, Result, Err}
use Rattle.std.specs.List.{list_all, position_or_len, slice_split, onto_first}
use Rattle.std.proofs.lemmas.Bool.{false≢true, eqb-true}
use Rattle.std.proofs.lemmas.List.{length-append, reverse-reverse, take_at, drop_at}
use Rattle.std.proofs.lemmas.List.Folds.{list_all-append}
use Rattle.httparse.specs.Grammar.{is_token, is_token_byte, is_value_byte}
use Rattle.rules_fields.specs.Texts.{is_blank, skip_blanks, trimmed, is_filled}
use Rattle.rules_fields.specs.Fields.{Field}
use Rattle.http1_message_parts.specs.Results.{on_ok, map_ok}
use Rattle.http1_message_parts.specs.declared.reason.Reason.{Reason}
use Rattle.http1_message_parts.specs.Lines.{lines_of, row_of, rows_of, fault_of, field_from, field_of, fields_of}
use Rattle.rules_laws.specs.Written.{begins_filled, can_be_value, is_writable, line_text, written}

pub and_first : (a b : Bool) → (a && b) ≡ true → a ≡ true
and_first true b h = refl
and_first false b h = cc

pub and_second : (a b : Bool) → (a && b) ≡ true → b ≡ true
and_second true b h = h
and_second false b h = cc

-- a text without a byte
abbrev lacks : ℕ → List ℕ → Bool
lacks c text = list_all (λ b. not (b == c)) text

differs : (test : ℕ → Bool) (c b : ℕ) → test c ≡ false → test b ≡ true → not (b == c) ≡ true
differs test c b f h = go (b == c) refl
  where
    go : (t : Bool) → (b == c) ≡ t → not t ≡ true
    go true e = absurd (false≢true (sym f ∙ ap test (sym (eqb-true b c e)) ∙ h))
    go false e = refl

lacks_by : (test : ℕ → Bool) (c : ℕ) (text : List ℕ) → test c ≡ false → list_all test text ≡ true → lacks c text ≡ true
lacks_by test c [] f h = refl
lacks_by test c (b ∷ text) f h = rw (differs test c b f (and_first (test b) (list_all test text) h)) (lacks_by test c text f (and_second (test b) (list_all test text) h))

-- up to a LF
split_at : (row rest : List ℕ) → lacks 10 row ≡ true → slice_split (λ b. b == 10) (row ++ (10 ∷ rest)) ≡ row ∷ slice_split (λ b. b == 10) rest
split_at [] rest h = refl
split_at (b ∷ row) rest h = go (b == 10) refl (split_at row rest (and_second (not (b == 10)) (lacks 10 row) h))
  where
    go : (t : Bool) → (b == 10) ≡ t → slice_split (λ x. x == 10) (row ++ (10 ∷ rest)) ≡ row ∷ slice_split (λ x. x == 10) rest
        → cond t ([] ∷ slice_split (λ x. x == 10) (row ++ (10 ∷ rest))) (onto_first b (slice_split (λ x. x == 10) (row ++ (10 ∷ rest)))) ≡ (b ∷ row) ∷ slice_split (λ x. x == 10) rest
    go true e rest_is = absurd (false≢true (ap not (sym e) ∙ and_first (not (b == 10)) (lacks 10 row) h))
    go false e rest_is = ap (onto_first b) rest_is

one_more : (k : ℕ) → 1 + k ≡ suc k
one_more k = omega arith

-- where a byte stands behind a text without it
place_at : (c : ℕ) (text rest : List ℕ) → lacks c text ≡ true → (c == c) ≡ true → position_or_len (λ b. b == c) (text ++ (c ∷ rest)) ≡ length text
place_at c [] rest h r = rw r refl
place_at c (b ∷ text) rest h r = go (b == c) refl (place_at c text rest (and_second (not (b == c)) (lacks c text) h) r)
  where
    go : (t : Bool) → (b == c) ≡ t → position_or_len (λ x. x == c) (text ++ (c ∷ rest)) ≡ length text
        → cond (not t) (1 + position_or_len (λ x. x == c) (text ++ (c ∷ rest))) 0 ≡ length (b ∷ text)
    go true e at = absurd (false≢true (ap not (sym e) ∙ and_first (not (b == c)) (lacks c text) h))
    go false e at = ap (λ (n : ℕ). 1 + n) at ∙ one_more (length text)

-- a row, and a CR behind it
abbrev cr : List ℕ
cr = 13 ∷ []

row_len : (row : List ℕ) → length (row ++ cr) - length cr ≡ length row
row_len row = ap (λ (n : ℕ). n - 1) (length-append row cr) ∙ less (length row)
  where
    less : (n : ℕ) → (n + 1) - 1 ≡ n
    less n = omega arith

row_end : (row : List ℕ) → row_of (row ++ cr) ≡ row
row_end row =
    ap (λ (n : ℕ). cond (bytes_eq (drop n (row ++ cr)) cr) (take n (row ++ cr)) (row ++ cr)) (row_len row)
    ∙ ap (λ (d : List ℕ). cond (bytes_eq d cr) (take (length row) (row ++ cr)) (row ++ cr)) (drop_at row cr (length row) refl)
    ∙ take_at row cr (length row) refl

-- the row of a line
abbrev row_text : Field → List ℕ
row_text f = f.0 ++ (58 ∷ 32 ∷ f.1)

token_lacks : (c : ℕ) (name : List ℕ) → is_token_byte c ≡ false → is_token name ≡ true → lacks c name ≡ true
token_lacks c name f h = lacks_by is_token_byte c name f (and_second (nat_lt 0 (length name)) (list_all is_token_byte name) h)

no_token : (c : ℕ) → is_token_byte 10 ≡ false
unfolding is_token_byte
no_token c = refl

no_token_colon : is_token_byte 58 ≡ false
unfolding is_token_byte
no_token_colon = refl

trimmed_space : (value : List ℕ) → trimmed (32 ∷ value) ≡ trimmed value
unfolding trimmed
trimmed_space value = refl

row_lacks : (f : Field) → is_token f.0 ≡ true → list_all is_value_byte f.1 ≡ true → lacks 10 (row_text f ++ cr) ≡ true
row_lacks f t v =
    let name : lacks 10 f.0 ≡ true = token_lacks 10 f.0 (no_token 0) t in
    let value : lacks 10 f.1 ≡ true = lacks_by is_value_byte 10 f.1 refl v in
    let both : (lacks 10 f.0 && lacks 10 (58 ∷ 32 ∷ f.1)) ≡ true = rw (name, value) refl in
    let row : lacks 10 (row_text f) ≡ true = list_all-append (λ b. not (b == 10)) f.0 (58 ∷ 32 ∷ f.1) ∙ both in
    list_all-append (λ b. not (b == 10)) (row_text f) cr ∙ ap (λ (b : Bool). b && true) row

row_filled : (f : Field) → is_token f.0 ≡ true → is_filled (row_text f) ≡ true
row_filled ([], value) h = cc
row_filled (b ∷ name, value) h = refl

field_is : (f : Field) → is_token f.0 ≡ true → list_all is_value_byte f.1 ≡ true → trimmed f.1 ≡ f.1 → field_of (row_text f) ≡ Ok f
field_is f t v e =
    ap (λ (n : ℕ). field_from (take n (row_text f)) (drop n (row_text f))) (place_at 58 f.0 (32 ∷ f.1) (token_lacks 58 f.0 no_token_colon t) refl)
    ∙ ap (λ (x : List ℕ). field_from x (drop (length f.0) (row_text f))) (take_at f.0 (58 ∷ 32 ∷ f.1) (length f.0) refl)
    ∙ ap (λ (x : List ℕ). field_from f.0 x) (drop_at f.0 (58 ∷ 32 ∷ f.1) (length f.0) refl)
    ∙ ap (λ (b : Bool). cond (b && list_all is_value_byte f.1) (Ok (f.0, trimmed (32 ∷ f.1))) (Err (fault_of f.0 (58 ∷ 32 ∷ f.1)))) t
    ∙ ap (λ (b : Bool). cond b (Ok (f.0, trimmed (32 ∷ f.1))) (Err (fault_of f.0 (58 ∷ 32 ∷ f.1)))) v
    ∙ ap (λ (x : List ℕ). Ok (f.0, x)) (trimmed_space f.1 ∙ e)

line_is : (f : Field) (rest : List ℕ) → line_text f ++ rest ≡ (row_text f ++ cr) ++ (10 ∷ rest)
line_is f rest =
    append_assoc f.0 (58 ∷ 32 ∷ (f.1 ++ (13 ∷ 10 ∷ []))) rest
    ∙ ap (λ (x : List ℕ). f.0 ++ (58 ∷ 32 ∷ x)) (append_assoc f.1 (13 ∷ 10 ∷ []) rest)
    ∙ ap (λ (x : List ℕ). f.0 ++ (58 ∷ 32 ∷ x)) (sym (append_assoc f.1 cr (10 ∷ rest)))
    ∙ sym (append_assoc f.0 (58 ∷ 32 ∷ (f.1 ++ cr)) (10 ∷ rest))
    ∙ ap (λ (x : List ℕ). x ++ (10 ∷ rest)) (sym (append_assoc f.0 (58 ∷ 32 ∷ f.1) cr))

first_row : (row : List ℕ) (rest : List (List ℕ)) → is_filled row ≡ true → rows_of ((row ++ cr) ∷ rest) ≡ row ∷ rows_of rest
first_row row rest h =
    ap (λ (r : List ℕ). cond (is_filled r) (r ∷ rows_of rest) []) (row_end row) ∙ ap (λ (b : Bool). cond b (row ∷ rows_of rest) []) h

-- a value without blanks at its ends stays
skip_none : (text : List ℕ) → begins_filled text ≡ true → skip_blanks text ≡ text
skip_none [] h = refl
skip_none (b ∷ text) h = go (is_blank b) refl
  where
    go : (t : Bool) → is_blank b ≡ t → cond t (skip_blanks text) (b ∷ text) ≡ b ∷ text
    go true e = absurd (false≢true (ap not (sym e) ∙ h))
    go false e = refl

trimmed_same : (text : List ℕ) → begins_filled text ≡ true → begins_filled (reverse text) ≡ true → trimmed text ≡ text
unfolding trimmed
trimmed_same text h k =
    ap (λ (x : List ℕ). reverse (skip_blanks (reverse x))) (skip_none text h) ∙ ap reverse (skip_none (reverse text) k) ∙ reverse-reverse text

value_stays : (value : List ℕ) → can_be_value value ≡ true → trimmed value ≡ value
value_stays value h =
    let ends : (begins_filled value && begins_filled (reverse value)) ≡ true = and_second (list_all is_value_byte value) (begins_filled value && begins_filled (reverse value)) h in
    trimmed_same value (and_first (begins_filled value) (begins_filled (reverse value)) ends) (and_second (begins_filled value) (begins_filled (reverse value)) ends)

-- the rows of what was written
written_rows : (f : Field) (lines : List Field) → is_writable f ≡ true → rows_of (lines_of (written (f ∷ lines))) ≡ row_text f ∷ rows_of (lines_of (written lines))
written_rows f lines h =
    let t : is_token f.0 ≡ true = and_first (is_token f.0) (can_be_value f.1) h in
    let v : list_all is_value_byte f.1 ≡ true =
    and_first (list_all is_value_byte f.1) (begins_filled f.1 && begins_filled (reverse f.1)) (and_second (is_token f.0) (can_be_value f.1) h) in
    ap (λ (x : List ℕ). rows_of (lines_of x)) (line_is f (written lines))
    ∙ ap rows_of (split_at (row_text f ++ cr) (written lines) (row_lacks f t v))
    ∙ first_row (row_text f) (lines_of (written lines)) (row_filled f t)

pub read_written : (lines : List Field) → list_all is_writable lines ≡ true → fields_of (rows_of (lines_of (written lines))) ≡ Ok lines
read_written [] h = refl
read_written (f ∷ lines) h =
    let one : is_writable f ≡ true = and_first (is_writable f) (list_all is_writable lines) h in
    let value : can_be_value f.1 ≡ true = and_second (is_token f.0) (can_be_value f.1) one in
    let v : list_all is_value_byte f.1 ≡ true = and_first (list_all is_value_byte f.1) (begins_filled f.1 && begins_filled (reverse f.1)) value in
    ap fields_of (written_rows f lines one)
    ∙ ap (λ (r : Result Field Reason). on_ok r (λ g. map_ok (λ fs. g ∷ fs) (fields_of (rows_of (lines_of (written lines))))))
    (field_is f (and_first (is_token f.0) (can_be_value f.1) one) v (value_stays f.1 value))
    ∙ ap (map_ok (λ (fs : List Field). f ∷ fs)) (read_written lines (and_second (is_writable f) (list_all is_writable lines) h))
