-- Plain lines as rows, and back.
use Rattle.std.proofs.Common.{◌≡◌, ℕ, ◌+◌, ◌==◌, ◌&&◌, not, cond, Bool, true, false, List, [], ◌∷◌, ◌++◌, take, drop, length, refl, sym, ap, ◌∙◌, append_assoc, arith}
use Rattle.std.specs.Prelude.{map, nat_lt, bytes_eq, Result, Ok, Err}
use Rattle.std.specs.List.{list_all, position_or_len}
use Rattle.std.proofs.lemmas.Bool.{eqb-true, eq-eqb, and_parts, and_from, not-true}
use Rattle.std.proofs.lemmas.List.Folds.{list_all-append}
use Rattle.std.proofs.lemmas.Slice.Eq.{bytes_eq-Decides}
use Rattle.std.proofs.Math.Seq.{take-append_seam, drop-append_seam}
use Rattle.httparse.specs.Grammar.{is_token_byte, is_token, is_value_byte}
use Rattle.rules_fields.specs.Texts.{small, trimmed, is_filled}
use Rattle.rules_fields.specs.Tables.{among}
use Rattle.rules_fields.specs.Fields.{Field}
use Rattle.http1_message_parts.specs.declared.reason.Reason.{Reason}
use Rattle.http1_message_parts.specs.Results.{on_ok, map_ok}
use Rattle.http1_message_parts.specs.Lines.{fault_of, field_from, field_of, fields_of}
use Rattle.rules_ffi_arguments.specs.Rooms.{line_text, block}
use Rattle.rules_quick.specs.Plain.{is_plain_line, start_text, head_then}
use Rattle.rules_quick.proofs.Rows.{is_inner, is_row, rows_then}

-- a byte that passes a test is none that doesn't
pub differs : (p : ℕ → Bool) (k b : ℕ) → p k ≡ false → p b ≡ true → (b == k) ≡ false
differs p k b n y = go (b == k) refl
  where
    go : (t : Bool) → (b == k) ≡ t → t ≡ false
    go true e = absurd (is_false (sym (ap p (eqb-true b k e) ∙ n) ∙ y))
      where
        is_false : false ≡ true → ⊥
        is_false e = cc
    go false e = refl

pub inner_by : (p : ℕ → Bool) (b : ℕ) → p 13 ≡ false → p 10 ≡ false → p b ≡ true → is_inner b ≡ true
inner_by p b cr lf y = rw (differs p 13 b cr y, differs p 10 b lf y) refl

pub all_inner : (p : ℕ → Bool) (text : List ℕ) → p 13 ≡ false → p 10 ≡ false → list_all p text ≡ true → list_all is_inner text ≡ true
all_inner p [] cr lf h = refl
all_inner p (b ∷ text) cr lf h =
    let q = and_parts (p b) (list_all p text) h in and_from (is_inner b) (list_all is_inner text) (inner_by p b cr lf q.0) (all_inner p text cr lf q.1)

-- where a byte stands first
pub place_of : (p : ℕ → Bool) (k : ℕ) (text rest : List ℕ) → p k ≡ false → list_all p text ≡ true → position_or_len (λ b. b == k) (text ++ k ∷ rest) ≡ length text
place_of p k [] rest e h = rw (eq-eqb k k refl) refl
place_of p k (b ∷ text) rest e h =
    let q = and_parts (p b) (list_all p text) h in rw (differs p k b e q.0) (ap (λ n. 1 + n) (place_of p k text rest e q.1) ∙ omega arith)

-- the row of a line
abbrev pub row_text : Field → List ℕ
row_text f = f.0 ++ 58 ∷ 32 ∷ f.1

token_cr : is_token_byte 13 ≡ false
unfolding is_token_byte
token_cr = refl

token_lf : is_token_byte 10 ≡ false
unfolding is_token_byte
token_lf = refl

token_colon : is_token_byte 58 ≡ false
unfolding is_token_byte
token_colon = refl

trimmed_space : (value : List ℕ) → trimmed (32 ∷ value) ≡ trimmed value
unfolding trimmed
trimmed_space value = refl

-- what a plain line has
pub record PlainLine (names : List (List ℕ)) (f : Field) : Type 0 where
  pub name : list_all is_token_byte f.0 ≡ true
  pub token : is_token f.0 ≡ true
  pub value : list_all is_value_byte f.1 ≡ true
  pub bare : trimmed f.1 ≡ f.1
  pub unnamed : among names (small f.0) ≡ false

pub parts_of : (names : List (List ℕ)) (f : Field) → is_plain_line names f ≡ true → PlainLine names f
parts_of names f h =
    let a = and_parts (is_token f.0 && list_all is_value_byte f.1 && bytes_eq (trimmed f.1) f.1) (not (among names (small f.0))) h in
    let b = and_parts (is_token f.0 && list_all is_value_byte f.1) (bytes_eq (trimmed f.1) f.1) a.0 in
    let c = and_parts (is_token f.0) (list_all is_value_byte f.1) b.0 in
    record {
      name = (and_parts (nat_lt 0 (length f.0)) (list_all is_token_byte f.0) c.0).1;
      token = c.0;
      value = c.1;
      bare = (bytes_eq-Decides (trimmed f.1) f.1).0 b.1;
      unnamed = not-true (among names (small f.0)) a.1;
    }

field_back : (names : List (List ℕ)) (f : Field) → PlainLine names f → field_of (row_text f) ≡ Ok f
field_back names f p =
    ap (λ (n : ℕ). field_from (take n (row_text f)) (drop n (row_text f))) (place_of is_token_byte 58 f.0 (32 ∷ f.1) token_colon p.name)
    ∙ ap (λ (x : List ℕ). field_from x (drop (length f.0) (row_text f))) (take-append_seam f.0 (58 ∷ 32 ∷ f.1))
    ∙ ap (λ (x : List ℕ). field_from f.0 x) (drop-append_seam f.0 (58 ∷ 32 ∷ f.1))
    ∙ ap (λ (b : Bool). cond (b && list_all is_value_byte f.1) (Ok (f.0, trimmed (32 ∷ f.1))) (Err (fault_of f.0 (58 ∷ 32 ∷ f.1)))) p.token
    ∙ ap (λ (b : Bool). cond b (Ok (f.0, trimmed (32 ∷ f.1))) (Err (fault_of f.0 (58 ∷ 32 ∷ f.1)))) p.value
    ∙ ap (λ (x : List ℕ). Ok (f.0, x)) (trimmed_space f.1 ∙ p.bare)

pub fields_back : (names : List (List ℕ)) (lines : List Field) → list_all (is_plain_line names) lines ≡ true → fields_of (map row_text lines) ≡ Ok lines
fields_back names [] h = refl
fields_back names (f ∷ lines) h =
    let p = and_parts (is_plain_line names f) (list_all (is_plain_line names) lines) h in
    ap (λ (r : Result Field Reason). on_ok r (λ g. map_ok (λ fs. g ∷ fs) (fields_of (map row_text lines)))) (field_back names f (parts_of names f p.0))
    ∙ ap (map_ok (λ fs. f ∷ fs)) (fields_back names lines p.1)

filled : (f : Field) → is_token f.0 ≡ true → is_filled (row_text f) ≡ true
filled ([], value) h = cc
filled (b ∷ name, value) h = refl

row_is : (names : List (List ℕ)) (f : Field) → PlainLine names f → is_row (row_text f) ≡ true
row_is names f p =
    let name = all_inner is_token_byte f.0 token_cr token_lf p.name in
    let value = all_inner is_value_byte f.1 refl refl p.value in
    and_from (is_filled (row_text f)) (list_all is_inner (row_text f)) (filled f p.token)
    (list_all-append is_inner f.0 (58 ∷ 32 ∷ f.1) ∙ and_from (list_all is_inner f.0) (list_all is_inner f.1) name value)

pub rows_are : (names : List (List ℕ)) (lines : List Field) → list_all (is_plain_line names) lines ≡ true → list_all is_row (map row_text lines) ≡ true
rows_are names [] h = refl
rows_are names (f ∷ lines) h =
    let p = and_parts (is_plain_line names f) (list_all (is_plain_line names) lines) h in
    and_from (is_row (row_text f)) (list_all is_row (map row_text lines)) (row_is names f (parts_of names f p.0)) (rows_are names lines p.1)

pub line_then : (f : Field) (rest : List ℕ) → line_text f ++ rest ≡ row_text f ++ 13 ∷ 10 ∷ rest
line_then f rest =
    append_assoc (f.0 ++ (58 ∷ 32 ∷ []) ++ f.1) (13 ∷ 10 ∷ []) rest
    ∙ ap (λ (x : List ℕ). (x ++ f.1) ++ (13 ∷ 10 ∷ rest)) refl
    ∙ ap (λ (x : List ℕ). x ++ (13 ∷ 10 ∷ rest)) (append_assoc f.0 (58 ∷ 32 ∷ []) f.1)

pub block_rows : (lines : List Field) (rest : List ℕ) → block lines ++ rest ≡ rows_then (map row_text lines) rest
block_rows [] rest = refl
block_rows (f ∷ lines) rest =
    append_assoc (line_text f) (block lines) rest ∙ line_then f (block lines ++ rest)
    ∙ ap (λ (x : List ℕ). row_text f ++ 13 ∷ 10 ∷ x) (block_rows lines rest)

pub head_rows : (method target : List ℕ) (lines : List Field) (rest : List ℕ)
    → head_then method target lines rest ≡ rows_then (start_text method target ∷ map row_text lines) (13 ∷ 10 ∷ rest)
head_rows method target lines rest = ap (λ (x : List ℕ). start_text method target ++ 13 ∷ 10 ∷ x) (block_rows lines (13 ∷ 10 ∷ rest))
