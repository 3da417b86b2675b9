-- Stored rows, each written behind those before it.
use Rattle.std.proofs.Common.{◌≡◌, ℕ, ◌-◌, ◌^◌, ◌<◌, ◌≤◌, ◌==◌, List, [], ◌∷◌, ◌++◌, refl, sym, ap, ◌∙◌, append_assoc, Bool, true, false, not, ◌||◌, cond, codes, length, nat_lt, arith}
use Rattle.std.specs.Prelude.{Option, Some, None, Result, Ok, Err, option_map, is_some, find}
use Rattle.std.specs.List.{count_by}
use Rattle.std.proofs.lemmas.Bool.Decides.{nat_tests}
use Rattle.std.proofs.lemmas.List.{append-nil}
use Rattle.std.proofs.lemmas.List.Elements.{filter-append}
use Rattle.std.proofs.lemmas.List.Sums.{count_by-le-length}
use Rattle.std.proofs.lemmas.List.Splits.{length-slice_split}
use Rattle.rules_fields.specs.Texts.{small, is_filled}
use Rattle.rules_fields.specs.Tables.{among}
use Rattle.rules_fields.specs.Fields.{Field, is_named, has_line, without}
use Rattle.http1_message_parts.specs.declared.reason.Reason.{Reason}
use Rattle.http1_message_parts.specs.declared.reason.Reason.TheVariants.{TooManyFields}
use Rattle.http1_message_parts.specs.Results.{on_ok, map_ok}
use Rattle.http1_message_parts.specs.Lines.{lines_of, row_of, rows_of, field_of, fields_of}
use Rattle.rules_response.specs.Answering.{own}
use Rattle.rules_ffi_arguments.specs.Given.{◌>>=◌}
use Rattle.rules_ffi_arguments.specs.Rooms.{block}
use Rattle.rules_ffi_arguments.specs.Spans.{if_read}
use Rattle.rules_ffi_results.proofs.Stated.{block_of_more}
use Rattle.rules_serving.specs.Whole.{plain, plain_lines, with_text, behind, copied_of, copied_row}

-- what is written behind a text, of lines that say something or not
abbrev pub plus : List ℕ → Bool → Option (List ℕ × Bool) → Option (List ℕ × Bool)
plus text says c = option_map (λ (p : List ℕ × Bool). with_text (text ++ p.0) (says || p.1)) c

abbrev pub copied_rows : List (List ℕ) → Option (List ℕ × Bool)
copied_rows rows = option_map copied_of (if_read (fields_of rows) >>= plain)

or_nothing : (b : Bool) → (b || false) ≡ b
or_nothing true = refl
or_nothing false = refl

or_assoc : (a b c : Bool) → ((a || b) || c) ≡ (a || (b || c))
or_assoc true b c = refl
or_assoc false b c = refl

pub plus_nothing : (text : List ℕ) (says : Bool) → plus text says (Some (with_text [] false)) ≡ Some (with_text text says)
plus_nothing text says = rw (append-nil text, or_nothing says) refl

pub plus_plus : (text more : List ℕ) (says it : Bool) (c : Option (List ℕ × Bool)) → plus text says (plus more it c) ≡ plus (text ++ more) (says || it) c
plus_plus text more says it None = refl
plus_plus text more says it (Some p) = rw (append_assoc text more p.0, or_assoc says it p.1) refl

has_more : (name : List ℕ) (f : Field) (fs : List Field) → has_line name (f ∷ fs) ≡ (has_line name (f ∷ []) || has_line name fs)
has_more name f fs = go (is_named name f)
  where
    go : (t : Bool) → is_some (option_map (λ (g : Field). g.1) (cond t (Some f) (find (is_named name) fs)))
        ≡ (is_some (option_map (λ (g : Field). g.1) (cond t (Some f) None)) || is_some (option_map (λ (g : Field). g.1) (find (is_named name) fs)))
    go true = refl
    go false = refl

block_more : (f : Field) (fs : List Field) → block (without own (f ∷ fs)) ≡ block (without own (f ∷ [])) ++ block (without own fs)
block_more f fs = ap block (filter-append (λ (g : Field). not (among own (small g.0))) (f ∷ []) fs) ∙ block_of_more (without own (f ∷ [])) (without own fs)

copied_more : (f : Field) (fs : List Field)
    → option_map copied_of (plain (f ∷ fs)) ≡ ((plain (f ∷ []) >>= λ lines. Some (copied_of lines)) >>= λ (c : List ℕ × Bool). plus c.0 c.1 (option_map copied_of (plain fs)))
copied_more f fs =
    ap (λ (b : Bool). option_map copied_of (cond b None (Some (f ∷ fs)))) (has_more (codes "cache-status") f fs)
    ∙ go (has_line (codes "cache-status") (f ∷ [])) (has_line (codes "cache-status") fs)
  where
    go : (t u : Bool) → option_map copied_of (cond (t || u) None (Some (f ∷ fs)))
        ≡ ((cond t None (Some (f ∷ [])) >>= λ lines. Some (copied_of lines)) >>= λ (c : List ℕ × Bool). plus c.0 c.1 (option_map copied_of (cond u None (Some fs))))
    go true u = refl
    go false true = refl
    go false false = rw (block_more f fs, has_more (codes "accept-ranges") f fs) refl

none_behind : (c : Option (List ℕ × Bool)) → (c >>= λ (p : List ℕ × Bool). plus p.0 p.1 None) ≡ None
none_behind None = refl
none_behind (Some p) = refl

-- a row in front of rows
pub copied_step : (row : List ℕ) (rows : List (List ℕ)) → copied_rows (row ∷ rows) ≡ (copied_row row >>= λ (c : List ℕ × Bool). plus c.0 c.1 (copied_rows rows))
copied_step row rows = go (field_of row) (fields_of rows)
  where
    go : (f : Result Field Reason) (fs : Result (List Field) Reason)
        → option_map copied_of (if_read (on_ok f (λ g. map_ok (λ gs. g ∷ gs) fs)) >>= plain)
        ≡ (((if_read f >>= λ g. plain (g ∷ [])) >>= λ lines. Some (copied_of lines)) >>= λ (c : List ℕ × Bool). plus c.0 c.1 (option_map copied_of (if_read fs >>= plain)))
    go (Err e) fs = refl
    go (Ok f) (Err e) = sym (none_behind (plain (f ∷ []) >>= λ lines. Some (copied_of lines)))
    go (Ok f) (Ok fs) = copied_more f fs

-- what a text and what is told of it are
pub said_of : (text : List ℕ) (says : Bool) (c : List ℕ × Bool) → Some (with_text text says) ≡ Some c → (text ≡ c.0) × (says ≡ c.1)
said_of text says c h = let e : with_text text says ≡ c = cc in (ap (λ (p : List ℕ × Bool). p.0) e, ap (λ (p : List ℕ × Bool). p.1) e)

-- a row is written behind what is there, and the rows after it behind that
pub one_more : (text new : List ℕ) (says it : Bool) (row : List ℕ) (rows : List (List ℕ)) → Some (with_text new it) ≡ option_map (behind text) (copied_row row)
    → plus new (says || it) (copied_rows rows) ≡ plus text says (copied_rows (row ∷ rows))
one_more text new says it row rows h = go (copied_row row) h ∙ sym (ap (plus text says) (copied_step row rows))
  where
    go : (c : Option (List ℕ × Bool)) → Some (with_text new it) ≡ option_map (behind text) c
        → plus new (says || it) (copied_rows rows) ≡ plus text says (c >>= λ (p : List ℕ × Bool). plus p.0 p.1 (copied_rows rows))
    go None h = cc
    go (Some p) h = let e = said_of new it (behind text p) h in rw (e.0, e.1) (sym (plus_plus text p.0 says p.1 (copied_rows rows)))

-- a row that can't be written
pub no_more : (text : List ℕ) (says : Bool) (row : List ℕ) (rows : List (List ℕ)) → None ≡ option_map (behind text) (copied_row row)
    → plus text says (copied_rows (row ∷ rows)) ≡ None
no_more text says row rows h = ap (plus text says) (copied_step row rows) ∙ go (copied_row row) h
  where
    go : (c : Option (List ℕ × Bool)) → None ≡ option_map (behind text) c → plus text says (c >>= λ (p : List ℕ × Bool). plus p.0 p.1 (copied_rows rows)) ≡ None
    go None h = refl
    go (Some p) h = cc

-- rows end at one that is empty
pub rows_end : (line row : List ℕ) (lines : List (List ℕ)) → row ≡ row_of line → (length row == 0) ≡ true → rows_of (line ∷ lines) ≡ []
rows_end line row lines e h = go row e h
  where
    go : (r : List ℕ) → r ≡ row_of line → (length r == 0) ≡ true → rows_of (line ∷ lines) ≡ []
    go [] e h = rw (← e) refl
    go (b ∷ r) e h = grind (arith, nat_tests)

rows_fewer : (lines : List (List ℕ)) → length (rows_of lines) ≤ length lines
rows_fewer [] = omega arith
rows_fewer (line ∷ lines) = go (is_filled (row_of line)) (rows_fewer lines)
  where
    go : (t : Bool) → length (rows_of lines) ≤ length lines → length (cond t (row_of line ∷ rows_of lines) []) ≤ length (line ∷ lines)
    go true h = omega arith
    go false h = omega arith

-- a text has no more rows than bytes: each but the last ends in one, and the last isn't empty
few_rows : (text : List ℕ) → length (rows_of (lines_of text)) ≤ length text
few_rows [] = omega arith
few_rows (b ∷ text) = go (b == 10) refl
  where
    go : (t : Bool) → (b == 10) ≡ t → length (rows_of (lines_of (b ∷ text))) ≤ length (b ∷ text)
    go true e = rw e (omega arith)
    go false e =
        let a = rows_fewer (lines_of (b ∷ text)) in
        let l = length-slice_split (λ b. b == 10) (b ∷ text) in
        let n : count_by (λ b. b == 10) (b ∷ text) ≡ count_by (λ b. b == 10) text = rw e refl in
        omega (arith, a, l, n, count_by-le-length (λ (b : ℕ). b == 10) text)

few : (text : List ℕ) → length text < 2 ^ 64 → nat_lt (2 ^ 64 - 1) (length (rows_of (lines_of text))) ≡ false
few text h = let a = few_rows text in grind (arith, nat_tests)

-- a text has no more lines than are allowed
pub all_rows : (text : List ℕ) → length text < 2 ^ 64 → copied_rows (rows_of (lines_of text)) ≡ option_map copied_of (plain_lines text)
all_rows text h =
    sym (ap (λ (b : Bool). option_map copied_of (if_read (cond b (Err TooManyFields) (fields_of (rows_of (lines_of text)))) >>= plain)) (few text h))

-- behind a text that says nothing yet
pub from_front : (old : List ℕ) (c : Option (List ℕ × Bool)) → plus old false c ≡ option_map (behind old) c
from_front old None = refl
from_front old (Some p) = refl
