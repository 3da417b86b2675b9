-- A plain head of a response is read as its parts say, up to what its lines mean.
use Rattle.std.proofs.Common.{◌≡◌, ℕ, ◌≤◌, ◌==◌, ◌||◌, not, cond, Bool, true, false, List, [], ◌∷◌, ◌++◌, take, length, refl, sym, ap, ◌∙◌, arith}
use Rattle.std.specs.Prelude.{map, Some, Result, Ok}
use Rattle.std.specs.List.{list_all}
use Rattle.std.proofs.lemmas.Bool.{le-ltb, and_parts, or_parts}
use Rattle.rules_fields.specs.Texts.{is_filled}
use Rattle.rules_fields.specs.Fields.{Field}
use Rattle.rules_fields.specs.Types.{Chosen}
use Rattle.http1_message_parts.specs.Results.{on_ok, map_ok}
use Rattle.http1_message_parts.specs.declared.reason.Reason.{Reason}
use Rattle.http1_message_parts.specs.End.{head_end}
use Rattle.http1_message_parts.specs.Lines.{has_bare_end, has_bare_cr, lines_of, row_of, rows_of, fields_within}
use Rattle.http1_message_parts.specs.Start.{status_line}
use Rattle.http1_message.specs.Response.{ReadResponse, answered_by, by_fields, by_lines, response_of, read_until, read_response}
use Rattle.rules_quick.specs.Plain.{is_plain_line}
use Rattle.rules_quick.specs.PlainResponses.{watched, head_then}
use Rattle.rules_quick.proofs.Rows.{is_inner, is_row, rows_then, rows_len, none_bare, line_split, row_back, rows_back, ends, head_is}
use Rattle.rules_quick.proofs.Written.{row_text, fields_back, rows_are, block_rows}
use Rattle.rules_quick.proofs.Head.{within_by, many}

-- where no CR or LF stands alone, no CR does
no_bare_cr : (after : Bool) (text : List ℕ) → has_bare_end after text ≡ false → has_bare_cr after text ≡ false
no_bare_cr after [] h = h
no_bare_cr after (b ∷ text) h = go (b == 10) (no_bare_cr false text) (no_bare_cr (b == 13) text) h
  where
    go : (t : Bool) → (has_bare_end false text ≡ false → has_bare_cr false text ≡ false) → (has_bare_end (b == 13) text ≡ false → has_bare_cr (b == 13) text ≡ false)
        → cond t (not after || has_bare_end false text) (after || has_bare_end (b == 13) text) ≡ false
        → cond t (has_bare_cr false text) (after || has_bare_cr (b == 13) text) ≡ false
    go true front more k = front (or_parts (not after) (has_bare_end false text) k).1
    go false front more k =
        let p = or_parts after (has_bare_end (b == 13) text) k in
        ap (λ (t : Bool). t || has_bare_cr (b == 13) text) p.0 ∙ more p.1

read_by : (bytes head method date : List ℕ) (n : ℕ) (r : ReadResponse) (o : Chosen) → head_end bytes ≡ Some n → take n bytes ≡ head → response_of head method date o ≡ Ok r
    → read_response bytes method date o ≡ Some (Ok (r, n))
unfolding read_response
read_by bytes head method date n r o e t h =
    ap (read_until bytes method date o) e ∙ ap (λ (x : List ℕ). Some (map_ok (λ head. (head, n)) (response_of x method date o))) t
    ∙ ap (λ (x : Result ReadResponse Reason). Some (map_ok (λ head. (head, n)) x)) h

by_bounds : (head method date : List ℕ) (o : Chosen) → length head ≤ o.most_head → has_bare_cr false head ≡ false → response_of head method date o ≡ by_lines method date o (lines_of head)
unfolding response_of
by_bounds head method date o whole bare = rw (le-ltb o.most_head (length head) whole, bare) refl

by_parts : (head start text method date : List ℕ) (line : ℕ × ℕ) (lines : List Field) (o : Chosen) (r : ReadResponse) → lines_of head ≡ (start ++ 13 ∷ []) ∷ lines_of text
    → row_of (start ++ 13 ∷ []) ≡ start → status_line start ≡ Ok line → fields_within o.most_lines (rows_of (lines_of text)) ≡ Ok lines → answered_by method date o line lines ≡ Ok r
    → by_lines method date o (lines_of head) ≡ Ok r
by_parts head start text method date line lines o r split back status within answered =
    ap (by_lines method date o) split
    ∙ ap (λ (x : List ℕ). on_ok (status_line x) (by_fields method date o (rows_of (lines_of text)))) back
    ∙ ap (λ (x : Result (ℕ × ℕ) Reason). on_ok x (by_fields method date o (rows_of (lines_of text)))) status
    ∙ ap (λ (x : Result (List Field) Reason). on_ok x (answered_by method date o line)) within
    ∙ answered

head_rows : (start : List ℕ) (lines : List Field) (rest : List ℕ) → head_then start lines rest ≡ rows_then (start ∷ map row_text lines) (13 ∷ 10 ∷ rest)
head_rows start lines rest = ap (λ (x : List ℕ). start ++ 13 ∷ 10 ∷ x) (block_rows lines (13 ∷ 10 ∷ rest))

-- what a response was found to be, within the operator's bounds
pub record IsPlain (start : List ℕ) (line : ℕ × ℕ) (lines : List Field) (o : Chosen) : Type 0 where
  pub start_is : is_row start ≡ true
  pub status_is : status_line start ≡ Ok line
  pub lines_are : list_all (is_plain_line watched) lines ≡ true
  pub head_within : length (head_then start lines []) ≤ o.most_head
  pub count_within : length lines ≤ o.most_lines

head_of : (start method date : List ℕ) (line : ℕ × ℕ) (lines : List Field) (o : Chosen) (r : ReadResponse) → IsPlain start line lines o → answered_by method date o line lines ≡ Ok r
    → response_of (head_then start lines []) method date o ≡ Ok r
head_of start method date line lines o r p answered =
    let head = head_then start lines [] in
    let rows = map row_text lines in
    let text = rows_then rows (13 ∷ 10 ∷ []) in
    let good = rows_are watched lines p.lines_are in
    let inner = (and_parts (is_filled start) (list_all is_inner start) p.start_is).1 in
    let bare : has_bare_end false head ≡ false =
    ap (has_bare_end false) (head_rows start lines []) ∙ none_bare (start ∷ rows) (13 ∷ 10 ∷ []) (rw (p.start_is, good) refl) in
    by_bounds head method date o p.head_within (no_bare_cr false head bare)
    ∙ by_parts head start text method date line lines o r (ap lines_of (head_rows start lines []) ∙ line_split start text inner) (row_back start) p.status_is
    (within_by o.most_lines text rows lines (rows_back rows good) (omega (arith, many lines, p.count_within)) (fields_back watched lines p.lines_are)) answered

pub reads : (start method date : List ℕ) (line : ℕ × ℕ) (lines : List Field) (rest : List ℕ) (o : Chosen) (r : ReadResponse) → IsPlain start line lines o → answered_by method date o line lines ≡ Ok r
    → read_response (head_then start lines rest) method date o ≡ Some (Ok (r, length (head_then start lines [])))
reads start method date line lines rest o r p answered =
    let head = head_then start lines [] in
    let whole = head_then start lines rest in
    let rows = map row_text lines in
    let same : length head ≡ rows_len (start ∷ rows) = ap (λ (x : List ℕ). length x) (head_rows start lines []) in
    let end : head_end whole ≡ Some (length head) =
    ap head_end (head_rows start lines rest) ∙ ends start rows rest p.start_is (rows_are watched lines p.lines_are) ∙ ap Some (sym same) in
    let front : take (length head) whole ≡ head =
    ap (λ (n : ℕ). take n whole) same ∙ ap (take (rows_len (start ∷ rows))) (head_rows start lines rest) ∙ head_is (start ∷ rows) rest ∙ sym (head_rows start lines []) in
    read_by whole head method date (length head) r o end front (head_of start method date line lines o r p answered)
