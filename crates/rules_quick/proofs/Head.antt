-- A plain head is read as its parts say, up to what its lines mean.
use Rattle.std.proofs.Common.{◌≡◌, ℕ, ◌≤◌, true, false, List, [], ◌∷◌, ◌++◌, take, drop, length, refl, sym, ap, ◌∙◌, suc, arith}
use Rattle.std.specs.Prelude.{map, Some, Result, Ok}
use Rattle.std.specs.List.{list_all}
use Rattle.std.proofs.lemmas.Bool.{le-ltb, and_parts, and_from}
use Rattle.std.proofs.Math.Seq.{take-append_seam, drop-append_seam}
use Rattle.rules_fields.specs.Tables.{among}
use Rattle.rules_fields.specs.Fields.{Field}
use Rattle.rules_fields.specs.Types.{Chosen}
use Rattle.http1_message_parts.specs.Results.{map_ok}
use Rattle.http1_message_parts.specs.declared.reason.Reason.{Reason}
use Rattle.http1_message_parts.specs.End.{head_end}
use Rattle.http1_message_parts.specs.Lines.{has_bare_end, lines_of, rows_of, fields_of, fields_within}
use Rattle.http1_message_parts.specs.Start.{RequestLine, request_line, request_start, start_len, skip_empty}
use Rattle.http1_message.specs.Request.{ReadRequest, framed, request_of, read_until, read_request}
use Rattle.rules_fields.specs.Texts.{is_filled}
use Rattle.rules_ffi_arguments.specs.Rooms.{block}
use Rattle.rules_quick.specs.Plain.{watched, is_plain_line, is_plain_target, is_plain_method, start_text, head_then}
use Rattle.rules_quick.proofs.Rows.{is_inner, is_row, rows_len, none_bare, starts, rows_back, ends, head_is}
use Rattle.rules_quick.proofs.Written.{row_text, fields_back, rows_are, head_rows, block_rows}
use Rattle.rules_quick.proofs.FirstLine.{start_back, start_row, start_first}

-- what a request was found to be, within the operator's bounds
pub record IsPlain (method target : List ℕ) (lines : List Field) (o : Chosen) : Type 0 where
  pub method_is : is_plain_method method ≡ true
  pub target_is : is_plain_target target ≡ true
  pub lines_are : list_all (is_plain_line watched) lines ≡ true
  pub start_within : length (start_text method target) ≤ o.most_target
  pub head_within : length (head_then method target lines []) ≤ o.most_head
  pub line_within : length (head_then method target lines []) ≤ o.most_line
  pub count_within : length lines ≤ o.most_lines
  pub unrefused : among o.refuses method ≡ false

abbrev pub the_line : List ℕ → List ℕ → RequestLine
the_line method target = record { method = method; target = target; minor = 1 }

start_by : (head row : List ℕ) (line : RequestLine) (o : Chosen) → start_len head ≡ length row → take (length row) head ≡ row → length row ≤ o.most_target
    → length head ≤ o.most_head → has_bare_end false head ≡ false → request_line row ≡ Ok line → among o.refuses line.method ≡ false → request_start head o ≡ Ok line
unfolding request_start
start_by head row line o len front within whole bare is unrefused =
    rw (len, le-ltb o.most_target (length row) within, le-ltb o.most_head (length head) whole, bare, front, is) (rw unrefused refl)

pub within_by : (most : ℕ) (text : List ℕ) (rows : List (List ℕ)) (lines : List Field) → rows_of (lines_of text) ≡ rows → length rows ≤ most → fields_of rows ≡ Ok lines
    → fields_within most (rows_of (lines_of text)) ≡ Ok lines
within_by most text rows lines r le f = rw (r, le-ltb most (length rows) le) f

head_by : (head text : List ℕ) (line : RequestLine) (lines : List Field) (o : Chosen) → request_start head o ≡ Ok line → drop 2 (drop (start_len head) head) ≡ text
    → fields_within o.most_lines (rows_of (lines_of text)) ≡ Ok lines → request_of head o ≡ framed line o lines
unfolding request_of
head_by head text line lines o s d f = rw (s, d, f) refl

read_by : (bytes head : List ℕ) (n : ℕ) (r : ReadRequest) (o : Chosen) → head_end bytes ≡ Some n → take n bytes ≡ head → skip_empty head ≡ head → request_of head o ≡ Ok r
    → read_request bytes o ≡ Some (Ok (r, n))
unfolding read_request
read_by bytes head n r o e t s h =
    ap (read_until bytes o) e ∙ ap (λ (x : List ℕ). Some (map_ok (λ head. (head, n)) (request_of (skip_empty x) o))) t
    ∙ ap (λ (x : List ℕ). Some (map_ok (λ head. (head, n)) (request_of x o))) s ∙ ap (λ (x : Result ReadRequest Reason). Some (map_ok (λ head. (head, n)) x)) h

-- the rows of a plain request
abbrev rows : List ℕ → List ℕ → List Field → List (List ℕ)
rows method target lines = start_text method target ∷ map row_text lines

rows_good : (method target : List ℕ) (lines : List Field) (o : Chosen) → IsPlain method target lines o → list_all is_row (rows method target lines) ≡ true
rows_good method target lines o p = and_from (is_row (start_text method target)) (list_all is_row (map row_text lines)) (start_row method target p.method_is p.target_is) (rows_are watched lines p.lines_are)

pub many : (lines : List Field) → length (map row_text lines) ≡ length lines
many [] = refl
many (f ∷ lines) = ap (λ (n : ℕ). suc n) (many lines)

pub head_of : (method target : List ℕ) (lines : List Field) (o : Chosen) → IsPlain method target lines o
    → request_of (head_then method target lines []) o ≡ framed (the_line method target) o lines
head_of method target lines o p =
    let head = head_then method target lines [] in
    let start = start_text method target in
    let text = block lines ++ (13 ∷ 10 ∷ []) in
    let filled = and_parts (is_filled start) (list_all is_inner start) (start_row method target p.method_is p.target_is) in
    let len : start_len head ≡ length start = starts start text filled.1 in
    let bare : has_bare_end false head ≡ false =
    ap (has_bare_end false) (head_rows method target lines []) ∙ none_bare (rows method target lines) (13 ∷ 10 ∷ []) (rows_good method target lines o p) in
    let line = start_by head start (the_line method target) o len (take-append_seam start (13 ∷ 10 ∷ text)) p.start_within p.head_within bare
    (start_back method target p.method_is p.target_is) p.unrefused in
    let behind : drop 2 (drop (start_len head) head) ≡ text = ap (λ (n : ℕ). drop 2 (drop n head)) len ∙ ap (drop 2) (drop-append_seam start (13 ∷ 10 ∷ text)) in
    let back : rows_of (lines_of text) ≡ map row_text lines =
    ap (λ (x : List ℕ). rows_of (lines_of x)) (block_rows lines (13 ∷ 10 ∷ [])) ∙ rows_back (map row_text lines) (rows_are watched lines p.lines_are) in
    head_by head text (the_line method target) lines o line behind
    (within_by o.most_lines text (map row_text lines) lines back (omega (arith, many lines, p.count_within)) (fields_back watched lines p.lines_are))

pub reads : (method target : List ℕ) (lines : List Field) (o : Chosen) (rest : List ℕ) (r : ReadRequest) → IsPlain method target lines o
    → framed (the_line method target) o lines ≡ Ok r → read_request (head_then method target lines rest) o ≡ Some (Ok (r, length (head_then method target lines [])))
reads method target lines o rest r p e =
    let head = head_then method target lines [] in
    let whole = head_then method target lines rest in
    let all_rows = rows method target lines in
    let good = and_parts (is_row (start_text method target)) (list_all is_row (map row_text lines)) (rows_good method target lines o p) in
    let same : length head ≡ rows_len all_rows = ap (λ (x : List ℕ). length x) (head_rows method target lines []) in
    let end : head_end whole ≡ Some (length head) =
    ap head_end (head_rows method target lines rest) ∙ ends (start_text method target) (map row_text lines) rest good.0 good.1 ∙ ap Some (sym same) in
    let front : take (length head) whole ≡ head =
    ap (λ (n : ℕ). take n whole) same ∙ ap (take (rows_len all_rows)) (head_rows method target lines rest) ∙ head_is all_rows rest ∙ sym (head_rows method target lines []) in
    read_by whole head (length head) r o end front (start_first method target (13 ∷ 10 ∷ (block lines ++ (13 ∷ 10 ∷ []))) p.method_is) (head_of method target lines o p ∙ e)
