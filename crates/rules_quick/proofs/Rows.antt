-- Rows with CR LF behind each: what the definitions of a head make of them.
use Rattle.std.proofs.Common.{◌≡◌, ℕ, ◌+◌, ◌-◌, ◌==◌, ◌&&◌, not, Bool, true, false, List, [], ◌∷◌, ◌++◌, take, length, refl, ap, ◌∙◌, arith}
use Rattle.std.specs.Prelude.{Some}
use Rattle.std.specs.List.{list_all, onto_first}
use Rattle.std.proofs.lemmas.Grind.{common_steps}
use Rattle.std.proofs.Math.Seq.{take-append_seam, drop-append_seam}
use Rattle.rules_fields.specs.Texts.{is_filled}
use Rattle.http1_message_parts.specs.End.{end_from}
use Rattle.http1_message_parts.specs.Lines.{has_bare_end, lines_of, row_of, rows_of}
use Rattle.http1_message_parts.specs.Start.{start_len}

-- a byte that ends no line
abbrev pub is_inner : ℕ → Bool
is_inner b = not (b == 13) && not (b == 10)

pub not_cr : (b : ℕ) → is_inner b ≡ true → (b == 13) ≡ false
not_cr b h = go (b == 13) (b == 10) h
  where
    go : (r l : Bool) → (not r && not l) ≡ true → r ≡ false
    go true l k = cc
    go false l k = refl

pub not_lf : (b : ℕ) → is_inner b ≡ true → (b == 10) ≡ false
not_lf b h = go (b == 13) (b == 10) h
  where
    go : (r l : Bool) → (not r && not l) ≡ true → l ≡ false
    go true l k = cc
    go false true k = cc
    go false false k = refl

pub of_and : (p q : Bool) → (p && q) ≡ true → (p ≡ true) × (q ≡ true)
of_and true true h = (refl, refl)
of_and true false h = cc
of_and false q h = cc

-- rows, each with CR LF behind it, and what follows
abbrev pub rows_then : List (List ℕ) → List ℕ → List ℕ
rows_then [] tail = tail
rows_then (row ∷ rows) tail = row ++ 13 ∷ 10 ∷ rows_then rows tail

abbrev pub is_row : List ℕ → Bool
is_row row = is_filled row && list_all is_inner row

-- no CR or LF stands alone
row_passed : (row tail : List ℕ) → list_all is_inner row ≡ true → has_bare_end false (row ++ tail) ≡ has_bare_end false tail
row_passed [] tail h = refl
row_passed (b ∷ row) tail h = let p = of_and (is_inner b) (list_all is_inner row) h in rw (not_lf b p.0, not_cr b p.0) (row_passed row tail p.1)

pub none_bare : (rows : List (List ℕ)) (tail : List ℕ) → list_all is_row rows ≡ true → has_bare_end false (rows_then rows tail) ≡ has_bare_end false tail
none_bare [] tail h = refl
none_bare (row ∷ rows) tail h =
    let p = of_and (is_row row) (list_all is_row rows) h in
    let q = of_and (is_filled row) (list_all is_inner row) p.0 in
    row_passed row (13 ∷ 10 ∷ rows_then rows tail) q.1 ∙ none_bare rows tail p.1

-- the first CR LF stands behind the first row
pub starts : (row tail : List ℕ) → list_all is_inner row ≡ true → start_len (row ++ 13 ∷ 10 ∷ tail) ≡ length row
starts [] tail h = refl
starts (b ∷ row) tail h = let p = of_and (is_inner b) (list_all is_inner row) h in rw (not_cr b p.0) (ap (λ n. 1 + n) (starts row tail p.1) ∙ omega arith)

-- the lines are the rows, each with its CR
pub line_split : (row tail : List ℕ) → list_all is_inner row ≡ true → lines_of (row ++ 13 ∷ 10 ∷ tail) ≡ (row ++ 13 ∷ []) ∷ lines_of tail
line_split [] tail h = refl
line_split (b ∷ row) tail h = let p = of_and (is_inner b) (list_all is_inner row) h in rw (not_lf b p.0) (ap (onto_first b) (line_split row tail p.1))

pub row_back : (row : List ℕ) → row_of (row ++ 13 ∷ []) ≡ row
row_back row = rw (shorter row, drop-append_seam row (13 ∷ [])) (take-append_seam row (13 ∷ []))
  where
    shorter : (row : List ℕ) → length (row ++ 13 ∷ []) - 1 ≡ length row
    shorter row = grind (arith, common_steps)

pub rows_back : (rows : List (List ℕ)) → list_all is_row rows ≡ true → rows_of (lines_of (rows_then rows (13 ∷ 10 ∷ []))) ≡ rows
rows_back [] h = refl
rows_back (row ∷ rows) h =
    let p = of_and (is_row row) (list_all is_row rows) h in
    let q = of_and (is_filled row) (list_all is_inner row) p.0 in
    rw (line_split row (rows_then rows (13 ∷ 10 ∷ [])) q.1, row_back row, q.0) (ap (λ rs. row ∷ rs) (rows_back rows p.1))

-- where the head ends: what stands in front, read backwards, begins with a byte that ends no line
abbrev begins_inner : List ℕ → Bool
begins_inner [] = false
begins_inner (b ∷ passed) = is_inner b

abbrev onto : List ℕ → List ℕ → List ℕ
onto [] passed = passed
onto (b ∷ row) passed = onto row (b ∷ passed)

inner_passed : (row : List ℕ) (n : ℕ) (passed tail : List ℕ) → list_all is_inner row ≡ true → end_from n passed (row ++ tail) ≡ end_from (n + length row) (onto row passed) tail
inner_passed [] n passed tail h = ap (λ m. end_from m passed tail) (omega arith)
inner_passed (b ∷ row) n passed tail h =
    let p = of_and (is_inner b) (list_all is_inner row) h in
    rw (not_lf b p.0) (inner_passed row (n + 1) (b ∷ passed) tail p.1 ∙ ap (λ m. end_from m (onto row (b ∷ passed)) tail) (omega arith))

onto_inner : (row passed : List ℕ) → begins_inner passed ≡ true → list_all is_inner row ≡ true → begins_inner (onto row passed) ≡ true
onto_inner [] passed e h = e
onto_inner (b ∷ row) passed e h = let p = of_and (is_inner b) (list_all is_inner row) h in onto_inner row (b ∷ passed) p.0 p.1

row_inner : (row passed : List ℕ) → is_row row ≡ true → begins_inner (onto row passed) ≡ true
row_inner [] passed h = cc
row_inner (b ∷ row) passed h = let p = of_and (is_inner b) (list_all is_inner row) h in onto_inner row (b ∷ passed) p.0 p.1

-- the CR LF of a row ends no head
goes_on : (n : ℕ) (passed tail : List ℕ) → begins_inner passed ≡ true → end_from n passed (13 ∷ 10 ∷ tail) ≡ end_from (n + 2) (10 ∷ 13 ∷ passed) tail
goes_on n [] tail e = cc
goes_on n (b ∷ passed) tail e = rw (not_lf b e) (ap (λ m. end_from m (10 ∷ 13 ∷ b ∷ passed) tail) (omega arith))

-- and the next CR LF ends it
ends_here : (n : ℕ) (passed tail : List ℕ) → begins_inner passed ≡ true → end_from n (10 ∷ 13 ∷ passed) (13 ∷ 10 ∷ tail) ≡ Some (n + 2)
ends_here n [] tail e = cc
ends_here n (b ∷ passed) tail e = rw (not_lf b e) (ap Some (omega arith))

-- the bytes of rows and of an empty line
abbrev pub rows_len : List (List ℕ) → ℕ
rows_len rows = length (rows_then rows (13 ∷ 10 ∷ []))

longer : (row : List ℕ) (rows : List (List ℕ)) → rows_len (row ∷ rows) ≡ length row + 2 + rows_len rows
longer row rows = grind (arith, common_steps)

ends_behind : (rows : List (List ℕ)) (n : ℕ) (passed tail : List ℕ) → list_all is_row rows ≡ true → begins_inner passed ≡ true
    → end_from n (10 ∷ 13 ∷ passed) (rows_then rows (13 ∷ 10 ∷ tail)) ≡ Some (n + rows_len rows)
ends_behind [] n passed tail h e = ends_here n passed tail e
ends_behind (row ∷ rows) n passed tail h e =
    let p = of_and (is_row row) (list_all is_row rows) h in
    let q = of_and (is_filled row) (list_all is_inner row) p.0 in
    let before = 10 ∷ 13 ∷ passed in
    let rest = rows_then rows (13 ∷ 10 ∷ tail) in
    let i = row_inner row before p.0 in
    inner_passed row n before (13 ∷ 10 ∷ rest) q.1 ∙ goes_on (n + length row) (onto row before) rest i
    ∙ ends_behind rows (n + length row + 2) (onto row before) tail p.1 i ∙ ap Some (omega (arith, longer row rows))

pub ends : (row : List ℕ) (rows : List (List ℕ)) (tail : List ℕ) → is_row row ≡ true → list_all is_row rows ≡ true
    → end_from 0 [] (rows_then (row ∷ rows) (13 ∷ 10 ∷ tail)) ≡ Some (rows_len (row ∷ rows))
ends row rows tail h hs =
    let q = of_and (is_filled row) (list_all is_inner row) h in
    let rest = rows_then rows (13 ∷ 10 ∷ tail) in
    let i = row_inner row [] h in
    inner_passed row 0 [] (13 ∷ 10 ∷ rest) q.1 ∙ goes_on (0 + length row) (onto row []) rest i
    ∙ ends_behind rows (0 + length row + 2) (onto row []) tail hs i ∙ ap Some (omega (arith, longer row rows))

-- the head is what comes in front of the rest
pub in_front : (rows : List (List ℕ)) (tail rest : List ℕ) → rows_then rows (tail ++ rest) ≡ rows_then rows tail ++ rest
in_front [] tail rest = refl
in_front (row ∷ rows) tail rest = rw (in_front rows tail rest) (grind (arith, common_steps))

pub head_is : (rows : List (List ℕ)) (rest : List ℕ) → take (rows_len rows) (rows_then rows (13 ∷ 10 ∷ rest)) ≡ rows_then rows (13 ∷ 10 ∷ [])
head_is rows rest =
    ap (take (rows_len rows)) (in_front rows (13 ∷ 10 ∷ []) rest) ∙ take-append_seam (rows_then rows (13 ∷ 10 ∷ [])) rest
