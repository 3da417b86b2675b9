-- The first and the last index, and a new row at an end.
use Rattle.std.proofs.Common.{◌≡◌, ℕ, suc, ◌-◌, ◌+◌, ◌<◌, take, true, inl, inr, List, [], ◌∷◌, ◌++◌, length, sym, refl, ap, ◌∙◌, arith, Option, Some, None, slice_get, set}
use Rattle.std.specs.Option.{option_copied, MatchOption}
use Rattle.std.specs.Borrow.{Bor}
use Rattle.std.proofs.lemmas.Bool.{cases_eq, eq-eqb, ne_eqb}
use Rattle.std.proofs.lemmas.Option.{slice_get_within, slice_get-get_or, get_or_from_slice_get}
use Rattle.std.proofs.lemmas.List.{take_more, take_all, length_push}
use Rattle.std.proofs.lemmas.List.Sums.{sum_by-cons, sum_by-append}
use Rattle.lru_list.specs.Slots.{has, without, Apart}
use Rattle.lru_list.proofs.Indexes.{has_apart, has_push_here, has_more, Apart_push, cases_has, has_push_none, Apart_front, without_last}
use Rattle.lru_list.proofs.Places.{slice_get-set_other}
use Rattle.lru_core.specs.declared.rows.Row.{Row}
use Rattle.lru_core.specs.declared.rows.End.{End}
use Rattle.lru_core.specs.declared.rows.End.TheVariants.{Front, Back}
use Rattle.lru_core.specs.Rows.{with_one, total_weight}
use Rattle.lru_core.specs.Tables.{row_at, rows_of, IsTabled}
use Rattle.lru_core.proofs.Tabled.{rows_same, rows-append, retabled}

-- the last index, if there is one
pub last_none : (is : List ℕ) → slice_get is (length is - 1) ≡ None → is ≡ []
last_none [] e = refl
last_none (x ∷ is) e = absurd (let l : length is < length (x ∷ is) = omega arith in let f : suc (length is) - 1 ≡ length is = omega arith in let g = rw f at e in let h = slice_get-get_or (x ∷ is) (length is) 0 l in let k = sym g ∙ h in cc)

pub last_some : (is : List ℕ) (i : ℕ) → slice_get is (length is - 1) ≡ Some i → (front : List ℕ) × (is ≡ front ++ i ∷ [])
last_some is i e =
    let l : length is - 1 < length is = slice_get_within is (length is - 1) i e in
    let k : length is - 1 + 1 ≡ length is = omega arith in
    let t = take_more is (length is - 1) 0 l in
    let v = get_or_from_slice_get is (length is - 1) i 0 e in
    (take (length is - 1) is, sym (take_all (length is) is (omega arith)) ∙ (rw (k, v) at t))

-- one more index at the front or the back: the same members
has_swap : (is : List ℕ) (i j : ℕ) → has (is ++ i ∷ []) j ≡ has (i ∷ is) j
has_swap is i j = elim (cases_eq i j) [
  | inl e ↦ rw (eq-eqb i j e) (ap (has (is ++ i ∷ [])) (sym e) ∙ has_push_here is i)
  | inr n ↦ elim (cases_has is j) [
    | inl t ↦ rw (ne_eqb i j n) (has_more is i j t ∙ sym t)
    | inr f ↦ rw (ne_eqb i j n) (has_push_none is i j f n ∙ sym f)
  ]
]

-- a new row at an end: what the table knows, and the rows
pub added_end : {T : Type 0} → (end : End) (n : ℕ → Option ℕ) (now : List (Option (Row T))) (is : List ℕ) (i : ℕ) → IsTabled n now (i ∷ is) → IsTabled n now (with_one end i is)
added_end Front n now is i w = w
added_end Back n now is i w = retabled n now (i ∷ is) w (is ++ i ∷ []) (Apart_push is i w.apart.1 w.apart.0) (has_swap is i)

pub rows_with_one : {T : Type 0} → (end : End) (items now : List (Option (Row T))) (is : List ℕ) (i : ℕ) (row : Row T) → slice_get now i ≡ Some (Some row)
    → ((j : ℕ) → has is j ≡ true → slice_get now j ≡ slice_get items j) → rows_of now (with_one end i is) ≡ with_one end row (rows_of items is)
rows_with_one Front items now is i row e kept = rw e (ap (λ l. row ∷ l) (rows_same items now is kept))
rows_with_one Back items now is i row e kept =
    let one : rows_of now (i ∷ []) ≡ row ∷ [] = rw e refl in
    rows-append now is (i ∷ []) ∙ rw (rows_same items now is kept, one)

-- and the sums
pub sums_with_one : {T : Type 0} → (end : End) (row : Row T) (rows : List (Row T)) → (total_weight (with_one end row rows) ≡ total_weight rows + row.weight) × (length (with_one end row rows) ≡ length rows + 1)
sums_with_one Front row rows = (sum_by-cons (λ r. r.weight) row rows ∙ omega arith, omega arith)
sums_with_one Back row rows =
    let w = sum_by-append (λ r. r.weight) rows (row ∷ []) in
    let one : total_weight (row ∷ []) ≡ row.weight = sum_by-cons (λ r. r.weight) row [] ∙ omega arith in
    (omega (arith, w, one), length_push rows row)

-- the rows end with the row of the last index
pub rows_end : {T : Type 0} → (items : List (Option (Row T))) (front : List ℕ) (i : ℕ) (row : Row T) → row_at items i ≡ Some row → rows_of items (front ++ i ∷ []) ≡ rows_of items front ++ row ∷ []
rows_end items front i row e = let one : rows_of items (i ∷ []) ≡ row ∷ [] = rw e refl in rows-append items front (i ∷ []) ∙ rw one

-- without the last index the rows are the front
pub rows_left : {T : Type 0} → (items : List (Option (Row T))) (front : List ℕ) (i : ℕ) (d : Option (Row T)) → Apart (front ++ i ∷ [])
    → rows_of (set items i d) (without i (front ++ i ∷ [])) ≡ rows_of items front
rows_left items front i d a =
    let p = Apart_front front i a in
    rw (without_last front i p.1) (rows_same items (set items i d) front (λ j h. slice_get-set_other items i j d (has_apart front j i h p.1)))

-- what a reference to the last row says
pub last_found : {X : Type 0} → (o : Option (Bor X)) (xs front : List X) (r : X) → option_copied o ≡ Some r → xs ≡ front ++ r ∷ []
    → MatchOption o (xs ≡ []) (λ y. (front : List X) × (xs ≡ front ++ y.now ∷ []))
last_found None xs front r e h = absurd (let u : option_copied None ≡ Some r = e in cc)
last_found (Some y) xs front r e h = let s : y.now ≡ r = cc in (front, rw s h)
