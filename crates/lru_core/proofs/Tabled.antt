-- What each change of the table, the slots and the order does to the rows.
use Rattle.std.proofs.Common.{◌≡◌, ◌≢◌, ℕ, zero, suc, take, IsSome, true, false, ◌<◌, eqb, inl, inr, List, [], ◌∷◌, ◌++◌, length, sym, refl, ap, ◌∙◌, Option, Some, None, slice_get, set}
use Rattle.std.specs.Option.{option_and_then}
use Rattle.std.proofs.lemmas.Bool.{cases_eq, eq-eqb, ne_eqb, true≢false, false≢true}
use Rattle.std.proofs.lemmas.Option.{slice_get_within}
use Rattle.lru_list.specs.Slots.{has, without, Apart}
use Rattle.lru_list.proofs.Indexes.{has_here, has_rest, has_cases, has_not, has_apart, has_left, has-without_other, has-without_same, Apart-without, cases_has}
use Rattle.lru_list.proofs.Places.{slice_get-set_same, slice_get-set_other}
use Rattle.lru_core.specs.declared.rows.Row.{Row}
use Rattle.lru_core.specs.Rows.{only, others, put}
use Rattle.lru_core.specs.Tables.{row_at, rows_of, IsTabled}

module _ {T : Type 0} where
  -- each index has a row, which is of key k just where the index is i
  abbrev pub IsAt : List (Option (Row T)) → ℕ → ℕ → List ℕ → Type 0
  IsAt items k i is = (j : ℕ) → has is j ≡ true → (r : Row T) × (row_at items j ≡ Some r) × (eqb r.key k ≡ eqb j i)

  at_rest : (items : List (Option (Row T))) (k i x : ℕ) (is : List ℕ) → IsAt items k i (x ∷ is) → IsAt items k i is
  at_rest items k i x is a j h = a j (has_rest x is j h)

  pub rows_others : (items : List (Option (Row T))) (k i : ℕ) (is : List ℕ) → IsAt items k i is → rows_of items (without i is) ≡ others k (rows_of items is)
  rows_others items k i [] a = refl
  rows_others items k i (x ∷ is) a =
      let r = a x (has_here x is) in
      let rest = rows_others items k i is (at_rest items k i x is a) in
      elim (cases_eq x i) [
        | inl e ↦ rw (eq-eqb x i e, r.1, r.2, eq-eqb x i e) rest
        | inr n ↦ rw (ne_eqb x i n, r.1, r.2, ne_eqb x i n) (ap (λ l. r.0 ∷ l) rest)
      ]

  pub rows_none : (items : List (Option (Row T))) (k i : ℕ) (is : List ℕ) → IsAt items k i is → has is i ≡ false → only k (rows_of items is) ≡ []
  rows_none items k i [] a h = refl
  rows_none items k i (x ∷ is) a h =
      let r = a x (has_here x is) in
      let n = has_not x is i h in
      rw (r.1, r.2, ne_eqb x i n.0) (rows_none items k i is (at_rest items k i x is a) n.1)

  pub rows_only : (items : List (Option (Row T))) (k i : ℕ) (is : List ℕ) (row : Row T) → IsAt items k i is → Apart is → has is i ≡ true → row_at items i ≡ Some row
      → only k (rows_of items is) ≡ row ∷ []
  rows_only items k i [] row a p h e = absurd (false≢true h)
  rows_only items k i (x ∷ is) row a p h e =
      let r = a x (has_here x is) in
      elim (cases_eq x i) [
        | inl s ↦
            let same : r.0 ≡ row = let f = sym r.1 ∙ (ap (row_at items) s ∙ e) in cc in
            let off : has is i ≡ false = ap (has is) (sym s) ∙ p.0 in
            rw (r.1, r.2, eq-eqb x i s, rows_none items k i is (at_rest items k i x is a) off, same)
        | inr n ↦ rw (r.1, r.2, ne_eqb x i n) (rows_only items k i is row (at_rest items k i x is a) p.1 (rw (ne_eqb x i n) at h) e)
      ]

  -- the same slots make the same rows
  pub rows_same : (items now : List (Option (Row T))) (is : List ℕ) → ((j : ℕ) → has is j ≡ true → slice_get now j ≡ slice_get items j) → rows_of now is ≡ rows_of items is
  rows_same items now [] s = refl
  rows_same items now (x ∷ is) s = rw (s x (has_here x is), rows_same items now is (λ j h. s j (has_rest x is j h)))

  pub rows-append : (items : List (Option (Row T))) (is js : List ℕ) → rows_of items (is ++ js) ≡ rows_of items is ++ rows_of items js
  rows-append items [] js = refl
  rows-append items (x ∷ is) js = elim (row_at items x) as (λ o. row_at items x ≡ o → rows_of items (x ∷ (is ++ js)) ≡ rows_of items (x ∷ is) ++ rows_of items js) [
    | None ↦ λ e. rw e (rows-append items is js)
    | Some r ↦ λ e. rw e (ap (λ l. r ∷ l) (rows-append items is js))
  ] refl

  pub length-rows : (items : List (Option (Row T))) (is : List ℕ) → ((j : ℕ) → has is j ≡ true → (r : Row T) × (row_at items j ≡ Some r)) → length (rows_of items is) ≡ length is
  length-rows items [] a = refl
  length-rows items (x ∷ is) a = rw (a x (has_here x is)).1 (ap (λ n. suc n) (length-rows items is (λ j h. a j (has_rest x is j h))))

  pub rows_absent : (items : List (Option (Row T))) (k : ℕ) (is : List ℕ) → ((j : ℕ) → has is j ≡ true → (r : Row T) × (row_at items j ≡ Some r) × (r.key ≢ k)) → only k (rows_of items is) ≡ []
  rows_absent items k [] a = refl
  rows_absent items k (x ∷ is) a =
      let r = a x (has_here x is) in
      rw (r.1, ne_eqb r.0.key k r.2) (rows_absent items k is (λ j h. a j (has_rest x is j h)))

  -- a slot with a row is a slot
  pub at_within : (items : List (Option (Row T))) (i : ℕ) (r : Row T) → row_at items i ≡ Some r → i < length items
  at_within items i r e = elim (slice_get items i) as (λ o. slice_get items i ≡ o → i < length items) [
    | None ↦ λ f. absurd (let g = sym (ap (option_and_then (λ o. o)) f) ∙ e in cc)
    | Some o ↦ λ f. slice_get_within items i o f
  ] refl

  pub rows_put : (items : List (Option (Row T))) (row : Row T) (i : ℕ) (is : List ℕ) → i < length items → IsAt items row.key i is → rows_of (set items i (Some row)) is ≡ put row (rows_of items is)
  rows_put items row i [] l a = refl
  rows_put items row i (x ∷ is) l a =
      let r = a x (has_here x is) in
      let rest = rows_put items row i is l (at_rest items row.key i x is a) in
      elim (cases_eq x i) [
        | inl e ↦ rw (r.1, r.2, eq-eqb x i e, e, slice_get-set_same items i (Some row) l) (ap (λ l. row ∷ l) rest)
        | inr n ↦ rw (slice_get-set_other items i x (Some row) n, r.1, r.2, ne_eqb x i n) (ap (λ l. r.0 ∷ l) rest)
      ]

  -- a front of the rows has the rows of a front of the indexes
  pub rows-take : (items : List (Option (Row T))) (n : ℕ) (is : List ℕ) → ((j : ℕ) → has is j ≡ true → (r : Row T) × (row_at items j ≡ Some r)) → take n (rows_of items is) ≡ rows_of items (take n is)
  rows-take items zero is a = refl
  rows-take items (suc n) [] a = refl
  rows-take items (suc n) (x ∷ is) a =
      let r = a x (has_here x is) in
      rw r.1 (ap (λ l. r.0 ∷ l) (rows-take items n is (λ j h. a j (has_rest x is j h))))

  -- what a slot with a row holds
  pub slot_row : (items : List (Option (Row T))) (i : ℕ) (o : Option (Row T)) (r : Row T) → slice_get items i ≡ Some o → row_at items i ≡ Some r → o ≡ Some r
  slot_row items i o r e f = sym (ap (option_and_then (λ o. o)) e) ∙ f

has_taken : (n : ℕ) (is : List ℕ) (j : ℕ) → has (take n is) j ≡ true → has is j ≡ true
has_taken zero is j h = absurd (false≢true h)
has_taken (suc n) [] j h = absurd (false≢true h)
has_taken (suc n) (x ∷ is) j h = elim (has_cases x (take n is) j h) [ inl e ↦ rw (eq-eqb x j e) | inr r ↦ has_rest x is j (has_taken n is j r) ]

has_taken_none : (n : ℕ) (is : List ℕ) (j : ℕ) → has is j ≡ false → has (take n is) j ≡ false
has_taken_none n is j h = elim (cases_has (take n is) j) [ inl t ↦ absurd (true≢false (sym (has_taken n is j t) ∙ h)) | inr f ↦ f ]

Apart-take : (n : ℕ) (is : List ℕ) → Apart is → Apart (take n is)
Apart-take zero is a = tt
Apart-take (suc n) [] a = tt
Apart-take (suc n) (x ∷ is) a = (has_taken_none n is x a.0, Apart-take n is a.1)

module _ {T : Type 0} (m : ℕ → Option ℕ) (items : List (Option (Row T))) (is : List ℕ) (w : IsTabled m items is) where
  -- where the table has an index for k
  pub found_at : (k i : ℕ) → m k ≡ Some i → IsAt items k i is
  found_at k i e j h =
      let r = w.named j h in
      let f = w.known k i e in (
        r.0,
        r.1,
        elim (cases_eq j i) [
          | inl s ↦
              let same : r.0.key ≡ k = let t = sym r.1 ∙ (ap (row_at items) s ∙ f.1.1) in let u : r.0 ≡ f.1.0 = cc in ap (λ x. x.key) u ∙ f.1.2 in
              rw (eq-eqb r.0.key k same, eq-eqb j i s)
          | inr n ↦
              let other : r.0.key ≢ k = λ t. n (let u = sym r.2 ∙ (ap m t ∙ e) in cc) in
              rw (ne_eqb r.0.key k other, ne_eqb j i n)
        ],
      )

  pub found_others : (k i : ℕ) → m k ≡ Some i → rows_of items (without i is) ≡ others k (rows_of items is)
  found_others k i e = rows_others items k i is (found_at k i e)

  pub found_only : (k i : ℕ) → m k ≡ Some i → (r : Row T) × (row_at items i ≡ Some r) × (r.key ≡ k) × (only k (rows_of items is) ≡ r ∷ [])
  found_only k i e =
      let f = w.known k i e in
      (f.1.0, f.1.1, f.1.2, rows_only items k i is f.1.0 (found_at k i e) w.apart f.0 f.1.1)

  -- where it has none: the rows are all of other keys
  pub absent_only : (k : ℕ) → m k ≡ None → only k (rows_of items is) ≡ []
  absent_only k e = rows_absent items k is (λ j h. let r = w.named j h in (r.0, r.1, λ t. let u = sym r.2 ∙ (ap m t ∙ e) in cc))

  -- whether the row of k is among the first n
  pub near_found : (k i n : ℕ) → m k ≡ Some i → (has (take n is) i ≡ true → only k (take n (rows_of items is)) ≢ []) × (only k (take n (rows_of items is)) ≢ [] → has (take n is) i ≡ true)
  near_found k i n e =
      let f = w.known k i e in
      let at : IsAt items k i (take n is) = λ j h. found_at k i e j (has_taken n is j h) in
      let same = rows-take items n is (λ j h. let r = w.named j h in (r.0, r.1)) in
      rw same (
        λ h q. let o = rows_only items k i (take n is) f.1.0 at (Apart-take n is w.apart) h f.1.1 in let u = sym q ∙ o in cc,
        λ q. elim (cases_has (take n is) i) [ inl t ↦ t | inr g ↦ absurd (q (rows_none items k i (take n is) at g)) ],
      )

  pub near_absent : (k n : ℕ) → m k ≡ None → only k (take n (rows_of items is)) ≡ []
  near_absent k n e =
      rw (rows-take items n is (λ j h. let r = w.named j h in (r.0, r.1)))
      (rows_absent items k (take n is) (λ j h. let r = w.named j (has_taken n is j h) in (r.0, r.1, λ t. let u = sym r.2 ∙ (ap m t ∙ e) in cc)))

  pub present : (k : ℕ) → only k (rows_of items is) ≢ [] → IsSome (m k)
  present k n = elim (m k) as (λ o. m k ≡ o → IsSome o) [ None ↦ λ e. absurd (n (absent_only k e)) | Some i ↦ λ e. refl ] refl

  pub tabled_length : length (rows_of items is) ≡ length is
  tabled_length = length-rows items is (λ j h. let r = w.named j h in (r.0, r.1))

  -- the same indexes in another order
  pub retabled : (js : List ℕ) → Apart js → ((j : ℕ) → has js j ≡ has is j) → IsTabled m items js
  retabled js p s = record {
    apart = p;
    known = λ k i e. let f = w.known k i e in (s i ∙ f.0, f.1);
    named = λ i h. w.named i (sym (s i) ∙ h);
  }

  pub to_front : (i : ℕ) → has is i ≡ true → IsTabled m items (i ∷ without i is)
  to_front i h = retabled (i ∷ without i is) (has-without_same i is, Apart-without i is w.apart) (λ j. elim (cases_eq i j) [
    | inl e ↦ rw (eq-eqb i j e) (sym (ap (has is) (sym e) ∙ h))
    | inr n ↦ rw (ne_eqb i j n) (has-without_other i j is n)
  ])

  pub front_rows : (k i : ℕ) → m k ≡ Some i → rows_of items (i ∷ without i is) ≡ only k (rows_of items is) ++ others k (rows_of items is)
  front_rows k i e = let f = found_only k i e in rw (f.1, f.3) (ap (λ l. f.0 ∷ l) (found_others k i e))

  module _ (now : List (Option (Row T))) (kept : (j : ℕ) → has is j ≡ true → slice_get now j ≡ slice_get items j) where
    -- a row of a new key at a new index
    pub added : (n : ℕ → Option ℕ) (i : ℕ) (row : Row T) → has is i ≡ false → slice_get now i ≡ Some (Some row) → only row.key (rows_of items is) ≡ []
        → n row.key ≡ Some i → ((q : ℕ) → (q ≡ row.key → ⊥) → n q ≡ m q) → IsTabled n now (i ∷ is)
    added n i row h e absent here others = record {
      apart = (h, w.apart);
      known = λ k j f. elim (cases_eq k row.key) [
        | inl s ↦
            let t : i ≡ j = let u = sym here ∙ (ap n (sym s) ∙ f) in cc in
            rw (← t) (has_here i is, (row, rw e refl, sym s))
        | inr d ↦
            let g = w.known k j (sym (others k d) ∙ f) in
            (has_rest i is j g.0, (g.1.0, rw (kept j g.0) g.1.1, g.1.2))
      ];
      named = λ j f. elim (has_cases i is j f) [
        | inl s ↦ rw (← s) (row, rw e refl, here)
        | inr g ↦
            let r = w.named j g in
            let d : r.0.key ≢ row.key = λ t. let u = found_only row.key j (ap m (sym t) ∙ r.2) in let v = sym absent ∙ u.3 in cc in
            (r.0, rw (kept j g) r.1, others r.0.key d ∙ r.2)
      ];
    }

  -- another row of the same key at its index
  pub exchanged : (i : ℕ) (row : Row T) → m row.key ≡ Some i → IsTabled m (set items i (Some row)) is
  exchanged i row e =
      let f = w.known row.key i e in
      let l : i < length items = at_within items i f.1.0 f.1.1 in
      let here : row_at (set items i (Some row)) i ≡ Some row = rw (slice_get-set_same items i (Some row) l) refl in
      record {
        apart = w.apart;
        known = λ k j g. elim (cases_eq j i) [
          | inl s ↦
              let t : k ≡ row.key = let u = w.known k j g in let x = sym u.1.1 ∙ (ap (row_at items) s ∙ f.1.1) in let y : u.1.0 ≡ f.1.0 = cc in sym u.1.2 ∙ (ap (λ r. r.key) y ∙ f.1.2) in
              rw s (f.0, (row, here, sym t))
          | inr n ↦ let u = w.known k j g in (u.0, (u.1.0, rw (slice_get-set_other items i j (Some row) n) u.1.1, u.1.2))
        ];
        named = λ j h. elim (cases_eq j i) [
          | inl s ↦ rw s (row, here, e)
          | inr n ↦ let r = w.named j h in (r.0, rw (slice_get-set_other items i j (Some row) n) r.1, r.2)
        ];
      }

  pub exchanged_rows : (i : ℕ) (row : Row T) → m row.key ≡ Some i → rows_of (set items i (Some row)) is ≡ put row (rows_of items is)
  exchanged_rows i row e =
      let f = w.known row.key i e in
      rows_put items row i is (at_within items i f.1.0 f.1.1) (found_at row.key i e)

  -- the row of a key is gone
  pub removed : (n : ℕ → Option ℕ) (k i : ℕ) (d : Option (Row T)) → m k ≡ Some i → n k ≡ None → ((q : ℕ) → (q ≡ k → ⊥) → n q ≡ m q) → IsTabled n (set items i d) (without i is)
  removed n k i d e gone others =
      let f = w.known k i e in
      record {
        apart = Apart-without i is w.apart;
        known = λ q j g.
            let o : q ≢ k = λ s. let u = sym g ∙ (ap n s ∙ gone) in cc in
            let u = w.known q j (sym (others q o) ∙ g) in
            let a : i ≢ j = λ s. o (let x = sym u.1.1 ∙ (ap (row_at items) (sym s) ∙ f.1.1) in let y : u.1.0 ≡ f.1.0 = cc in sym u.1.2 ∙ (ap (λ r. r.key) y ∙ f.1.2)) in
            (has-without_other i j is a ∙ u.0, (u.1.0, rw (slice_get-set_other items i j d (λ s. a (sym s))) u.1.1, u.1.2));
        named = λ j h.
            let l = has_left i j is h in
            let r = w.named j l.1 in
            let o : r.0.key ≢ k = λ s. l.0 (let u = sym r.2 ∙ (ap m s ∙ e) in cc) in
            (r.0, rw (slice_get-set_other items i j d (λ s. l.0 (sym s))) r.1, others r.0.key o ∙ r.2);
      }

  pub removed_rows : (k i : ℕ) (d : Option (Row T)) → m k ≡ Some i → rows_of (set items i d) (without i is) ≡ others k (rows_of items is)
  removed_rows k i d e =
      rows_same items (set items i d) (without i is) (λ j h. slice_get-set_other items i j d (λ s. (has_left i j is h).0 (sym s))) ∙ found_others k i e

-- the same look-ups
pub relooked : {T : Type 0} → (m n : ℕ → Option ℕ) (items : List (Option (Row T))) (is : List ℕ) → ((q : ℕ) → n q ≡ m q) → IsTabled m items is → IsTabled n items is
relooked m n items is s w = record {
  apart = w.apart;
  known = λ k i e. w.known k i (sym (s k) ∙ e);
  named = λ i h. let r = w.named i h in (r.0, r.1, s r.0.key ∙ r.2);
}

-- no rows
pub tabled_none : {T : Type 0} → (m : ℕ → Option ℕ) (items : List (Option (Row T))) → ((q : ℕ) → m q ≡ None) → IsTabled m items []
tabled_none m items e = record {
  apart = tt;
  known = λ k i f. absurd (let u = sym f ∙ e k in cc);
  named = λ i h. absurd (false≢true h);
}

-- another row of the same key, in front
pub replaced_first : {T : Type 0} → (m : ℕ → Option ℕ) (items : List (Option (Row T))) (is : List ℕ) → IsTabled m items is → (i : ℕ) (row : Row T) → m row.key ≡ Some i
    → rows_of (set items i (Some row)) (i ∷ without i is) ≡ row ∷ others row.key (rows_of items is)
replaced_first m items is w i row e =
    let f = w.known row.key i e in
    let l = at_within items i f.1.0 f.1.1 in
    rw (slice_get-set_same items i (Some row) l) (ap (λ r. row ∷ r) (removed_rows m items is w row.key i (Some row) e))

-- a slot that is filled once it was taken
pub filled : {X : Type 0} → (items : List X) (i : ℕ) (o a : X) → slice_get items i ≡ Some o → slice_get (set items i a) i ≡ Some a
filled items i o a e = slice_get-set_same items i a (slice_get_within items i o e)

pub filled_other : {X : Type 0} → (items now : List X) (is : List ℕ) (i : ℕ) (a : X) → has is i ≡ false → ((j : ℕ) → has is j ≡ true → slice_get now j ≡ slice_get items j)
    → (j : ℕ) → has is j ≡ true → slice_get (set now i a) j ≡ slice_get items j
filled_other items now is i a f kept j h = slice_get-set_other now i j a (has_apart is j i h f) ∙ kept j h
