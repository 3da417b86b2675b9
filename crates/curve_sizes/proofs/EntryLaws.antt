-- Which entries were asked for, and how many.
use Rattle.std.proofs.Common.{◌≡◌, ℕ, ◌≤◌, ◌<◌, ◌||◌, eqb, Bool, true, false, cond, List, [], ◌∷◌, ◌++◌, refl, ap, sym, ◌∙◌, arith, length, get_or, inl, inr}
use Rattle.std.specs.Prelude.{slice_index}
use Rattle.std.proofs.lemmas.Bool.{cases_lt, eq-eqb, eqb-true}
use Rattle.std.proofs.lemmas.List.{length_push, get_or_push}
use Rattle.cache_entries.specs.declared.entry.CacheEntryKey.{CacheEntryKey}
use Rattle.cache_entries.specs.Entry.{same_entry}
use Rattle.curve_sizes.specs.declared.curve.SizeCurve.{SizeCurve}
use Rattle.curve_sizes.specs.declared.when.When.{When}
use Rattle.curve_sizes.specs.Requests.{Request, asks, is_among, entries_in, asked_in, removed_in}
use Rattle.curve_sizes.specs.Numbers.{numbered, number_in, AreNumbered, Agrees, IsFed}
use Rattle.curve_sizes.specs.Faults.{own_of}
use Rattle.curve_sizes.proofs.CellPlaces.{same-numbered}
use Rattle.curve_sizes.proofs.FedLaws.{not-among, or-true}

-- the weight that is kept is the entry's own
pub own-kept : (ws ws' : List ℕ) (entry w : ℕ) → (entry < length ws → ws' ≡ ws) → (entry ≡ length ws → ws' ≡ ws ++ w ∷ []) → entry ≤ length ws → own_of ws entry w ≡ get_or ws' entry 0
own-kept ws ws' entry w old new le = by_test (eqb entry (length ws)) refl
  where
    by_test : (t : Bool) → eqb entry (length ws) ≡ t → cond t w (get_or ws entry 0) ≡ get_or ws' entry 0
    by_test true i =
        let q = eqb-true entry (length ws) i in
        sym (ap (λ (xs : List ℕ). get_or xs entry 0) (new q) ∙ get_or_push ws w 0 entry (sym q))
    by_test false i = elim (cases_lt entry (length ws)) [
      | inl l ↦ sym (ap (λ (xs : List ℕ). get_or xs entry 0) (old l))
      | inr l ↦ let q : entry ≡ length ws = omega (arith, l, le) in absurd (false-true (sym i ∙ eq-eqb entry (length ws) q))
    ]
      where
        false-true : false ≡ true → ⊥
        false-true p = cc

module _ (ws ws' : List ℕ) (entry w : ℕ) (t : When) (requests : List Request) (le : entry ≤ length ws) (old : entry < length ws → ws' ≡ ws) (new : entry ≡ length ws → ws' ≡ ws ++ w ∷ [])
    (numbers : AreNumbered (length ws) requests) (known : (n : ℕ) → n < length ws → is_among (numbered n) requests ≡ true) where
  pub entries-next : length ws ≡ entries_in requests → length ws' ≡ entries_in (asks (numbered entry) w t ∷ requests)
  entries-next e = elim (cases_lt entry (length ws)) [
    | inl l ↦
        let n = ap (λ (xs : List ℕ). length xs) (old l) in
        let v : ◌≡◌ {A = ℕ} (cond (is_among (numbered entry) requests) 0 1) 0 = rw (known entry l) refl in
        omega (arith, n, v, e)
    | inr l ↦
        let q : entry ≡ length ws = omega (arith, l, le) in
        let n = ap (λ (xs : List ℕ). length xs) (new q) in
        let p = length_push ws w in
        let b : is_among (numbered entry) requests ≡ false = ap (λ (k : ℕ). is_among (numbered k) requests) q ∙ not-among (length ws) requests numbers in
        let v : ◌≡◌ {A = ℕ} (cond (is_among (numbered entry) requests) 0 1) 1 = rw b refl in
        omega (arith, n, p, v, e)
  ]

  pub known-next : (n : ℕ) → n < length ws' → is_among (numbered n) (asks (numbered entry) w t ∷ requests) ≡ true
  known-next n l = elim (cases_lt n (length ws)) [
    | inl m ↦ ap (λ (b : Bool). same_entry (numbered entry) (numbered n) || b) (known n m) ∙ or-true (same_entry (numbered entry) (numbered n))
    | inr m ↦
        let q : n ≡ entry = last m in
        ap (λ (b : Bool). b || is_among (numbered n) requests) (same-numbered entry n ∙ eq-eqb entry n (sym q))
  ]
    where
      last : length ws ≤ n → n ≡ entry
      last m = elim (cases_lt entry (length ws)) [
        | inl k ↦ absurd (let e = ap (λ (xs : List ℕ). length xs) (old k) in omega (arith, e, l, m))
        | inr k ↦
            let p : entry ≡ length ws = omega (arith, k, le) in
            let e = ap (λ (xs : List ℕ). length xs) (new p) in
            let f = length_push ws w in
            omega (arith, e, f, l, m, p)
      ]

-- what totals say whatever the weights are
abbrev weight_by : List ℕ → CacheEntryKey → ℕ
weight_by ws e = slice_index ws (number_in e)

agrees-by : (ws : List ℕ) → Agrees (weight_by ws) ws
agrees-by ws = λ n l. refl

pub fed-asks : (c : SizeCurve) (requests : List Request) → IsFed c requests → c.totals.asks ≡ asked_in requests
fed-asks c requests f = (f.shown (weight_by c.weights.items) (agrees-by c.weights.items)).totals.asked

pub fed-removed : (c : SizeCurve) (requests : List Request) → IsFed c requests → c.totals.removed ≡ removed_in requests
fed-removed c requests f = (f.shown (weight_by c.weights.items) (agrees-by c.weights.items)).totals.removed
