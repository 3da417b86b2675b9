-- Folds over numbers, and over the rows of entries that have these numbers.
use Rattle.std.proofs.Common.{◌≡◌, ℕ, zero, suc, ◌≤◌, ◌<◌, ◌||◌, ◌⊎◌, inl, inr, eqb, Bool, true, false, cond, List, [], ◌∷◌, Option, refl, ap, ap₂, sym, ◌∙◌, arith}
use Rattle.std.specs.Prelude.{is_some}
use Rattle.std.specs.List.{AllByRecursion}
use Rattle.std.proofs.lemmas.Bool.{cases_lt, eq-eqb, eqb-true}
use Rattle.cache_entries.specs.declared.entry.CacheEntryKey.{CacheEntryKey}
use Rattle.cache_entries.specs.declared.rows.Tracked.{Tracked}
use Rattle.cache_entries.specs.Entry.{same_entry}
use Rattle.cache_entries.specs.Rows.{AreDistinct}
use Rattle.curve_loads.specs.Steps.{has_row}
use Rattle.curve_loads.proofs.Rows.{has-here, has-further}
use Rattle.curve_sizes.specs.Numbers.{numbered, number_in}
use Rattle.curve_sizes.proofs.CellPlaces.{same-numbered}
use Rattle.curve_held.specs.Walks.{below}

pub eqb-other : (j i : ℕ) → (j ≡ i → ⊥) → eqb j i ≡ false
eqb-other j i n = by_test (eqb j i) refl
  where
    by_test : (t : Bool) → eqb j i ≡ t → eqb j i ≡ false
    by_test true e = absurd (n (eqb-true j i e))
    by_test false e = e

-- rows of entries with numbers below n
abbrev pub HaveNumbers : ℕ → List Tracked → Type 0
HaveNumbers n rows = AllByRecursion (λ r. (r.entry ≡ numbered (number_in r.entry)) × (number_in r.entry < n)) rows

has-as : (r : Tracked) (rows : List Tracked) → r.entry ≡ numbered (number_in r.entry) → (i : ℕ) → has_row (numbered i) (r ∷ rows) ≡ (eqb (number_in r.entry) i || has_row (numbered i) rows)
has-as r rows q i = by_test (same_entry r.entry (numbered i)) refl
  where
    is-as : same_entry r.entry (numbered i) ≡ eqb (number_in r.entry) i
    is-as = ap (λ (x : CacheEntryKey). same_entry x (numbered i)) q ∙ same-numbered (number_in r.entry) i

    by_test : (t : Bool) → same_entry r.entry (numbered i) ≡ t → has_row (numbered i) (r ∷ rows) ≡ (eqb (number_in r.entry) i || has_row (numbered i) rows)
    by_test true t = has-here (numbered i) r rows t ∙ sym (ap (λ (b : Bool). b || has_row (numbered i) rows) (sym is-as ∙ t))
    by_test false t = has-further (numbered i) r rows t ∙ sym (ap (λ (b : Bool). b || has_row (numbered i) rows) (sym is-as ∙ t))

module _ {M : Type 0} (op : M → M → M) (unit : M) (left : (x : M) → op unit x ≡ x) (turn : (x y z : M) → op x (op y z) ≡ op y (op x z)) (value : ℕ → M) where
  below-same : (p q : ℕ → Bool) (n : ℕ) → ((i : ℕ) → i < n → p i ≡ q i) → below op unit value p n ≡ below op unit value q n
  below-same p q zero h = refl
  below-same p q (suc n) h = ap₂ (λ (b : Bool) (m : M). op (cond b (value n) unit) m) (h n (omega arith)) (below-same p q n (λ i l. h i (omega (arith, l))))

  below-none : (n : ℕ) → below op unit value (λ i. false) n ≡ unit
  below-none zero = refl
  below-none (suc n) = left (below op unit value (λ i. false) n) ∙ below-none n

  -- one number more passes
  below-one : (p : ℕ → Bool) (j n : ℕ) → j < n → p j ≡ false → below op unit value (λ i. eqb j i || p i) n ≡ op (value j) (below op unit value p n)
  below-one p j zero l h = absurd (omega (arith, l))
  below-one p j (suc n) l h = by_case (cases_lt j n) (λ m. below-one p j n m h)
    where
      by_case : (j < n) ⊎ (n ≤ j) → (j < n → below op unit value (λ i. eqb j i || p i) n ≡ op (value j) (below op unit value p n)) → below op unit value (λ i. eqb j i || p i) (suc n) ≡ op (value j) (below op unit value p (suc n))
      by_case (inl m) ih =
          ap₂ (λ (b : Bool) (x : M). op (cond (b || p n) (value n) unit) x) (eqb-other j n (λ e. omega (arith, e, m))) (ih m)
          ∙ turn (cond (p n) (value n) unit) (value j) (below op unit value p n)
      by_case (inr m) ih =
          let q : j ≡ n = omega (arith, l, m) in
          ap₂ (λ (b : Bool) (x : M). op (cond (b || p n) (value n) unit) x) (eq-eqb j n q)
          (below-same (λ i. eqb j i || p i) p n (λ i k. ap (λ (b : Bool). b || p i) (eqb-other j i (λ e. omega (arith, e, k, m)))))
          ∙ ap (λ (k : ℕ). op (value k) (below op unit value p n)) (sym q)
          ∙ sym (ap (λ (b : Bool). op (value j) (op (cond b (value n) unit) (below op unit value p n))) (ap p (sym q) ∙ h) ∙ ap (op (value j)) (left (below op unit value p n)))

  -- what rows give together
  abbrev pub over_rows : List Tracked → M
  over_rows [] = unit
  over_rows (r ∷ rows) = op (value (number_in r.entry)) (over_rows rows)

  pub rows-below : (n : ℕ) (rows : List Tracked) → AreDistinct rows → HaveNumbers n rows → below op unit value (λ i. has_row (numbered i) rows) n ≡ over_rows rows
  rows-below n [] d h = below-none n
  rows-below n (r ∷ rows) d h =
      below-same (λ i. has_row (numbered i) (r ∷ rows)) (λ i. eqb (number_in r.entry) i || has_row (numbered i) rows) n (λ i l. has-as r rows h.0.0 i)
      ∙ below-one (λ i. has_row (numbered i) rows) (number_in r.entry) n h.0.1
      (ap (λ (x : CacheEntryKey). has_row x rows) (sym h.0.0) ∙ ap (λ (o : Option Tracked). is_some o) d.0)
      ∙ ap (op (value (number_in r.entry))) (rows-below n rows d.1 h.1)
