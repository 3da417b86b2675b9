-- Rows of numbers as rows of entries.
use Rattle.std.proofs.Common.{◌≡◌, ◌≢◌, ℕ, ◌%◌, ◌<◌, inl, inr, Bool, true, false, cond, eqb, not, map, List, [], ◌∷◌, length, get_or, set, slice_get, Option, Some, None, sym, refl, ap, ◌∙◌, arith}
use Rattle.std.specs.Prelude.{option_map, unwrap_or}
use Rattle.std.proofs.lemmas.Bool.{cases_eq, eq-eqb, ne_eqb, false_from_ne_true}
use Rattle.std.proofs.lemmas.List.{length-set, length-map, same_lists, get_or-map, get_or-set_same, get_or-set_other}
use Rattle.cache_entries.specs.declared.entry.CacheEntryKey.{CacheEntryKey}
use Rattle.cache_entries.specs.declared.rows.Tracked.{Tracked}
use Rattle.cache_entries.specs.Entry.{same_entry}
use Rattle.cache_entries.specs.SameEntry.{same_entry-tells}
use Rattle.cache_entries.specs.Rows.{row_of, without_row}
use Rattle.lru_core.specs.declared.rows.Row.{Row}
use Rattle.lru_core.specs.Rows.{only, others}
use Rattle.lru_numbers.specs.Names.{IsOneToOne, HasNoNumber}
use Rattle.cache_evict.specs.Numbered.{nobody, tracked_row, tracked, AreNumbered}
use Rattle.lru_numbers.proofs.PlaceLaws.{some_of, same_some}

pub another : (x e : CacheEntryKey) → x ≢ e → same_entry x e ≡ false
another x e n = false_from_ne_true (same_entry x e) (λ t. n (same_entry-tells.equal x e t))

-- k is the number of e, if anything is
abbrev pub IsNumber : (ℕ → Option CacheEntryKey) → ℕ → CacheEntryKey → Type 0
IsNumber names k e = (i : ℕ) → names i ≢ None → eqb i k ≡ same_entry (unwrap_or (names i) nobody) e

pub IsNumber-named : (names : ℕ → Option CacheEntryKey) (k : ℕ) (e : CacheEntryKey) → IsOneToOne names → names k ≡ Some e → IsNumber names k e
IsNumber-named names k e one p i q =
    let x = some_of (names i) q in
    let at : unwrap_or (names i) nobody ≡ x.0 = ap (λ (o : Option CacheEntryKey). unwrap_or o nobody) x.1 in
    elim (cases_eq i k) [
      | inl a ↦ eq-eqb i k a ∙ sym (ap (λ (y : CacheEntryKey). same_entry y e) (at ∙ same_some (names k) x.0 e (ap names (sym a) ∙ x.1) p) ∙ same_entry-tells.itself e)
      | inr n ↦ ne_eqb i k n ∙ sym (another (unwrap_or (names i) nobody) e (λ s. n (one i k e (x.1 ∙ ap (λ (y : CacheEntryKey). Some y) (sym at ∙ s)) p)))
    ]

-- a number that no row has is such a number, of an entry without one
pub IsNumber-free : (names : ℕ → Option CacheEntryKey) (k : ℕ) (e : CacheEntryKey) → names k ≡ None → HasNoNumber names e → IsNumber names k e
IsNumber-free names k e free none i q =
    let x = some_of (names i) q in
    let at : unwrap_or (names i) nobody ≡ x.0 = ap (λ (o : Option CacheEntryKey). unwrap_or o nobody) x.1 in
    ne_eqb i k (λ a. q (ap names a ∙ free)) ∙ sym (another (unwrap_or (names i) nobody) e (λ s. none i (x.1 ∙ ap (λ (y : CacheEntryKey). Some y) (sym at ∙ s))))

module _ (n : ℕ) (names now : ℕ → Option CacheEntryKey) (k : ℕ) (same : (i : ℕ) → i ≢ k → now i ≡ names i) where
  -- the rows of other numbers have the entries that they had
  pub tracked-others : (rows : List (Row ℕ)) → tracked now (others k rows) ≡ tracked names (others k rows)
  tracked-others [] = refl
  tracked-others (r ∷ rows) = elim (cases_eq r.key k) [
    | inl e ↦ rw (eq-eqb r.key k e) (tracked-others rows)
    | inr m ↦ rw (ne_eqb r.key k m, same r.key m) (ap (λ (l : List Tracked). tracked_row names r ∷ l) (tracked-others rows))
  ]

  pub AreNumbered-others : (s : ℕ) (rows : List (Row ℕ)) → AreNumbered n names s rows → AreNumbered n now s (others k rows)
  AreNumbered-others s [] a = tt
  AreNumbered-others s (r ∷ rows) a = elim (cases_eq r.key k) [
    | inl e ↦ rw (eq-eqb r.key k e) (AreNumbered-others s rows a.3)
    | inr m ↦ rw (ne_eqb r.key k m) (a.0, a.1, (λ f. a.2 (sym (same r.key m) ∙ f)), AreNumbered-others s rows a.3)
  ]

  -- another shard has no row of k
  pub elsewhere : (s : ℕ) (rows : List (Row ℕ)) → AreNumbered n names s rows → s ≢ k % n → only k rows ≡ []
  elsewhere s [] a d = refl
  elsewhere s (r ∷ rows) a d = elim (cases_eq r.key k) [
    | inl e ↦ absurd (d (sym a.1 ∙ ap (λ (j : ℕ). j % n) e))
    | inr m ↦ rw (ne_eqb r.key k m) (elsewhere s rows a.3 d)
  ]

module _ (n : ℕ) (names : ℕ → Option CacheEntryKey) (k : ℕ) (e : CacheEntryKey) (is : IsNumber names k e) where
  -- rows but that of the number are rows but that of the entry
  pub others-without : (s : ℕ) (rows : List (Row ℕ)) → AreNumbered n names s rows → tracked names (others k rows) ≡ without_row e (tracked names rows)
  others-without s [] a = refl
  others-without s (r ∷ rows) a =
      rw (← is r.key a.2) (step (eqb r.key k) r rows (others-without s rows a.3))
    where
      step : (b : Bool) (r : Row ℕ) (rows : List (Row ℕ)) → tracked names (others k rows) ≡ without_row e (tracked names rows)
          → tracked names (cond (not b) (r ∷ others k rows) (others k rows)) ≡ cond (not b) (tracked_row names r ∷ without_row e (tracked names rows)) (without_row e (tracked names rows))
      step true r rows h = h
      step false r rows h = ap (λ (l : List Tracked). tracked_row names r ∷ l) h

  pub row_of-number : (s : ℕ) (rows : List (Row ℕ)) → AreNumbered n names s rows → row_of e (tracked names rows) ≡ option_map (tracked_row names) (slice_get (only k rows) 0)
  row_of-number s [] a = refl
  row_of-number s (r ∷ rows) a = rw (← is r.key a.2) (step (eqb r.key k) r rows (row_of-number s rows a.3))
    where
      step : (b : Bool) (r : Row ℕ) (rows : List (Row ℕ)) → row_of e (tracked names rows) ≡ option_map (tracked_row names) (slice_get (only k rows) 0)
          → cond b (Some (tracked_row names r)) (row_of e (tracked names rows)) ≡ option_map (tracked_row names) (slice_get (cond b (r ∷ only k rows) (only k rows)) 0)
      step true r rows h = refl
      step false r rows h = h

-- an entry without a number has no row
pub absent : (n : ℕ) (names : ℕ → Option CacheEntryKey) (e : CacheEntryKey) (s : ℕ) (rows : List (Row ℕ)) → AreNumbered n names s rows → HasNoNumber names e
    → (row_of e (tracked names rows) ≡ None) × (without_row e (tracked names rows) ≡ tracked names rows)
absent n names e s [] a none = (refl, refl)
absent n names e s (r ∷ rows) a none =
    let x = some_of (names r.key) a.2 in
    let at : unwrap_or (names r.key) nobody ≡ x.0 = ap (λ (o : Option CacheEntryKey). unwrap_or o nobody) x.1 in
    let other : same_entry (unwrap_or (names r.key) nobody) e ≡ false = another (unwrap_or (names r.key) nobody) e (λ t. none r.key (x.1 ∙ ap (λ (y : CacheEntryKey). Some y) (sym at ∙ t))) in
    let rest = absent n names e s rows a.3 none in
    (rw other rest.0, rw other (ap (λ (l : List Tracked). tracked_row names r ∷ l) rest.1))

-- maps that agree but at j
pub set_agree : {X Y : Type 0} (f g : X → Y) (xs : List X) (j : ℕ) (y : Y) → ((i : ℕ) (d : X) → i ≢ j → i < length xs → f (get_or xs i d) ≡ g (get_or xs i d)) → set (map f xs) j y ≡ set (map g xs) j y
set_agree {X} {Y} f g [] j y h = refl
set_agree {X} {Y} f g (x ∷ xs) j y h =
    let lf = length-map (x ∷ xs) f in
    let lg = length-map (x ∷ xs) g in
    let sf = length-set (map f (x ∷ xs)) j y in
    let sg = length-set (map g (x ∷ xs)) j y in
    same_lists (set (map f (x ∷ xs)) j y) (set (map g (x ∷ xs)) j y) (omega (arith, lf, lg, sf, sg)) (λ i d b. elim (cases_eq i j) [
      | inl a ↦
          let in' : j < length (map f (x ∷ xs)) = omega (arith, a, sf, b) in
          rw a (get_or-set_same (map f (x ∷ xs)) j y d in' ∙ sym (get_or-set_same (map g (x ∷ xs)) j y d (omega (arith, lf, lg, in'))))
      | inr m ↦
          let in' : i < length (x ∷ xs) = omega (arith, lf, sf, b) in
          get_or-set_other (map f (x ∷ xs)) j i y d m ∙ get_or-map f (x ∷ xs) i x d in' ∙ h i x m in' ∙ sym (get_or-map g (x ∷ xs) i x d in') ∙ sym (get_or-set_other (map g (x ∷ xs)) j i y d m)
    ])
