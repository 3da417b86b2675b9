-- Requests by keys and by numbers find the same.
use Rattle.std.proofs.Common.{◌≡◌, ℕ, ◌+◌, ◌&&◌, ◌||◌, eqb, Bool, true, false, cond, List, [], ◌∷◌, Option, Some, refl, ap, ap₂, sym, ◌∙◌, subst}
use Rattle.std.specs.Prelude.{not}
use Rattle.std.specs.List.{AllByRecursion}
use Rattle.std.proofs.lemmas.Bool.{false≢true, eqb-true, eq-eqb}
use Rattle.cache_entries.specs.declared.entry.CacheEntryKey.{CacheEntryKey}
use Rattle.cache_entries.specs.declared.rows.Tracked.{Tracked}
use Rattle.cache_entries.specs.Entry.{same_entry}
use Rattle.cache_entries.specs.Keys.{same_bytes}
use Rattle.cache_entries.specs.SameEntry.{same_bytes-tells, same_entry-tells}
use Rattle.cache_entries.specs.Rows.{without_row}
use Rattle.curve_loads.specs.Steps.{has_row, held, kept_after, exceeds, put_first}
use Rattle.curve_loads.specs.Finds.{finds}
use Rattle.curve_sizes.specs.declared.when.When.{When}
use Rattle.curve_sizes.specs.Requests.{Request, asks, removes, steps_of, is_among, found_bytes, asked_in, odd_in, bytes_in, said_in}
use Rattle.curve_sizes.specs.Numbers.{numbered}
use Rattle.curve_sizes.proofs.CellPlaces.{same-numbered}
use Rattle.curve_keys.specs.Keys.{keyed, AreRenamed, none, ask, removal, unknown}

same-key-bit : (b : Bool) → (b && (true && true)) && true ≡ b
same-key-bit true = refl
same-key-bit false = refl

pub same-keyed : (a b : List ℕ) → same_entry (keyed a) (keyed b) ≡ same_bytes a b
same-keyed a b = same-key-bit (same_bytes a b)

module _ (number : List ℕ → Option ℕ) (apart : (key other : List ℕ) (n : ℕ) → number key ≡ Some n → number other ≡ Some n → key ≡ other) where
  -- an entry by its key, and the same by its number
  pub record AreSame (e f : CacheEntryKey) : Type 0 where
    pub key : List ℕ
    pub n : ℕ
    pub first : e ≡ keyed key
    pub has : number key ≡ Some n
    pub second : f ≡ numbered n

  some-equal : (m n : ℕ) (o : Option ℕ) → o ≡ Some m → o ≡ Some n → m ≡ n
  some-equal m n o p q = let e : Some m ≡ Some n = sym p ∙ q in cc

  pub same-both : (e f e' f' : CacheEntryKey) → AreSame e e' → AreSame f f' → same_entry e f ≡ same_entry e' f'
  same-both e f e' f' a b =
      ap₂ same_entry a.first b.first ∙ same-keyed a.key b.key ∙ by_tests (same_bytes a.key b.key) (eqb a.n b.n) refl refl
      ∙ sym (ap₂ same_entry a.second b.second ∙ same-numbered a.n b.n)
    where
      by_tests : (s t : Bool) → same_bytes a.key b.key ≡ s → eqb a.n b.n ≡ t → s ≡ t
      by_tests true true i j = refl
      by_tests false false i j = refl
      by_tests true false i j =
          let k = same_bytes-tells.equal a.key b.key i in
          let e = some-equal a.n b.n (number b.key) (subst (λ (x : List ℕ). number x ≡ Some a.n) k a.has) b.has in
          absurd (false≢true (sym j ∙ eq-eqb a.n b.n e))
      by_tests false true i j =
          let e = eqb-true a.n b.n j in
          let k = apart a.key b.key b.n (subst (λ (x : ℕ). number a.key ≡ Some x) e a.has) b.has in
          absurd (false≢true (sym i ∙ subst (λ (x : List ℕ). same_bytes a.key x ≡ true) k (same_bytes-tells.itself a.key)))

  -- rows of the same entries, with the same weights
  unfoldable pub AreSameRows : List Tracked → List Tracked → Type 0
  AreSameRows [] [] = Unit {0}
  AreSameRows [] (s ∷ ss) = ⊥
  AreSameRows (r ∷ rs) [] = ⊥
  AreSameRows (r ∷ rs) (s ∷ ss) = AreSame r.entry s.entry × (r.weight ≡ s.weight) × AreSameRows rs ss

  pub rows-without : (e e' : CacheEntryKey) (rs ss : List Tracked) → AreSame e e' → AreSameRows rs ss → AreSameRows (without_row e rs) (without_row e' ss)
  unfolding AreSameRows
  rows-without e e' [] [] a h = tt
  rows-without e e' [] (s ∷ ss) a h = absurd h
  rows-without e e' (r ∷ rs) [] a h = absurd h
  rows-without e e' (r ∷ rs) (s ∷ ss) a h = by_test (same_entry r.entry e) (same_entry s.entry e') (same-both r.entry e s.entry e' h.0 a) (rows-without e e' rs ss a h.2)
    where
      by_test : (t u : Bool) → t ≡ u → AreSameRows (without_row e rs) (without_row e' ss) → AreSameRows (cond (not t) (r ∷ without_row e rs) (without_row e rs)) (cond (not u) (s ∷ without_row e' ss) (without_row e' ss))
      by_test true true q i = i
      by_test false false q i = (h.0, h.1, i)
      by_test true false q i = absurd (false≢true (sym q))
      by_test false true q i = absurd (false≢true q)

  rows-kept : (limit : ℕ) (mark : Option ℕ) (w n : ℕ) (rs ss : List Tracked) → AreSameRows rs ss → AreSameRows (kept_after limit mark w n rs) (kept_after limit mark w n ss)
  unfolding AreSameRows
  rows-kept limit mark w n [] [] h = tt
  rows-kept limit mark w n [] (s ∷ ss) h = absurd h
  rows-kept limit mark w n (r ∷ rs) [] h = absurd h
  rows-kept limit mark w n (r ∷ rs) (s ∷ ss) h =
      let more = rows-kept limit mark (w + r.weight) (n + 1) rs ss h.2 in
      subst (λ (x : ℕ). AreSameRows (kept_after limit mark w n (r ∷ rs)) (cond (exceeds limit mark (w + x) (n + 1)) [] (s ∷ kept_after limit mark (w + x) (n + 1) ss))) h.1
      (by_test (exceeds limit mark (w + r.weight) (n + 1)) more)
    where
      by_test : (t : Bool) → AreSameRows (kept_after limit mark (w + r.weight) (n + 1) rs) (kept_after limit mark (w + r.weight) (n + 1) ss)
          → AreSameRows (cond t [] (r ∷ kept_after limit mark (w + r.weight) (n + 1) rs)) (cond t [] (s ∷ kept_after limit mark (w + r.weight) (n + 1) ss))
      by_test true i = tt
      by_test false i = (h.0, h.1, i)

  pub rows-have : (e e' : CacheEntryKey) (rs ss : List Tracked) → AreSame e e' → AreSameRows rs ss → has_row e rs ≡ has_row e' ss
  unfolding AreSameRows
  rows-have e e' [] [] a h = refl
  rows-have e e' [] (s ∷ ss) a h = absurd h
  rows-have e e' (r ∷ rs) [] a h = absurd h
  rows-have e e' (r ∷ rs) (s ∷ ss) a h = by_test (same_entry r.entry e) (same_entry s.entry e') refl refl (same-both r.entry e s.entry e' h.0 a) (rows-have e e' rs ss a h.2)
    where
      by_test : (t u : Bool) → same_entry r.entry e ≡ t → same_entry s.entry e' ≡ u → same_entry r.entry e ≡ same_entry s.entry e' → has_row e rs ≡ has_row e' ss → has_row e (r ∷ rs) ≡ has_row e' (s ∷ ss)
      by_test true true p v q i = rw (p, v) refl
      by_test false false p v q i = rw (p, v) i
      by_test true false p v q i = absurd (false≢true (sym v ∙ sym q ∙ p))
      by_test false true p v q i = absurd (false≢true (sym p ∙ q ∙ v))

  module _ (weight weight' : CacheEntryKey → ℕ) (weighs : (key : List ℕ) (n : ℕ) → number key ≡ Some n → weight (keyed key) ≡ weight' (numbered n)) (limit : ℕ) (mark : Option ℕ) where
    -- what is held was asked for
    among-kept : (requests : List Request) (w n : ℕ) (rs : List Tracked) → AllByRecursion (λ r. is_among r.entry requests ≡ true) rs → AllByRecursion (λ r. is_among r.entry requests ≡ true) (kept_after limit mark w n rs)
    among-kept requests w n [] h = tt
    among-kept requests w n (r ∷ rs) h = by_test (exceeds limit mark (w + r.weight) (n + 1)) (among-kept requests (w + r.weight) (n + 1) rs h.1)
      where
        by_test : (t : Bool) → AllByRecursion (λ r. is_among r.entry requests ≡ true) (kept_after limit mark (w + r.weight) (n + 1) rs)
            → AllByRecursion (λ r. is_among r.entry requests ≡ true) (cond t [] (r ∷ kept_after limit mark (w + r.weight) (n + 1) rs))
        by_test true i = tt
        by_test false i = (h.0, i)

    among-without : (requests : List Request) (e : CacheEntryKey) (rs : List Tracked) → AllByRecursion (λ r. is_among r.entry requests ≡ true) rs → AllByRecursion (λ r. is_among r.entry requests ≡ true) (without_row e rs)
    among-without requests e [] h = tt
    among-without requests e (r ∷ rs) h = by_test (same_entry r.entry e) (among-without requests e rs h.1)
      where
        by_test : (t : Bool) → AllByRecursion (λ r. is_among r.entry requests ≡ true) (without_row e rs) → AllByRecursion (λ r. is_among r.entry requests ≡ true) (cond (not t) (r ∷ without_row e rs) (without_row e rs))
        by_test true i = i
        by_test false i = (h.0, i)

    or-true : (b : Bool) → (b || true) ≡ true
    or-true true = refl
    or-true false = refl

    among-more : (requests : List Request) (e : CacheEntryKey) (w : ℕ) (when : When) (rs : List Tracked) → AllByRecursion (λ r. is_among r.entry requests ≡ true) rs → AllByRecursion (λ r. is_among r.entry (asks e w when ∷ requests) ≡ true) rs
    among-more requests e w when [] h = tt
    among-more requests e w when (r ∷ rs) h = (ap (λ (b : Bool). same_entry e r.entry || b) h.0 ∙ or-true (same_entry e r.entry), among-more requests e w when rs h.1)

    pub held-among : (requests : List Request) → AllByRecursion (λ r. is_among r.entry requests ≡ true) (held weight limit mark (steps_of requests))
    held-among [] = tt
    held-among (asks e w when ∷ requests) =
        among-kept (asks e w when ∷ requests) 0 0 (put_first weight e (held weight limit mark (steps_of requests)))
        (ap (λ (b : Bool). b || is_among e requests) (same_entry-tells.itself e), among-more requests e w when (without_row e (held weight limit mark (steps_of requests))) (among-without requests e (held weight limit mark (steps_of requests)) (held-among requests)))
    held-among (removes e ∷ requests) = among-without requests e (held weight limit mark (steps_of requests)) (held-among requests)

    -- an entry that wasn't asked for has no row to lose
    without-stranger : (requests : List Request) (e : CacheEntryKey) (rs : List Tracked) → is_among e requests ≡ false → AllByRecursion (λ r. is_among r.entry requests ≡ true) rs → without_row e rs ≡ rs
    without-stranger requests e [] f h = refl
    without-stranger requests e (r ∷ rs) f h = by_test (same_entry r.entry e) refl (without-stranger requests e rs f h.1)
      where
        by_test : (t : Bool) → same_entry r.entry e ≡ t → without_row e rs ≡ rs → cond (not t) (r ∷ without_row e rs) (without_row e rs) ≡ r ∷ rs
        by_test true i j = absurd (false≢true (sym f ∙ ap (λ (x : CacheEntryKey). is_among x requests) (sym (same_entry-tells.equal r.entry e i)) ∙ h.0))
        by_test false i j = ap (λ (l : List Tracked). r ∷ l) j

    pub at-number : (key : List ℕ) (n : ℕ) → number key ≡ Some n → AreSame (keyed key) (numbered n)
    at-number key n h = record { key = key; n = n; first = refl; has = h; second = refl }

    pub rows-same : (requests numbers : List Request) → AreRenamed number requests numbers → AreSameRows (held weight limit mark (steps_of requests)) (held weight' limit mark (steps_of numbers))
    unfolding AreSameRows
    rows-same _ _ none = tt
    rows-same _ _ (ask key w n when requests numbers h r) =
        let before = held weight limit mark (steps_of requests) in
        let after = held weight' limit mark (steps_of numbers) in
        rows-kept limit mark 0 0 (put_first weight (keyed key) before) (put_first weight' (numbered n) after)
        (at-number key n h, weighs key n h, rows-without (keyed key) (numbered n) before after (at-number key n h) (rows-same requests numbers r))
    rows-same _ _ (removal key n requests numbers h r) =
        rows-without (keyed key) (numbered n) (held weight limit mark (steps_of requests)) (held weight' limit mark (steps_of numbers)) (at-number key n h) (rows-same requests numbers r)
    rows-same _ _ (unknown key requests numbers h r) =
        subst (λ (rows : List Tracked). AreSameRows rows (held weight' limit mark (steps_of numbers))) (sym (without-stranger requests (keyed key) (held weight limit mark (steps_of requests)) h (held-among requests)))
        (rows-same requests numbers r)

    pub finds-same : (requests numbers : List Request) → AreRenamed number requests numbers → finds weight limit mark (steps_of requests) ≡ finds weight' limit mark (steps_of numbers)
    finds-same _ _ none = refl
    finds-same _ _ (ask key w n when requests numbers h r) =
        ap₂ (λ (b : Bool) (m : ℕ). cond b 1 0 + m) (rows-have (keyed key) (numbered n) (held weight limit mark (steps_of requests)) (held weight' limit mark (steps_of numbers)) (at-number key n h) (rows-same requests numbers r))
        (finds-same requests numbers r)
    finds-same _ _ (removal key n requests numbers h r) = finds-same requests numbers r
    finds-same _ _ (unknown key requests numbers h r) = finds-same requests numbers r

    pub found-same : (requests numbers : List Request) → AreRenamed number requests numbers → found_bytes weight limit mark (steps_of requests) ≡ found_bytes weight' limit mark (steps_of numbers)
    found-same _ _ none = refl
    found-same _ _ (ask key w n when requests numbers h r) =
        ap₂ (λ (b : Bool) (m : ℕ). cond b (weight (keyed key)) 0 + m) (rows-have (keyed key) (numbered n) (held weight limit mark (steps_of requests)) (held weight' limit mark (steps_of numbers)) (at-number key n h) (rows-same requests numbers r))
        (found-same requests numbers r)
        ∙ ap (λ (v : ℕ). cond (has_row (numbered n) (held weight' limit mark (steps_of numbers))) v 0 + found_bytes weight' limit mark (steps_of numbers)) (weighs key n h)
    found-same _ _ (removal key n requests numbers h r) = found-same requests numbers r
    found-same _ _ (unknown key requests numbers h r) = found-same requests numbers r

    pub odd-same : (requests numbers : List Request) → AreRenamed number requests numbers → odd_in weight requests ≡ odd_in weight' numbers
    odd-same _ _ none = refl
    odd-same _ _ (ask key w n when requests numbers h r) =
        ap₂ (λ (v m : ℕ). cond (eqb w v) 0 1 + m) (weighs key n h) (odd-same requests numbers r)
    odd-same _ _ (removal key n requests numbers h r) = odd-same requests numbers r
    odd-same _ _ (unknown key requests numbers h r) = odd-same requests numbers r

    pub bytes-same : (requests numbers : List Request) → AreRenamed number requests numbers → bytes_in weight requests ≡ bytes_in weight' numbers
    bytes-same _ _ none = refl
    bytes-same _ _ (ask key w n when requests numbers h r) =
        ap₂ (λ (v m : ℕ). v + m) (weighs key n h) (bytes-same requests numbers r)
    bytes-same _ _ (removal key n requests numbers h r) = bytes-same requests numbers r
    bytes-same _ _ (unknown key requests numbers h r) = bytes-same requests numbers r

  pub said-same : (requests numbers : List Request) → AreRenamed number requests numbers → said_in requests ≡ said_in numbers
  said-same _ _ none = refl
  said-same _ _ (ask key w n when requests numbers h r) = ap (λ (m : ℕ). w + m) (said-same requests numbers r)
  said-same _ _ (removal key n requests numbers h r) = said-same requests numbers r
  said-same _ _ (unknown key requests numbers h r) = said-same requests numbers r

  pub asked-same : (requests numbers : List Request) → AreRenamed number requests numbers → asked_in requests ≡ asked_in numbers
  asked-same _ _ none = refl
  asked-same _ _ (ask key w n when requests numbers h r) = ap (λ (m : ℕ). 1 + m) (asked-same requests numbers r)
  asked-same _ _ (removal key n requests numbers h r) = asked-same requests numbers r
  asked-same _ _ (unknown key requests numbers h r) = asked-same requests numbers r
