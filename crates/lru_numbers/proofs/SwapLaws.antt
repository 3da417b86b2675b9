-- A pair taken out of a list whose last comes into its place.
use Rattle.std.proofs.Common.{◌≡◌, ◌≢◌, ℕ, ◌-◌, ◌<◌, ◌⊎◌, inl, inr, cond, List, length, get_or, set, slice_get, Option, Some, None, sym, refl, ap, ◌∙◌, subst, arith}
use Rattle.std.specs.Prelude.{nat_eq}
use Rattle.std.specs.List.{swap_remove}
use Rattle.std.proofs.lemmas.Bool.{cases_eq, eq-eqb, ne_eqb, cases_lt}
use Rattle.std.proofs.lemmas.Option.{slice_get_within, slice_get-get_or, slice_get_past}
use Rattle.std.proofs.lemmas.List.{get_or-take, get_or-set_same, get_or-set_other, length-take-le, length-set}
use Rattle.cache_entries.specs.declared.entry.CacheEntryKey.{CacheEntryKey}
use Rattle.lru_numbers.specs.Names.{name_at, without_name}
use Rattle.lru_numbers.specs.Places.{IsPlaced}
use Rattle.lru_numbers.proofs.PlaceLaws.{name_place, name_of_place, no_name, none_some, same_pair, same_some}

module _ {X : Type 0} (xs : List X) (i : ℕ) (x d : X) (within : i < length xs) where
  pub left_len : length (swap_remove xs i d) ≡ length xs - 1
  left_len = length-take-le (length xs - 1) (set xs i (get_or xs (length xs - 1) d)) (let l = length-set xs i (get_or xs (length xs - 1) d) in omega arith)

  at_left : (j : ℕ) → j < length xs - 1 → get_or (swap_remove xs i d) j d ≡ get_or (set xs i (get_or xs (length xs - 1) d)) j d
  at_left j h = get_or-take (length xs - 1) (set xs i (get_or xs (length xs - 1) d)) j d h

  pub left_other : (j : ℕ) → j < length xs - 1 → j ≢ i → slice_get (swap_remove xs i d) j ≡ slice_get xs j
  left_other j h n =
      slice_get-get_or (swap_remove xs i d) j d (omega (arith, left_len)) ∙ ap (λ (y : X). Some y) (at_left j h ∙ get_or-set_other xs i j (get_or xs (length xs - 1) d) d n) ∙ sym (slice_get-get_or xs j d (omega arith))

  pub left_here : i < length xs - 1 → slice_get (swap_remove xs i d) i ≡ slice_get xs (length xs - 1)
  left_here h =
      slice_get-get_or (swap_remove xs i d) i d (omega (arith, left_len)) ∙ ap (λ (y : X). Some y) (at_left i h ∙ get_or-set_same xs i (get_or xs (length xs - 1) d) d within) ∙ sym (slice_get-get_or xs (length xs - 1) d (omega arith))

  pub left_cases : (j : ℕ) (y : X) → slice_get (swap_remove xs i d) j ≡ Some y → (j < length xs - 1) × (((j ≡ i) × (slice_get xs (length xs - 1) ≡ Some y)) ⊎ ((j ≢ i) × (slice_get xs j ≡ Some y)))
  left_cases j y h =
      let b : j < length xs - 1 = let w = slice_get_within (swap_remove xs i d) j y h in omega (arith, left_len) in (
        b,
        elim (cases_eq j i) [
          | inl a ↦ inl (a, sym (left_here (omega (arith, a))) ∙ ap (slice_get (swap_remove xs i d)) (sym a) ∙ h)
          | inr n ↦ inr (n, sym (left_other j b n) ∙ h)
        ],
      )

-- number k, whose pair is at index i, is taken out, and the number of what comes to that index is mended
module _ (at now : ℕ → Option ℕ) (pairs : List (CacheEntryKey × ℕ)) (k i : ℕ) (e : CacheEntryKey) (d : CacheEntryKey × ℕ) (h : IsPlaced at pairs) (here : at k ≡ Some i) (pair : slice_get pairs i ≡ Some (e, k))
    (gone : slice_get (swap_remove pairs i d) i ≡ None → (q : ℕ) → now q ≡ cond (nat_eq k q) None (at q))
    (mended : (p : CacheEntryKey × ℕ) → slice_get (swap_remove pairs i d) i ≡ Some p → (q : ℕ) → now q ≡ cond (nat_eq p.1 q) (Some i) (cond (nat_eq k q) None (at q))) where
  within : i < length pairs
  within = slice_get_within pairs i (e, k) pair

  -- the pairs but that of k are still there
  stays : (q j : ℕ) (x : CacheEntryKey) → k ≢ q → slice_get pairs j ≡ Some (x, q) → (l : ℕ) × (slice_get (swap_remove pairs i d) l ≡ Some (x, q))
  stays q j x n p =
      let away : j ≢ i = λ a. n (same_pair (slice_get pairs i) e x k q pair (ap (slice_get pairs) (sym a) ∙ p)).1 in
      let b = slice_get_within pairs j (x, q) p in
      elim (cases_eq j (length pairs - 1)) [
        | inl a ↦ (i, left_here pairs i d d within (omega (arith, a, within, b, away)) ∙ ap (slice_get pairs) (sym a) ∙ p)
        | inr m ↦ (j, left_other pairs i d d within j (omega (arith, b, m)) away ∙ p)
      ]

  -- what the mended table says of number q
  module _ (q : ℕ) where
    at_gone : i ≡ length pairs - 1 → k ≢ q → now q ≡ at q
    at_gone a n = gone (slice_get_past (swap_remove pairs i d) i (omega (arith, left_len pairs i d d within, a))) q ∙ ap (λ b. cond b None (at q)) (ne_eqb k q n)

    moved_pair : i < length pairs - 1 → slice_get (swap_remove pairs i d) i ≡ Some (get_or pairs (length pairs - 1) d)
    moved_pair b = left_here pairs i d d within b ∙ slice_get-get_or pairs (length pairs - 1) d (omega (arith, within))

    moved : i < length pairs - 1 → (get_or pairs (length pairs - 1) d).1 ≡ q → now q ≡ Some i
    moved b a = mended _ (moved_pair b) q ∙ ap (λ c. cond c (Some i) (cond (nat_eq k q) None (at q))) (eq-eqb _ q a)

    unmoved : i < length pairs - 1 → (get_or pairs (length pairs - 1) d).1 ≢ q → k ≢ q → now q ≡ at q
    unmoved b m n = mended _ (moved_pair b) q ∙ ap (λ c. cond c (Some i) (cond (nat_eq k q) None (at q))) (ne_eqb _ q m) ∙ ap (λ c. cond c None (at q)) (ne_eqb k q n)

  last_place : at (get_or pairs (length pairs - 1) d).1 ≡ Some (length pairs - 1)
  last_place = h.placed (length pairs - 1) (get_or pairs (length pairs - 1) d).0 (get_or pairs (length pairs - 1) d).1 (slice_get-get_or pairs (length pairs - 1) d (omega (arith, within)))

  at_k : now k ≡ None
  at_k = elim (cases_lt i (length pairs - 1)) [
    | inl b ↦
        let other : (get_or pairs (length pairs - 1) d).1 ≢ k = λ a. let s = same_some (at k) (length pairs - 1) i (ap at (sym a) ∙ last_place) here in omega (arith, s, b) in
        mended _ (moved_pair k b) k ∙ ap (λ c. cond c (Some i) (cond (nat_eq k k) None (at k))) (ne_eqb _ k other) ∙ ap (λ c. cond c None (at k)) (eq-eqb k k refl)
    | inr b ↦ gone (slice_get_past (swap_remove pairs i d) i (omega (arith, left_len pairs i d d within, b))) k ∙ ap (λ c. cond c None (at k)) (eq-eqb k k refl)
  ]

  -- a number but k, at an index that stays
  kept : (q j : ℕ) (x : CacheEntryKey) → k ≢ q → j ≢ i → j < length pairs - 1 → slice_get pairs j ≡ Some (x, q) → now q ≡ Some j
  kept q j x n away b p = elim (cases_lt i (length pairs - 1)) [
    | inl c ↦
        let other : (get_or pairs (length pairs - 1) d).1 ≢ q = λ a. let s = same_some (at q) (length pairs - 1) j (ap at (sym a) ∙ last_place) (h.placed j x q p) in omega (arith, s, b) in
        unmoved q c other n ∙ h.placed j x q p
    | inr c ↦ at_gone q (omega (arith, c, within)) n ∙ h.placed j x q p
  ]

  pub IsPlaced-swapped : IsPlaced now (swap_remove pairs i d)
  IsPlaced-swapped = record {
    known = λ q j s.
        let n : k ≢ q = λ a. none_some j (now q) (ap now (sym a) ∙ at_k) s in
        elim (cases_lt i (length pairs - 1)) [
          | inl b ↦ elim (cases_eq (get_or pairs (length pairs - 1) d).1 q) [
            | inl a ↦ (
              (get_or pairs (length pairs - 1) d).0,
              ap (slice_get (swap_remove pairs i d)) (sym (same_some (now q) i j (moved q b a) s)) ∙ moved_pair q b ∙ ap (λ (l : ℕ). Some ((get_or pairs (length pairs - 1) d).0, l)) a,
            )
            | inr m ↦ known_kept q j n (sym (unmoved q b m n) ∙ s) (λ a. m (same_pair (slice_get pairs (length pairs - 1)) _ _ _ _ (slice_get-get_or pairs (length pairs - 1) d (omega (arith, within))) (ap (slice_get pairs) (sym a) ∙ (h.known q j (sym (unmoved q b m n) ∙ s)).1)).1)
          ]
          | inr b ↦ known_kept q j n (sym (at_gone q (omega (arith, b, within)) n) ∙ s) (λ a. n (same_pair (slice_get pairs i) _ _ _ _ pair (ap (slice_get pairs) (let t : i ≡ j = omega (arith, a, b, within) in t) ∙ (h.known q j (sym (at_gone q (omega (arith, b, within)) n) ∙ s)).1)).1)
        ];
    placed = λ j x q s.
        let c = left_cases pairs i d d within j (x, q) s in
        elim c.1 [
          | inl a ↦ moved q (omega (arith, a.0, c.0)) (same_pair (slice_get pairs (length pairs - 1)) _ _ _ _ (slice_get-get_or pairs (length pairs - 1) d (omega (arith, within))) a.1).1 ∙ ap (λ (l : ℕ). Some l) (sym a.0)
          | inr a ↦ kept q j x (λ b. a.0 (same_some (at q) j i (h.placed j x q a.1) (ap at (sym b) ∙ here))) a.0 c.0 a.1
        ];
  }
    where
      known_kept : (q j : ℕ) → k ≢ q → at q ≡ Some j → j ≢ length pairs - 1 → (x : CacheEntryKey) × (slice_get (swap_remove pairs i d) j ≡ Some (x, q))
      known_kept q j n s m =
          let p = h.known q j s in
          let away : j ≢ i = λ a. n (same_pair (slice_get pairs i) _ _ _ _ pair (ap (slice_get pairs) (sym a) ∙ p.1)).1 in
          (p.0, left_other pairs i d d within j (let b = slice_get_within pairs j (p.0, q) p.1 in omega (arith, b, m)) away ∙ p.1)

  pub names-swapped : (q : ℕ) → name_at (swap_remove pairs i d) q ≡ without_name (name_at pairs) k q
  names-swapped q = elim (cases_eq q k) [
    | inl a ↦ no_name now (swap_remove pairs i d) IsPlaced-swapped q (ap now a ∙ at_k) ∙ sym (ap (λ b. cond b None (name_at pairs q)) (eq-eqb q k a))
    | inr n ↦ others q n (name_at pairs q) refl ∙ sym (ap (λ b. cond b None (name_at pairs q)) (ne_eqb q k n))
  ]
    where
      back : (q j : ℕ) (x : CacheEntryKey) → slice_get (swap_remove pairs i d) j ≡ Some (x, q) → name_at pairs q ≡ Some x
      back q j x s = elim (left_cases pairs i d d within j (x, q) s).1 [
        | inl a ↦ name_of_place at pairs h (length pairs - 1) q x a.1
        | inr a ↦ name_of_place at pairs h j q x a.1
      ]

      others : (q : ℕ) → q ≢ k → (o : Option CacheEntryKey) → name_at pairs q ≡ o → name_at (swap_remove pairs i d) q ≡ o
      others q n (Some x) p =
          let a = name_place pairs q x p in
          let b = stays q a.0 x (λ c. n (sym c)) a.1 in
          name_of_place now (swap_remove pairs i d) IsPlaced-swapped b.0 q x b.1
      others q n None p = elim (name_at (swap_remove pairs i d) q) as (λ o. name_at (swap_remove pairs i d) q ≡ o → o ≡ None) [
        | None ↦ λ s. refl
        | Some x ↦ λ s. absurd (let a = name_place (swap_remove pairs i d) q x s in none_some x (name_at pairs q) p (back q a.0 x a.1))
      ] refl

-- what comes to that index had the last place
module _ (at : ℕ → Option ℕ) (pairs : List (CacheEntryKey × ℕ)) (k i : ℕ) (e : CacheEntryKey) (d p : CacheEntryKey × ℕ) (h : IsPlaced at pairs) (here : at k ≡ Some i) (pair : slice_get pairs i ≡ Some (e, k))
    (moved : slice_get (swap_remove pairs i d) i ≡ Some p) where
  pub had_last : at p.1 ≡ Some (length pairs - 1)
  had_last = elim (left_cases pairs i d d (slice_get_within pairs i (e, k) pair) i p moved).1 [
    | inl a ↦ h.placed (length pairs - 1) p.0 p.1 a.1
    | inr a ↦ absurd (a.0 refl)
  ]

  pub is_another : k ≢ p.1
  is_another a =
      let last = same_some (at k) i (length pairs - 1) here (ap at a ∙ had_last) in
      let b = (left_cases pairs i d d (slice_get_within pairs i (e, k) pair) i p moved).0 in
      omega (arith, last, b)

-- the same by what the calls of both maps say
module _ (at mid : ℕ → Option ℕ) (pairs left : List (CacheEntryKey × ℕ)) (k i : ℕ) (d : CacheEntryKey × ℕ) (h : IsPlaced at pairs) (here : at k ≡ Some i) (taken : slice_get pairs i ≡ Some d)
    (is : left ≡ swap_remove pairs i d) (took : (q : ℕ) → mid q ≡ cond (nat_eq k q) None (at q)) where
  own : d.1 ≡ k
  own = let q = h.known k i here in (same_pair (slice_get pairs i) d.0 q.0 d.1 k taken q.1).1

  pair : slice_get pairs i ≡ Some (d.0, k)
  pair = taken ∙ ap (λ (n : ℕ). Some (d.0, n)) own

  pub entry_taken : name_at pairs k ≡ Some d.0
  entry_taken = name_of_place at pairs h i k d.0 pair

  module _ (p : CacheEntryKey × ℕ) (found : slice_get left i ≡ Some p) where
    found_there : slice_get (swap_remove pairs i d) i ≡ Some p
    found_there = ap (λ (l : List (CacheEntryKey × ℕ)). slice_get l i) (sym is) ∙ found

    pub may_move : (j : ℕ) × (mid p.1 ≡ Some j)
    may_move = (
      length pairs - 1,
      took p.1 ∙ ap (λ b. cond b None (at p.1)) (ne_eqb k p.1 (is_another at pairs k i d.0 d p h here pair found_there)) ∙ had_last at pairs k i d.0 d p h here pair found_there,
    )

    module _ (now : ℕ → Option ℕ) (put : (q : ℕ) → now q ≡ cond (nat_eq p.1 q) (Some i) (mid q)) where
      gone : slice_get (swap_remove pairs i d) i ≡ None → (q : ℕ) → now q ≡ cond (nat_eq k q) None (at q)
      gone n q = absurd (none_some p (slice_get (swap_remove pairs i d) i) n found_there)

      mended : (r : CacheEntryKey × ℕ) → slice_get (swap_remove pairs i d) i ≡ Some r → (q : ℕ) → now q ≡ cond (nat_eq r.1 q) (Some i) (cond (nat_eq k q) None (at q))
      mended r f q =
          let same = same_some (slice_get (swap_remove pairs i d) i) p r found_there f in
          put q ∙ ap (λ (o : Option ℕ). cond (nat_eq p.1 q) (Some i) o) (took q) ∙ ap (λ (z : CacheEntryKey × ℕ). cond (nat_eq z.1 q) (Some i) (cond (nat_eq k q) None (at q))) same

      pub IsPlaced-moved : IsPlaced now left
      IsPlaced-moved = subst (λ (l : List (CacheEntryKey × ℕ)). IsPlaced now l) (sym is) (IsPlaced-swapped at now pairs k i d.0 d h here pair gone mended)

      pub names-moved : (q : ℕ) → name_at left q ≡ without_name (name_at pairs) k q
      names-moved q = ap (λ (l : List (CacheEntryKey × ℕ)). name_at l q) is ∙ names-swapped at now pairs k i d.0 d h here pair gone mended q

  module _ (nothing : slice_get left i ≡ None) where
    nothing_there : slice_get (swap_remove pairs i d) i ≡ None
    nothing_there = ap (λ (l : List (CacheEntryKey × ℕ)). slice_get l i) (sym is) ∙ nothing

    no_other : (r : CacheEntryKey × ℕ) → slice_get (swap_remove pairs i d) i ≡ Some r → (q : ℕ) → mid q ≡ cond (nat_eq r.1 q) (Some i) (cond (nat_eq k q) None (at q))
    no_other r f q = absurd (none_some r (slice_get (swap_remove pairs i d) i) nothing_there f)

    pub IsPlaced-popped : IsPlaced mid left
    IsPlaced-popped = subst (λ (l : List (CacheEntryKey × ℕ)). IsPlaced mid l) (sym is) (IsPlaced-swapped at mid pairs k i d.0 d h here pair (λ n. took) no_other)

    pub names-popped : (q : ℕ) → name_at left q ≡ without_name (name_at pairs) k q
    names-popped q = ap (λ (l : List (CacheEntryKey × ℕ)). name_at l q) is ∙ names-swapped at mid pairs k i d.0 d h here pair (λ n. took) no_other q
