-- Pairs of entries and numbers, found by their numbers and by their entries.
use Rattle.std.proofs.Common.{◌≡◌, ◌≢◌, ℕ, zero, suc, ◌⊎◌, inl, inr, Bool, true, false, cond, true≢false, List, [], ◌∷◌, ◌++◌, length, slice_get, Option, Some, None, sym, refl, ap, ◌∙◌}
use Rattle.std.specs.Prelude.{nat_eq, unwrap_or, IfSome, IfNone}
use Rattle.std.specs.List.{IsDistinct}
use Rattle.std.specs.Map.{lookup, keys_of}
use Rattle.std.proofs.lemmas.Bool.{cases_eq, eq-eqb, ne_eqb}
use Rattle.std.proofs.lemmas.Map.Entries.{place_from_lookup, lookup_from_place}
use Rattle.cache_entries.specs.declared.entry.CacheEntryKey.{CacheEntryKey}
use Rattle.cache_entries.specs.Entry.{same_entry}
use Rattle.cache_entries.specs.SameEntry.{same_entry-tells, entries_equivalence}
use Rattle.lru_numbers.specs.Names.{name_at, IsOneToOne, HasNoNumber, with_name, without_name}
use Rattle.lru_numbers.specs.Places.{IsPlaced}

pub none_some : {X : Type 0} (x : X) (o : Option X) → o ≡ None → o ≡ Some x → ⊥
none_some x o n s = let f : None ≡ Some x = sym n ∙ s in cc

no_pair : {X : Type 0} (x : X) → None ≡ Some x → ⊥
no_pair x f = cc

pub some_of : {X : Type 0} (o : Option X) → o ≢ None → (x : X) × (o ≡ Some x)
some_of None n = absurd (n refl)
some_of (Some x) n = (x, refl)

pub same_pair : {A : Type 0} (o : Option (A × ℕ)) (a b : A) (k l : ℕ) → o ≡ Some (a, k) → o ≡ Some (b, l) → (a ≡ b) × (k ≡ l)
same_pair {A} o a b k l p q =
    (ap (λ (z : Option (A × ℕ)). (unwrap_or z (a, k)).0) (sym p ∙ q), ap (λ (z : Option (A × ℕ)). (unwrap_or z (a, k)).1) (sym p ∙ q))

pub same_some : {A : Type 0} (o : Option A) (a b : A) → o ≡ Some a → o ≡ Some b → a ≡ b
same_some {A} o a b p q = ap (λ (z : Option A). unwrap_or z a) (sym p ∙ q)

pub IsPlaced-same : (at now : ℕ → Option ℕ) (pairs left : List (CacheEntryKey × ℕ)) → IsPlaced at pairs → ((q : ℕ) → now q ≡ at q) → left ≡ pairs → IsPlaced now left
IsPlaced-same at now pairs left h same e = record {
  known = λ k i p. let q = h.known k i (sym (same k) ∙ p) in (q.0, ap (λ (l : List (CacheEntryKey × ℕ)). slice_get l i) e ∙ q.1);
  placed = λ i x k p. same k ∙ h.placed i x k (ap (λ (l : List (CacheEntryKey × ℕ)). slice_get l i) (sym e) ∙ p);
}

-- a number without a name may be taken out
pub names_unused : (names : ℕ → Option CacheEntryKey) (k : ℕ) → names k ≡ None → (i : ℕ) → names i ≡ without_name names k i
names_unused names k n i = elim (cases_eq i k) [
  | inl a ↦ rw (eq-eqb i k a) (ap names a ∙ n)
  | inr m ↦ rw (ne_eqb i k m) refl
]

-- ---- by the number

pub name_place : (pairs : List (CacheEntryKey × ℕ)) (k : ℕ) (e : CacheEntryKey) → name_at pairs k ≡ Some e → (i : ℕ) × (slice_get pairs i ≡ Some (e, k))
name_place [] k e h = absurd (let f : None ≡ Some e = h in cc)
name_place (p ∷ pairs) k e h = elim (cases_eq p.1 k) [
  | inl a ↦ (zero, let f : Some p.0 ≡ Some e = rw (eq-eqb p.1 k a) at h in let g : p.0 ≡ e = cc in λ t. Some (g t, a t))
  | inr n ↦ let rest = name_place pairs k e (rw (ne_eqb p.1 k n) at h) in (suc rest.0, rest.1)
]

place_later : (p : CacheEntryKey × ℕ) (pairs : List (CacheEntryKey × ℕ)) (i k : ℕ) (e : CacheEntryKey) → p.1 ≢ k → slice_get (p ∷ pairs) i ≡ Some (e, k)
    → ((j : ℕ) → slice_get pairs j ≡ Some (e, k) → name_at pairs k ≢ None) → name_at pairs k ≢ None
place_later p pairs zero k e d h rest = absurd (d (same_pair (Some p) p.0 e p.1 k refl h).1)
place_later p pairs (suc i) k e d h rest = rest i h

place_name : (pairs : List (CacheEntryKey × ℕ)) (i k : ℕ) (e : CacheEntryKey) → slice_get pairs i ≡ Some (e, k) → name_at pairs k ≢ None
place_name [] i k e h = λ n. no_pair (e, k) h
place_name (p ∷ pairs) i k e h = elim (cases_eq p.1 k) [
  | inl a ↦ rw (eq-eqb p.1 k a) (λ n. let f : Some p.0 ≡ None = n in cc)
  | inr d ↦ rw (ne_eqb p.1 k d) (place_later p pairs i k e d h (λ j. place_name pairs j k e))
]

module _ (at : ℕ → Option ℕ) (pairs : List (CacheEntryKey × ℕ)) (h : IsPlaced at pairs) where
  pub name_of_place : (i k : ℕ) (e : CacheEntryKey) → slice_get pairs i ≡ Some (e, k) → name_at pairs k ≡ Some e
  name_of_place i k e p =
      let x = some_of (name_at pairs k) (place_name pairs i k e p) in
      let q = name_place pairs k x.0 x.1 in
      let same = same_some (at k) i q.0 (h.placed i e k p) (h.placed q.0 x.0 k q.1) in
      let one = (same_pair (slice_get pairs i) e x.0 k k p (ap (slice_get pairs) same ∙ q.1)).0 in
      x.1 ∙ ap (λ (y : CacheEntryKey). Some y) (sym one)

  -- the pair at the index that the table gives
  pub at_number : (i k n : ℕ) (e : CacheEntryKey) → at k ≡ Some i → slice_get pairs i ≡ Some (e, n) → name_at pairs k ≡ Some e
  at_number i k n e a p =
      let q = h.known k i a in
      name_of_place i k q.0 q.1 ∙ ap (λ (y : CacheEntryKey). Some y) (same_pair (slice_get pairs i) q.0 e k n q.1 p).0

  pub no_place : (k : ℕ) → name_at pairs k ≡ None → at k ≡ None
  no_place k n = elim (at k) as (λ o. at k ≡ o → o ≡ None) [
    | None ↦ λ e. refl
    | Some i ↦ λ e. absurd (let q = h.known k i e in none_some q.0 (name_at pairs k) n (name_of_place i k q.0 q.1))
  ] refl

  pub no_name : (k : ℕ) → at k ≡ None → name_at pairs k ≡ None
  no_name k n = elim (name_at pairs k) as (λ o. name_at pairs k ≡ o → o ≡ None) [
    | None ↦ λ e. refl
    | Some x ↦ λ e. absurd (let p = name_place pairs k x e in none_some p.0 (at k) n (h.placed p.0 x k p.1))
  ] refl

-- ---- by the entry

lookup_later : (p : CacheEntryKey × ℕ) (pairs : List (CacheEntryKey × ℕ)) (i k : ℕ) (e : CacheEntryKey) → same_entry e p.0 ≡ false → slice_get (p ∷ pairs) i ≡ Some (e, k)
    → ((j : ℕ) → slice_get pairs j ≡ Some (e, k) → lookup (same_entry e) pairs ≢ None) → lookup (same_entry e) pairs ≢ None
lookup_later p pairs zero k e d h rest =
    let one = (same_pair (Some p) p.0 e p.1 k refl h).0 in
    absurd (true≢false (sym (same_entry-tells.itself e) ∙ ap (same_entry e) (sym one) ∙ d))
lookup_later p pairs (suc i) k e d h rest = rest i h

lookup_step : (b : Bool) (x : ℕ) (o : Option ℕ) → (b ≡ false → o ≢ None) → cond b (Some x) o ≢ None
lookup_step true x o f n = let g : Some x ≡ None = n in cc
lookup_step false x o f n = f refl n

lookup_place : (pairs : List (CacheEntryKey × ℕ)) (i k : ℕ) (e : CacheEntryKey) → slice_get pairs i ≡ Some (e, k) → lookup (same_entry e) pairs ≢ None
lookup_place [] i k e h = λ n. no_pair (e, k) h
lookup_place (p ∷ pairs) i k e h = lookup_step (same_entry e p.0) p.1 (lookup (same_entry e) pairs) (λ t. lookup_later p pairs i k e t h (λ j. lookup_place pairs j k e))

module _ (at : ℕ → Option ℕ) (pairs : List (CacheEntryKey × ℕ)) (h : IsPlaced at pairs) where
  -- the number that a look-up by the entry finds
  pub looked_up : (e : CacheEntryKey) (k : ℕ) → lookup (same_entry e) pairs ≡ Some k → name_at pairs k ≡ Some e
  looked_up e k l =
      let p = place_from_lookup (same_entry e) pairs k l in
      let same = same_entry-tells.equal e p.1 p.3 in
      name_of_place at pairs h p.0 k p.1 p.2 ∙ ap (λ (y : CacheEntryKey). Some y) (sym same)

  pub not_looked_up : (e : CacheEntryKey) → lookup (same_entry e) pairs ≡ None → HasNoNumber (name_at pairs) e
  not_looked_up e n k p = let q = name_place pairs k e p in lookup_place pairs q.0 k e q.1 n

  pub unnumbered : (e : CacheEntryKey) → HasNoNumber (name_at pairs) e → lookup (same_entry e) pairs ≡ None
  unnumbered e none = elim (lookup (same_entry e) pairs) as (λ o. lookup (same_entry e) pairs ≡ o → o ≡ None) [
    | None ↦ λ f. refl
    | Some k ↦ λ f. absurd (none k (looked_up e k f))
  ] refl

-- ---- one more, at the end

push_same : {X : Type 0} (xs : List X) (y x : X) (i : ℕ) → slice_get xs i ≡ Some x → slice_get (xs ++ y ∷ []) i ≡ Some x
push_same [] y x i h = absurd (let f : None ≡ Some x = h in cc)
push_same (z ∷ xs) y x zero h = h
push_same (z ∷ xs) y x (suc i) h = push_same xs y x i h

push_here : {X : Type 0} (xs : List X) (y : X) → slice_get (xs ++ y ∷ []) (length xs) ≡ Some y
push_here [] y = refl
push_here (z ∷ xs) y = push_here xs y

push_cases : {X : Type 0} (xs : List X) (y x : X) (i : ℕ) → slice_get (xs ++ y ∷ []) i ≡ Some x → (slice_get xs i ≡ Some x) ⊎ ((i ≡ length xs) × (y ≡ x))
push_cases [] y x zero h = inr (refl, let f : Some y ≡ Some x = h in cc)
push_cases [] y x (suc i) h = absurd (let f : None ≡ Some x = h in cc)
push_cases (z ∷ xs) y x zero h = inl h
push_cases (z ∷ xs) y x (suc i) h = elim (push_cases xs y x i h) [ inl a ↦ inl a | inr a ↦ inr (ap suc a.0, a.1) ]

name_rest : (p : CacheEntryKey × ℕ) (pairs : List (CacheEntryKey × ℕ)) (k : ℕ) → name_at (p ∷ pairs) k ≡ None → name_at pairs k ≡ None
name_rest p pairs k f = elim (cases_eq p.1 k) [
  | inl a ↦ absurd (let g : Some p.0 ≡ None = rw (eq-eqb p.1 k a) at f in cc)
  | inr n ↦ rw (ne_eqb p.1 k n) at f
]

name-push : (pairs : List (CacheEntryKey × ℕ)) (e : CacheEntryKey) (k : ℕ) → name_at pairs k ≡ None → (i : ℕ) → name_at (pairs ++ (e, k) ∷ []) i ≡ with_name (name_at pairs) k e i
name-push [] e k f i = elim (cases_eq i k) [
  | inl a ↦ rw (eq-eqb i k a, eq-eqb k i (sym a)) refl
  | inr n ↦ rw (ne_eqb i k n, ne_eqb k i (λ a. n (sym a))) refl
]
name-push (p ∷ pairs) e k f i = elim (cases_eq p.1 i) [
  | inl a ↦ elim (cases_eq i k) [
    | inl b ↦ absurd (let g : Some p.0 ≡ None = rw (eq-eqb p.1 k (a ∙ b)) at f in cc)
    | inr n ↦ rw (eq-eqb p.1 i a, ne_eqb i k n) refl
  ]
  | inr n ↦ rw (ne_eqb p.1 i n) (name-push pairs e k (name_rest p pairs k f) i)
]

module _ (at now : ℕ → Option ℕ) (pairs : List (CacheEntryKey × ℕ)) (e : CacheEntryKey) (k : ℕ) (h : IsPlaced at pairs) (free : at k ≡ None)
    (put : (q : ℕ) → now q ≡ cond (nat_eq k q) (Some (length pairs)) (at q)) where
  pub IsPlaced-push : IsPlaced now (pairs ++ (e, k) ∷ [])
  IsPlaced-push = record {
    known = λ q i s. elim (cases_eq k q) [
      | inl a ↦
          let f : Some (length pairs) ≡ Some i = sym (put q ∙ ap (λ b. cond b (Some (length pairs)) (at q)) (eq-eqb k q a)) ∙ s in
          let g : length pairs ≡ i = cc in
          (e, ap (slice_get (pairs ++ (e, k) ∷ [])) (sym g) ∙ push_here pairs (e, k) ∙ ap (λ (j : ℕ). Some (e, j)) a)
      | inr n ↦
          let was = h.known q i (sym (put q ∙ ap (λ b. cond b (Some (length pairs)) (at q)) (ne_eqb k q n)) ∙ s) in
          (was.0, push_same pairs (e, k) (was.0, q) i was.1)
    ];
    placed = λ i x q s. elim (push_cases pairs (e, k) (x, q) i s) [
      | inl a ↦
          let was = h.placed i x q a in
          let n : k ≢ q = λ b. none_some i (at q) (ap at (sym b) ∙ free) was in
          put q ∙ ap (λ b. cond b (Some (length pairs)) (at q)) (ne_eqb k q n) ∙ was
      | inr a ↦
          let c : k ≡ q = ap (λ (p : CacheEntryKey × ℕ). p.1) a.1 in
          put q ∙ ap (λ b. cond b (Some (length pairs)) (at q)) (eq-eqb k q c) ∙ ap (λ (j : ℕ). Some j) (sym a.0)
    ];
  }

  pub names-push : (i : ℕ) → name_at (pairs ++ (e, k) ∷ []) i ≡ with_name (name_at pairs) k e i
  names-push = name-push pairs e k (no_name at pairs h k free)

module _ (at : ℕ → Option ℕ) (pairs : List (CacheEntryKey × ℕ)) (h : IsPlaced at pairs) (e : CacheEntryKey) where
  pub found_number : (o : Option ℕ) → o ≡ lookup (same_entry e) pairs → IfSome o (λ k. name_at pairs k ≡ Some e)
  found_number None p = tt
  found_number (Some k) p = looked_up at pairs h e k (sym p)

  pub found_none : (o : Option ℕ) → o ≡ lookup (same_entry e) pairs → IfNone o (HasNoNumber (name_at pairs) e)
  found_none None p = not_looked_up at pairs h e (sym p)
  found_none (Some k) p = tt

-- entries that are there once have one number
pub one_to_one : (pairs : List (CacheEntryKey × ℕ)) → IsDistinct same_entry (keys_of pairs) → IsOneToOne (name_at pairs)
one_to_one pairs distinct i j e p q =
    let a = name_place pairs i e p in
    let b = name_place pairs j e q in
    same_some (lookup (same_entry e) pairs) i j (lookup_from_place entries_equivalence pairs a.0 e i distinct a.1) (lookup_from_place entries_equivalence pairs b.0 e j distinct b.1)
