-- Other rows in the shard of one number.
use Rattle.std.proofs.Common.{◌≡◌, ◌≢◌, ℕ, ◌%◌, ◌<◌, inl, inr, cond, eqb, map, List, [], ◌∷◌, ◌++◌, length, get_or, set, slice_get, Option, Some, None, sym, refl, ap, ◌∙◌, subst, arith}
use Rattle.std.specs.Prelude.{unwrap_or, option_map}
use Rattle.std.proofs.lemmas.Bool.{cases_eq, eq-eqb, ne_eqb}
use Rattle.std.proofs.lemmas.Nat.{mod_below}
use Rattle.std.proofs.lemmas.List.{map-set, set-get_or, length-set, get_or-map, get_or-set_same, get_or-set_other, get_or_default}
use Rattle.cache_entries.specs.declared.entry.CacheEntryKey.{CacheEntryKey}
use Rattle.cache_entries.specs.declared.rows.Tracked.{Tracked}
use Rattle.cache_entries.specs.EntryText.{entry_hash}
use Rattle.cache_entries.specs.Rows.{weight_of, without_row, admitted}
use Rattle.lru_core.specs.declared.rows.Row.{Row}
use Rattle.lru_core.specs.Rows.{only, others, a_row}
use Rattle.lru_core.specs.Cores.{Core, rows_at}
use Rattle.lru_core.proofs.Filters.{only-others, others_all}
use Rattle.lru_numbers.specs.Names.{IsOneToOne, HasNoNumber}
use Rattle.cache_evict.specs.Managed.{shard_of, put_first, use_first, taken_out}
use Rattle.cache_evict.specs.Numbered.{nobody, tracked_row, tracked, managed_in, AreNumbered, IsNumbered}
use Rattle.lru_numbers.proofs.PlaceLaws.{none_some}
use Rattle.cache_evict.proofs.NumberedLaws.{IsNumber, IsNumber-named, tracked-others, AreNumbered-others, elsewhere, others-without, row_of-number, absent, set_agree}

-- rows of another number
pub only-others_another : (i k : ℕ) (rows : List (Row ℕ)) → i ≢ k → only i (others k rows) ≡ only i rows
only-others_another i k [] n = refl
only-others_another i k (r ∷ rows) n = elim (cases_eq r.key k) [
  | inl e ↦ rw (eq-eqb r.key k e, ne_eqb r.key i (λ f. n (sym f ∙ e))) (only-others_another i k rows n)
  | inr m ↦ rw (ne_eqb r.key k m) (ap (λ (l : List (Row ℕ)). cond (eqb r.key i) (r ∷ l) l) (only-others_another i k rows n))
]

module _ (n : ℕ) (names now : ℕ → Option CacheEntryKey) (shards : List (List (Row ℕ))) (k : ℕ) (h : IsNumbered n names shards) (same : (i : ℕ) → i ≢ k → now i ≡ names i) where
  pub below : k % n < length shards
  below = let m = mod_below k n h.some in omega (arith, m, h.count)

  alone : (s : ℕ) → s ≢ k % n → others k (rows_at shards s) ≡ rows_at shards s
  alone s m = others_all k (rows_at shards s) (elsewhere n names now k same s (rows_at shards s) (h.numbered s) m)

  kept : (s : ℕ) → s ≢ k % n → AreNumbered n now s (rows_at shards s)
  kept s m = subst (λ (l : List (Row ℕ)). AreNumbered n now s l) (alone s m) (AreNumbered-others n names now k same s (rows_at shards s) (h.numbered s))

  unchanged : (s : ℕ) → s ≢ k % n → tracked now (rows_at shards s) ≡ tracked names (rows_at shards s)
  unchanged s m = ap (tracked now) (sym (alone s m)) ∙ tracked-others n names now k same (rows_at shards s) ∙ ap (tracked names) (alone s m)

  module _ (rows : List (Row ℕ)) where
    pub IsNumbered-written : IsOneToOne now → ((e : CacheEntryKey) → now k ≡ Some e → k % n ≡ shard_of n e) → AreNumbered n now (k % n) rows
        → ((e : CacheEntryKey) → now k ≡ Some e → (w : ℕ) × (only k rows ≡ a_row k k w ∷ []))
        → ((i : ℕ) → i ≢ k → only i rows ≡ only i (rows_at shards (k % n))) → IsNumbered n now (set shards (k % n) rows)
    IsNumbered-written one home here mine theirs = record {
      some = h.some;
      count = length-set shards (k % n) rows ∙ h.count;
      one = one;
      home = λ i e p. elim (cases_eq i k) [
        | inl a ↦ ap (λ (j : ℕ). j % n) a ∙ home e (ap now (sym a) ∙ p)
        | inr m ↦ h.home i e (sym (same i m) ∙ p)
      ];
      numbered = λ s. elim (cases_eq s (k % n)) [
        | inl a ↦ subst (λ (j : ℕ). AreNumbered n now j (rows_at (set shards (k % n) rows) j)) (sym a) (subst (λ (l : List (Row ℕ)). AreNumbered n now (k % n) l) (sym (get_or-set_same shards (k % n) rows [] below)) here)
        | inr m ↦ subst (λ (l : List (Row ℕ)). AreNumbered n now s l) (sym (get_or-set_other shards (k % n) s rows [] m)) (kept s m)
      ];
      known = λ i e p. elim (cases_eq i k) [
        | inl a ↦
            let own = mine e (ap now (sym a) ∙ p) in
            subst (λ (j : ℕ). (w : ℕ) × (only j (rows_at (set shards (k % n) rows) (j % n)) ≡ a_row j j w ∷ [])) (sym a) (own.0, ap (only k) (get_or-set_same shards (k % n) rows [] below) ∙ own.1)
        | inr m ↦
            let was = h.known i e (sym (same i m) ∙ p) in
            elim (cases_eq (i % n) (k % n)) [
              | inl c ↦ (
                was.0,
                ap (λ (j : ℕ). only i (rows_at (set shards (k % n) rows) j)) c ∙ ap (only i) (get_or-set_same shards (k % n) rows [] below) ∙ theirs i m ∙ ap (λ (j : ℕ). only i (rows_at shards j)) (sym c) ∙ was.1,
              )
              | inr d ↦ (was.0, ap (only i) (get_or-set_other shards (k % n) (i % n) rows [] d) ∙ was.1)
            ]
      ];
    }

    pub shown-written : map (tracked now) (set shards (k % n) rows) ≡ set (map (tracked names) shards) (k % n) (tracked now rows)
    shown-written =
        map-set (tracked now) shards (k % n) rows
        ∙ set_agree (tracked now) (tracked names) shards (k % n) (tracked now rows) (λ i d m b. ap (tracked now) (get_or_default shards i d [] b) ∙ unchanged i m ∙ ap (tracked names) (get_or_default shards i [] d b))

-- the rows that a manager sees in the shard of k
pub seen : (n : ℕ) (names : ℕ → Option CacheEntryKey) (shards : List (List (Row ℕ))) (s : ℕ) → s < length shards → get_or (map (tracked names) shards) s [] ≡ tracked names (rows_at shards s)
seen n names shards s b = get_or-map (tracked names) shards s [] [] b

module _ (n : ℕ) (names now : ℕ → Option CacheEntryKey) (core left : Core ℕ) (k : ℕ) (e : CacheEntryKey) (size items : ℕ) (h : IsNumbered n names core.shards) (same : (i : ℕ) → i ≢ k → now i ≡ names i)
    (home : k % n ≡ shard_of n e) where
  -- an entry's row at the front of its shard
  module _ (w : ℕ) (one : IsOneToOne now) (here : now k ≡ Some e) (is : IsNumber names k e) (s : left ≡ record core { shards = set core.shards (k % n) (a_row k k w ∷ others k (rows_at core.shards (k % n))) }) where
    front : List (Row ℕ)
    front = a_row k k w ∷ others k (rows_at core.shards (k % n))

    pub IsNumbered-front : IsNumbered n now left.shards
    unfolding front
    IsNumbered-front =
        subst (λ (c : Core ℕ). IsNumbered n now c.shards) (sym s) (IsNumbered-written n names now core.shards k h same front one (λ x p. home ∙ ap (shard_of n) (same_entry_of x p))
        (refl, refl, (λ f. none_some e (now k) f here), AreNumbered-others n names now k same (k % n) (rows_at core.shards (k % n)) (h.numbered (k % n)))
        (λ x p. (w, rw (eq-eqb k k refl) (ap (λ (l : List (Row ℕ)). a_row k k w ∷ l) (only-others k (rows_at core.shards (k % n))))))
        (λ i m. rw (ne_eqb k i (λ a. m (sym a))) (only-others_another i k (rows_at core.shards (k % n)) m)))
      where
        same_entry_of : (x : CacheEntryKey) → now k ≡ Some x → e ≡ x
        same_entry_of x p = ap (λ (o : Option CacheEntryKey). unwrap_or o e) (sym here ∙ p)

    pub managed-front : managed_in now left size items ≡ put_first n e w (managed_in names core size items)
    unfolding front
    managed-front =
        let own : unwrap_or (now k) nobody ≡ e = ap (λ (o : Option CacheEntryKey). unwrap_or o nobody) here in
        let rest = tracked-others n names now k same (rows_at core.shards (k % n)) ∙ others-without n names k e is (k % n) (rows_at core.shards (k % n)) (h.numbered (k % n))
        ∙ ap (without_row e) (sym (seen n names core.shards (k % n) (below n names now core.shards k h same))) in
        let row : tracked now front ≡ admitted e w (get_or (map (tracked names) core.shards) (k % n) []) =
        ap (λ (x : CacheEntryKey). record { entry = x; weight = w } ∷ tracked now (others k (rows_at core.shards (k % n)))) own ∙ ap (λ (l : List Tracked). record { entry = e; weight = w } ∷ l) rest in
        ap (λ (c : Core ℕ). managed_in now c size items) s
        ∙ ap (λ (l : List (List Tracked)). record (managed_in names core size items) { shards = l }) (shown-written n names now core.shards k h same front
        ∙ ap (set (map (tracked names) core.shards) (k % n)) row
        ∙ ap (λ (j : ℕ). set (map (tracked names) core.shards) j (admitted e w (get_or (map (tracked names) core.shards) j []))) home)

  -- an entry's row taken out with its number
  module _ (one : IsOneToOne now) (gone : now k ≡ None) (is : IsNumber names k e) (s : left ≡ record core { shards = set core.shards (k % n) (others k (rows_at core.shards (k % n))) }) where
    pub IsNumbered-without : IsNumbered n now left.shards
    IsNumbered-without =
        subst (λ (c : Core ℕ). IsNumbered n now c.shards) (sym s) (IsNumbered-written n names now core.shards k h same (others k (rows_at core.shards (k % n))) one (λ x p. absurd (none_some x (now k) gone p))
        (AreNumbered-others n names now k same (k % n) (rows_at core.shards (k % n)) (h.numbered (k % n))) (λ x p. absurd (none_some x (now k) gone p)) (λ i m. only-others_another i k (rows_at core.shards (k % n)) m))

    pub managed-without : managed_in now left size items ≡ taken_out n e (managed_in names core size items)
    managed-without =
        let rest = tracked-others n names now k same (rows_at core.shards (k % n)) ∙ others-without n names k e is (k % n) (rows_at core.shards (k % n)) (h.numbered (k % n))
        ∙ ap (without_row e) (sym (seen n names core.shards (k % n) (below n names now core.shards k h same))) in
        ap (λ (c : Core ℕ). managed_in now c size items) s
        ∙ ap (λ (l : List (List Tracked)). record (managed_in names core size items) { shards = l }) (shown-written n names now core.shards k h same (others k (rows_at core.shards (k % n)))
        ∙ ap (set (map (tracked names) core.shards) (k % n)) rest
        ∙ ap (λ (j : ℕ). set (map (tracked names) core.shards) j (without_row e (get_or (map (tracked names) core.shards) j []))) home)

-- what an entry weighs
module _ (n : ℕ) (names : ℕ → Option CacheEntryKey) (core : Core ℕ) (k : ℕ) (e : CacheEntryKey) (h : IsNumbered n names core.shards) where
  pub weight_of-number : names k ≡ Some e → weight_of e (get_or (map (tracked names) core.shards) (shard_of n e) []) ≡ option_map (λ r. r.weight) (slice_get (only k (rows_at core.shards (k % n))) 0)
  weight_of-number p =
      let rows = rows_at core.shards (k % n) in
      let b : k % n < length core.shards = let m = mod_below k n h.some in omega (arith, m, h.count) in
      ap (λ (j : ℕ). weight_of e (get_or (map (tracked names) core.shards) j [])) (sym (h.home k e p)) ∙ ap (weight_of e) (seen n names core.shards (k % n) b)
      ∙ ap (option_map (λ r. r.weight)) (row_of-number n names k e (IsNumber-named names k e h.one p) (k % n) rows (h.numbered (k % n))) ∙ weights (slice_get (only k rows) 0)
    where
      weights : (o : Option (Row ℕ)) → option_map (λ r. r.weight) (option_map (tracked_row names) o) ≡ option_map (λ r. r.weight) o
      weights None = refl
      weights (Some r) = refl

  pub weight_of-none : HasNoNumber names e → weight_of e (get_or (map (tracked names) core.shards) (shard_of n e) []) ≡ None
  weight_of-none none =
      let s = shard_of n e in
      let b : s < length core.shards = let m = mod_below (entry_hash e) n h.some in omega (arith, m, h.count) in
      ap (weight_of e) (seen n names core.shards s b) ∙ ap (option_map (λ r. r.weight)) (absent n names e s (rows_at core.shards s) (h.numbered s) none).0

-- an entry's own row, used
module _ (n : ℕ) (names : ℕ → Option CacheEntryKey) (core left : Core ℕ) (k : ℕ) (e : CacheEntryKey) (size items : ℕ) (h : IsNumbered n names core.shards) (p : names k ≡ Some e)
    (s : left ≡ record core { shards = set core.shards (k % n) (only k (rows_at core.shards (k % n)) ++ others k (rows_at core.shards (k % n))) }) where
  pub own : (w : ℕ) × (only k (rows_at core.shards (k % n)) ≡ a_row k k w ∷ [])
  own = h.known k e p

  as_front : left ≡ record core { shards = set core.shards (k % n) (a_row k k own.0 ∷ others k (rows_at core.shards (k % n))) }
  as_front = s ∙ ap (λ (l : List (Row ℕ)). record core { shards = set core.shards (k % n) (l ++ others k (rows_at core.shards (k % n))) }) own.1

  pub IsNumbered-used : IsNumbered n names left.shards
  IsNumbered-used = IsNumbered-front n names names core left k e size items h (λ i m. refl) (h.home k e p) own.0 h.one p (IsNumber-named names k e h.one p) as_front

  pub weight-there : weight_of e (get_or (map (tracked names) core.shards) (shard_of n e) []) ≡ Some own.0
  weight-there = weight_of-number n names core k e h p ∙ ap (λ (l : List (Row ℕ)). option_map (λ r. r.weight) (slice_get l 0)) own.1

  pub managed-used : (w : ℕ) → managed_in names left size items ≡ use_first n e w (managed_in names core size items)
  managed-used w =
      managed-front n names names core left k e size items h (λ i m. refl) (h.home k e p) own.0 h.one p (IsNumber-named names k e h.one p) as_front
      ∙ ap (λ (o : Option ℕ). put_first n e (unwrap_or o w) (managed_in names core size items)) (sym weight-there)

-- nothing is taken out of rows without the entry
pub managed-untouched : (n : ℕ) (names : ℕ → Option CacheEntryKey) (core : Core ℕ) (e : CacheEntryKey) (size items : ℕ) → IsNumbered n names core.shards → HasNoNumber names e
    → managed_in names core size items ≡ taken_out n e (managed_in names core size items)
managed-untouched n names core e size items h none =
    let s = shard_of n e in
    let b : s < length core.shards = let m = mod_below (entry_hash e) n h.some in omega (arith, m, h.count) in
    let view = map (tracked names) core.shards in
    let there = seen n names core.shards s b in
    ap (λ (l : List (List Tracked)). record (managed_in names core size items) { shards = l }) (sym (
    ap (set view s) (ap (without_row e) there ∙ (absent n names e s (rows_at core.shards s) (h.numbered s) none).1 ∙ sym there) ∙ set-get_or view s []))
