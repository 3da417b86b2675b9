-- What a refused row says of its entry, and the names that come back.
use Rattle.std.proofs.Common.{◌≡◌, ◌≢◌, ℕ, ◌+◌, ◌*◌, ◌%◌, ◌^◌, ◌<◌, ◌≤◌, inl, inr, map, List, [], ◌∷◌, length, get_or, set, slice_get, Option, Some, None, sym, refl, ap, ◌∙◌, subst, arith, zero, suc}
use Rattle.std.specs.Prelude.{option_map, Result, Ok, Err, OnOk, OnErr, IfErr}
use Rattle.std.proofs.lemmas.Bool.{cases_eq, cases_lt}
use Rattle.std.proofs.lemmas.Nat.{mod_below}
use Rattle.std.proofs.lemmas.List.{length-map, nil_from_length}
use Rattle.std.proofs.lemmas.List.Sums.{sum_by-cons, get_or-le-sum_by}
use Rattle.std.proofs.Math.Nat.{mul-le-mul_left, mul-add, mul-one, add-mul-mod_self_left, mod-mod}
use Rattle.cache_entries.specs.EntryText.{entry_hash}
use Rattle.lru_core.proofs.Filters.{length_parts}
use Rattle.cache_entries.specs.declared.entry.CacheEntryKey.{CacheEntryKey}
use Rattle.cache_entries.specs.declared.rows.Tracked.{Tracked}
use Rattle.cache_entries.specs.Rows.{weight_of, without_row, all_weights}
use Rattle.lru_core.specs.declared.rows.Row.{Row}
use Rattle.lru_core.specs.Rows.{only, others, a_row, raised, total_weight}
use Rattle.lru_core.specs.Cores.{Core, rows_at}
use Rattle.cache_evict.specs.declared.tracker.refusal.Refusal.{Refusal}
use Rattle.cache_evict.specs.declared.tracker.refusal.Refusal.TheVariants.{Memory, Weight, Length, Spent}
use Rattle.lru_numbers.specs.Names.{IsOneToOne, HasNoNumber, with_name, without_name, IsFirstFree, IsSpent}
use Rattle.cache_evict.specs.declared.tracker.rows.End.{End}
use Rattle.cache_evict.specs.Managed.{Managed, shard_of, rows_of, put_at, put_first, added, weight_after, IsFull, HasNoOtherReason}
use Rattle.cache_evict.specs.Numbered.{tracked_row, tracked, managed_in, IsNumbered, placed, HasOwnRow, LeadsHome}
use Rattle.cache_evict.specs.Refusals.{IsRefusal, IsRowRefusal, IsNewRefusal}
use Rattle.cache_evict.proofs.CountLaws.{counts, counted}
use Rattle.lru_numbers.proofs.PlaceLaws.{none_some, some_of}
use Rattle.cache_evict.proofs.NumberedLaws.{IsNumber, IsNumber-named, IsNumber-free, others-without}
use Rattle.cache_evict.proofs.BackLaws.{IsNumbered-placed, managed-placed, unnamed_row}
use Rattle.lru_numbers.proofs.NameLaws.{one-with, with-here, with-other, without-here, without-other}
use Rattle.cache_evict.proofs.WrittenLaws.{seen, only-others_another, IsNumbered-front, managed-front, weight_of-number, weight_of-none}

pub all_weights-tracked : (names : ℕ → Option CacheEntryKey) (rows : List (Row ℕ)) → all_weights (tracked names rows) ≡ total_weight rows
all_weights-tracked names [] = refl
all_weights-tracked names (r ∷ rows) =
    let ih = all_weights-tracked names rows in
    sum_by-cons (λ r. r.weight) (tracked_row names r) (tracked names rows) ∙ ap (λ (m : ℕ). r.weight + m) ih ∙ sym (sum_by-cons (λ r. r.weight) r rows)

module _ (n : ℕ) (names : ℕ → Option CacheEntryKey) (core : Core ℕ) (k : ℕ) (e : CacheEntryKey) (w size items : ℕ) (h : IsNumbered n names core.shards) (is : IsNumber names k e) (home : k % n ≡ shard_of n e) where
  within : k % n < length core.shards
  within = let m = mod_below k n h.some in omega (arith, m, h.count)

  rows_seen : get_or (map (tracked names) core.shards) (shard_of n e) [] ≡ tracked names (rows_at core.shards (k % n))
  rows_seen = ap (λ (j : ℕ). get_or (map (tracked names) core.shards) j []) (sym home) ∙ seen n names core.shards (k % n) within

  left_weight : all_weights (without_row e (get_or (map (tracked names) core.shards) (shard_of n e) [])) ≡ total_weight (others k (rows_at core.shards (k % n)))
  left_weight =
      ap (λ (l : List Tracked). all_weights (without_row e l)) rows_seen ∙ ap all_weights (sym (others-without n names k e is (k % n) (rows_at core.shards (k % n)) (h.numbered (k % n))))
      ∙ all_weights-tracked names (others k (rows_at core.shards (k % n)))

  seen_length : length (get_or (map (tracked names) core.shards) (shard_of n e) []) ≡ length (rows_at core.shards (k % n))
  seen_length = ap length rows_seen ∙ length-map (rows_at core.shards (k % n)) (tracked_row names)

  pub refused : (only k (rows_at core.shards (k % n)) ≡ [] → HasNoOtherReason n e w (managed_in names core size items))
      → (r : Refusal) → IsRowRefusal n k w core r → IsRefusal n e w (managed_in names core size items) r
  refused none Memory p = none p
  refused none Weight p = omega (arith, p, left_weight)
  refused none Length p = ((none p.0).0, elim p.1 [ inl a ↦ inl (omega (arith, a, seen_length)) | inr a ↦ inr (omega (arith, a, counts names core.shards, get_or-le-sum_by length core.shards (k % n) [] within)) ])
  refused none Spent p = absurd p

-- names as functions
pub same_names : (names now : ℕ → Option CacheEntryKey) → ((i : ℕ) → now i ≡ names i) → now ≡ names
same_names names now same = λ t i. same i t

-- a number given and taken back
pub given_back : (names mid now : ℕ → Option CacheEntryKey) (k : ℕ) (e : CacheEntryKey) → names k ≡ None → ((i : ℕ) → mid i ≡ with_name names k e i) → ((i : ℕ) → now i ≡ without_name mid k i) → (i : ℕ) → now i ≡ names i
given_back names mid now k e free gave took i = elim (cases_eq i k) [
  | inl a ↦ took i ∙ ap (without_name mid k) a ∙ without-here mid k ∙ sym free ∙ ap names (sym a)
  | inr m ↦ took i ∙ without-other mid k i m ∙ gave i ∙ with-other names k e i m
]

-- an entry without a row has no number
pub unnumbered_entry : (n : ℕ) (names : ℕ → Option CacheEntryKey) (core : Core ℕ) (e : CacheEntryKey) → IsNumbered n names core.shards → weight_of e (get_or (map (tracked names) core.shards) (shard_of n e) []) ≡ None → HasNoNumber names e
unnumbered_entry n names core e h none k p =
    let row = h.known k e p in
    none_some row.0 (weight_of e (get_or (map (tracked names) core.shards) (shard_of n e) [])) none
    (weight_of-number n names core k e h p ∙ ap (λ (l : List (Row ℕ)). option_map (λ r. r.weight) (slice_get l 0)) row.1)

-- ---- answers by cases

pub ok_then : {A B : Type 0} (r : Result A B) (P Q : Type 0) → (P → Q) → OnOk r P → OnOk r Q
ok_then (Ok x) P Q f p = f p
ok_then (Err x) P Q f p = tt

pub err_then : {A B : Type 0} (r : Result A B) (P Q : B → Type 0) → ((x : B) → P x → Q x) → IfErr r P → IfErr r Q
err_then (Ok x) P Q f p = tt
err_then (Err x) P Q f p = f x p

pub either_way : {A B : Type 0} (r : Result A B) (P Q R : Type 0) → (P → R) → (Q → R) → OnOk r P → OnErr r Q → R
either_way (Ok x) P Q R f g p q = f p
either_way (Err x) P Q R f g p q = g q

pub err_same : {A B : Type 0} (r : Result A B) (P Q : Type 0) → OnErr r P → OnErr r Q → OnErr r (P × Q)
err_same (Ok x) P Q p q = tt
err_same (Err x) P Q p q = (p, q)

pub on_err : {A B : Type 0} (r : Result A B) (P Q : Type 0) → (P → Q) → OnErr r P → OnErr r Q
on_err (Ok x) P Q f p = tt
on_err (Err x) P Q f p = f p

-- ---- as many rows as numbers

many : (n s m : ℕ) (rows : List (Row ℕ)) → 0 < n → ((j : ℕ) → j < m → only (s + n * j) rows ≢ []) → m ≤ length rows
many n s zero rows p h = omega arith
many n s (suc m) rows p h =
    let k = s + n * m in
    let parts = length_parts k rows in
    let own : length (only k rows) ≢ 0 = λ z. h m (omega arith) (nil_from_length (only k rows) z) in
    let ih = many n s m (others k rows) p (λ j b e. h j (omega arith) (sym (only-others_another (s + n * j) k rows (λ a.
    let u = mul-le-mul_left n (let t : j + 1 ≤ m = omega arith in t) in let v = mul-add n j 1 in let o = mul-one n in omega (arith, a, u, v, o, p))) ∙ e)) in
    omega (arith, parts, own, ih)

pub full_shard : (n : ℕ) (names : ℕ → Option CacheEntryKey) (core : Core ℕ) (e : CacheEntryKey) (hash size items : ℕ) → IsNumbered n names core.shards → HasNoNumber names e → LeadsHome n e hash → IsSpent n names hash
    → IsFull n e (managed_in names core size items)
full_shard n names core e hash size items h none leads spent =
    let s = shard_of n e in
    let in' : s < length core.shards = let m = mod_below (entry_hash e) n h.some in omega (arith, m, h.count) in
    let rows = rows_at core.shards s in
    let long : length (get_or (map (tracked names) core.shards) s []) ≡ length rows = ap length (seen n names core.shards s in') ∙ length-map rows (tracked_row names) in (
      weight_of-none n names core 0 e h none,
      elim (cases_lt (s + n * length rows) (2 ^ 64)) [
        | inl a ↦ absurd (let m = many n s (length rows + 1) rows h.some (λ j b z.
            let home : (s + n * j) % n ≡ s = add-mul-mod_self_left s n j ∙ mod-mod (entry_hash e) n in
            let fits : s + n * j < 2 ^ 64 = let u = mul-le-mul_left n (let t : j ≤ length rows = omega arith in t) in omega (arith, a, u) in
            let named = some_of (names (s + n * j)) (spent (s + n * j) fits (home ∙ sym leads)) in
            let row = h.known (s + n * j) named.0 named.1 in
            no_row (s + n * j) row.0 (sym row.1 ∙ ap (λ (i : ℕ). only (s + n * j) (rows_at core.shards i)) home ∙ z)) in omega arith)
        | inr a ↦ subst (λ (m : ℕ). 2 ^ 64 ≤ s + n * m) (sym long) a
      ],
    )
  where
    no_row : (k w : ℕ) → a_row k k w ∷ [] ≡ [] → ⊥
    no_row k w f = cc

-- ---- an entry that gets a number
module _ (n : ℕ) (names now : ℕ → Option CacheEntryKey) (core left : Core ℕ) (e : CacheEntryKey) (hash w size items : ℕ) (h : IsNumbered n names core.shards) (none : HasNoNumber names e) (leads : LeadsHome n e hash) where
  module _ (end : End) (g : (k : ℕ) × IsFirstFree n names hash k × ((i : ℕ) → now i ≡ with_name names k e i) × (left ≡ record core { shards = set core.shards (k % n) (placed end (a_row k k w) (others k (rows_at core.shards (k % n)))) })) where
    one : IsOneToOne now
    one = subst IsOneToOne (sym (same_names (with_name names g.0 e) now g.2)) (one-with names g.0 e h.one none)

    pub IsNumbered-given : IsNumbered n now left.shards
    IsNumbered-given =
        IsNumbered-placed n names now core left g.0 e size items h (λ i m. g.2 i ∙ with-other names g.0 e i m) (g.1.rest ∙ leads) w one (g.2 g.0 ∙ with-here names g.0 e) (IsNumber-free names g.0 e g.1.free none) none end g.3

    pub managed-given : managed_in now left size items ≡ put_at end n e w (managed_in names core size items)
    managed-given =
        managed-placed n names now core left g.0 e size items h (λ i m. g.2 i ∙ with-other names g.0 e i m) (g.1.rest ∙ leads) w one (g.2 g.0 ∙ with-here names g.0 e) (IsNumber-free names g.0 e g.1.free none) none end g.3

  has_row : (k : ℕ) → names k ≢ None → (k % n < length core.shards) × (only k (rows_at core.shards (k % n)) ≢ [])
  has_row k some =
      let x = some_of (names k) some in
      let row = h.known k x.0 x.1 in
      (let m = mod_below k n h.some in omega (arith, m, h.count), λ z. let f : a_row k k row.0 ∷ [] ≡ [] = sym row.1 ∙ z in cc)

  pub refused-new : HasNoOtherReason n e w (managed_in names core size items) → (r : Refusal) → IsNewRefusal n names hash w core r → IsRefusal n e w (managed_in names core size items) r
  refused-new room Memory p = room
  refused-new room Weight p = refused n names core p.0 e w size items h (IsNumber-free names p.0 e p.1 none) (p.2 ∙ leads) (λ z. room) Weight p.3
  refused-new room Length p = elim p [
    | inl many ↦ (room.0, inr (let c = counted n many.0 names core.shards has_row many.2 in omega (arith, many.1, c, counts names core.shards)))
    | inr q ↦ refused n names core q.0 e w size items h (IsNumber-free names q.0 e q.1 none) (q.2 ∙ leads) (λ z. room) Length q.3
  ]
  refused-new room Spent p = full_shard n names core e hash size items h none leads p

-- names that are as they were
pub IsNumbered-same : (n : ℕ) (names now : ℕ → Option CacheEntryKey) (core left : Core ℕ) → ((i : ℕ) → now i ≡ names i) → left ≡ core → IsNumbered n names core.shards → IsNumbered n now left.shards
IsNumbered-same n names now core left same s h =
    subst (λ (c : Core ℕ). IsNumbered n now c.shards) (sym s) (subst (λ (f : ℕ → Option CacheEntryKey). IsNumbered n f core.shards) (sym (same_names names now same)) h)

pub managed-same : (names now : ℕ → Option CacheEntryKey) (core left : Core ℕ) (size items : ℕ) → ((i : ℕ) → now i ≡ names i) → left ≡ core → managed_in now left size items ≡ managed_in names core size items
managed-same names now core left size items same s =
    ap (λ (f : ℕ → Option CacheEntryKey). managed_in f left size items) (same_names names now same) ∙ ap (λ (c : Core ℕ). managed_in names c size items) s

-- an entry that has a number
module _ (n : ℕ) (names : ℕ → Option CacheEntryKey) (core left : Core ℕ) (k : ℕ) (e : CacheEntryKey) (w size items : ℕ) (h : IsNumbered n names core.shards) (p : names k ≡ Some e) where
  pub refused-named : (r : Refusal) → IsRowRefusal n k w core r → IsRefusal n e w (managed_in names core size items) r
  refused-named = refused n names core k e w size items h (IsNumber-named names k e h.one p) (h.home k e p) (λ z. absurd (let row = h.known k e p in gone row.0 (sym row.1 ∙ z)))
    where
      gone : (v : ℕ) → a_row k k v ∷ [] ≡ [] → ⊥
      gone v f = cc

  module _ (s : left ≡ record core { shards = set core.shards (k % n) (a_row k k w ∷ others k (rows_at core.shards (k % n))) }) where
    pub IsNumbered-put : IsNumbered n names left.shards
    IsNumbered-put = IsNumbered-front n names names core left k e size items h (λ i m. refl) (h.home k e p) w h.one p (IsNumber-named names k e h.one p) s

    pub managed-put : managed_in names left size items ≡ put_first n e w (managed_in names core size items)
    managed-put = managed-front n names names core left k e size items h (λ i m. refl) (h.home k e p) w h.one p (IsNumber-named names k e h.one p) s

-- where a number's row is put
module _ (n : ℕ) (names : ℕ → Option CacheEntryKey) (core : Core ℕ) (h : IsNumbered n names core.shards) where
  pub has_shard : (k : ℕ) → k % n < length core.shards
  has_shard k = let m = mod_below k n h.some in omega (arith, m, h.count)

  pub has_free : (k : ℕ) → names k ≡ None → (k % n < length core.shards) × (only k (rows_at core.shards (k % n)) ≡ [])
  has_free k free = (has_shard k, unnamed_row n names (k % n) k (rows_at core.shards (k % n)) (h.numbered (k % n)) free)

  pub has_own_row : (k : ℕ) (e : CacheEntryKey) → names k ≡ Some e → HasOwnRow k (rows_at core.shards (k % n))
  has_own_row k e p = inr (h.known k e p)

-- what an entry's weight becomes
pub weighed_after : (n : ℕ) (names : ℕ → Option CacheEntryKey) (core : Core ℕ) (k : ℕ) (e : CacheEntryKey) (v delta : ℕ) (cap : Option ℕ) (size items : ℕ) → IsNumbered n names core.shards → names k ≡ Some e
    → only k (rows_at core.shards (k % n)) ≡ a_row k k v ∷ [] → raised v delta cap ≡ weight_after n e delta cap (managed_in names core size items)
weighed_after n names core k e v delta cap size items h p own =
    ap (λ (o : Option ℕ). added o delta cap) (sym (weight_of-number n names core k e h p ∙ ap (λ (l : List (Row ℕ)). option_map (λ r. r.weight) (slice_get l 0)) own))

pub weighs_new : (n : ℕ) (e : CacheEntryKey) (w delta : ℕ) (cap : Option ℕ) (m : Managed) → weight_of e (rows_of n e m) ≡ None → w ≡ added None delta cap → w ≡ weight_after n e delta cap m
weighs_new n e w delta cap m none is = is ∙ ap (λ (o : Option ℕ). added o delta cap) (sym none)
