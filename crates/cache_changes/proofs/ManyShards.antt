-- The shards' lists hold the rows after each change, and weigh and count what the rows do.
use Rattle.std.proofs.Common.{◌≡◌, ◌≢◌, ℕ, ◌+◌, ◌*◌, ◌<◌, refl, ap, sym, ◌∙◌, true, false, subst, cond, [], ◌∷◌, ◌++◌, length, arith}
use Rattle.std.specs.Prelude.{Bool, ◌==◌, List, Option, Some, not, filter, replicate, slice_index_or, slice_set}
use Rattle.std.specs.List.{AllByRecursion, sum_by}
use Rattle.std.proofs.Math.Nat.{mod-lt}
use Rattle.std.proofs.lemmas.List.{length-set, length-replicate, get_or-replicate, get_or-set_other, ext_get_or}
use Rattle.std.proofs.lemmas.List.Sums.{sum_by-cons, sum_by-set}
use Rattle.std.proofs.lemmas.List.Folds.{sum_by-replicate}
use Rattle.std.proofs.lemmas.Grind.{get_or-set_at}
use Rattle.std.proofs.lemmas.Bool.{eqb-true}
use Rattle.std.proofs.lemmas.Bool.Decides.{nat_tests}
use Rattle.cache_entries.specs.declared.entry.CacheEntryKey.{CacheEntryKey}
use Rattle.cache_entries.specs.declared.rows.Tracked.{Tracked}
use Rattle.cache_entries.specs.Entry.{same_entry}
use Rattle.cache_entries.specs.EntryText.{entry_hash}
use Rattle.cache_entries.specs.Rows.{all_weights, without_row}
use Rattle.cache_entries.specs.SameEntry.{same_entry-tells}
use Rattle.cache_changes.specs.Changes.{Change, Changes, evicts}
use Rattle.cache_changes.specs.Uses.{AreInOrder, IsLast, last_use, rows_after, rows_of, shard_of, in_shard, is_in_shard, changes_shard, entry_changed, AreShardsOf, shards_after}
use Rattle.cache_changes.proofs.ShardLaws.{in_shard-same, in_shard-unchanged}
use Rattle.cache_changes.proofs.UseLaws.{earlier, IsOrderOfUse-rows_of}

is_number : (m n : ℕ) → m ≡ n → (m == n) ≡ true
is_number m n h = grind (arith, nat_tests)

apart : (m n : ℕ) → (m == n) ≡ false → n ≢ m
apart m n h e = let same : (m == n) ≡ true = is_number m n (sym e) in cc

shard-lt : (n : ℕ) (e : CacheEntryKey) → 0 < n → shard_of n e < n
shard-lt n e h = mod-lt (entry_hash e) h

changed_by : {M : Type 0} (n s : ℕ) (c : Change M) (e : CacheEntryKey) (v : Bool) → entry_changed c ≡ Some e → (shard_of n e == s) ≡ v → changes_shard n s c ≡ v
changed_by n s c e v h t = ap (is_in_shard n s) h ∙ t

-- each change
pub AreShardsOf-after : {M : Type 0} (n : ℕ) (c : Change M) (e : CacheEntryKey) (shards : List (List Tracked)) (rows : List Tracked) → 0 < n → entry_changed c ≡ Some e
    → AreShardsOf n shards rows → AreShardsOf n (shards_after n e c shards) (rows_after c rows)
AreShardsOf-after n c e shards rows pos h a = record {
  count = length-set shards (shard_of n e) (rows_after c (slice_index_or shards (shard_of n e) [])) ∙ a.count;
  each = λ s l. by_shard s l (shard_of n e == s) refl;
}
  where
    by_shard : (s : ℕ) → s < n → (v : Bool) → (shard_of n e == s) ≡ v → slice_index_or (shards_after n e c shards) s [] ≡ in_shard n s (rows_after c rows)
    by_shard s l true t =
        let same : shard_of n e ≡ s = eqb-true (shard_of n e) s t in
        let inside : shard_of n e < length shards = subst (λ (m : ℕ). shard_of n e < m) (sym a.count) (shard-lt n e pos) in
        get_or-set_at shards (shard_of n e) s (rows_after c (slice_index_or shards (shard_of n e) [])) [] (sym same) inside
        ∙ ap (rows_after c) (ap (λ (i : ℕ). slice_index_or shards i []) same ∙ a.each s l) ∙ sym (in_shard-same n s c rows (changed_by n s c e true h t))
    by_shard s l false t =
        get_or-set_other shards (shard_of n e) s (rows_after c (slice_index_or shards (shard_of n e) [])) [] (apart (shard_of n e) s t)
        ∙ a.each s l ∙ sym (in_shard-unchanged n s c rows (changed_by n s c e false h t))

-- no rows in n shards
pub AreShardsOf-none : (n : ℕ) → AreShardsOf n (replicate n []) []
AreShardsOf-none n = record { count = length-replicate n []; each = λ s l. get_or-replicate n s [] [] l }

-- ---- what the shards weigh

-- the rows put into n shards
shards_of : ℕ → List Tracked → List (List Tracked)
shards_of n [] = replicate n []
shards_of n (r ∷ rows) = slice_set (shards_of n rows) (shard_of n r.entry) (r ∷ slice_index_or (shards_of n rows) (shard_of n r.entry) [])

shards_of-are : (n : ℕ) (rows : List Tracked) → 0 < n → AreShardsOf n (shards_of n rows) rows
unfolding shards_of
shards_of-are n [] pos = AreShardsOf-none n
shards_of-are n (r ∷ rows) pos = more (shards_of n rows) (shards_of-are n rows pos)
  where
    more : (l : List (List Tracked)) → AreShardsOf n l rows → AreShardsOf n (slice_set l (shard_of n r.entry) (r ∷ slice_index_or l (shard_of n r.entry) [])) (r ∷ rows)
    more l a = record {
      count = length-set l (shard_of n r.entry) (r ∷ slice_index_or l (shard_of n r.entry) []) ∙ a.count;
      each = λ s h. by_shard s h (shard_of n r.entry == s) refl;
    }
      where
        by_shard : (s : ℕ) → s < n → (v : Bool) → (shard_of n r.entry == s) ≡ v
            → slice_index_or (slice_set l (shard_of n r.entry) (r ∷ slice_index_or l (shard_of n r.entry) [])) s [] ≡ cond v (r ∷ in_shard n s rows) (in_shard n s rows)
        by_shard s h true t =
            let same : shard_of n r.entry ≡ s = eqb-true (shard_of n r.entry) s t in
            let inside : shard_of n r.entry < length l = subst (λ (m : ℕ). shard_of n r.entry < m) (sym a.count) (shard-lt n r.entry pos) in
            get_or-set_at l (shard_of n r.entry) s (r ∷ slice_index_or l (shard_of n r.entry) []) [] (sym same) inside
            ∙ ap (λ (x : List Tracked). r ∷ x) (ap (λ (i : ℕ). slice_index_or l i []) same ∙ a.each s h)
        by_shard s h false t = get_or-set_other l (shard_of n r.entry) s (r ∷ slice_index_or l (shard_of n r.entry) []) [] (apart (shard_of n r.entry) s t) ∙ a.each s h

-- the same rows in the same shards
one_sharding : (n : ℕ) (a b : List (List Tracked)) (rows : List Tracked) → AreShardsOf n a rows → AreShardsOf n b rows → a ≡ b
one_sharding n a b rows p q =
    ext_get_or [] a b (p.count ∙ sym q.count) (λ i h. let inside : i < n = subst (λ (m : ℕ). i < m) p.count h in p.each i inside ∙ sym (q.each i inside))

-- a sum over rows is the sum over the shards
module _ (f : List Tracked → ℕ) (g : Tracked → ℕ) (none : f [] ≡ 0) (more : (r : Tracked) (rows : List Tracked) → f (r ∷ rows) ≡ g r + f rows) where
  sum-made : (n : ℕ) (rows : List Tracked) → 0 < n → sum_by f (shards_of n rows) ≡ f rows
  unfolding shards_of
  sum-made n [] pos = sum_by-replicate f n [] ∙ ap (λ (m : ℕ). n * m) none ∙ omega (arith, none)
  sum-made n (r ∷ rows) pos =
      let l = shards_of n rows in
      let i : ℕ = shard_of n r.entry in
      let old : List Tracked = slice_index_or l i [] in
      let a = shards_of-are n rows pos in
      let inside : i < length l = subst (λ (m : ℕ). i < m) (sym a.count) (shard-lt n r.entry pos) in
      let moved : sum_by f (slice_set l i (r ∷ old)) + f old ≡ sum_by f l + f (r ∷ old) = sum_by-set f l i (r ∷ old) [] inside in
      omega (arith, moved, more r old, more r rows, sum-made n rows pos)

  sum-shards : (n : ℕ) (shards : List (List Tracked)) (rows : List Tracked) → 0 < n → AreShardsOf n shards rows → sum_by f shards ≡ f rows
  sum-shards n shards rows pos a = ap (sum_by f) (one_sharding n shards (shards_of n rows) rows a (shards_of-are n rows pos)) ∙ sum-made n rows pos

pub weights-shards : (n : ℕ) (shards : List (List Tracked)) (rows : List Tracked) → 0 < n → AreShardsOf n shards rows → sum_by all_weights shards ≡ all_weights rows
weights-shards n shards rows pos a = sum-shards all_weights (λ r. r.weight) refl (λ r rows. sum_by-cons (λ r. r.weight) r rows) n shards rows pos a

pub length-shards : (n : ℕ) (shards : List (List Tracked)) (rows : List Tracked) → 0 < n → AreShardsOf n shards rows → sum_by length shards ≡ length rows
length-shards n shards rows pos a = sum-shards (λ l. length l) (λ r. 1) refl (λ r rows. omega arith) n shards rows pos a

-- ---- the last of a shard goes

in_order-filter : (f : CacheEntryKey → Option ℕ) (n : ℕ) (p : Tracked → Bool) (rows : List Tracked) → AreInOrder f n rows → AreInOrder f n (filter p rows)
in_order-filter f n p [] o = tt
in_order-filter f n p (r ∷ rows) o = by_test (p r) (in_order-filter f o.0 p rows o.3)
  where
    by_test : (v : Bool) → AreInOrder f o.0 (filter p rows) → AreInOrder f n (cond v (r ∷ filter p rows) (filter p rows))
    by_test true rest = (o.0, o.1, o.2, rest)
    by_test false rest = earlier f o.0 n (filter p rows) (omega (arith, o.2)) rest

last_use-there : (f : CacheEntryKey → Option ℕ) (n : ℕ) (front : List Tracked) (r : Tracked) → AreInOrder f n (front ++ r ∷ []) → (m : ℕ) × (f r.entry ≡ Some m) × (m < n)
last_use-there f n [] r o = (o.0, o.1, o.2)
last_use-there f n (q ∷ front) r o = let rest = last_use-there f o.0 front r o.3 in (rest.0, rest.1, omega (arith, rest.2, o.2))

without_last : (f : CacheEntryKey → Option ℕ) (n : ℕ) (front : List Tracked) (r : Tracked) → AreInOrder f n (front ++ r ∷ []) → without_row r.entry (front ++ r ∷ []) ≡ front
without_last f n [] r o = ap (λ (v : Bool). cond (not v) (r ∷ []) []) (same_entry-tells.itself r.entry)
without_last f n (q ∷ front) r o = by_test (same_entry q.entry r.entry) refl (without_last f o.0 front r o.3)
  where
    by_test : (v : Bool) → same_entry q.entry r.entry ≡ v → without_row r.entry (front ++ r ∷ []) ≡ front
        → cond (not v) (q ∷ without_row r.entry (front ++ r ∷ [])) (without_row r.entry (front ++ r ∷ [])) ≡ q ∷ front
    by_test false t ih = ap (λ (l : List Tracked). q ∷ l) ih
    by_test true t ih =
        let there = last_use-there f o.0 front r o.3 in
        let same : Some o.0 ≡ Some there.0 = sym o.1 ∙ ap f (same_entry-tells.equal q.entry r.entry t) ∙ there.1 in
        let one : o.0 ≡ there.0 = cc in
        absurd (omega (arith, one, there.2))

all_pass : (p : Tracked → Bool) (rows : List Tracked) → AllByRecursion (λ r. p r ≡ true) (filter p rows)
all_pass p [] = tt
all_pass p (r ∷ rows) = by_test (p r) refl (all_pass p rows)
  where
    by_test : (v : Bool) → p r ≡ v → AllByRecursion (λ r. p r ≡ true) (filter p rows) → AllByRecursion (λ r. p r ≡ true) (cond v (r ∷ filter p rows) (filter p rows))
    by_test true e rest = (e, rest)
    by_test false e rest = rest

last_passes : (p : Tracked → Bool) (front : List Tracked) (r : Tracked) → AllByRecursion (λ r. p r ≡ true) (front ++ r ∷ []) → p r ≡ true
last_passes p [] r h = h.0
last_passes p (q ∷ front) r h = last_passes p front r h.1

-- the last row of a shard's list goes: that is the eviction of its entry, the last of its shard
pub evicted-last : {M : Type 0} (n s w : ℕ) (e : CacheEntryKey) (front : List Tracked) (shards : List (List Tracked)) (before : Changes M) → 0 < n → s < n → AreShardsOf n shards (rows_of before)
    → slice_index_or shards s [] ≡ front ++ record { entry = e; weight = w } ∷ [] → AreShardsOf n (slice_set shards s front) (rows_of (evicts e ∷ before)) × IsLast e (in_shard n (shard_of n e) (rows_of before))
evicted-last {M = M} n s w e front shards before pos l a h =
    let rows : List Tracked = rows_of before in
    let row : Tracked = record { entry = e; weight = w } in
    let here : in_shard n s rows ≡ front ++ row ∷ [] = sym (a.each s l) ∙ h in
    let p : Tracked → Bool = λ r. shard_of n r.entry == s in
    let shard : shard_of n e ≡ s = eqb-true (shard_of n e) s (last_passes p front row (subst (λ (x : List Tracked). AllByRecursion (λ r. p r ≡ true) x) here (all_pass p rows))) in
    let order : AreInOrder (λ x. last_use x before) (length before) (front ++ row ∷ []) =
    subst (λ (x : List Tracked). AreInOrder (λ x. last_use x before) (length before) x) here (in_order-filter (λ x. last_use x before) (length before) p rows (IsOrderOfUse-rows_of before).order) in
    let gone : without_row e (slice_index_or shards s []) ≡ front = ap (without_row e) h ∙ without_last (λ x. last_use x before) (length before) front row order in
    let eviction : Change M = evicts e in
    let done = AreShardsOf-after n eviction e shards rows pos refl a in
    let moved : AreShardsOf n (slice_set shards s (without_row e (slice_index_or shards s []))) (without_row e rows) =
    subst (λ (i : ℕ). AreShardsOf n (slice_set shards i (without_row e (slice_index_or shards i []))) (without_row e rows)) shard done in (
      subst (λ (x : List Tracked). AreShardsOf n (slice_set shards s x) (without_row e rows)) gone moved,
      (front, w, ap (λ (i : ℕ). in_shard n i rows) shard ∙ here),
    )
