-- The bodies that a state holds are the writes that are bodies, each with what is reported of it.
use Rattle.std.proofs.Common.{◌≡◌, ℕ, ◌+◌, refl, ap, sym, ◌∙◌, true, false, subst, cond, [], ◌∷◌, length, arith, Ordering, Less, Equal, Greater}
use Rattle.std.specs.Prelude.{Bool, T, ◌&&◌, List, Option, Some, map, find}
use Rattle.std.specs.List.{AllByRecursion, sum_by}
use Rattle.std.specs.Ordering.{nat_cmp, eq_by_cmp, is_lt, is_eq}
use Rattle.std.specs.Cmp.Lexicographic.{slice_cmp}
use Rattle.std.specs.FinMap.{entries, entries_sorted, get-entries, is_sorted}
use Rattle.std.specs.FinMap.Entries.{below_all}
use Rattle.std.specs.FinMap as finite
use Rattle.std.proofs.lemmas.List.Sums.{sum_by-cons}
use Rattle.cache_entries.specs.Keys.{same_bytes}
use Rattle.cache_changes.specs.Changes.{StoredKey, Write, Changes}
use Rattle.cache_changes.specs.Writes.{IsBody}
use Rattle.cache_changes.specs.Bound as writes
use Rattle.cache_entries.specs.SameEntry.{same_bytes-tells, same-sym}
use Rattle.cache_evict.specs.Managed.{Managed}
use Rattle.tier_model.specs.declared.state.Body.{Body}
use Rattle.tier_model.specs.Histories.{Kept, told_of}
use Rattle.tier_model.specs.Reports.{AreAllBodies}
use Rattle.tier_model.specs.Past.{told_at}
use Rattle.tier_model.specs.Rows.{Numbered, Bodies}
use Rattle.tier_model.specs.Shelf.{InFlight}
use Rattle.tier_model.proofs.BodyLaws.{ties-same}
use Rattle.tier_model.proofs.ChangeLaws.{Leaves}
use Rattle.tier_model.proofs.ShownLaws.{Shows, shows, is_held}
use Rattle.cache_changes.proofs.LaterLaws.{one_body}

abbrev Rows : Type 0
Rows = List (StoredKey × Numbered)

-- the body that changes say of a write, with its number
abbrev numbered : Changes Kept → Write Kept → Numbered
numbered changes w = record { number = w.number; body = told_of changes w }

-- sums over them
pub sums : (f : Body → ℕ) (changes : Changes Kept) (ys : Rows) (ws : List (Write Kept)) → ys ≡ map (told_at changes) ws
    → (sum_by (λ x. f x.body) (map (λ e. e.1) ys) ≡ sum_by (λ w. f (told_of changes w)) ws) × (length ys ≡ length ws)
sums f changes [] [] e = (refl, refl)
sums f changes (b ∷ bs) (w ∷ ws) e =
    let one : b ≡ told_at changes w = cc in
    let more : bs ≡ map (told_at changes) ws = cc in
    let rest = sums f changes bs ws more in (
      sum_by-cons (λ (x : Numbered). f x.body) b.1 (map (λ e. e.1) bs) ∙ ap (λ m. f b.1.body + m) rest.0
          ∙ ap (λ (x : StoredKey × Numbered). f x.1.body + sum_by (λ w. f (told_of changes w)) ws) one
          ∙ sym (sum_by-cons (λ (x : Write Kept). f (told_of changes x)) w ws),
      omega (arith, rest.1),
    )
sums f changes [] (w ∷ ws) e = absurd cc
sums f changes (b ∷ bs) [] e = absurd cc

-- ---- the keys of a finite map differ

first : (a b : Bool) → T (a && b) → T a
first true b p = tt
first false b p = absurd p

second : (a b : Bool) → T (a && b) → T b
second true b p = p
second false b p = absurd p

less_apart : (r : Ordering) → T (is_lt r) → is_eq r ≡ false
less_apart Less p = refl
less_apart Equal p = absurd p
less_apart Greater p = refl

abbrev HasDistinctKeys : Rows → Type 0
HasDistinctKeys [] = Unit {0}
HasDistinctKeys (b ∷ bs) = AllByRecursion (λ c. same_bytes c.0 b.0 ≡ false) bs × HasDistinctKeys bs

below_apart : (k : StoredKey) (ys : Rows) → T (below_all (slice_cmp nat_cmp) k ys) → AllByRecursion (λ c. same_bytes c.0 k ≡ false) ys
below_apart k [] h = tt
below_apart k (y ∷ ys) h = (sym (ties-same k y.0) ∙ less_apart (slice_cmp nat_cmp k y.0) (first _ _ h), below_apart k ys (second _ _ h))

sorted_distinct : (ys : Rows) → T (is_sorted (slice_cmp nat_cmp) ys) → HasDistinctKeys ys
sorted_distinct [] h = tt
sorted_distinct (y ∷ ys) h = (below_apart y.0 ys (first _ _ h), sorted_distinct ys (second _ _ h))

-- the first body of a key
abbrev found_at : StoredKey → Rows → Option Numbered
found_at k ys = finite.find (slice_cmp nat_cmp) k ys

-- each of them is found by its key
found_each : (ys : Rows) → HasDistinctKeys ys → AllByRecursion (λ e. found_at e.0 ys ≡ Some e.1) ys
found_each [] d = tt
found_each (x ∷ xs) d = (ap (λ v. cond v (Some x.1) (found_at x.0 xs)) (ties-same x.0 x.0 ∙ same_bytes-tells.itself x.0), others xs (found_each xs d.1) d.0)
  where
    others : (ys : Rows) → AllByRecursion (λ e. found_at e.0 xs ≡ Some e.1) ys → AllByRecursion (λ c. same_bytes c.0 x.0 ≡ false) ys
        → AllByRecursion (λ e. found_at e.0 (x ∷ xs) ≡ Some e.1) ys
    others [] found apart = tt
    others (y ∷ ys) found apart =
        (ap (λ v. cond v (Some x.1) (found_at y.0 xs)) (ties-same y.0 x.0 ∙ same-sym same_bytes same_bytes-tells x.0 y.0 ∙ apart.0) ∙ found.0, others ys found.1 apart.1)

module _ (N n : ℕ) (bodies : Bodies) (fs : List InFlight) (m : Managed) (changes : Changes Kept) (l : Leaves N n bodies fs m changes) where
  -- each body with its write
  abbrev ArePairs : Rows → List (Write Kept) → Type 0
  ArePairs [] [] = Unit {0}
  ArePairs (b ∷ bs) (w ∷ ws) = IsBody b.0 w changes × (b.1 ≡ numbered changes w) × ArePairs bs ws
  ArePairs _ _ = ⊥

  one_key : (k : StoredKey) (w : Write Kept) → IsBody k w changes → w.key ≡ k
  one_key k w i = same_bytes-tells.equal w.key k i.of_key

  with_writes : (ys : Rows) → AllByRecursion (λ e. found_at e.0 (entries bodies) ≡ Some e.1) ys → (ws : List (Write Kept)) × ArePairs ys ws
  with_writes [] h = ([], tt)
  with_writes (b ∷ bs) h =
      let x = shows N n bodies fs m changes l b.0 b.1 (get-entries bodies b.0 ∙ h.0) in
      let rest = with_writes bs h.1 in
      (x.write ∷ rest.0, (x.body, same x, rest.1))
    where
      same : {k : StoredKey} {y : Numbered} → (x : Shows k y changes) → y ≡ numbered changes x.write
      same {y = y} x = ap (λ (n : ℕ). record { number = n; body = y.body }) (sym x.number) ∙ ap (λ (p : Body). record { number = x.write.number; body = p }) (sym x.tells)

  -- one key each
  apart_writes : (j k : StoredKey) (ys : Rows) (ws : List (Write Kept)) → j ≡ k → ArePairs ys ws → AllByRecursion (λ c. same_bytes c.0 j ≡ false) ys
      → AllByRecursion (λ v. same_bytes v.key k ≡ false) ws
  apart_writes j k [] [] e p h = tt
  apart_writes j k (b ∷ bs) (w ∷ ws) e p h = (ap (λ (x : StoredKey). same_bytes x k) (one_key b.0 w p.0) ∙ ap (same_bytes b.0) (sym e) ∙ h.0, apart_writes j k bs ws e p.2 h.1)
  apart_writes j k [] (w ∷ ws) e p h = absurd p
  apart_writes j k (b ∷ bs) [] e p h = absurd p

  distinct_writes : (ys : Rows) (ws : List (Write Kept)) → ArePairs ys ws → HasDistinctKeys ys → writes.HasDistinctKeys ws
  distinct_writes [] [] p d = tt
  distinct_writes (b ∷ bs) (w ∷ ws) p d = (apart_writes b.0 w.key bs ws (sym (one_key b.0 w p.0)) p.2 d.0, distinct_writes bs ws p.2 d.1)
  distinct_writes [] (w ∷ ws) p d = absurd p
  distinct_writes (b ∷ bs) [] p d = absurd p

  -- what is reported of them
  all_told : (ys : Rows) (ws : List (Write Kept)) → ArePairs ys ws → ys ≡ map (told_at changes) ws
  all_told [] [] p = refl
  all_told (b ∷ bs) (w ∷ ws) p =
      ap (λ (x : Numbered). (b.0, x) ∷ bs) p.1 ∙ ap (λ (k : StoredKey). (k, numbered changes w) ∷ bs) (sym (one_key b.0 w p.0))
      ∙ ap (λ (xs : Rows). told_at changes w ∷ xs) (all_told bs ws p.2)
  all_told [] (w ∷ ws) p = absurd p
  all_told (b ∷ bs) [] p = absurd p

  all_bodies : (ys : Rows) (ws : List (Write Kept)) → ArePairs ys ws → AllByRecursion (λ w. IsBody w.key w changes) ws
  all_bodies [] [] p = tt
  all_bodies (b ∷ bs) (w ∷ ws) p = (subst (λ (k : StoredKey). IsBody k w changes) (sym (one_key b.0 w p.0)) p.0, all_bodies bs ws p.2)
  all_bodies [] (w ∷ ws) p = absurd p
  all_bodies (b ∷ bs) [] p = absurd p

  found_in : (k : StoredKey) (w : Write Kept) (b : Numbered) (ys : Rows) (ws : List (Write Kept)) → ArePairs ys ws → IsBody k w changes → found_at k ys ≡ Some b
      → find (λ v. same_bytes v.key k) ws ≡ Some w
  found_in k w b [] [] p i e = absurd cc
  found_in k w b (y ∷ ys) (v ∷ ws) p i e = by_test (found_in k w b ys ws p.2 i) (eq_by_cmp (slice_cmp nat_cmp) k y.0) refl e
    where
      key : same_bytes v.key k ≡ eq_by_cmp (slice_cmp nat_cmp) k y.0
      key = ap (λ (x : StoredKey). same_bytes x k) (one_key y.0 v p.0) ∙ sym (ties-same k y.0)

      by_test : (found_at k ys ≡ Some b → find (λ v. same_bytes v.key k) ws ≡ Some w) → (t : Bool) → eq_by_cmp (slice_cmp nat_cmp) k y.0 ≡ t → cond t (Some y.1) (found_at k ys) ≡ Some b
          → cond (same_bytes v.key k) (Some v) (find (λ v. same_bytes v.key k) ws) ≡ Some w
      by_test ih true f g =
          ap (λ t. cond t (Some v) (find (λ v. same_bytes v.key k) ws)) (key ∙ f)
          ∙ ap (λ (x : Write Kept). Some x) (one_body k v w changes l.orderly (subst (λ (j : StoredKey). IsBody j v changes) (same_bytes-tells.equal y.0 k (sym (ties-same k y.0) ∙ f)) p.0) i)
      by_test ih false f g = ap (λ t. cond t (Some v) (find (λ v. same_bytes v.key k) ws)) (key ∙ f) ∙ ih g
  found_in k w b [] (v ∷ ws) p i e = absurd p
  found_in k w b (y ∷ ys) [] p i e = absurd p

  pub all-held : (ws : List (Write Kept)) × AreAllBodies ws changes × (entries bodies ≡ map (told_at changes) ws)
  all-held =
      let d = sorted_distinct (entries bodies) (entries_sorted bodies) in
      let pairs = with_writes (entries bodies) (found_each (entries bodies) d) in
      let is_there : (k : StoredKey) (w : Write Kept) → IsBody k w changes → find (λ v. same_bytes v.key k) pairs.0 ≡ Some w =
      λ k w i. let x = is_held N n bodies fs m changes l k w i in found_in k w x.0 (entries bodies) pairs.0 pairs.1 i (sym (get-entries bodies k) ∙ x.1) in
      (pairs.0, record { distinct = distinct_writes (entries bodies) pairs.0 pairs.1 d; each = all_bodies (entries bodies) pairs.0 pairs.1; all = is_there }, all_told (entries bodies) pairs.0 pairs.1)
