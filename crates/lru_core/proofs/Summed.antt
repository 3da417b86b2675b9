-- The sums over the shards after a change of one of them.
use Rattle.std.proofs.Common.{Result, Ok, Err, OnOk, OnErr, replicate, zero, suc, ◌≡◌, ℕ, ◌+◌, ◌-◌, ◌*◌, ◌/◌, ◌%◌, ◌^◌, ◌<◌, ◌≤◌, List, [], ◌∷◌, length, get_or, set, map, sym, refl, ap, ◌∙◌, arith, length-set, get_or-set_same}
use Rattle.std.specs.List.{All, sum_by}
use Rattle.std.proofs.Math.Nat.{mul-div-le}
use Rattle.std.proofs.lemmas.List.{map-set, get_or-map, length-map, set-get_or, set-set}
use Rattle.std.proofs.lemmas.List.Sums.{sum_by-set, sum_by-le, get_or-le-sum_by}
use Rattle.std.proofs.lemmas.List.Folds.{sum_by-replicate}
use Rattle.std.proofs.lemmas.List.{length-replicate, get_or-replicate}
use Rattle.std.proofs.lemmas.List.Elements.{All-set, All-map, All-weaker}
use Rattle.lru_core.specs.declared.rows.Row.{Row}
use Rattle.lru_core.specs.Rows.{Shard, total_weight}
use Rattle.lru_core.specs.declared.sharded.totals.Totals.{Totals}
use Rattle.lru_core.specs.Cores.{Core, rows_at, shard_of, core_weight, core_len, shard_bound, IsWithin}
use Rattle.lru_core.specs.Units.{AreSums, IsBounded, IsSummed, IsChanged}

below : (a b : ℕ) → a ≤ b → b ≤ 2 ^ 64 - 1 → a < 2 ^ 64
below a b h k = omega arith

balance : (total old new after : ℕ) → after + old ≡ total + new → old ≤ total → total - old + new ≡ after
balance total old new after e h = omega arith

module _ {T : Type 0} where
  abbrev pub lists : List (Shard T) → List (List (Row T))
  lists units = map (λ u. u.rows) units

  pub lists-replicate : (n b : ℕ) → lists (replicate n (record { rows = []; bound = b })) ≡ replicate n []
  lists-replicate zero b = refl
  lists-replicate (suc n) b = ap (λ l. [] ∷ l) (lists-replicate n b)

  -- the sums after a change of shard i from `was` to `now`
  pub record Recounted (n : ℕ) (units : List (Shard T)) (all before after : Totals) : Type 0 where
    pub len_in : before.len ≤ all.len
    pub weight_in : before.weight ≤ all.weight
    pub len_fits : all.len - before.len + after.len < 2 ^ 64
    pub weight_fits : all.weight - before.weight + after.weight < 2 ^ 64
    pub summed : IsSummed n units (record { len = all.len - before.len + after.len; weight = all.weight - before.weight + after.weight })

  -- sums of what is bounded
  sum_small : (n : ℕ) (f : List (Row T) → ℕ) (units : List (Shard T)) → length units ≡ n → All (λ u. f u.rows ≤ (2 ^ 64 - 1) / n) units → sum_by f (lists units) < 2 ^ 64
  sum_small n f units e a =
      let l : length (lists units) ≡ n = length-map units (λ u. u.rows) ∙ e in
      let s = sum_by-le f ((2 ^ 64 - 1) / n) (lists units) (All-map (λ x. f x ≤ (2 ^ 64 - 1) / n) (λ u. u.rows) units a) in
      let t : n * ((2 ^ 64 - 1) / n) ≤ 2 ^ 64 - 1 = mul-div-le (2 ^ 64 - 1) n in
      let u : sum_by f (lists units) ≤ n * ((2 ^ 64 - 1) / n) = rw l at s in
      below (sum_by f (lists units)) (n * ((2 ^ 64 - 1) / n)) u t

  pub changed : {n : ℕ} {units : List (Shard T)} {all before after : Totals} {i : ℕ} {was now : Shard T} → IsSummed n units all → i < n → was ≡ get_or units i was
      → now.bound ≡ was.bound → AreSums before was → AreSums after now → Recounted n (set units i now) all before after
  changed {n} {units} {all} {before} {after} {i} {was} {now} w h e b sb sa =
      let c = w.count in
      let iu : i < length units = rw c h in
      let il : i < length (lists units) = rw (length-map units (λ u. u.rows)) iu in
      let rows : rows_at (lists units) i ≡ was.rows = get_or-map (λ u. u.rows) units i was [] iu ∙ ap (λ u. u.rows) (sym e) in
      let old : IsBounded n was = rw (sym e) at (w.bounded i was iu) in
      let new : IsBounded n now = (b ∙ old.0, rw (← sa.weight) sa.weight_bound, rw (← sa.len) sa.len_bound) in
      let every : All (IsBounded n) (set units i now) = All-set (IsBounded n) units i now new w.bounded in
      let shown : lists (set units i now) ≡ set (lists units) i now.rows = map-set (λ u. u.rows) units i now in
      let count : length (set units i now) ≡ n = length-set units i now ∙ c in
      let sw = sum_by-set total_weight (lists units) i now.rows [] il in
      let sl = sum_by-set length (lists units) i now.rows [] il in
      let gw = get_or-le-sum_by total_weight (lists units) i [] il in
      let gl = get_or-le-sum_by length (lists units) i [] il in
      let fw : core_weight (lists (set units i now)) < 2 ^ 64 = sum_small n total_weight (set units i now) count (All-weaker (IsBounded n) (λ u. total_weight u.rows ≤ (2 ^ 64 - 1) / n) (λ x k. rw k.0 at k.1) (set units i now) every) in
      let fl : core_len (lists (set units i now)) < 2 ^ 64 = sum_small n length (set units i now) count (All-weaker (IsBounded n) (λ u. length u.rows ≤ (2 ^ 64 - 1) / n) (λ x k. rw k.0 at k.2) (set units i now) every) in
      let weight_in : before.weight ≤ all.weight = rw (← w.weighed, rows, ← sb.weight) at gw in
      let len_in : before.len ≤ all.len = rw (← w.numbered, rows, ← sb.len) at gl in
      let ww : all.weight - before.weight + after.weight ≡ core_weight (lists (set units i now)) =
      rw shown (balance all.weight before.weight after.weight (core_weight (set (lists units) i now.rows)) (rw (← w.weighed, rows, ← sb.weight, ← sa.weight) at sw) weight_in) in
      let ll : all.len - before.len + after.len ≡ core_len (lists (set units i now)) =
      rw shown (balance all.len before.len after.len (core_len (set (lists units) i now.rows)) (rw (← w.numbered, rows, ← sb.len, ← sa.len) at sl) len_in) in
      record {
        len_in = len_in;
        weight_in = weight_in;
        len_fits = rw ll fl;
        weight_fits = rw ww fw;
        summed = record { some = w.some; count = count; weighed = ww; numbered = ll; bounded = every };
      }

  -- a shard that was changed, put back, gives the sums of before
  pub undone : {n : ℕ} {units : List (Shard T)} {all before : Totals} {i : ℕ} {was : Shard T} (now : Shard T) → IsSummed n units all → i < n → was ≡ get_or units i was
      → now.bound ≡ was.bound → AreSums before was → IsChanged n (set units i now) all before i
  undone {n} {units} {all} {before} {i} {was} now w h e b s =
      let l : i < length units = rw w.count h in
      record {
        was = was;
        summed = rw (set-set units i now was, ap (set units i) e, set-get_or units i was) w;
        sums = s;
        bound = λ u f. rw (f ∙ get_or-set_same units i now u l) b;
      }

  pub recounted : {n : ℕ} {units : List (Shard T)} {all before after : Totals} {i : ℕ} {now : Shard T} → i < n → IsChanged n units all before i → now ≡ get_or units i now
      → AreSums after now → Recounted n units all before after
  recounted {n} {units} {all} {before} {after} {i} {now} h c e a =
      let l : i < length units = rw (← length-set units i c.was, c.summed.count) h in
      let back : set (set units i c.was) i now ≡ units = set-set units i c.was now ∙ (ap (set units i) e ∙ set-get_or units i now) in
      rw back at (changed c.summed h (sym (get_or-set_same units i c.was c.was l)) (c.bound now e) c.sums a)

  -- the rows of the shards after a change of one
  pub shown_rows : (units : List (Shard T)) (i : ℕ) (now : Shard T) → lists (set units i now) ≡ set (lists units) i now.rows
  shown_rows units i now = map-set (λ u. u.rows) units i now

  -- each shard is within its bound
  pub within : (n : ℕ) (units : List (Shard T)) → All (IsBounded n) units → All (IsWithin n) (lists units)
  within n units bounded = All-map (IsWithin n) (λ u. u.rows) units (λ k d l. let b = bounded k d l in (rw (← b.0) b.1, rw (← b.0) b.2))

  -- no rows
  pub none_summed : (n : ℕ) → 0 < n → IsSummed {T = T} n (replicate n (record { rows = []; bound = (2 ^ 64 - 1) / n })) (record { len = 0; weight = 0 })
  none_summed n h =
      let e : lists (replicate n (record { rows = []; bound = (2 ^ 64 - 1) / n })) ≡ replicate n [] = lists-replicate n ((2 ^ 64 - 1) / n) in
      record {
        some = h;
        count = length-replicate n _;
        weighed = rw e (sym (sum_by-replicate total_weight n [] ∙ omega arith));
        numbered = rw e (sym (sum_by-replicate length n [] ∙ omega arith));
        bounded = λ k d l. let m : k < n = rw length-replicate at l in rw (get_or-replicate n k (record { rows = []; bound = (2 ^ 64 - 1) / n }) d m) (refl, omega arith, omega arith);
      }

  -- the same, by what f makes of the shard's rows
  pub rows_after : (units : List (Shard T)) (i j : ℕ) (was now : Shard T) (f : List (Row T) → List (Row T)) → i ≡ j → rows_at (lists units) i ≡ was.rows → now.rows ≡ f was.rows
      → lists (set units i now) ≡ set (lists units) j (f (rows_at (lists units) j))
  rows_after units i j was now f e r n = rw (← e) (shown_rows units i now ∙ ap (set (lists units) i) (n ∙ ap f (sym r)))

  -- what shard i has before a change, and after one
  pub was_rows : {n : ℕ} {units : List (Shard T)} {all : Totals} {i : ℕ} {was : Shard T} → IsSummed n units all → i < n → was ≡ get_or units i was → rows_at (lists units) i ≡ was.rows
  was_rows {n} {units} {all} {i} {was} w h e = let l : i < length units = rw w.count h in get_or-map (λ u. u.rows) units i was [] l ∙ ap (λ u. u.rows) (sym e)

  pub was_bound : {n : ℕ} {units : List (Shard T)} {all : Totals} {i : ℕ} {was : Shard T} → IsSummed n units all → i < n → was ≡ get_or units i was → was.bound ≡ shard_bound n
  was_bound {n} {units} {all} {i} {was} w h e = let l : i < length units = rw w.count h in let b : IsBounded n was = rw (sym e) at (w.bounded i was l) in b.0

  -- the shard of key k as the core shows it, and its bound
  pub shard_was : {n : ℕ} {units : List (Shard T)} {all : Totals} {i : ℕ} {was : Shard T} (core : Core T) (k : ℕ) → IsSummed n units all → i < n → was ≡ get_or units i was
      → lists units ≡ core.shards → i ≡ k % n → (shard_of n core k ≡ was.rows) × (was.bound ≡ shard_bound n)
  shard_was core k w h e v p = (rw (← v, ← p) (was_rows w h e), was_bound w h e)

  pub now_rows : {n : ℕ} {units : List (Shard T)} {all : Totals} {i : ℕ} → (now : Shard T) → IsSummed n units all → i < n → rows_at (lists (set units i now)) i ≡ now.rows
  now_rows {n} {units} {all} {i} now w h =
      let l : i < length (lists units) = rw (length-map units (λ u. u.rows), w.count) h in
      rw (shown_rows units i now) (get_or-set_same (lists units) i now.rows [] l)

  -- a shard with a row less is a row less in all
  pub one_less : {n : ℕ} {units : List (Shard T)} {all : Totals} {i : ℕ} {was : Shard T} (now : Shard T) → IsSummed n units all → i < n → was ≡ get_or units i was
      → length was.rows ≡ length now.rows + 1 → core_len (lists (set units i now)) + 1 ≡ core_len (lists units)
  one_less {n} {units} {all} {i} {was} now w h e m =
      let l : i < length (lists units) = rw (length-map units (λ u. u.rows), w.count) h in
      let s = rw (was_rows w h e) at (sum_by-set length (lists units) i now.rows [] l) in
      rw (shown_rows units i now) (omega (arith, s, m))

  -- the bound stays where either the rows alone change or nothing does
  pub bound_kept : {A E : Type 0} → (r : Result A E) (old new : Shard T) (rows : List (Row T)) → OnOk r (new ≡ record old { rows = rows }) → OnErr r (new ≡ old) → new.bound ≡ old.bound
  bound_kept (Ok a) old new rows o e = ap (λ u. u.bound) o
  bound_kept (Err a) old new rows o e = ap (λ u. u.bound) e
