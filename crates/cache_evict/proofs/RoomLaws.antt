-- What room for a row says of an entry that isn't tracked.
use Rattle.std.proofs.Common.{◌≡◌, ℕ, ◌+◌, ◌*◌, ◌/◌, ◌-◌, ◌^◌, ◌<◌, ◌≤◌, inl, inr, map, List, [], length, get_or, Option, None, ap, ◌∙◌, subst, arith}
use Rattle.std.proofs.lemmas.Nat.{mod_below}
use Rattle.std.specs.List.{All}
use Rattle.std.proofs.lemmas.List.{length-map}
use Rattle.std.proofs.lemmas.List.Elements.{All-map}
use Rattle.std.proofs.Math.Nat.{mul-le-mul_left, mul-add, mul-one, mul-div-le}
use Rattle.cache_entries.specs.EntryText.{entry_hash}
use Rattle.cache_entries.specs.declared.entry.CacheEntryKey.{CacheEntryKey}
use Rattle.cache_entries.specs.Rows.{weight_of, without_row, all_weights}
use Rattle.lru_core.specs.declared.rows.Row.{Row}
use Rattle.lru_core.specs.Rows.{total_weight}
use Rattle.lru_core.specs.Cores.{Core, rows_at, IsWithin as IsRowsWithin}
use Rattle.cache_evict.specs.declared.tracker.refusal.Refusal.{Refusal}
use Rattle.cache_evict.specs.declared.tracker.refusal.Refusal.TheVariants.{Memory, Weight, Length, Spent}
use Rattle.cache_evict.specs.Managed.{shard_of, IsWithin, HasNoOtherReason}
use Rattle.cache_evict.specs.Numbered.{tracked_row, tracked, managed_in, IsNumbered}
use Rattle.cache_evict.specs.Refusals.{IsRefusal, HasRoom, IsRoomRefusal}
use Rattle.cache_evict.proofs.CountLaws.{counts}
use Rattle.cache_evict.proofs.NumberedLaws.{absent}
use Rattle.cache_evict.proofs.RefusalLaws.{all_weights-tracked, unnumbered_entry}
use Rattle.cache_evict.proofs.WrittenLaws.{seen}

-- fewer rows than the bound leave a number below 2 ^ 64
not_full : (n s len : ℕ) → s < n → len < (2 ^ 64 - 1) / n → s + n * len < 2 ^ 64
not_full n s len below few =
    let u = mul-le-mul_left n (let t : len + 1 ≤ (2 ^ 64 - 1) / n = omega (arith, few) in t) in
    let v = mul-add n len 1 in
    let o = mul-one n in
    let d = mul-div-le (2 ^ 64 - 1) n in
    omega (arith, u, v, o, d, below)

-- shards of numbers within their bound are within it by their entries
pub within-tracked : (n : ℕ) (names : ℕ → Option CacheEntryKey) (shards : List (List (Row ℕ))) → All (IsRowsWithin n) shards → All (IsWithin n) (map (tracked names) shards)
within-tracked n names shards all =
    All-map (IsWithin n) (tracked names) shards (λ k d below. let within = all k d below in let rows = get_or shards k d in
    let weight = all_weights-tracked names rows in
    let len = length-map rows (tracked_row names) in (
      omega (arith, within.0, weight),
      omega (arith, within.1, len),
    ))

module _ (n : ℕ) (names : ℕ → Option CacheEntryKey) (core : Core ℕ) (e : CacheEntryKey) (w size items : ℕ) (h : IsNumbered n names core.shards)
    (none : weight_of e (get_or (map (tracked names) core.shards) (shard_of n e) []) ≡ None) where
  rows : List (Row ℕ)
  rows = rows_at core.shards (shard_of n e)

  rows_seen : get_or (map (tracked names) core.shards) (shard_of n e) [] ≡ tracked names rows
  unfolding rows
  rows_seen = seen n names core.shards (shard_of n e) (let m = mod_below (entry_hash e) n h.some in omega (arith, m, h.count))

  weight : all_weights (without_row e (get_or (map (tracked names) core.shards) (shard_of n e) [])) ≡ total_weight (rows_at core.shards (shard_of n e))
  unfolding rows
  weight =
      ap (λ l. all_weights (without_row e l)) rows_seen ∙ ap all_weights (absent n names e (shard_of n e) rows (h.numbered (shard_of n e)) (unnumbered_entry n names core e h none)).1
      ∙ all_weights-tracked names rows

  len : length (get_or (map (tracked names) core.shards) (shard_of n e) []) ≡ length (rows_at core.shards (shard_of n e))
  unfolding rows
  len = ap length rows_seen ∙ length-map rows (tracked_row names)

  module _ (s : ℕ) (here : s ≡ shard_of n e) where
    pub roomy : HasRoom n s w core → HasNoOtherReason n e w (managed_in names core size items)
    roomy q =
        let p = subst (λ (i : ℕ). HasRoom n i w core) here q in (
          none,
          λ heavy. omega (arith, heavy, weight, p.0),
          λ long. elim long.1 [ inl a ↦ omega (arith, a, len, p.1) | inr b ↦ omega (arith, b, counts names core.shards, p.2) ],
          λ full.
              let small = not_full n (shard_of n e) (length (rows_at core.shards (shard_of n e))) (mod_below (entry_hash e) n h.some) p.1 in
              let same = ap (λ (l : ℕ). shard_of n e + n * l) len in
              omega (arith, full.1, small, same),
        )

    pub roomless : (r : Refusal) → IsRoomRefusal n s w core r → IsRefusal n e w (managed_in names core size items) r
    roomless Memory p = absurd p
    roomless Weight p =
        let q = subst (λ (i : ℕ). IsRoomRefusal n i w core Weight) here p in
        omega (arith, q, weight)
    roomless Length p = (
      none,
      elim (subst (λ (i : ℕ). IsRoomRefusal n i w core Length) here p) [
        | inl a ↦ inl (omega (arith, a, len))
        | inr b ↦ inr (omega (arith, b, counts names core.shards))
      ],
    )
    roomless Spent p = absurd p
