-- Evictions from one shard.
use Rattle.std.proofs.Common.{◌≡◌, ℕ, zero, ◌%◌, Bool, true, false, cond, eqb, ltb, List, [], ◌∷◌, ◌++◌, length, Option, Some, sym, refl, ap, ◌∙◌, subst}
use Rattle.std.specs.Prelude.{IfSome}
use Rattle.rand_core.specs.Stream.{Stream}
use Rattle.cache_entries.specs.declared.entry.CacheEntryKey.{CacheEntryKey}
use Rattle.cache_entries.specs.declared.rows.Tracked.{Tracked}
use Rattle.lru_core.proofs.Fronts.{modulo_one}
use Rattle.cache_evict.specs.Managed.{Managed, rows_at, is_over, longer_of, first_filled, picked, pick_first, GoesLast, Evicts}
use Rattle.cache_evict.proofs.GoneLaws.{evicts_push}

either_zero : (b : Bool) → cond b zero zero ≡ zero
either_zero true = refl
either_zero false = refl

-- the shard that is picked of one
pub picked-one : (shards : List (List Tracked)) (a b : ℕ) → picked 1 shards a b ≡ 0
picked-one shards a b =
    let first : longer_of shards (a % 1) (b % 1) ≡ 0 = rw (modulo_one a, modulo_one b) (either_zero (ltb (length (rows_at shards 0)) (length (rows_at shards 0)))) in
    ap (λ (s : ℕ). first_filled 1 shards 1 s) first ∙ either_zero (eqb (length (rows_at shards 0)) 0)

pub evicts_last : (n : ℕ) (old mid new : Managed) (es all : List CacheEntryKey) (e : CacheEntryKey) (s : Stream) (o : Option CacheEntryKey) → n ≡ 1 → Evicts pick_first old es s mid s
    → IfSome o (λ x. (is_over mid ≡ true) × GoesLast mid (picked n mid.shards 0 0) x new) → o ≡ Some e → all ≡ es ++ e ∷ [] → Evicts pick_first old all s new s
evicts_last n old mid new es all e s o one h gone is all-is =
    let step : (is_over mid ≡ true) × GoesLast mid (picked n mid.shards 0 0) e new = rw is at gone in
    let first : picked n mid.shards 0 0 ≡ 0 = ap (λ (m : ℕ). picked m mid.shards 0 0) one ∙ picked-one mid.shards 0 0 in
    let last : GoesLast mid 0 e new = subst (λ (i : ℕ). GoesLast mid i e new) first step.1 in
    subst (λ (l : List CacheEntryKey). Evicts pick_first old l s new s) (sym all-is) (evicts_push pick_first old mid new es e s s h step.0 last)
