-- Weights and numbers of rows without an entry.
use Rattle.std.proofs.Common.{◌≡◌, ℕ, ◌+◌, ◌≤◌, ◌<◌, refl, true, false, cond, [], ◌∷◌, ◌||◌, length, arith}
use Rattle.std.specs.Prelude.{Bool, List, Option, Some, None, option_map, unwrap_or, IfSome, not, nat_lt}
use Rattle.std.proofs.lemmas.List.Sums.{sum_by-cons}
use Rattle.std.proofs.lemmas.Bool.Decides.{nat_tests}
use Rattle.cache_entries.specs.declared.entry.CacheEntryKey.{CacheEntryKey}
use Rattle.cache_entries.specs.declared.rows.Tracked.{Tracked}
use Rattle.cache_entries.specs.Entry.{same_entry}
use Rattle.cache_entries.specs.Rows.{row_of, weight_of, all_weights, without_row, is_over}

-- they weigh and count no more
no_more : (r : Tracked) (rows less : List Tracked) (v : Bool) → (all_weights less ≤ all_weights rows) × (length less ≤ length rows)
    → (all_weights (cond (not v) (r ∷ less) less) ≤ all_weights (r ∷ rows)) × (length (cond (not v) (r ∷ less) less) ≤ length (r ∷ rows))
no_more r rows less true h = (omega (arith, sum_by-cons (λ r. r.weight) r rows, h.0), omega (arith, h.1))
no_more r rows less false h = (omega (arith, sum_by-cons (λ r. r.weight) r rows, sum_by-cons (λ r. r.weight) r less, h.0), omega (arith, h.1))

without_less : (e : CacheEntryKey) (rows : List Tracked) → (all_weights (without_row e rows) ≤ all_weights rows) × (length (without_row e rows) ≤ length rows)
without_less e [] = (omega arith, omega arith)
without_less e (r ∷ rows) = no_more r rows (without_row e rows) (same_entry r.entry e) (without_less e rows)

-- where the entry had a row, they weigh less by its weight, and are fewer
abbrev IsLess : ℕ → List Tracked → List Tracked → Type 0
IsLess w less rows = (w + all_weights less ≤ all_weights rows) × (length less < length rows)

less_by : (e : CacheEntryKey) (w : ℕ) (r : Tracked) (rows : List Tracked) (v : Bool) → (weight_of e rows ≡ Some w → IsLess w (without_row e rows) rows)
    → option_map (λ r. r.weight) (cond v (Some r) (row_of e rows)) ≡ Some w → IsLess w (cond (not v) (r ∷ without_row e rows) (without_row e rows)) (r ∷ rows)
less_by e w r rows true ih h =
    let same : r.weight ≡ w = cc in
    let rest = without_less e rows in
    (omega (arith, same, sum_by-cons (λ r. r.weight) r rows, rest.0), omega (arith, rest.1))
less_by e w r rows false ih h =
    let rest = ih h in
    (omega (arith, rest.0, sum_by-cons (λ r. r.weight) r rows, sum_by-cons (λ r. r.weight) r (without_row e rows)), omega (arith, rest.1))

pub without_tracked : (e : CacheEntryKey) (w : ℕ) (rows : List Tracked) → weight_of e rows ≡ Some w → (w + all_weights (without_row e rows) ≤ all_weights rows) × (length (without_row e rows) < length rows)
without_tracked e w [] h = absurd cc
without_tracked e w (r ∷ rows) h = less_by e w r rows (same_entry r.entry e) (without_tracked e w rows) h

-- limits that are kept
either_false : (x y : Bool) → (x || y) ≡ false → (x ≡ false) × (y ≡ false)
either_false true y e = absurd cc
either_false false y e = (refl, e)

not_under : (limit n : ℕ) → nat_lt limit n ≡ false → n ≤ limit
not_under limit n e = grind (arith, nat_tests)

mark_kept : (mark : Option ℕ) (m n : ℕ) → m ≤ n → unwrap_or (option_map (λ b. nat_lt b n) mark) false ≡ false → IfSome mark (λ b. m ≤ b)
mark_kept None m n h e = tt
mark_kept (Some bound) m n h e = omega (arith, not_under bound n e, h)

-- what weighs and counts no more than rows that keep both limits keeps them
pub kept_limits : (limit : ℕ) (mark : Option ℕ) (rows : List Tracked) (weight count : ℕ) → is_over limit mark rows ≡ false → weight ≤ all_weights rows → count ≤ length rows
    → (weight ≤ limit) × IfSome mark (λ b. count ≤ b)
kept_limits limit mark rows weight count e w c =
    let parts = either_false (nat_lt limit (all_weights rows)) (unwrap_or (option_map (λ b. nat_lt b (length rows)) mark) false) e in
    (omega (arith, not_under limit (all_weights rows) parts.0), mark_kept mark count (length rows) c parts.1)
