-- What is held by keys and by numbers, and what was never asked for.
use Rattle.std.proofs.Common.{◌≡◌, ℕ, ◌&&◌, Bool, true, false, List, [], ◌∷◌, Option, Some, None, refl, ap, sym, ◌∙◌}
use Rattle.std.specs.List.{AllByRecursion}
use Rattle.std.proofs.lemmas.Bool.{false≢true}
use Rattle.cache_entries.specs.declared.entry.CacheEntryKey.{CacheEntryKey}
use Rattle.cache_entries.specs.declared.rows.Tracked.{Tracked}
use Rattle.cache_entries.specs.Entry.{same_entry}
use Rattle.cache_entries.specs.SameEntry.{same_entry-tells}
use Rattle.curve_loads.specs.Steps.{has_row, held}
use Rattle.curve_runs.specs.declared.table.FreshTable.{FreshTable}
use Rattle.curve_sizes.specs.Requests.{Request, steps_of, is_among, AreFirst}
use Rattle.curve_sizes.specs.Numbers.{numbered}
use Rattle.curve_timed.specs.Counting.{is_fresh_at}
use Rattle.curve_keys.specs.declared.keyed.KeyedCurve.{KeyedCurve}
use Rattle.curve_keys.specs.Keys.{keyed, number_of, IsFedKeys}
use Rattle.curve_keys.specs.Misses.{is_hit}
use Rattle.curve_keys.proofs.Renaming.{rows-have, rows-same, at-number, held-among}
use Rattle.curve_keys.proofs.KeyedLaws.{weight_by}

-- rows of entries that were asked for have none of another
stranger : (requests : List Request) (e : CacheEntryKey) (rs : List Tracked) → is_among e requests ≡ false → AllByRecursion (λ r. is_among r.entry requests ≡ true) rs → has_row e rs ≡ false
stranger requests e [] f h = refl
stranger requests e (r ∷ rs) f h = by_test (same_entry r.entry e) refl (stranger requests e rs f h.1)
  where
    by_test : (t : Bool) → same_entry r.entry e ≡ t → has_row e rs ≡ false → has_row e (r ∷ rs) ≡ false
    by_test true i j = absurd (false≢true (sym f ∙ ap (λ (x : CacheEntryKey). is_among x requests) (sym (same_entry-tells.equal r.entry e i)) ∙ h.0))
    by_test false i j = rw i j

-- a key without a number is no hit
pub hit-none : (c : KeyedCurve) (requests : List Request) (weight : CacheEntryKey → ℕ) (limit : ℕ) (mark : Option ℕ) (key : List ℕ) → number_of c.numbers key ≡ None → IsFedKeys c requests → AreFirst weight requests
    → false ≡ is_hit weight limit mark key requests
hit-none c requests weight limit mark key none f a =
    let k = f.keys in
    sym (stranger requests (keyed key) (held weight limit mark (steps_of requests)) (k.others key none)
    (held-among (number_of c.numbers) k.apart weight (weight_by c.curve.curve.weights.items) (k.first weight a) limit mark requests))

-- one with a number is a hit where its number is
pub hit-some : (c : KeyedCurve) (requests : List Request) (weight : CacheEntryKey → ℕ) (limit : ℕ) (mark : Option ℕ) (key : List ℕ) (n : ℕ) → number_of c.numbers key ≡ Some n
    → (f : IsFedKeys c requests) → AreFirst weight requests
    → has_row (numbered n) (held (weight_by c.curve.curve.weights.items) limit mark (steps_of f.numbers)) ≡ is_hit weight limit mark key requests
hit-some c requests weight limit mark key n has f a =
    let k = f.keys in
    let ws = c.curve.curve.weights.items in
    sym (rows-have (number_of c.numbers) k.apart (keyed key) (numbered n) (held weight limit mark (steps_of requests)) (held (weight_by ws) limit mark (steps_of f.numbers))
    (at-number (number_of c.numbers) k.apart weight (weight_by ws) (k.first weight a) limit mark key n has)
    (rows-same (number_of c.numbers) k.apart weight (weight_by ws) (k.first weight a) limit mark requests f.numbers k.renamed))

and-true : (b : Bool) → (b && true) ≡ b
and-true true = refl
and-true false = refl

-- where no fresh finds are counted each is fresh
pub always-fresh : (fresh : Option FreshTable) (e i moment : ℕ) (b : Bool) → fresh ≡ None → (b && is_fresh_at fresh e i moment) ≡ b
always-fresh fresh e i moment b none = ap (λ (o : Option FreshTable). b && is_fresh_at o e i moment) none ∙ and-true b
