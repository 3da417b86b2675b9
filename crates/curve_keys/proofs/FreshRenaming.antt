-- Requests by keys and by numbers find the same fresh.
use Rattle.std.proofs.Common.{◌≡◌, ℕ, ◌+◌, ◌&&◌, ◌||◌, ltb, cond, List, [], ◌∷◌, Option, Some, refl, ap, sym, ◌∙◌}
use Rattle.std.specs.Prelude.{not}
use Rattle.cache_entries.specs.declared.entry.CacheEntryKey.{CacheEntryKey}
use Rattle.curve_loads.specs.Steps.{Step, has_row, held}
use Rattle.curve_fresh.specs.Fresh.{stale_from, stale_in, fresh_finds, fresh_bytes}
use Rattle.curve_fresh.specs.Fresh as timed
use Rattle.curve_sizes.specs.Requests.{Request, steps_of, AreFirst}
use Rattle.curve_sizes.specs.Numbers.{numbered, mark_of, Agrees}
use Rattle.curve_timed.specs.declared.row.FreshRow.{FreshRow}
use Rattle.curve_timed.specs.Timed.{timed_of}
use Rattle.curve_timed.specs.Rows.{AreFresh}
use Rattle.curve_timed.specs.Counting.{IsFedTimed}
use Rattle.curve_timed.proofs.Feeding.{steps-timed}
use Rattle.curve_keys.specs.declared.keyed.KeyedCurve.{KeyedCurve}
use Rattle.curve_keys.specs.Keys.{keyed, number_of, AreRenamed, none, ask, removal, unknown, AreKeyed, IsFedKeys}
use Rattle.curve_keys.proofs.Renaming.{same-both, rows-have, rows-same, at-number}
use Rattle.curve_keys.proofs.KeyedLaws.{weight_by}

module _ (number : List ℕ → Option ℕ) (apart : (key other : List ℕ) (n : ℕ) → number key ≡ Some n → number other ≡ Some n → key ≡ other)
    (weight weight' : CacheEntryKey → ℕ) (weighs : (key : List ℕ) (n : ℕ) → number key ≡ Some n → weight (keyed key) ≡ weight' (numbered n)) (limit : ℕ) (mark : Option ℕ) where
  held-same : (key : List ℕ) (n : ℕ) → number key ≡ Some n → (requests numbers : List Request) → AreRenamed number requests numbers
      → has_row (keyed key) (held weight limit mark (timed.steps_of (timed_of requests))) ≡ has_row (numbered n) (held weight' limit mark (timed.steps_of (timed_of numbers)))
  held-same key n h requests numbers r =
      ap (λ (s : List Step). has_row (keyed key) (held weight limit mark s)) (steps-timed requests)
      ∙ rows-have number apart (keyed key) (numbered n) (held weight limit mark (steps_of requests)) (held weight' limit mark (steps_of numbers)) (at-number number apart weight weight' weighs limit mark key n h)
      (rows-same number apart weight weight' weighs limit mark requests numbers r)
      ∙ sym (ap (λ (s : List Step). has_row (numbered n) (held weight' limit mark s)) (steps-timed numbers))

  stale-same : (key : List ℕ) (n : ℕ) → number key ≡ Some n → (requests numbers : List Request) → AreRenamed number requests numbers
      → stale_in weight limit mark (keyed key) (timed_of requests) ≡ stale_in weight' limit mark (numbered n) (timed_of numbers)
  stale-same key n h _ _ none = refl
  stale-same key n h _ _ (ask other w m when requests numbers k r) =
      let s = same-both number apart (keyed other) (keyed key) (numbered m) (numbered n) (at-number number apart weight weight' weighs limit mark other m k) (at-number number apart weight weight' weighs limit mark key n h) in
      let b = held-same key n h requests numbers r in
      let e = stale-same key n h requests numbers r in
      λ i. cond (not (s i) || (b i && ltb when.moment (e i))) (e i) (stale_from when.moment when.lifetime)
  stale-same key n h _ _ (removal other m requests numbers k r) = stale-same key n h requests numbers r
  stale-same key n h _ _ (unknown other requests numbers k r) = stale-same key n h requests numbers r

  pub fresh-same : (requests numbers : List Request) → AreRenamed number requests numbers → fresh_finds weight limit mark (timed_of requests) ≡ fresh_finds weight' limit mark (timed_of numbers)
  fresh-same _ _ none = refl
  fresh-same _ _ (ask key w n when requests numbers h r) =
      let b = held-same key n h requests numbers r in
      let e = stale-same key n h requests numbers r in
      let more = fresh-same requests numbers r in
      λ i. cond (b i && ltb when.moment (e i)) 1 0 + more i
  fresh-same _ _ (removal key n requests numbers h r) = fresh-same requests numbers r
  fresh-same _ _ (unknown key requests numbers h r) = fresh-same requests numbers r

  pub fresh-bytes-same : (requests numbers : List Request) → AreRenamed number requests numbers → fresh_bytes weight limit mark (timed_of requests) ≡ fresh_bytes weight' limit mark (timed_of numbers)
  fresh-bytes-same _ _ none = refl
  fresh-bytes-same _ _ (ask key w n when requests numbers h r) =
      let b = held-same key n h requests numbers r in
      let e = stale-same key n h requests numbers r in
      let v = weighs key n h in
      let more = fresh-bytes-same requests numbers r in
      λ i. cond (b i && ltb when.moment (e i)) (v i) 0 + more i
  fresh-bytes-same _ _ (removal key n requests numbers h r) = fresh-bytes-same requests numbers r
  fresh-bytes-same _ _ (unknown key requests numbers h r) = fresh-bytes-same requests numbers r

rows-fresh : (number : List ℕ → Option ℕ) (weight : CacheEntryKey → ℕ) (ws : List ℕ) (mark : Option ℕ) (requests numbers : List Request) (rows : List FreshRow) → AreFirst weight requests → AreKeyed number ws requests numbers
    → AreFresh (weight_by ws) mark (timed_of numbers) rows → AreFresh weight mark (timed_of requests) rows
rows-fresh number weight ws mark requests numbers [] a k h = tt
rows-fresh number weight ws mark requests numbers (r ∷ rows) a k h = (
  (
    h.0.0 ∙ sym (fresh-same number k.apart weight (weight_by ws) (k.first weight a) r.limit mark requests numbers k.renamed),
    h.0.1 ∙ sym (fresh-bytes-same number k.apart weight (weight_by ws) (k.first weight a) r.limit mark requests numbers k.renamed),
  ),
  rows-fresh number weight ws mark requests numbers rows a k h.1,
)

pub keyed-fresh : (c : KeyedCurve) (rows : List FreshRow)
    → ((requests : List Request) → IsFedTimed c.curve requests → (weight : CacheEntryKey → ℕ) → Agrees weight c.curve.curve.weights.items → AreFresh weight (mark_of c.curve.curve.watermark) (timed_of requests) rows)
    → (requests : List Request) → IsFedKeys c requests → (weight : CacheEntryKey → ℕ) → AreFirst weight requests → AreFresh weight (mark_of c.curve.curve.watermark) (timed_of requests) rows
keyed-fresh c rows h requests f weight a =
    rows-fresh (number_of c.numbers) weight c.curve.curve.weights.items (mark_of c.curve.curve.watermark) requests f.numbers rows a f.keys
    (h f.numbers f.fed (weight_by c.curve.curve.weights.items) (λ n l. refl))
