-- Requests by keys and by numbers hold the same.
use Rattle.std.proofs.Common.{◌≡◌, ℕ, suc, ◌+◌, ltb, Bool, cond, List, [], ◌∷◌, length, Option, Some, None, refl, ap, ap₂, sym, ◌∙◌, arith}
use Rattle.cache_entries.specs.declared.entry.CacheEntryKey.{CacheEntryKey}
use Rattle.cache_entries.specs.declared.rows.Tracked.{Tracked}
use Rattle.cache_entries.specs.Rows.{without_row}
use Rattle.curve_loads.specs.Steps.{held}
use Rattle.curve_sizes.specs.declared.when.When.{When}
use Rattle.curve_sizes.specs.Requests.{Request, asks, steps_of, AreFirst}
use Rattle.curve_sizes.specs.Rows.{limits_of}
use Rattle.curve_sizes.specs.Numbers.{numbered, mark_of, Agrees}
use Rattle.curve_held.specs.declared.row.Full.{Full}
use Rattle.curve_held.specs.declared.row.HeldRow.{HeldRow}
use Rattle.curve_held.specs.Held.{last_asked, sooner, oldest, puts_out, first_of, full_at, IsHeld, AreHeld}
use Rattle.curve_timed.specs.Counting.{IsFedTimed}
use Rattle.curve_keys.specs.declared.keyed.KeyedCurve.{KeyedCurve}
use Rattle.curve_keys.specs.Keys.{keyed, number_of, AreRenamed, none, ask, removal, unknown, AreKeyed, IsFedKeys}
use Rattle.curve_keys.proofs.Renaming.{AreSameRows, same-both, rows-without, rows-same, at-number, asked-same}
use Rattle.curve_keys.proofs.KeyedLaws.{weight_by}

module _ (number : List ℕ → Option ℕ) (apart : (key other : List ℕ) (n : ℕ) → number key ≡ Some n → number other ≡ Some n → key ≡ other) where
  rows-length : (rs ss : List Tracked) → AreSameRows number apart rs ss → length rs ≡ length ss
  unfolding AreSameRows
  rows-length [] [] h = refl
  rows-length [] (s ∷ ss) h = absurd h
  rows-length (r ∷ rs) [] h = absurd h
  rows-length (r ∷ rs) (s ∷ ss) h = let e = rows-length rs ss h.2 in omega (arith, e)

  module _ (weight weight' : CacheEntryKey → ℕ) (weighs : (key : List ℕ) (n : ℕ) → number key ≡ Some n → weight (keyed key) ≡ weight' (numbered n)) (limit : ℕ) (mark : Option ℕ) where
    last-same : (key : List ℕ) (n : ℕ) → number key ≡ Some n → (requests numbers : List Request) → AreRenamed number requests numbers → last_asked (keyed key) requests ≡ last_asked (numbered n) numbers
    last-same key n h _ _ none = refl
    last-same key n h _ _ (ask other w m when requests numbers k r) =
        let s = same-both number apart (keyed other) (keyed key) (numbered m) (numbered n) (at-number number apart weight weight' weighs limit mark other m k) (at-number number apart weight weight' weighs limit mark key n h) in
        ap₂ (λ (b : Bool) (t : ℕ). cond b when.moment t) s (last-same key n h requests numbers r)
    last-same key n h _ _ (removal other m requests numbers k r) = last-same key n h requests numbers r
    last-same key n h _ _ (unknown other requests numbers k r) = last-same key n h requests numbers r

    oldest-same : (requests numbers : List Request) → AreRenamed number requests numbers → (rs ss : List Tracked) → AreSameRows number apart rs ss → oldest requests rs ≡ oldest numbers ss
    unfolding AreSameRows
    oldest-same requests numbers r [] [] h = refl
    oldest-same requests numbers r [] (s ∷ ss) h = absurd h
    oldest-same requests numbers r (q ∷ rs) [] h = absurd h
    oldest-same requests numbers r (q ∷ rs) (s ∷ ss) h =
        let a = h.0 in
        ap₂ (λ (m : ℕ) (o : Option ℕ). sooner (Some m) o)
        (ap (λ (e : CacheEntryKey). last_asked e requests) a.first ∙ last-same a.key a.n a.has requests numbers r ∙ sym (ap (λ (e : CacheEntryKey). last_asked e numbers) a.second))
        (oldest-same requests numbers r rs ss h.2)

    put-same : (key : List ℕ) (w n : ℕ) (when : When) (requests numbers : List Request) → number key ≡ Some n → AreRenamed number requests numbers
        → puts_out weight limit mark (keyed key) (steps_of requests) ≡ puts_out weight' limit mark (numbered n) (steps_of numbers)
    put-same key w n when requests numbers h r =
        let before = held weight limit mark (steps_of requests) in
        let after = held weight' limit mark (steps_of numbers) in
        let same = rows-same number apart weight weight' weighs limit mark requests numbers r in
        let out = rows-length (without_row (keyed key) before) (without_row (numbered n) after)
        (rows-without number apart (keyed key) (numbered n) before after (at-number number apart weight weight' weighs limit mark key n h) same) in
        let now = rows-length (held weight limit mark (steps_of (asks (keyed key) w when ∷ requests))) (held weight' limit mark (steps_of (asks (numbered n) w when ∷ numbers)))
        (rows-same number apart weight weight' weighs limit mark (asks (keyed key) w when ∷ requests) (asks (numbered n) w when ∷ numbers) (ask key w n when requests numbers h r)) in
        ap₂ (λ (x y : ℕ). ltb x (suc y)) now out

    full-same : (requests numbers : List Request) → AreRenamed number requests numbers → full_at weight limit mark requests ≡ full_at weight' limit mark numbers
    full-same _ _ none = refl
    full-same _ _ (ask key w n when requests numbers h r) =
        let e = full-same requests numbers r in
        let p = put-same key w n when requests numbers h r in
        let a = asked-same number apart requests numbers r in
        let now : ℕ → Option Full = λ k. Some (record { asks = 1 + k; moment = when.moment }) in
        λ i. first_of (e i) (cond (p i) (now (a i)) None)
    full-same _ _ (removal key n requests numbers h r) = full-same requests numbers r
    full-same _ _ (unknown key requests numbers h r) = full-same requests numbers r

    pub row-same : (requests numbers : List Request) → AreRenamed number requests numbers → (r : HeldRow) → IsHeld weight' mark numbers limit r → IsHeld weight mark requests limit r
    row-same requests numbers r row h =
        let same = rows-same number apart weight weight' weighs limit mark requests numbers r in
        record {
          entries = h.entries ∙ sym (rows-length (held weight limit mark (steps_of requests)) (held weight' limit mark (steps_of numbers)) same);
          oldest = h.oldest ∙ sym (oldest-same requests numbers r (held weight limit mark (steps_of requests)) (held weight' limit mark (steps_of numbers)) same);
          full = h.full ∙ sym (full-same requests numbers r);
        }

rows-held : (number : List ℕ → Option ℕ) (weight : CacheEntryKey → ℕ) (ws : List ℕ) (mark : Option ℕ) (requests numbers : List Request) (limits : List ℕ) (rows : List HeldRow) → AreFirst weight requests → AreKeyed number ws requests numbers
    → AreHeld (weight_by ws) mark numbers limits rows → AreHeld weight mark requests limits rows
rows-held number weight ws mark requests numbers [] [] a k h = tt
rows-held number weight ws mark requests numbers [] (r ∷ rows) a k h = absurd h
rows-held number weight ws mark requests numbers (l ∷ limits) [] a k h = absurd h
rows-held number weight ws mark requests numbers (l ∷ limits) (r ∷ rows) a k h = (
  row-same number k.apart weight (weight_by ws) (k.first weight a) l mark requests numbers k.renamed r h.0,
  rows-held number weight ws mark requests numbers limits rows a k h.1,
)

pub keyed-held : (c : KeyedCurve) (rows : List HeldRow)
    → ((requests : List Request) → IsFedTimed c.curve requests → (weight : CacheEntryKey → ℕ) → Agrees weight c.curve.curve.weights.items
    → AreHeld weight (mark_of c.curve.curve.watermark) requests (limits_of c.curve.curve.table) rows)
    → (requests : List Request) → IsFedKeys c requests → (weight : CacheEntryKey → ℕ) → AreFirst weight requests
    → AreHeld weight (mark_of c.curve.curve.watermark) requests (limits_of c.curve.curve.table) rows
keyed-held c rows h requests f weight a =
    rows-held (number_of c.numbers) weight c.curve.curve.weights.items (mark_of c.curve.curve.watermark) requests f.numbers (limits_of c.curve.curve.table) rows a f.keys
    (h f.numbers f.fed (weight_by c.curve.curve.weights.items) (λ n l. refl))
