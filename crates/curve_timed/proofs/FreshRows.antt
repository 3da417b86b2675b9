-- Rows of what each limit finds fresh.
use Rattle.std.proofs.Common.{◌≡◌, ℕ, suc, ◌<◌, List, [], ◌∷◌, map, Option, refl, ap, ◌∙◌, arith, length, get_or}
use Rattle.std.proofs.lemmas.List.{length-map}
use Rattle.cache_entries.specs.declared.entry.CacheEntryKey.{CacheEntryKey}
use Rattle.curve_fresh.specs.Fresh.{Timed, fresh_finds, fresh_bytes}
use Rattle.curve_sizes.specs.declared.row.CurveRow.{CurveRow}
use Rattle.curve_sizes.specs.Rows.{limits_of}
use Rattle.curve_sizes.specs.Requests.{Request}
use Rattle.curve_sizes.specs.Numbers.{Agrees}
use Rattle.curve_runs.specs.declared.table.FreshTable.{FreshTable}
use Rattle.curve_runs.specs.Counts.{counted}
use Rattle.curve_timed.specs.Timed.{timed_of}
use Rattle.curve_timed.specs.Counting.{IsFedFresh}
use Rattle.curve_timed.specs.declared.row.FreshRow.{FreshRow}
use Rattle.curve_timed.specs.Rows.{AreFresh}
use Rattle.curve_timed.specs.Zipped.{zipped}

pub zipped-fresh : (weight : CacheEntryKey → ℕ) (mark : Option ℕ) (requests : List Timed) (rows : List CurveRow) (finds bytes : List ℕ)
    → ((i : ℕ) → i < length rows → get_or finds i 0 ≡ fresh_finds weight (get_or (limits_of rows) i 0) mark requests)
    → ((i : ℕ) → i < length rows → get_or bytes i 0 ≡ fresh_bytes weight (get_or (limits_of rows) i 0) mark requests)
    → AreFresh weight mark requests (zipped rows finds bytes)
zipped-fresh weight mark requests [] finds bytes f b = tt
zipped-fresh weight mark requests (r ∷ rows) [] bytes f b = tt
zipped-fresh weight mark requests (r ∷ rows) (x ∷ finds) [] f b = tt
zipped-fresh weight mark requests (r ∷ rows) (x ∷ finds) (y ∷ bytes) f b = (
  (f 0 (omega arith), b 0 (omega arith)),
  zipped-fresh weight mark requests rows finds bytes (λ i l. f (suc i) (omega (arith, l))) (λ i l. b (suc i) (omega (arith, l))),
)

pub zipped-limits : (rows : List CurveRow) (finds bytes : List ℕ) → length finds ≡ length rows → length bytes ≡ length rows → map (λ (r : FreshRow). r.limit) (zipped rows finds bytes) ≡ limits_of rows
zipped-limits [] finds bytes f b = refl
zipped-limits (r ∷ rows) [] bytes f b = absurd (omega (arith, f))
zipped-limits (r ∷ rows) (x ∷ finds) [] f b = absurd (omega (arith, b))
zipped-limits (r ∷ rows) (x ∷ finds) (y ∷ bytes) f b = ap (λ (l : List ℕ). r.limit ∷ l) (zipped-limits rows finds bytes (omega (arith, f)) (omega (arith, b)))

pub rows-fresh : (weight : CacheEntryKey → ℕ) (mark : Option ℕ) (requests : List Request) (rows : List CurveRow) (finds bytes : List ℕ) (ws : List ℕ) (t : FreshTable)
    → Agrees weight ws → IsFedFresh ws (limits_of rows) mark t requests
    → ((i : ℕ) → i < length finds → get_or finds i 0 ≡ counted i t.finds) → length finds ≡ length t.finds.begun.items
    → ((i : ℕ) → i < length bytes → get_or bytes i 0 ≡ counted i t.bytes) → length bytes ≡ length t.bytes.begun.items
    → AreFresh weight mark (timed_of requests) (zipped rows finds bytes)
rows-fresh weight mark requests rows finds bytes ws t a f x n y m =
    let v = f.shown weight a in
    let s = f.shape in
    let k = length-map rows (λ (r : CurveRow). r.limit) in
    zipped-fresh weight mark (timed_of requests) rows finds bytes
    (λ i l. x i (omega (arith, l, n, s.finds_are, k)) ∙ v.finds i (omega (arith, l, k)))
    (λ i l. y i (omega (arith, l, m, s.bytes_are, k)) ∙ v.bytes i (omega (arith, l, k)))
