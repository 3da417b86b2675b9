use Rattle.std.proofs.Common.{◌≡◌, ◌∙◌, ◌++◌, ◌≤◌, ◌<◌, min, ◌⊎◌, inl, inr, ℕ, List, [], ◌∷◌, refl, ap, sym, arith, length, drop, drop_of_length-le}
use Rattle.std.proofs.lemmas.Bool.{cases_lt}
use Rattle.std.proofs.lemmas.List.{append-nil}
use Rattle.curve_sizes.specs.declared.row.CurveRow.{CurveRow}
use Rattle.curve_sizes.specs.declared.totals.Totals.{Totals}
use Rattle.curve_timed.specs.declared.row.FreshRow.{FreshRow}
use Rattle.curve_held.specs.declared.row.HeldRow.{HeldRow}
use Rattle.curve_lines.specs.TimedTexts.{timed_rows}
use Rattle.curve_lines.proofs.timed_text.add_timed_rows.Goals as goal

no-fresh : (caches : ℕ) (t : Totals) (rows : List CurveRow) (owns : List HeldRow) → timed_rows caches t rows [] owns ≡ []
no-fresh caches t [] owns = refl
no-fresh caches t (r ∷ rows) owns = refl

no-held : (caches : ℕ) (t : Totals) (rows : List CurveRow) (fresh : List FreshRow) → timed_rows caches t rows fresh [] ≡ []
no-held caches t [] fresh = refl
no-held caches t (r ∷ rows) [] = refl
no-held caches t (r ∷ rows) (f ∷ fresh) = refl

no-more : (caches : ℕ) (t : Totals) (rows : List CurveRow) (fresh : List FreshRow) (owns : List HeldRow) (i : ℕ) → (length rows ≤ i) ⊎ ((length fresh ≤ i) ⊎ (length owns ≤ i))
    → timed_rows caches t (drop i rows) (drop i fresh) (drop i owns) ≡ []
no-more caches t rows fresh owns i (inl l) = ap (λ (x : List CurveRow). timed_rows caches t x (drop i fresh) (drop i owns)) (drop_of_length-le rows l)
no-more caches t rows fresh owns i (inr (inl l)) =
    ap (λ (x : List FreshRow). timed_rows caches t (drop i rows) x (drop i owns)) (drop_of_length-le fresh l) ∙ no-fresh caches t (drop i rows) (drop i owns)
no-more caches t rows fresh owns i (inr (inr l)) =
    ap (timed_rows caches t (drop i rows) (drop i fresh)) (drop_of_length-le owns l) ∙ no-held caches t (drop i rows) (drop i fresh)

one-ends : (m n p i : ℕ) → min (min m n) p ≤ i → (m ≤ i) ⊎ ((n ≤ i) ⊎ (p ≤ i))
one-ends m n p i h = by_case (cases_lt i m) (cases_lt i n)
  where
    by_case : (i < m) ⊎ (m ≤ i) → (i < n) ⊎ (n ≤ i) → (m ≤ i) ⊎ ((n ≤ i) ⊎ (p ≤ i))
    by_case (inl l) (inl k) = inr (inr (omega (arith, h, l, k)))
    by_case (inl l) (inr k) = inr (inl k)
    by_case (inr l) k = inl l

pub returns : goal.returns
returns c =
    let i = c.loop-i.i in
    let rows = c.args.rows.now in
    let fresh = c.args.fresh.now in
    let owns = c.args.owns.now in
    let past : min (min (length rows) (length fresh)) (length owns) ≤ i = omega (arith, c.loop-i-test.false, c.min.ensures, c.min-count.ensures) in
    let none = no-more c.args.caches c.args.totals rows fresh owns i (one-ends (length rows) (length fresh) (length owns) i past) in
    sym (append-nil c.loop-i.text.items) ∙ ap (λ (x : List ℕ). c.loop-i.text.items ++ x) (sym none) ∙ c.loop-i.invariant
