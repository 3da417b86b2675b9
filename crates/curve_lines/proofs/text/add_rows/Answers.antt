use Rattle.std.proofs.Common.{◌≡◌, ◌∙◌, ◌++◌, ◌≤◌, ◌<◌, min, ◌⊎◌, inl, inr, ℕ, List, [], ◌∷◌, refl, ap, sym, arith, length, drop, drop_of_length-le}
use Rattle.std.proofs.lemmas.Bool.{cases_lt}
use Rattle.std.proofs.lemmas.List.{append-nil}
use Rattle.curve_sizes.specs.declared.row.CurveRow.{CurveRow}
use Rattle.curve_held.specs.declared.row.HeldRow.{HeldRow}
use Rattle.curve_lines.specs.Texts.{rows_text}
use Rattle.curve_lines.proofs.text.add_rows.Goals as goal

none-held : (caches asks bytes : ℕ) (rows : List CurveRow) → rows_text caches asks bytes rows [] ≡ []
none-held caches asks bytes [] = refl
none-held caches asks bytes (r ∷ rows) = refl

no-more : (caches asks bytes : ℕ) (rows : List CurveRow) (owns : List HeldRow) (i : ℕ) → (length rows ≤ i) ⊎ (length owns ≤ i) → rows_text caches asks bytes (drop i rows) (drop i owns) ≡ []
no-more caches asks bytes rows owns i (inl l) = ap (λ (x : List CurveRow). rows_text caches asks bytes x (drop i owns)) (drop_of_length-le rows l)
no-more caches asks bytes rows owns i (inr l) = ap (rows_text caches asks bytes (drop i rows)) (drop_of_length-le owns l) ∙ none-held caches asks bytes (drop i rows)

one-ends : (m n i : ℕ) → min m n ≤ i → (m ≤ i) ⊎ (n ≤ i)
one-ends m n i h = by_case (cases_lt i m)
  where
    by_case : (i < m) ⊎ (m ≤ i) → (m ≤ i) ⊎ (n ≤ i)
    by_case (inl l) = inr (omega (arith, h, l))
    by_case (inr l) = inl l

pub returns : goal.returns
returns c =
    let i = c.loop-i.i in
    let rows = c.args.rows.now in
    let owns = c.args.owns.now in
    let past : min (length rows) (length owns) ≤ i = omega (arith, c.loop-i-test.false, c.min-count.ensures) in
    let none = no-more c.args.caches c.args.totals.asks c.args.totals.bytes rows owns i (one-ends (length rows) (length owns) i past) in
    sym (append-nil c.loop-i.text.items) ∙ ap (λ (x : List ℕ). c.loop-i.text.items ++ x) (sym none) ∙ c.loop-i.invariant
