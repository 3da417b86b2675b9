use Rattle.std.proofs.Common.{◌≡◌, ◌∙◌, ◌++◌, ◌≤◌, ◌<◌, min, ◌⊎◌, inl, inr, ℕ, List, [], ◌∷◌, refl, ap, sym, arith, length, drop, drop_of_length-le}
use Rattle.std.proofs.lemmas.Bool.{cases_lt}
use Rattle.std.proofs.lemmas.List.{append-nil}
use Rattle.curve_sizes.specs.declared.row.CurveRow.{CurveRow}
use Rattle.curve_timed.specs.declared.row.FreshRow.{FreshRow}
use Rattle.curve_held.specs.declared.row.HeldRow.{HeldRow}
use Rattle.curve_timed.specs.declared.marks.Mark.{Mark}
use Rattle.curve_lines.specs.MarkTexts.{mark_rows}
use Rattle.curve_lines.proofs.mark_text.add_mark.Goals as goal

no-fresh : (caches : ℕ) (m : Mark) (rows : List CurveRow) (owns : List HeldRow) → mark_rows caches m rows [] owns ≡ []
no-fresh caches m [] owns = refl
no-fresh caches m (r ∷ rows) owns = refl

no-held : (caches : ℕ) (m : Mark) (rows : List CurveRow) (fresh : List FreshRow) → mark_rows caches m rows fresh [] ≡ []
no-held caches m [] fresh = refl
no-held caches m (r ∷ rows) [] = refl
no-held caches m (r ∷ rows) (f ∷ fresh) = refl

no-more : (caches : ℕ) (m : Mark) (rows : List CurveRow) (fresh : List FreshRow) (owns : List HeldRow) (i : ℕ) → (length rows ≤ i) ⊎ ((length fresh ≤ i) ⊎ (length owns ≤ i))
    → mark_rows caches m (drop i rows) (drop i fresh) (drop i owns) ≡ []
no-more caches m rows fresh owns i (inl l) = ap (λ (x : List CurveRow). mark_rows caches m x (drop i fresh) (drop i owns)) (drop_of_length-le rows l)
no-more caches m rows fresh owns i (inr (inl l)) =
    ap (λ (x : List FreshRow). mark_rows caches m (drop i rows) x (drop i owns)) (drop_of_length-le fresh l) ∙ no-fresh caches m (drop i rows) (drop i owns)
no-more caches m rows fresh owns i (inr (inr l)) =
    ap (mark_rows caches m (drop i rows) (drop i fresh)) (drop_of_length-le owns l) ∙ no-held caches m (drop i rows) (drop i fresh)

one-ends : (m n p i : ℕ) → min (min m n) p ≤ i → (m ≤ i) ⊎ ((n ≤ i) ⊎ (p ≤ i))
one-ends m n p i h = by_case (cases_lt i m) (cases_lt i n)
  where
    by_case : (i < m) ⊎ (m ≤ i) → (i < n) ⊎ (n ≤ i) → (m ≤ i) ⊎ ((n ≤ i) ⊎ (p ≤ i))
    by_case (inl l) (inl k) = inr (inr (omega (arith, h, l, k)))
    by_case (inl l) (inr k) = inr (inl k)
    by_case (inr l) k = inl l

pub returns : goal.returns
returns c =
    let i = c.loop-i.i in
    let mark = c.args.mark.now in
    let rows = mark.rows.items in
    let fresh = mark.fresh.items in
    let owns = mark.held.items in
    let past : min (min (length rows) (length fresh)) (length owns) ≤ i =
    omega (arith, c.loop-i-test.false, c.min.ensures, c.min-count.ensures, c.len.ensures, c.len-2.ensures, c.len-3.ensures, mark.rows.ok.0, mark.fresh.ok.0, mark.held.ok.0) in
    let none = no-more c.args.caches mark rows fresh owns i (one-ends (length rows) (length fresh) (length owns) i past) in
    sym (append-nil c.loop-i.text.items) ∙ ap (λ (x : List ℕ). c.loop-i.text.items ++ x) (sym none) ∙ c.loop-i.invariant
