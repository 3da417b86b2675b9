use Rattle.std.proofs.Common.{◌≡◌, ◌∙◌, ap, subst, arith, ℕ, List, Option, length, None}
use Rattle.curve_held.specs.State.{running}
use Rattle.curve_held.specs.Walks.{IsWalked, row_at}
use Rattle.curve_held.proofs.Moments.{running-length}
use Rattle.curve_held.proofs.Walked.{rows-held}
use Rattle.curve_held.proofs.filling.Filling.rows.Goals as goal

pub joined-requires : goal.joined-requires
joined-requires c =
    let w = c.in_ok-walked.ensures.walked in
    let o = c.in_ok-walked.walked.oldest.items in
    let a = ap (λ (l : List (Option ℕ)). length l) (c.as_slice-4.ensures.value ∙ c.in_ok-oldest.ensures ∙ ap (running None) c.as_slice-2.ensures.value) in
    let b = ap (λ (l : List ℕ). length l) c.as_slice-3.ensures.value in
    let r = running-length None o in
    omega (arith, a, b, r, c.in_ok-counts.ensures.sizes, w.sizes, w.places)

pub returns-clause-held : goal.returns-clause-held
returns-clause-held c =
    let w = c.in_ok-walked.ensures.walked in
    let cs = c.in_ok-counts.counts.items in
    let os = c.in_ok-oldest.oldest.items in
    let slices : (k : ℕ) → row_at c.as_slice-3.result.now c.as_slice-4.result.now c.as_slice-5.result.now k ≡ row_at cs os c.args.self.now.full.items k
    = λ k i. row_at (c.as_slice-3.ensures.value i) (c.as_slice-4.ensures.value i) (c.as_slice-5.ensures.value i) k in
    let len = ap (λ (l : List ℕ). length l) c.as_slice-3.ensures.value in
    rows-held c.args.curve.now c.args.self.now c.in_ok-walked.walked.counts c.in_ok-walked.walked.oldest.items c.in_ok-rows.rows.items cs os
    c.requires
    (subst (λ (l : List ℕ). IsWalked c.args.curve.now l (length c.args.curve.now.weights.items) c.in_ok-walked.walked.counts c.in_ok-walked.walked.oldest.items) c.as_slice.ensures.value w)
    (λ i l. c.in_ok-counts.ensures.rows i (omega (arith, l)))
    c.in_ok-counts.ensures.sizes
    (c.in_ok-oldest.ensures ∙ ap (running None) c.as_slice-2.ensures.value)
    (c.in_ok-rows.ensures.len ∙ len)
    (λ k d l. c.in_ok-rows.ensures.rows k d (omega (arith, l, len)) ∙ slices k)
