use Rattle.std.proofs.Common.{ℕ, ◌≡◌, ◌+◌, ◌∷◌, ◌++◌, [], List, take, drop, ap, sym, ◌∙◌, rules}
use Rattle.std.proofs.lemmas.List.{drop_more, take_more, take-append-drop}
use Rattle.std.proofs.lemmas.Result.{err_from_is_err_and}
use Rattle.tier_recorded.specs.Seats.{PassState}
use Rattle.tier_recorded.proofs.MarkLaws.{marks-join, only-join, one-differs}
use Rattle.tier_recorded.proofs.marks.marked.Goals as goal

pub returns-in_err-mark-clause-differs : goal.returns-in_err-mark-clause-differs
returns-in_err-mark-clause-differs g c =
    let p = err_from_is_err_and c.from_residual.result c.from_residual.ensures.1 in
    let all : List PassState = c.args.passes.now in
    let i : ℕ = c.loop-pass.pass-index in
    let q : PassState = c.pass-item.result in
    let split : all ≡ take i all ++ q ∷ drop (i + 1) all =
    sym (take-append-drop i all) ∙ ap (λ (l : List PassState). take i all ++ l) (drop_more all i q c.loop-pass-test.true ∙ ap (λ (x : PassState). x ∷ drop (i + 1) all) (sym c.pass-item.is))
    in
    let d = c.in_err-mark.ensures.differs in
    rw p.1 (λ c' turn f.
    one-differs c.args.seats.now c.loop-pass.marked.items c.args.history.now all (take i all) q (drop (i + 1) all) p.0 d.0 c' turn split c.loop-pass.invariant.0.0 c.loop-pass.invariant.1 (p.2 ∙ d.1) d.2 f)

pub loop-pass-preserved : goal.loop-pass-preserved
loop-pass-preserved g c =
    let all : List PassState = c.args.passes.now in
    let i : ℕ = c.loop-pass.pass-index in
    let q : PassState = c.pass-item.result in
    let next : take (i + 1) all ≡ take i all ++ q ∷ [] = take_more all i q c.loop-pass-test.true ∙ ap (λ (x : PassState). take i all ++ x ∷ []) (sym c.pass-item.is) in
    rw next (
      marks-join c.args.seats.now (take i all) c.args.history.now c.loop-pass.marked.items q c.mark.new.seats.items c.loop-pass.invariant.0 c.in_ok-mark.ensures.marks,
      only-join c.args.seats.now (take i all) c.loop-pass.marked.items q c.mark.new.seats.items c.loop-pass.invariant.1 c.in_ok-mark.ensures.only,
    )
