use Rattle.std.proofs.Common.{◌∙◌, ℕ, length, get_or, ap, sym, subst, arith, List}
use Rattle.std.proofs.lemmas.List.{length_push}
use Rattle.curve_loads.specs.Steps.{exceeds}
use Rattle.curve_held.specs.declared.row.Full.{Full}
use Rattle.curve_held.specs.State.{AreNoted}
use Rattle.curve_held.proofs.Noting.{noted-none, noted-more, noted-end, noted-all}
use Rattle.curve_held.proofs.full.note_full.Goals as goal

pub loop-at-init : goal.loop-at-init
loop-at-init c = (
  omega (arith, c.len-at.ensures, c.args.full.now.ok.0),
  noted-none c.args.limits.now c.args.most c.args.weight c.args.number c.args.now c.args.full.now.items c.requires.within,
)

pub loop-at-preserved : goal.loop-at-preserved
loop-at-preserved c =
    let limits = c.args.limits.now in
    let old = c.args.full.now.items in
    let new = c.loop-at.full.items in
    let v = c.loop-at.invariant in
    let pushed = c.in_ok-push.ensures.items in
    let len = ap (λ (l : List Full). length l) pushed in
    let more = length_push new c.args.now in
    let over = ap (λ (i : ℕ). exceeds (get_or limits i 0) c.args.most c.args.weight c.args.number) v.0 ∙ sym c.is_over.ensures ∙ c.if-not-is_over.false in (
      omega (arith, len, more, v.0),
      subst (λ (l : List Full). AreNoted limits c.args.most c.args.weight c.args.number c.args.now old l) (sym pushed)
          (noted-more limits c.args.most c.args.weight c.args.number c.args.now old new v.1 (omega (arith, v.0, c.loop-at-test.true)) over),
    )

pub returns-then-not-is_over : goal.returns-then-not-is_over
returns-then-not-is_over c =
    let limits = c.args.limits.now in
    let v = c.loop-at.invariant in
    let over = ap (λ (i : ℕ). exceeds (get_or limits i 0) c.args.most c.args.weight c.args.number) v.0 ∙ sym c.is_over.ensures ∙ c.if-not-is_over.true in
    noted-end limits c.args.most c.args.weight c.args.number c.args.now c.args.full.now.items c.loop-at.full.items c.requires.rising v.1 over

pub returns : goal.returns
returns c =
    let v = c.loop-at.invariant in
    noted-all c.args.limits.now c.args.most c.args.weight c.args.number c.args.now c.args.full.now.items c.loop-at.full.items v.1 (omega (arith, v.0, c.loop-at-test.false))
