use Rattle.std.proofs.Common.{◌≡◌, subst, arith, ℕ, suc, ◌+◌, length, get_or}
use Rattle.curve_held.specs.Walks.{IsWalked}
use Rattle.curve_held.proofs.Walked.{walked-none, walked-next}
use Rattle.curve_held.proofs.walk.walk.Goals as goal

pub loop-entry-init : goal.loop-entry-init
loop-entry-init c =
    let e = c.in_ok-counts.ensures in (
      walked-none c.args.curve.now c.args.latest.now c.limits-sizes.result c.in_ok-counts.field-0.counts c.in_ok-counts.field-0.oldest.items c.limits-sizes.ensures e.counts e.sizes e.oldest,
      omega (arith, e.total),
    )

pub loop-entry-preserved : goal.loop-entry-preserved
loop-entry-preserved c =
    let n = c.loop-entry.entry in
    let e = c.in_ok-count.ensures in
    let next : suc n ≡ n + 1 = omega arith in (
      subst (λ (m : ℕ). IsWalked c.args.curve.now c.args.latest.now m c.count.new.counts c.note.new.moments.items) next
          (walked-next c.args.curve.now c.args.latest.now n c.first_held-first.result c.limits-sizes.result (get_or c.args.latest.now n 0) c.loop-entry.counts c.count.new.counts
          c.loop-entry.oldest.items c.note.new.moments.items c.limits-sizes.ensures (λ i. get_or c.args.latest.now n 0) c.first_held-first.ensures.first e.added e.sizes c.note.ensures c.loop-entry.invariant.0),
      omega (arith, e.total, c.loop-entry.invariant.1),
    )

pub returns-clause-walked : goal.returns-clause-walked
returns-clause-walked c =
    let end : c.loop-entry.entry ≡ length c.args.curve.now.weights.items = omega (arith, c.loop-entry-test.false, c.loop-entry.auto.entry-end, c.in-Ok.ensures, c.entries.ensures.value) in
    subst (λ (m : ℕ). IsWalked c.args.curve.now c.args.latest.now m c.loop-entry.counts c.loop-entry.oldest.items) end c.loop-entry.invariant.0
