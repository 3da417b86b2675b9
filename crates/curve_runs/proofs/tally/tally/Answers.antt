use Rattle.std.proofs.Common.{arith, get_or, drop-cons, drop_of_length-le, ◌∙◌, ◌+◌, suc, ◌<◌, ℕ, ◌≡◌, drop, ap, [], ◌∷◌, length}
use Rattle.curve_runs.specs.declared.run.Run.{Run}
use Rattle.curve_runs.proofs.TallyLaws.{tallied-none, tallied-next, tallied-all}
use Rattle.curve_runs.proofs.tally.tally.Goals as goal

pub loop-run-init : goal.loop-run-init
loop-run-init c = tallied-none c.args.load c.args.runs.now c.args.value c.args.counts.now

pub loop-run-preserved : goal.loop-run-preserved
loop-run-preserved c =
    let old = c.args.runs.now in
    let k = c.loop-run.run-index in
    let none : Run = record { end = 0; since = 0 } in
    let x : Run = get_or old k none in
    let l : k < length old = omega (arith, c.loop-run-test.true) in
    let s : suc k ≡ k + 1 = omega arith in
    let e = c.in_ok-begin.ensures in
    tallied-next c.args.load old c.args.value k (k + 1) c.loop-run.begin c.in_ok-begin.begin c.args.counts.now c.loop-run.counts c.count_run.new.counts x
    (drop-cons old k none l ∙ ap (λ (n : ℕ). x ∷ drop n old) s)
    (record { past = e.past; same = e.same; ends = e.end; more = e.more; sizes = e.sizes })
    c.loop-run.invariant

pub returns-clause-added : goal.returns-clause-added
returns-clause-added c =
    let old = c.args.runs.now in
    let l : drop c.loop-run.run-index old ≡ [] = drop_of_length-le old (omega (arith, c.loop-run-test.false)) in
    tallied-all c.args.load old c.args.value c.loop-run.run-index c.loop-run.begin c.args.counts.now c.loop-run.counts l c.loop-run.invariant

pub returns-clause-sizes : goal.returns-clause-sizes
returns-clause-sizes c = c.loop-run.invariant.sizes
