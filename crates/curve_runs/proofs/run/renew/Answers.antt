use Rattle.std.proofs.Common.{arith, get_or, drop-cons, drop_of_length-le, refl, ◌∙◌, sym, subst, ◌+◌, suc, ◌<◌, ℕ, ◌≡◌, drop, List, ap, [], ◌∷◌, length}
use Rattle.curve_runs.specs.declared.run.Run.{Run}
use Rattle.curve_runs.proofs.RunLaws.{IsRenewed, renewed-none, renewed-next, renewed-all}
use Rattle.curve_runs.proofs.run.renew.Goals as goal

pub loop-run-init : goal.loop-run-init
loop-run-init c =
    let last : Run = record { end = c.args.load.first; since = c.args.load.since } in
    subst (λ (n : List Run). IsRenewed c.args.load c.args.old.now n 0 last) (sym c.clear.ensures.items) (renewed-none c.args.load c.args.old.now last refl refl)

pub loop-run-preserved : goal.loop-run-preserved
loop-run-preserved c =
    let old = c.args.old.now in
    let k = c.loop-run.run-index in
    let none : Run = record { end = 0; since = 0 } in
    let x : Run = get_or old k none in
    let l : k < length old = omega (arith, c.loop-run-test.true) in
    let s : suc k ≡ k + 1 = omega arith in
    let e = c.in_ok-last.ensures in
    renewed-next c.args.load old c.loop-run.new.items c.continued.new.runs.items k (k + 1) c.loop-run.last c.in_ok-last.last x
    (drop-cons old k none l ∙ ap (λ (n : ℕ). x ∷ drop n old) s)
    (record { past = e.past; same = e.same; ends = e.end; gives = e.given })
    c.loop-run.invariant

pub returns : goal.returns
returns c =
    let old = c.args.old.now in
    let none : Run = record { end = c.args.sizes; since = 0 } in
    let l : drop c.loop-run.run-index old ≡ [] = drop_of_length-le old (omega (arith, c.loop-run-test.false)) in
    let e = c.in_ok-last-2.ensures in
    renewed-all c.args.load old c.loop-run.new.items c.continued-2.new.runs.items c.close.new.runs.items c.loop-run.run-index c.args.sizes c.loop-run.last c.in_ok-last-2.last none l c.loop-run.invariant refl refl
    (record { past = e.past; same = e.same; ends = e.end; gives = e.given })
    c.in_ok-close.ensures
