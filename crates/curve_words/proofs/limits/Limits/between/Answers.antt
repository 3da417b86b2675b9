use Rattle.std.proofs.Common.{◌≡◌, ◌+◌, arith, rules, subst}
use Rattle.curve_words.proofs.LimitLaws.{IsBegun, begun, begun-more, between-all}
use Rattle.curve_words.proofs.limits.Limits.between.Goals as goal

pub loop-step-init : goal.loop-step-init
loop-step-init c = record {
  begun = begun c.args.from c.push.new.self.items (search rules);
  two = omega arith;
  high = search rules;
}

pub loop-step-preserved : goal.loop-step-preserved
loop-step-preserved c =
    let i = c.loop-step.invariant in
    record {
      begun = begun-more c.args.from c.loop-step.last c.loop-step.step c.clamped-last.result c.loop-step.all.items c.push-in-loop-step.new.self.items c.in_ok-push-2.ensures.items i.two c.clamped-last.ensures.low i.begun;
      two = omega (arith, i.two);
      high = c.clamped-last.ensures.high;
    }

pub invariant_of-result : goal.invariant_of-result
invariant_of-result c =
    let i = c.loop-step.invariant in
    let b = begun-more c.args.from c.loop-step.last c.loop-step.step c.args.to c.loop-step.all.items c.push-2.new.self.items c.in_ok-push-3.ensures.items i.two i.high i.begun in
    record { rising = b.rising }

pub returns-clause-limits : goal.returns-clause-limits
returns-clause-limits c =
    let i = c.loop-step.invariant in
    let b = begun-more c.args.from c.loop-step.last c.loop-step.step c.args.to c.loop-step.all.items c.push-2.new.self.items c.in_ok-push-3.ensures.items i.two i.high i.begun in
    let most = c.loop-step.auto.step-end (omega (arith, c.if-count-lt2.false)) in
    let e : c.loop-step.step ≡ c.args.count = omega (arith, c.loop-step-test.false, most) in
    between-all c.args.from c.args.to c.args.count c.push-2.new.self.items (subst (λ n. IsBegun c.args.from c.args.to (n + 1) c.push-2.new.self.items) e b)
