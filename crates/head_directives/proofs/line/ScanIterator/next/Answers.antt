use Rattle.std.proofs.Common.{◌≡◌, ◌∷◌, false, length, sym, ap, ◌∙◌, arith, rules}
use Rattle.std.proofs.lemmas.Grind.{common_steps}
use Rattle.head_directives.specs.Walk.{walk}
use Rattle.head_directives.specs.Found.{written, directives_left}
use Rattle.head_directives.proofs.Scanning.{found_first}
use Rattle.head_directives.proofs.line.ScanIterator.next.Goals as goal

pub returns-then-token-clause-steps : goal.returns-then-token-clause-steps
returns-then-token-clause-steps c =
    found_first _ _ _ _ _ _ _ (sym c.token.ensures ∙ c.if-token.true) c.in-Some.ensures.cases.0 c.if-self.true c.split_front.ensures.is c.split_front.ensures.rest c.loop-b.invariant

pub returns-then-token-clause-goes : goal.returns-then-token-clause-goes
returns-then-token-clause-goes c =
    let s : directives_left c.args.self.now ≡ written c.split_front.result.0 ∷ walk 0 false c.split_front.result.1.now = found_first _ _ _ _ _ _ _ (sym c.token.ensures ∙ c.if-token.true) c.in-Some.ensures.cases.0 c.if-self.true c.split_front.ensures.is c.split_front.ensures.rest c.loop-b.invariant in
    let n = ap length s in
    first_of (search rules, grind (arith, common_steps))

pub loop-b-preserved : goal.loop-b-preserved
loop-b-preserved c = first_of (search rules, grind (arith, common_steps))
