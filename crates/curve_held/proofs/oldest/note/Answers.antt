use Rattle.std.proofs.Common.{◌<◌, ◌∙◌, ℕ, length, set, ap, sym, arith, Option}
use Rattle.curve_held.proofs.Moments.{noted-is, noted-past}
use Rattle.curve_held.proofs.oldest.note.Goals as goal

pub returns-then-at-len : goal.returns-then-at-len
returns-then-at-len c =
    let xs = c.args.moments.now.items in
    let at = c.args.at in
    let l : at < length xs = omega (arith, c.if-at-len.true, c.len.ensures, c.args.moments.now.ok.0) in
    ap (λ (o : Option ℕ). set xs at o) c.sooner.ensures ∙ noted-is at c.args.moment xs c.index.result.now l c.index.ensures

pub returns-else-at-len : goal.returns-else-at-len
returns-else-at-len c = sym (noted-past c.args.at c.args.moment c.args.moments.now.items (omega (arith, c.if-at-len.false, c.len.ensures, c.args.moments.now.ok.0)))
