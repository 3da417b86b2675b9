use Rattle.std.proofs.Common.{◌∙◌, ◌+◌, ◌-◌, ◌≤◌, length, drop, ap, arith, length-take}
use Rattle.curve_lines.proofs.WindowLemmas.{skipped}
use Rattle.curve_lines.proofs.input.Input.skip.Goals as goal

pub returns : goal.returns
returns c =
    let held = c.self.inside in
    let within : held.start + c.args.len ≤ held.end =
    omega (arith, c.requires, ap length c.self.view_is, length-take (held.end - held.start) (drop held.start held.block.items), c.self.invariant)
    in
    skipped held.start c.args.len held.end held.block.items within ∙ ap (drop c.args.len) c.self.view_is
