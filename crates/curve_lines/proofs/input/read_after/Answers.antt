use Rattle.std.proofs.Common.{ℕ, List, ◌≤◌, length, take, rules, length-take-le}
use Rattle.curve_lines.proofs.WindowLemmas.{longer}
use Rattle.curve_lines.proofs.input.read_after.Goals as goal

pub returns-clause-more : goal.returns-clause-more
returns-clause-more g c =
    let count = c.in_ok-count.count in
    let block : List ℕ = c.args.block.now in
    let more : List ℕ = c.read_some.new.buffer in
    let within : c.args.end ≤ length block = search rules in (
      take count more,
      longer c.args.end count block more _ within c.in_ok-count.ensures.within,
      length-take-le count more c.in_ok-count.ensures.within,
      c.in_ok-count.ensures.bytes,
    )
