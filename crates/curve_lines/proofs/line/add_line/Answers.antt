use Rattle.std.proofs.Common.{◌≡◌, sym, subst, rules}
use Rattle.std.specs.Prelude.{Option, OnOk}
use Rattle.curve_keys.specs.Pasts.{Line, line_for}
use Rattle.curve_keys.specs.Shares.{AddsLine}
use Rattle.curve_lines.specs.Lines.{line_in}
use Rattle.curve_lines.proofs.line.add_line.Goals as goal

pub returns-clause-fed : goal.returns-clause-fed
returns-clause-fed c =
    let same : line_in c.args.rules.now.overhead c.args.rules.now.lifetime c.args.line.now ≡ line_for c.word_of-3.result.now c.said_in-said.result c.in-Some.when 1 = search rules in
    subst (λ (o : Option Line). OnOk c.add.result (AddsLine o c.args.readings.now c.add.new.readings)) (sym same) c.add.ensures.fed
