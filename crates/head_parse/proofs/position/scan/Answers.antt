use Rattle.std.proofs.Common.{◌≡◌, ◌∙◌, ap, sym, rules, get_or, take, ◌+◌}
use Rattle.std.specs.Prelude.{◌≢◌}
use Rattle.head_parse.specs.Positions.{position_after_byte, position_after}
use Rattle.head_parse.specs.declared.position.Position.TheVariants.{AfterEmptyLine}
use Rattle.head_parse.proofs.PositionLaws.{after-more, quiet-more}
use Rattle.head_parse.proofs.position.scan.Goals as goal

pub returns-then-eq-clause-position : goal.returns-then-eq-clause-position
returns-then-eq-clause-position c =
    let byte : c.after-position.result ≡ position_after_byte c.loop-i.position (get_or c.args.bytes.now c.loop-i.i 0) = search rules in
    byte ∙ ap (λ p. position_after_byte p (get_or c.args.bytes.now c.loop-i.i 0)) c.loop-i.invariant.position ∙ sym (after-more c.args.from c.args.bytes.now c.loop-i.i 0 c.loop-i-test.true)

pub loop-i-preserved : goal.loop-i-preserved
loop-i-preserved c =
    let byte : c.after-position.result ≡ position_after_byte c.loop-i.position (get_or c.args.bytes.now c.loop-i.i 0) = search rules in
    let differs : c.after-position.result ≢ AfterEmptyLine = search rules in
    let now : c.after-position.result ≡ position_after c.args.from (take (c.loop-i.i + 1) c.args.bytes.now) =
    byte ∙ ap (λ p. position_after_byte p (get_or c.args.bytes.now c.loop-i.i 0)) c.loop-i.invariant.position ∙ sym (after-more c.args.from c.args.bytes.now c.loop-i.i 0 c.loop-i-test.true) in
    record {
      position = now;
      quiet = quiet-more c.args.from c.args.bytes.now c.loop-i.i c.loop-i.invariant.quiet (λ e. differs (now ∙ e));
    }
