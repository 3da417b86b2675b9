use Rattle.std.proofs.Common.{arith, sym, ◌∙◌}
use Rattle.std.proofs.lemmas.Grind.{common_steps}
use Rattle.rules_fields.proofs.Capped.{one_more, read_whole}
use Rattle.rules_fields.proofs.number.digits.Goals as goal

pub loop-b-preserved : goal.loop-b-preserved
loop-b-preserved c = record {
  value = one_more c.args.text.now c.loop-b.b-index c.loop-b.n c.saturating_mul.result c.saturating_add-n.result _ (omega arith) c.saturating_mul.ensures c.saturating_add-n.ensures c.loop-b.invariant.value;
  small = omega (arith, c.saturating_add-n.ensures);
  digits = grind (arith, common_steps, c.loop-b.invariant.digits, c.is_ascii_digit.ensures.value);
}

pub returns : goal.returns
returns c = read_whole c.args.text.now c.loop-b.b-index c.loop-b.n (sym c.is_empty.ensures ∙ c.if-is_empty.false) c.loop-b.invariant.small (omega arith) c.loop-b.invariant.value c.loop-b.invariant.digits
