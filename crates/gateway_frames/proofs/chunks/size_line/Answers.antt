use Rattle.std.proofs.Common.{◌≡◌, ◌-◌, ◌<◌, ◌^◌, ◌/◌, suc, refl, subst, ◌∙◌, length, arith, length-set}
use Rattle.gateway_frames.proofs.Digits.{onto_line, last_digit, next_digit, fewer_digits, some_left}
use Rattle.gateway_frames.proofs.chunks.size_line.Goals as goal

pub loop-left-init : goal.loop-left-init
loop-left-init c = record { below = omega arith; above = omega arith; long = refl; small = c.ranges.size.fits; digits = onto_line c.args.size }

pub returns-then-left-eq0 : goal.returns-then-left-eq0
returns-then-left-eq0 c =
    let from = c.loop-left.from in
    let next : from ≡ suc (from - 1) = omega arith in
    let within : from - 1 < length c.loop-left.text = omega arith in
    last_digit from (from - 1) c.loop-left.left c.hex_digit.result c.args.size c.loop-left.text next within c.hex_digit.ensures c.loop-left.invariant.digits
    c.if-left-eq0.true

pub loop-left-preserved : goal.loop-left-preserved
loop-left-preserved c =
    let from = c.loop-left.from in
    let left = c.loop-left.left in
    let next : from ≡ suc (from - 1) = omega arith in
    let within : from - 1 < length c.loop-left.text = omega arith in
    let small : left / 16 < 16 ^ (from - 1) = fewer_digits (from - 1) left (subst (λ k. left < 16 ^ k) next c.loop-left.invariant.small) in
    record {
      below = omega arith;
      above = some_left (from - 1) (left / 16) small c.if-left-eq0.false;
      long = length-set c.loop-left.text (from - 1) c.hex_digit.result ∙ c.loop-left.invariant.long;
      small = small;
      digits = next_digit from (from - 1) left c.hex_digit.result c.args.size c.loop-left.text next within c.hex_digit.ensures
          c.loop-left.invariant.digits c.if-left-eq0.false;
    }
