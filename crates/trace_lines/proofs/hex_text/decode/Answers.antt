use Rattle.std.proofs.Common.{◌≡◌, ◌+◌, ◌-◌, ◌*◌, ◌%◌, ◌≤◌, ap, arith, length, subst, sym, ◌∙◌}
use Rattle.hex.specs.Hex.{hex_digit_value}
use Rattle.trace_lines.specs.Digits.{IsMarked, result_bytes}
use Rattle.trace_lines.proofs.HexLemmas.{SoFar, first_of_pair, second_of_pair, after_pair, so_far_more, so_far_all, hex_bytes_are}
use Rattle.trace_lines.proofs.hex_text.decode.Goals as goal

pub pairs-preserved : goal.pairs-preserved
pairs-preserved c =
    let s = c.args.text.now in
    let i = c.pairs.counter in
    let high = c.marked-high.result in
    let low = c.marked-low.result in
    let v = (high * 16 % 256 + (low + 16) % 256) % 256 in
    let spells : 240 ≤ high → 240 ≤ low → v ≡ (high - 240) * 16 + (low - 240) = λ h l. omega (arith, h, l) in
    let is_high = subst (λ d. IsMarked (hex_digit_value d) high) (first_of_pair s c.pairs.rest.now c.split_at.result.0.now i c.pairs.invariant.rest c.split_at.ensures.front) c.marked-high.ensures in
    let is_low = subst (λ d. IsMarked (hex_digit_value d) low) (second_of_pair s c.pairs.rest.now c.split_at.result.0.now i c.pairs.invariant.rest c.split_at.ensures.front) c.marked-low.ensures in
    record {
      rest = after_pair s c.pairs.rest.now c.split_at.result.1.now i c.pairs.invariant.rest c.split_at.ensures.back;
      room = omega (arith, c.pairs.invariant.room);
      so_far = subst (λ out. SoFar c.lower-lowest.result s out (i + 1)) (sym c.push_reserved.ensures.items)
          (so_far_more s c.pairs.bytes.items i c.pairs.lowest high low c.lower-lowest.result v (omega arith) is_high is_low
          (λ all. let both = c.lower-lowest.ensures.0 all in (both.0, c.lower.ensures.0 both.1), λ each. c.lower-lowest.ensures.1 (each.0, c.lower.ensures.1 each.1))
          spells c.pairs.invariant.so_far);
    }

pub returns-then-lowest-lt-MARK : goal.returns-then-lowest-lt-MARK
returns-then-lowest-lt-MARK c =
    let s = c.args.text.now in
    let even : length s % 2 ≡ 0 = omega (arith, ap length c.as_bytes-digits.ensures.value) in
    sym (hex_bytes_are s even ∙ c.pairs.invariant.so_far.1 (λ marked. absurd (omega (arith, marked, c.if-lowest-lt-MARK.true))))

pub returns : goal.returns
returns c =
    let s = c.args.text.now in
    let even : length s % 2 ≡ 0 = omega (arith, ap length c.as_bytes-digits.ensures.value) in
    let all : length s ≤ 2 * c.pairs.counter = omega (arith, ap length c.as_bytes-digits.ensures.value) in
    sym (hex_bytes_are s even ∙ ap result_bytes (so_far_all s c.pairs.bytes.items c.pairs.counter all (c.pairs.invariant.so_far.0 c.if-lowest-lt-MARK.false)))
