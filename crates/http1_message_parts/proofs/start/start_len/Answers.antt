use Rattle.std.proofs.Common.{◌≡◌, ℕ, ◌+◌, ◌-◌, ◌<◌, ◌==◌, drop, length, get_or, false, true, sym, ap, ◌∙◌, arith}
use Rattle.std.proofs.lemmas.Grind.{common_steps}
use Rattle.std.proofs.lemmas.Bool.Decides.{nat_tests}
use Rattle.http1_message_parts.specs.Start.{begins_lf, start_len}
use Rattle.http1_message_parts.proofs.Bare.{starts_all, starts_here, starts_later, nothing_starts, rest_there}
use Rattle.http1_message_parts.proofs.start.start_len.Goals as goal

pub loop-n-preserved : goal.loop-n-preserved
loop-n-preserved c =
    let text = c.args.text.now in
    let at = c.loop-n.at in
    let n = c.in-Some.n in
    let low = c.in-Some.ensures.0 in
    let high = low.high in
    let fits : at + n < length text = grind (arith, common_steps) in
    let byte = c.in-Some.ensures.1 in
    let same : (get_or text (at + n) 0 == 13) ≡ true = grind (arith, common_steps) in
    let differ : (j : ℕ) → j < n → (get_or text (at + j) 0 == 13) ≡ false = (λ j lt. let none = low.before j (omega arith) lt in grind (arith, common_steps, nat_tests)) in
    let lf : begins_lf (drop (at + n + 1) text) ≡ false = ap begins_lf (rest_there text (at + n + 1) (omega arith)) ∙ sym c.begins_lf.ensures ∙ c.if-begins_lf.false in
    (omega arith, sym (starts_later text (at + n) fits same lf) ∙ sym (starts_all text at n (omega arith) differ) ∙ c.loop-n.invariant.1)

pub returns-then-begins_lf-clause-is : goal.returns-then-begins_lf-clause-is
returns-then-begins_lf-clause-is c =
    let text = c.args.text.now in
    let at = c.loop-n.at in
    let n = c.in-Some.n in
    let low = c.in-Some.ensures.0 in
    let high = low.high in
    let fits : at + n < length text = grind (arith, common_steps) in
    let byte = c.in-Some.ensures.1 in
    let same : (get_or text (at + n) 0 == 13) ≡ true = grind (arith, common_steps) in
    let differ : (j : ℕ) → j < n → (get_or text (at + j) 0 == 13) ≡ false = (λ j lt. let none = low.before j (omega arith) lt in grind (arith, common_steps, nat_tests)) in
    let lf : begins_lf (drop (at + n + 1) text) ≡ true = ap begins_lf (rest_there text (at + n + 1) (omega arith)) ∙ sym c.begins_lf.ensures ∙ c.if-begins_lf.true in
    sym (starts_here text (at + n) fits same lf) ∙ sym (starts_all text at n (omega arith) differ) ∙ c.loop-n.invariant.1

pub returns-clause-is : goal.returns-clause-is
returns-clause-is c =
    let text = c.args.text.now in
    let at = c.loop-n.at in
    let within = c.loop-n.invariant.0 in
    let rest = length text - at in
    let whole : at + rest ≡ length text = omega arith in
    let differ : (j : ℕ) → j < rest → (get_or text (at + j) 0 == 13) ≡ false = (λ j lt. let none = c.in_default.ensures j (omega arith) (grind (arith, common_steps)) in grind (arith, common_steps, nat_tests)) in
    let all = starts_all text at rest (omega arith) differ in
    let none : start_len (drop (at + rest) text) ≡ 0 = ap (λ n. start_len (drop n text)) whole ∙ nothing_starts text in
    omega (arith, all, none, c.loop-n.invariant.1)
