use Rattle.std.proofs.Common.{◌≡◌, ℕ, ◌+◌, ◌-◌, ◌<◌, ◌==◌, true, false, take, length, reverse, get_or, sym, ap, ◌∙◌, arith}
use Rattle.std.proofs.lemmas.Grind.{common_steps}
use Rattle.std.proofs.lemmas.Bool.Decides.{nat_tests}
use Rattle.http1_message_parts.specs.End.{ends_head}
use Rattle.http1_message_parts.proofs.Ends.{end_at, passes_all, nothing_left, ends_here, goes_on}
use Rattle.http1_message_parts.proofs.end.head_end.Goals as goal

pub loop-n-preserved : goal.loop-n-preserved
loop-n-preserved c =
    let bytes = c.args.bytes.now in
    let at = c.loop-n.at in
    let n = c.in-Some.n in
    let low = c.in-Some.ensures.0 in
    let high = low.high in
    let fits : at + n < length bytes = grind (arith, common_steps) in
    let line = c.in-Some.ensures.1 in
    let same : (get_or bytes (at + n) 0 == 10) ≡ true = grind (arith, common_steps) in
    let ends : ends_head (reverse (take (at + n) bytes)) ≡ false = sym c.ends_head.ensures ∙ c.if-ends_head.false in
    let differ : (j : ℕ) → j < n → (get_or bytes (at + j) 0 == 10) ≡ false = (λ j lt. let none = low.before j (omega arith) lt in grind (arith, common_steps, nat_tests)) in
    (omega arith, sym (goes_on bytes (at + n) fits same ends) ∙ sym (passes_all bytes at n (omega arith) differ) ∙ c.loop-n.invariant.1)

pub returns-then-ends_head-clause-is : goal.returns-then-ends_head-clause-is
returns-then-ends_head-clause-is c =
    let bytes = c.args.bytes.now in
    let at = c.loop-n.at in
    let n = c.in-Some.n in
    let low = c.in-Some.ensures.0 in
    let high = low.high in
    let fits : at + n < length bytes = grind (arith, common_steps) in
    let line = c.in-Some.ensures.1 in
    let same : (get_or bytes (at + n) 0 == 10) ≡ true = grind (arith, common_steps) in
    let ends : ends_head (reverse (take (at + n) bytes)) ≡ true = sym c.ends_head.ensures ∙ c.if-ends_head.true in
    let differ : (j : ℕ) → j < n → (get_or bytes (at + j) 0 == 10) ≡ false = (λ j lt. let none = low.before j (omega arith) lt in grind (arith, common_steps, nat_tests)) in
    sym (ends_here bytes (at + n) fits same ends) ∙ sym (passes_all bytes at n (omega arith) differ) ∙ c.loop-n.invariant.1

pub returns-clause-is : goal.returns-clause-is
returns-clause-is c =
    let bytes = c.args.bytes.now in
    let at = c.loop-n.at in
    let within = c.loop-n.invariant.0 in
    let rest = length bytes - at in
    let whole : length bytes ≡ at + rest = omega arith in
    let differ : (j : ℕ) → j < rest → (get_or bytes (at + j) 0 == 10) ≡ false = (λ j lt. let none = c.in_default.ensures j (omega arith) (grind (arith, common_steps)) in grind (arith, common_steps, nat_tests)) in
    sym (nothing_left bytes) ∙ ap (end_at bytes) whole ∙ sym (passes_all bytes at rest (omega arith) differ) ∙ c.loop-n.invariant.1
