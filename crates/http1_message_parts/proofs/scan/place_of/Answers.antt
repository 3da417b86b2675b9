use Rattle.std.proofs.Common.{◌==◌, length, sym, arith}
use Rattle.std.proofs.lemmas.Bool.Decides.{nat_tests}
use Rattle.std.proofs.lemmas.List.Sums.{position_or_len_is}
use Rattle.http1_message_parts.proofs.scan.place_of.Goals as goal

pub returns-in-Some-clause-is : goal.returns-in-Some-clause-is
returns-in-Some-clause-is c =
    let low = c.in-Some.ensures.0 in
    sym (position_or_len_is (λ b. b == c.args.wanted) c.args.text.now c.in-Some.i 0 (omega arith) (λ k lt. let none = low.before k (omega arith) lt in grind (arith, nat_tests)) (λ _. c.in-Some.ensures.1))

pub returns-in-None-clause-is : goal.returns-in-None-clause-is
returns-in-None-clause-is c =
    sym (position_or_len_is (λ b. b == c.args.wanted) c.args.text.now (length c.args.text.now) 0 (omega arith) (λ k lt. let none = c.in-None.ensures k (omega arith) lt in grind (arith, nat_tests)) (λ lt. absurd (omega arith)))
