use Rattle.std.proofs.Common.{◌==◌, ◌+◌, ◌-◌, ◌∷◌, take, drop, length, sym, ap, ◌∙◌, arith}
use Rattle.std.proofs.lemmas.Grind.{common_steps}
use Rattle.std.specs.List.{slice_split}
use Rattle.std.proofs.lemmas.Bool.Decides.{nat_tests}
use Rattle.std.proofs.lemmas.List.Sums.{position_or_len_is}
use Rattle.std.proofs.lemmas.List.Splits.{slice_split_first, slice_split_none}
use Rattle.std.proofs.lemmas.List.{take_all}
use Rattle.http1_message_parts.proofs.scan.cut_at.Goals as goal

pub returns-in-Some-clause-first : goal.returns-in-Some-clause-first
returns-in-Some-clause-first c =
    let t = c.args.text.now in
    let i = c.in-Some.i in
    let low = c.in-Some.ensures.0 in
    let high = low.high in
    let at = position_or_len_is (λ b. b == c.args.wanted) t i 0 (omega arith) (λ k lt. let none = low.before k (omega arith) lt in grind (arith, nat_tests)) (λ _. c.in-Some.ensures.1) in
    slice_split_first (λ b. b == c.args.wanted) t 0 (omega arith)
    ∙ ap (λ m. take m t ∷ slice_split (λ b. b == c.args.wanted) (drop (m + 1) t)) at
    ∙ ap (λ r. take i t ∷ slice_split (λ b. b == c.args.wanted) r) (sym (take_all (length t - (i + 1)) (drop (i + 1) t) (grind (arith, common_steps))))

pub returns-in-None-clause-first : goal.returns-in-None-clause-first
returns-in-None-clause-first c =
    slice_split_none (λ b. b == c.args.wanted) c.args.text.now (λ k d lt. let none = c.in-None.ensures k (omega arith) lt in grind (arith, nat_tests, common_steps))
