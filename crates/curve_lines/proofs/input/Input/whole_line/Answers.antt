use Rattle.std.proofs.Common.{◌≡◌, ◌-◌, arith, length, take, drop, subst, Some, None}
use Rattle.std.proofs.lemmas.List.{take_rest}
use Rattle.memchr.specs.Find.{IsFirstByte, is_byte}
use Rattle.curve_lines.proofs.InputLemmas.{line_found, no_line_found}
use Rattle.curve_lines.proofs.input.Input.whole_line.Goals as goal

pub returns-in_err-at-clause-no_line : goal.returns-in_err-at-clause-no_line
returns-in_err-at-clause-no_line c =
    let hay : take (length c.args.self.now - c.args.searched) (drop c.args.searched c.args.self.now) ≡ drop c.args.searched c.args.self.now = take_rest c.args.self.now c.args.searched in
    λ _. no_line_found c.args.self.now c.args.searched c.requires.within c.requires.none
    (subst (λ l. IsFirstByte (is_byte 10) l None) hay (rw c.bytes.ensures.value at c.in_err-at.ensures))

pub returns-clause-some : goal.returns-clause-some
returns-clause-some c =
    let hay : take (length c.args.self.now - c.args.searched) (drop c.args.searched c.args.self.now) ≡ drop c.args.searched c.args.self.now = take_rest c.args.self.now c.args.searched in (
      omega arith,
      line_found c.args.self.now c.args.searched c.in_ok-at.at c.requires.within c.requires.none
          (subst (λ l. IsFirstByte (is_byte 10) l (Some c.in_ok-at.at)) hay (rw c.bytes.ensures.value at c.in_ok-at.ensures)),
    )
