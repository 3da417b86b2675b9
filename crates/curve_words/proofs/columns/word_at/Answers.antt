use Rattle.std.proofs.Common.{◌≡◌, ◌∙◌, ◌<◌, ℕ, suc, ◌+◌, ◌-◌, length, ap, sym, arith, rules}
use Rattle.curve_words.specs.Columns.{word_at}
use Rattle.curve_words.proofs.ColumnLaws.{word-more}
use Rattle.curve_words.proofs.columns.word_at.Goals as goal

pub loop-preserved : goal.loop-preserved
loop-preserved c =
    let rest = c.loop.rest.now in
    let m = c.args.n - (c.loop.counter + 1) in
    let more : c.args.n - c.loop.counter ≡ suc m = omega (arith, c.loop-test.true) in
    let some : 0 < length rest = search rules in
    sym (ap (λ (x : ℕ). word_at x rest) more ∙ word-more m rest c.after_word-rest.result.now some c.after_word-rest.ensures) ∙ c.loop.invariant
