use Rattle.std.proofs.Common.{◌≡◌, ◌∙◌, ◌≤◌, ◌<◌, ℕ, suc, ◌+◌, ◌-◌, length, take, drop, ap, sym, arith, rules}
use Rattle.std.proofs.lemmas.List.{take_rest}
use Rattle.curve_words.specs.Columns.{part_at}
use Rattle.curve_words.proofs.ColumnLaws.{part-more}
use Rattle.curve_words.proofs.columns.part_at.Goals as goal

pub loop-preserved : goal.loop-preserved
loop-preserved c =
    let i = c.loop.invariant in
    let k = c.part_len-len.result in
    let rest = c.loop.rest.now in
    let m = c.args.n - (c.loop.counter + 1) in
    let more : c.args.n - c.loop.counter ≡ suc m = omega (arith, c.loop-test.true) in
    let below : k < length rest = search rules in
    let cut = take_rest rest (k + 1) in
    let shorter : length (drop (k + 1) rest) ≤ length rest = search rules in (
      search rules,
      sym (ap (λ (x : ℕ). part_at c.args.delimiter x rest) more ∙ part-more c.args.delimiter m k rest (take (length rest - (k + 1)) (drop (k + 1) rest)) c.part_len-len.ensures.len below cut) ∙ i.1,
    )
