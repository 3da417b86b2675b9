use Rattle.std.proofs.Common.{◌∙◌, Ok, arith, ap, take, List, ℕ}
use Rattle.std.proofs.lemmas.Result.{err_from_is_err_and}
use Rattle.std.proofs.lemmas.List.{take_more_set, take_all, length-set}
use Rattle.cache_words.specs.Reading.{below_at, each_at}
use Rattle.cache_words.proofs.ListLoop.{goes_on, ends, is_done}
use Rattle.cache_words.proofs.pack.reading.sixteen.Goals as goal

pub returns-in_err-number : goal.returns-in_err-number
returns-in_err-number c =
    let p = err_from_is_err_and c.from_residual.result c.from_residual.ensures.1 in
    rw (p.1, p.2) (ends (below_at 256) c.in_err-number.field-0.0 (take c.each.i c.each.hash) 16 c.each.i c.each.rest.now (each_at 16 c.args.bytes.now) c.each-test.true c.in_err-number.ensures.gives c.each.invariant.1)

pub each-preserved : goal.each-preserved
each-preserved c =
    let fits = c.each.invariant.0 in
    let here = c.each-test.true in (
      length-set _ _ _ ∙ c.each.invariant.0,
      rw (take_more_set c.each.hash c.each.i c.in_ok-number.number (omega arith))
          (goes_on (below_at 256) (take c.each.i c.each.hash) 16 c.each.i c.each.rest.now c.in_ok-number.number c.in_ok-number.after.now (each_at 16 c.args.bytes.now) c.each-test.true c.in_ok-number.ensures.gives c.each.invariant.1),
    )

pub returns : goal.returns
returns c =
    is_done (below_at 256) (take c.each.i c.each.hash) 16 c.each.i c.each.rest.now (each_at 16 c.args.bytes.now) c.each-test.false c.each.invariant.1
    ∙ ap (λ (h : List ℕ). Ok (h, c.each.rest.now)) (take_all c.each.i c.each.hash (omega arith))
