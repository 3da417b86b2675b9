use Rattle.std.proofs.Common.{rules}
use Rattle.cache_words.specs.Pack.{SpellsMoment}
use Rattle.cache_words.specs.Reading.{moment_at}
use Rattle.cache_words.proofs.CursorLaws.{taken_ok, taken_err}
use Rattle.cache_words.proofs.ValueLaws.{moment_agrees}
use Rattle.cache_words.proofs.pack.cursor.Cursor.moment.Goals as goal

pub returns-in-Ok : goal.returns-in-Ok
returns-in-Ok c =
    let t = taken_ok (λ m. m) moment_at SpellsMoment moment_agrees c.checked.result.now c.in-Ok.rest.now c.in-Ok.moment c.checked.ensures.fits c.in-Ok.ensures in
    rw (← c.checked.ensures.same) (search rules)

pub returns-in-Err : goal.returns-in-Err
returns-in-Err c = rw (← c.checked.ensures.same) (taken_err (λ m. m) moment_at SpellsMoment moment_agrees c.checked.result.now _ c.in-Err.ensures)
