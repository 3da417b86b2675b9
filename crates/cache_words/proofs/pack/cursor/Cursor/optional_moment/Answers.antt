use Rattle.cache_words.specs.Pack.{SpellsOptionalMoment}
use Rattle.cache_words.specs.Reading.{optional_moment_at}
use Rattle.cache_words.proofs.CursorLaws.{taken_ok, taken_err}
use Rattle.cache_words.proofs.ValueLaws.{optional_moment_agrees}
use Rattle.cache_words.proofs.pack.cursor.Cursor.optional_moment.Goals as goal

pub returns-in-Ok : goal.returns-in-Ok
returns-in-Ok c =
    rw (← c.checked.ensures.same) (taken_ok (λ m. m) optional_moment_at SpellsOptionalMoment optional_moment_agrees c.checked.result.now _ _ c.checked.ensures.fits c.in-Ok.ensures)

pub returns-in-Err : goal.returns-in-Err
returns-in-Err c = rw (← c.checked.ensures.same) (taken_err (λ m. m) optional_moment_at SpellsOptionalMoment optional_moment_agrees c.checked.result.now _ c.in-Err.ensures)
