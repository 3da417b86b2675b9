use Rattle.cache_words.specs.Pack.{SpellsBytes}
use Rattle.cache_words.specs.Reading.{bytes_at}
use Rattle.cache_words.proofs.ValueLaws.{bytes_agrees}
use Rattle.cache_words.proofs.CursorLaws.{advanced}
use Rattle.cache_words.proofs.pack.cursor.Cursor.byte_string.Goals as goal

pub returns : goal.returns
returns c =
    advanced (λ s. s.now) (λ y. y.now) bytes_at SpellsBytes bytes_agrees c.args.self.now.rest.now _ _
    c.byte_string.result c.advance.result c.checked.ensures.same c.checked.ensures.fits c.byte_string.ensures c.advance.ensures
