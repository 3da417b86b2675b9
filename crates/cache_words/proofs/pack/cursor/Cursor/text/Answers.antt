use Rattle.cache_words.specs.Pack.{SpellsText}
use Rattle.cache_words.specs.Reading.{text_at}
use Rattle.cache_words.proofs.ValueLaws.{text_agrees}
use Rattle.cache_words.proofs.CursorLaws.{advanced}
use Rattle.cache_words.proofs.pack.cursor.Cursor.text.Goals as goal

pub returns : goal.returns
returns c =
    advanced (λ s. s.now) (λ y. y.now) text_at SpellsText text_agrees c.args.self.now.rest.now _ _
    c.text.result c.advance.result c.checked.ensures.same c.checked.ensures.fits c.text.ensures c.advance.ensures
