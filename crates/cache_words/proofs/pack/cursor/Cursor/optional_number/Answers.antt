use Rattle.cache_words.specs.Forms.{Stands, numbers}
use Rattle.cache_words.specs.Pack.{SpellOptional}
use Rattle.cache_words.specs.Reading.{number_at, optional_at}
use Rattle.cache_words.proofs.ValueLaws.{optional_number_agrees}
use Rattle.cache_words.proofs.CursorLaws.{advanced}
use Rattle.cache_words.proofs.pack.cursor.Cursor.optional_number.Goals as goal

pub returns : goal.returns
returns c =
    advanced (λ x. x) (λ y. y.now) (optional_at (number_at numbers)) (SpellOptional (Stands numbers)) optional_number_agrees c.args.self.now.rest.now _ _
    c.optional_number.result c.advance.result c.checked.ensures.same c.checked.ensures.fits c.optional_number.ensures c.advance.ensures
