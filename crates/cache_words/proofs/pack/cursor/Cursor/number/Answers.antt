use Rattle.cache_words.specs.Forms.{Stands, numbers}
use Rattle.cache_words.specs.Reading.{number_at}
use Rattle.cache_words.proofs.FormLaws.{number_agrees, are_numbers}
use Rattle.cache_words.proofs.CursorLaws.{advanced}
use Rattle.cache_words.proofs.pack.cursor.Cursor.number.Goals as goal

pub returns : goal.returns
returns c =
    advanced (λ x. x) (λ y. y.now) (number_at numbers) (Stands numbers) (number_agrees numbers are_numbers) c.args.self.now.rest.now _ _
    c.number.result c.advance.result c.checked.ensures.same c.checked.ensures.fits c.number.ensures c.advance.ensures
