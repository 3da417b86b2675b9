use Rattle.cache_words.specs.Forms.{Stands, arrays}
use Rattle.cache_words.specs.Reading.{number_at}
use Rattle.cache_words.proofs.FormLaws.{number_agrees, are_arrays}
use Rattle.cache_words.proofs.CursorLaws.{advanced}
use Rattle.cache_words.proofs.pack.cursor.Cursor.array.Goals as goal

pub returns : goal.returns
returns c =
    advanced (λ x. x) (λ y. y.now) (number_at arrays) (Stands arrays) (number_agrees arrays are_arrays) c.args.self.now.rest.now _ _
    c.array.result c.advance.result c.checked.ensures.same c.checked.ensures.fits c.array.ensures c.advance.ensures
