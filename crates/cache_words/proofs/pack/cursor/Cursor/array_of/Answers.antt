use Rattle.cache_words.specs.Forms.{Stands, arrays}
use Rattle.cache_words.specs.Reading.{array_of_at}
use Rattle.cache_words.proofs.ValueLaws.{array_skips}
use Rattle.cache_words.proofs.CursorLaws.{passed}
use Rattle.cache_words.proofs.pack.cursor.Cursor.array_of.Goals as goal

pub returns : goal.returns
returns c =
    passed (λ y. y.now) (array_of_at c.args.count) (Stands arrays c.args.count) (array_skips c.args.count) c.args.self.now.rest.now _ _
    c.array_of.result c.pass.result c.checked.ensures.same c.checked.ensures.fits c.array_of.ensures c.pass.ensures
