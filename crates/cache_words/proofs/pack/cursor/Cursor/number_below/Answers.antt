use Rattle.cache_words.specs.Forms.{StandsBelow}
use Rattle.cache_words.specs.Reading.{below_at}
use Rattle.cache_words.proofs.ValueLaws.{below_agrees}
use Rattle.cache_words.proofs.CursorLaws.{advanced}
use Rattle.cache_words.proofs.pack.cursor.Cursor.number_below.Goals as goal

pub returns : goal.returns
returns c =
    advanced (λ x. x) (λ y. y.now) (below_at c.args.limit) (StandsBelow c.args.limit) (below_agrees c.args.limit) c.args.self.now.rest.now _ _
    c.number_below.result c.advance.result c.checked.ensures.same c.checked.ensures.fits c.number_below.ensures.gives c.advance.ensures
