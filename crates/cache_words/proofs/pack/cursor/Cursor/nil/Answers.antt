use Rattle.cache_words.specs.Pack.{IsNil}
use Rattle.cache_words.specs.Reading.{nil_at}
use Rattle.cache_words.proofs.ValueLaws.{nil_skips}
use Rattle.cache_words.proofs.CursorLaws.{passed}
use Rattle.cache_words.proofs.pack.cursor.Cursor.nil.Goals as goal

pub returns : goal.returns
returns c =
    passed (λ y. y.now) nil_at IsNil nil_skips c.args.self.now.rest.now _ _
    c.nil.result c.pass.result c.checked.ensures.same c.checked.ensures.fits c.nil.ensures c.pass.ensures
