use Rattle.cache_words.specs.Pack.{SpellsKey}
use Rattle.cache_words.specs.Reading.{key_at}
use Rattle.cache_words.specs.BorrowedKey.{borrowed_view}
use Rattle.cache_words.proofs.ValueLaws.{key_agrees}
use Rattle.cache_words.proofs.CursorLaws.{advanced}
use Rattle.cache_words.proofs.pack.cursor.Cursor.key.Goals as goal

pub returns : goal.returns
returns c =
    advanced borrowed_view (λ y. y.now) key_at SpellsKey key_agrees c.args.self.now.rest.now _ _
    c.key.result c.advance.result c.checked.ensures.same c.checked.ensures.fits c.key.ensures c.advance.ensures
