use Rattle.cache_words.specs.Items.{SpellsByte, byte_at}
use Rattle.cache_words.proofs.SequenceLaws.{byte_agrees}
use Rattle.cache_words.proofs.CursorLaws.{advanced}
use Rattle.cache_words.proofs.pack.cursor.Cursor.byte.Goals as goal

pub returns : goal.returns
returns c =
    advanced (λ x. x) (λ y. y.now) byte_at SpellsByte byte_agrees c.args.self.now.rest.now _ _
    c.byte.result c.advance.result c.checked.ensures.same c.checked.ensures.fits c.byte.ensures c.advance.ensures
