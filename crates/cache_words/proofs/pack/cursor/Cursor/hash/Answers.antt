use Rattle.cache_words.specs.Pack.{SpellsHash}
use Rattle.cache_words.specs.Reading.{hash_at}
use Rattle.cache_words.proofs.ValueLaws.{hash_agrees}
use Rattle.cache_words.proofs.CursorLaws.{advanced}
use Rattle.cache_words.proofs.pack.cursor.Cursor.hash.Goals as goal

pub returns : goal.returns
returns c =
    advanced (λ x. x) (λ y. y.now) hash_at SpellsHash hash_agrees c.args.self.now.rest.now _ _
    c.hash.result c.advance.result c.checked.ensures.same c.checked.ensures.fits c.hash.ensures c.advance.ensures
