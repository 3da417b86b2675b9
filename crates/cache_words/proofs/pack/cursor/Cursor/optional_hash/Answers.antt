use Rattle.cache_words.specs.Pack.{SpellsOptionalHash}
use Rattle.cache_words.specs.Reading.{optional_hash_at}
use Rattle.cache_words.proofs.ValueLaws.{optional_hash_agrees}
use Rattle.cache_words.proofs.CursorLaws.{advanced}
use Rattle.cache_words.proofs.pack.cursor.Cursor.optional_hash.Goals as goal

pub returns : goal.returns
returns c =
    advanced (λ x. x) (λ y. y.now) optional_hash_at SpellsOptionalHash optional_hash_agrees c.args.self.now.rest.now _ _
    c.optional_hash.result c.advance.result c.checked.ensures.same c.checked.ensures.fits c.optional_hash.ensures c.advance.ensures
