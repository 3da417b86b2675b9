use Rattle.std.proofs.Common.{◌^◌}
use Rattle.cache_words.specs.Items.{SpellsSeconds, seconds_at}
use Rattle.cache_words.proofs.ValueLaws.{below_agrees}
use Rattle.cache_words.proofs.CursorLaws.{advanced}
use Rattle.cache_words.proofs.pack.cursor.Cursor.seconds.Goals as goal

pub returns : goal.returns
returns c =
    advanced (λ x. x) (λ y. y.now) seconds_at SpellsSeconds (below_agrees (2 ^ 32)) c.args.self.now.rest.now _ _
    c.seconds.result c.advance.result c.checked.ensures.same c.checked.ensures.fits c.seconds.ensures c.advance.ensures
