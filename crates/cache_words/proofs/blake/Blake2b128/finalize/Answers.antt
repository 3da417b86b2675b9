use Rattle.std.proofs.Common.{◌∙◌, arith, refl}
use Rattle.cache_words.proofs.Absorbing.{final_is, digest_is, held}
use Rattle.cache_words.proofs.blake.Blake2b128.finalize.Goals as goal

pub returns : goal.returns
returns c = λ m before.
    let a = held _ _ m c.self.view_is before in
    c.front.ensures
    ∙ digest_is m c.compress.new.h
    (final_is c.self.inside.h c.self.inside.buffer m _ c.compress.new.h c.self.inside.used _ c.self.inside.done _ a (omega arith) (omega arith) refl (c.fill.ensures.after (λ y e. e)) refl c.compress.ensures)
