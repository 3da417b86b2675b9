use Rattle.std.proofs.Common.{◌∙◌, length, refl}
use Rattle.cache_words.proofs.Absorbing.{digest_is, only_block}
use Rattle.cache_words.proofs.blake.digest_of_block.Goals as goal

pub returns : goal.returns
returns c =
    c.front.ensures
    ∙ digest_is c.args.input.now c.compress_last-h.result
    (only_block c.args.input.now c.copy_from_slice.new.self c.compress_last-h.result (length c.args.input.now) c.requires c.copy_from_slice.ensures.after refl (rw c.initial.ensures at c.compress_last-h.ensures))
