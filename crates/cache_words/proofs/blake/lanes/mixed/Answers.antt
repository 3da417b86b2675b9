use Rattle.std.proofs.Common.{◌∙◌, ap, List, ℕ, slice_index}
use Rattle.cache_words.specs.Blake.{mixed, half}
use Rattle.cache_words.proofs.blake.lanes.mixed.Goals as goal

pub returns : goal.returns
unfolding mixed
returns c j h =
    c.half-2.ensures j h ∙ ap (λ (q : List ℕ). half q (slice_index c.args.y j) 16 63) (c.half.ensures j h)
