-- The words that a seed gives.
use Rattle.std.specs.Prelude.{ℕ}
use Rattle.rand_core.specs.Stream.{Stream}
use Rattle.rand_core.specs.Steps.{stream_of, steps_u64_low}
use Rattle.rand_core.specs.Pcg32Seed.{pcg32_seed}
use Rattle.rand_pcg.specs.Lcg.{Lcg}
use Rattle.rand_pcg.specs.Pcg.{pcg64, pcg64_of_seed}

-- the words of a generator from its state on
abbrev pub pcg_words : Lcg → Stream
pcg_words state = stream_of (steps_u64_low pcg64) state

-- the words of PCG64 from that seed on
abbrev pub words_of : ℕ → Stream
words_of seed = pcg_words (pcg64_of_seed (pcg32_seed 32 seed))
