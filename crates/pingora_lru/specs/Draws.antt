-- What a generator has left after the draws of evictions.
use Rattle.std.specs.Prelude.{◌≡◌, ℕ, zero, suc, ◌⊎◌}
use Rattle.rand_core.specs.Stream.{Stream, next_u64}

-- the stream after two words for each of n steps
abbrev pub after_steps : ℕ → Stream → Stream
after_steps zero s = s
after_steps (suc n) s = (next_u64 (next_u64 (after_steps n s)).1).1

-- two words were drawn for each of n pairs, and perhaps two for a last step that gave none
abbrev pub Draws : ℕ → Stream → Stream → Type 0
Draws n old new = (new ≡ after_steps n old) ⊎ (new ≡ after_steps (suc n) old)
