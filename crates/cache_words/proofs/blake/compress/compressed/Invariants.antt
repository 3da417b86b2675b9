use Rattle.std.proofs.Common.{◌≡◌, ℕ, ◌*◌, ◌<◌, length, slice_index}
use Rattle.cache_words.specs.Blake.{word_at}
use Rattle.cache_words.proofs.blake.compress.compressed.Given as goal

abbrev pub invariant-load : goal.invariant-load
invariant-load l = (length l.m ≡ 16) × ((k : ℕ) → k < l.i → slice_index l.m k ≡ word_at l.block (8 * k))
