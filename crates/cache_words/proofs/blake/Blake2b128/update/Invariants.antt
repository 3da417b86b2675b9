use Rattle.std.proofs.Common.{ℕ, List, ◌++◌, ◌+◌, ◌*◌, ◌<◌, length, take}
use Rattle.cache_words.specs.Hasher.{Holds}
use Rattle.cache_words.proofs.Absorbing.{IsAtEdge}
use Rattle.cache_words.proofs.blake.Blake2b128.update.Given as goal

abbrev pub invariant-blocks-2 : goal.invariant-blocks-2
invariant-blocks-2 l =
    (l.room + 128 * l.i < length l.input)
    × ((m : List ℕ) → Holds l.fn.self m → IsAtEdge l.self-inside.h l.done (m ++ take (l.room + 128 * l.i) l.input))
