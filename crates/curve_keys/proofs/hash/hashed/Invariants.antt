use Rattle.std.proofs.Common.{◌≡◌, drop}
use Rattle.curve_keys.specs.Parts.{hashed}
use Rattle.curve_keys.proofs.hash.hashed.Given as goal

abbrev pub invariant-loop-byte : goal.invariant-loop-byte
invariant-loop-byte l = hashed l.hash (drop l.byte-index l.key) ≡ hashed 14695981039346656037 l.key
