use Rattle.std.proofs.Common.{◌≡◌, ◌-◌, length, take}
use Rattle.cache_words.specs.Reading.{each_at}
use Rattle.cache_words.proofs.ListLoop.{with_front}
use Rattle.cache_words.proofs.pack.reading.sixteen.Given as goal

abbrev pub invariant-each : goal.invariant-each
invariant-each l = (length l.hash ≡ 16) × (with_front (take l.i l.hash) (each_at (16 - l.i) l.rest) ≡ each_at 16 l.bytes)
