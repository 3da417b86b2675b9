use Rattle.std.proofs.Common.{◌≡◌, ◌++◌}
use Rattle.cache_store.specs.Readers.{ahead}
use Rattle.store_memory.specs.Readings.{reader_of}
use Rattle.example_requests.proofs.requests.read.Given as goal

-- what was read, and then what is still ahead, was ahead
abbrev pub invariant-loop : goal.invariant-loop
invariant-loop l =
    (l.cache.store ≡ l.fn.cache.store) ×
    ((ahead (reader_of l.initial.reader) l.fn.cache.store).0 ≡ l.body.items ++ (ahead (reader_of l.reader) l.fn.cache.store).0)
