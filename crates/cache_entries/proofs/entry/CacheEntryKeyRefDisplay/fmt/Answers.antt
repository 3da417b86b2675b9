use Rattle.cache_entries.proofs.entry.CacheEntryKeyRefDisplay.fmt.Goals as goal

pub returns-in-Identified-clause-writes : goal.returns-in-Identified-clause-writes
returns-in-Identified-clause-writes g c = rw (c.in-Identified.is, ← c.get-id.ensures) (rw c.in_radix.ensures at c.write.ensures.writes)
