use Rattle.std.proofs.lemmas.Nat.{from_be_bytes-to_be_bytes_8}
use Rattle.store_memory.proofs.handlers.miss.MemMissHandlerHandleMissMemCache.streaming_write_tag.Goals as goal

pub returns-clause-named : goal.returns-clause-named
returns-clause-named g c = from_be_bytes-to_be_bytes_8 c.args.self.now (rw (← c.self.view_is) c.self.invariant.1)
