use Rattle.cache_store.specs.Answers.{streamed}
use Rattle.store_memory.specs.Kept.{stored_flight}
use Rattle.store_memory.proofs.OwnLaws.{reader-nowhere, reader-refused, reader-joined}
use Rattle.store_memory.proofs.cache.MemCache.read_write.Goals as goal

pub returns-in-None : goal.returns-in-None
returns-in-None g c = reader-nowhere c.args.number (streamed c.args.key.now c.args.number c.args.self.now.store) c.args.self.now c.in-None.ensures

pub returns-in-Err : goal.returns-in-Err
returns-in-Err g c =
    reader-refused c.args.number (stored_flight (c.args.number, c.in-Some._flight.now)) (streamed c.args.key.now c.args.number c.args.self.now.store) c.args.self.now c.attach.new.self c.in-Err.fault
    c.in-Some.ensures c.in-Err.ensures.fault c.in-Err.ensures.err

pub returns : goal.returns
returns g c =
    reader-joined c.args.number (stored_flight (c.args.number, c.in-Some._flight.now)) (streamed c.args.key.now c.args.number c.args.self.now.store) c.args.self.now c.attach.new.self c.new.result
    c.in-Some.ensures c.new.ensures c.in_default.ensures.ok
