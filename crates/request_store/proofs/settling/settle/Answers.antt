use Rattle.request_store.proofs.settling.settle.Goals as goal

pub returns-in-Err-clause-settled : goal.returns-in-Err-clause-settled
returns-in-Err-clause-settled g c = record {
  cause = c.in-Err.fault;
  left = g.E.EvictionManager.managed c.evict.new.self;
  purged = c.take_back.ensures.store.0;
  stops = (c.in-Err.ensures.refused, c.requires);
  purges = c.take_back.ensures.store.1;
  removes = c.take_back.ensures.store.2;
  managed = c.take_back.ensures.managed;
  told = c.told.ensures;
}
