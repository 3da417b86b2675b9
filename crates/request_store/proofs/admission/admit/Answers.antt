use Rattle.request_store.proofs.admission.admit.Goals as goal

pub returns-in-Err-clause-admitted : goal.returns-in-Err-clause-admitted
returns-in-Err-clause-admitted g c = record {
  cause = c.in-Err.fault;
  left = g.E.EvictionManager.managed c.follow.new.manager;
  purged = c.take_back.ensures.store.0;
  stops = c.in-Err.ensures.refused;
  purges = c.take_back.ensures.store.1;
  removes = rw c.requires at c.take_back.ensures.store.2;
  managed = rw c.requires at c.take_back.ensures.managed;
  told = rw (c.was_admitted-admitted.ensures, c.requires) at c.told.ensures;
}
