use Rattle.cache_evict.proofs.FaultLaws.{ok_means}
use Rattle.cache_evict.proofs.RefusalLaws.{err_then}
use Rattle.cache_evict.proofs.simple_lru.OneListEvictionManager.evict.Goals as goal

pub returns-clause-ok : goal.returns-clause-ok
returns-clause-ok g c =
    rw (← c.self.view_is) (ok_means c.evict_in_order.result _ _ (λ v p. p (g.R.Rng.stream c.args._rng.now)) c.evict_in_order.ensures.gone)

pub returns-clause-refused : goal.returns-clause-refused
returns-clause-refused g c =
    rw (← c.self.view_is) (err_then c.evict_in_order.result _ _ (λ f p. p (g.R.Rng.stream c.args._rng.now)) c.evict_in_order.ensures.refused)
