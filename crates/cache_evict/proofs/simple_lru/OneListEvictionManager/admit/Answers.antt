use Rattle.std.proofs.Common.{◌≡◌, subst}
use Rattle.cache_evict.specs.Managed.{Managed, Evicts, pick_first, put_first}
use Rattle.cache_evict.proofs.FaultLaws.{stops_at_once, stops_later, ok_means, fits_then}
use Rattle.cache_evict.proofs.RefusalLaws.{err_then}
use Rattle.cache_evict.proofs.simple_lru.OneListEvictionManager.admit.Goals as goal

pub returns-clause-ok : goal.returns-clause-ok
returns-clause-ok g c =
    let s = g.R.Rng.stream c.args._rng.now in
    let same : c.admit.new.self ≡ put_first g.row.N c.args.item c.args.size c.args.self.now = rw (← c.self.view_is) c.in_default.ensures.ok in
    ok_means c.evict_in_order.result _ _ (λ v p. subst (λ (m : Managed). Evicts pick_first m v.items s c.evict_in_order.new.self s) same (p s)) c.evict_in_order.ensures.gone

pub returns-clause-fits : goal.returns-clause-fits
returns-clause-fits g c =
    let same : c.admit.new.self ≡ put_first g.row.N c.args.item c.args.size c.args.self.now = rw (← c.self.view_is) c.in_default.ensures.ok in
    fits_then c.evict_in_order.result g.row.N (put_first g.row.N c.args.item c.args.size c.args.self.now) c.admit.new.self same c.shards_are_within.ensures

pub returns-clause-refused : goal.returns-clause-refused
returns-clause-refused g c =
    let s = g.R.Rng.stream c.args._rng.now in
    let same : c.admit.new.self ≡ put_first g.row.N c.args.item c.args.size c.args.self.now = rw (← c.self.view_is) c.in_default.ensures.ok in
    stops_later pick_first g.row.N c.args.item c.args.size c.args.self.now c.admit.new.self c.evict_in_order.new.self s s c.evict_in_order.result same c.shards_are_within.ensures
    (err_then c.evict_in_order.result _ _ (λ f p. p s) c.evict_in_order.ensures.refused)

pub returns-in-Err-clause-refused : goal.returns-in-Err-clause-refused
returns-in-Err-clause-refused g c =
    stops_at_once pick_first g.row.N c.args.item c.args.size c.args.self.now c.admit.new.self (g.R.Rng.stream c.args._rng.now) c.of.result c.in-Err.refusal
    c.of.ensures.why c.of.ensures.none (rw (← c.self.view_is) c.in-Err.ensures.why) (rw (← c.self.view_is) c.in-Err.ensures.err)
