use Rattle.std.proofs.Common.{◌∙◌, sym, ap, ◌++◌, ◌∷◌, [], List}
use Rattle.cache_entries.specs.declared.entry.CacheEntryKey.{CacheEntryKey}
use Rattle.cache_evict.proofs.OneLaws.{evicts_last}
use Rattle.cache_evict.proofs.tracker.Tracker.evict_in_order.Goals as goal

pub unwrap-requires : goal.unwrap-requires
unwrap-requires g c = c.evict_step.ensures.there (sym c.is_over.ensures ∙ c.steps-test.true)

pub steps-preserved : goal.steps-preserved
steps-preserved g c s =
    evicts_last g.row.N c.args.self.now c.steps.self c.evict_step.new.self c.steps.gone.items c.push_reserved.new.self.items c.unwrap.result s c.evict_step.result
    c.requires (c.steps.invariant s) c.evict_step.ensures.some c.unwrap.ensures
    (c.push_reserved.ensures.items ∙ ap (λ (l : List CacheEntryKey). l ++ c.unwrap.result ∷ []) c.has_room.ensures.same)

pub push_reserved-requires : goal.push_reserved-requires
push_reserved-requires g c = c.has_room.ensures.room c.if-not-has_room.false
