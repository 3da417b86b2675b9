use Rattle.std.proofs.Common.{◌∙◌, sym, ap, ◌++◌, ◌∷◌, [], List}
use Rattle.cache_entries.specs.declared.entry.CacheEntryKey.{CacheEntryKey}
use Rattle.cache_evict.proofs.GoneLaws.{evicts_drawn}
use Rattle.cache_evict.proofs.tracker.Tracker.evict_by_draws.Goals as goal

pub unwrap-requires : goal.unwrap-requires
unwrap-requires g c = c.evict_step.ensures.there (sym c.is_over.ensures ∙ c.steps-test.true)

pub steps-preserved : goal.steps-preserved
steps-preserved g c =
    evicts_drawn g.row.N c.args.self.now c.steps.self c.evict_step.new.self c.steps.gone.items c.push_reserved.new.self.items c.unwrap.result _ _ _ _ c.next_u64-a.result c.next_u64-b.result c.evict_step.result
    c.steps.invariant c.next_u64-a.ensures c.next_u64-b.ensures c.evict_step.ensures.some c.unwrap.ensures
    (c.push_reserved.ensures.items ∙ ap (λ (l : List CacheEntryKey). l ++ c.unwrap.result ∷ []) c.has_room.ensures.same)

pub push_reserved-requires : goal.push_reserved-requires
push_reserved-requires g c = c.has_room.ensures.room c.if-not-has_room.false
