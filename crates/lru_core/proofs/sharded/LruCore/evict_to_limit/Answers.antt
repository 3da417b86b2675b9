use Rattle.std.proofs.Common.{rules, ◌∙◌, sym, ap, ◌++◌, ◌∷◌, []}
use Rattle.lru_core.proofs.Evictions.{step_gives, evicts_more}
use Rattle.lru_core.proofs.sharded.LruCore.evict_to_limit.Goals as goal

pub unwrap-requires : goal.unwrap-requires
unwrap-requires g c = step_gives c.evict_step.result c.steps.self _ c.evict_step.ensures.none (sym c.is_over.ensures ∙ c.steps-test.true)

pub steps-preserved : goal.steps-preserved
steps-preserved g c =
    evicts_more g.row.N c.args.self.now c.steps.self c.evict_step.new.self c.steps.pairs.items c.push_reserved.new.self.items c.unwrap.result _ _ _ _ c.next_u64-a.result c.next_u64-b.result c.evict_step.result
    c.steps.invariant c.next_u64-a.ensures c.next_u64-b.ensures c.evict_step.ensures.some c.unwrap.ensures
    (c.push_reserved.ensures.items ∙ ap (λ l. l ++ c.unwrap.result ∷ []) c.reserve.ensures.items)

pub returns-then-is_err-clause-more : goal.returns-then-is_err-clause-more
returns-then-is_err-clause-more g c = search rules

pub returns-clause-within : goal.returns-clause-within
returns-clause-within g c = search rules
