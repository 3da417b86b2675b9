use Rattle.std.proofs.Common.{rules, ◌∙◌, inr, sym, ap, length}
use Rattle.lru_core.specs.Cores.{rows_at}
use Rattle.lru_core.proofs.Circles.{all_empty}
use Rattle.lru_core.proofs.Evictions.{none_weaker}
use Rattle.lru_core.proofs.sharded.LruCore.evict_step.Goals as goal

pub returns-clause-none : goal.returns-clause-none
returns-clause-none g c =
    none_weaker c.evict_at.result _ _ c.evict_at.ensures.none
    (λ p. (
      p.1,
      inr (all_empty g.row.N c.longer_of_two-from.result c.args.self.now.shards c.longer_of_two-from.ensures.lists c.longer_of_two-from.ensures.within
          (ap (λ i. length (rows_at c.args.self.now.shards i)) (sym c.first_nonempty_from-place.ensures.value) ∙ ap length p.0)),
    ))

pub returns-clause-some : goal.returns-clause-some
returns-clause-some g c = search rules
