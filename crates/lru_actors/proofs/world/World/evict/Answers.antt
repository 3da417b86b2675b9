use Rattle.std.proofs.Common.{rules, ◌≡◌, true, ap, refl, ◌∙◌, ◌++◌, ◌∷◌, []}
use Rattle.lru_core.specs.Cores.{is_over}
use Rattle.lru_core.proofs.Evictions.{step_gives}
use Rattle.lru_actors.proofs.world.World.evict.Goals as goal

pub unwrap-pair-requires : goal.unwrap-pair-requires
unwrap-pair-requires g c =
    let over : is_over c.self.inside.core ≡ true = search rules in
    step_gives c.evict_step.result c.self.inside.core _ c.evict_step.ensures.none over

pub returns-clause-some : goal.returns-clause-some
returns-clause-some g c =
    rw (← c.self.view_is) (λ e. (
      c.unwrap-pair.result,
      rw c.unwrap-pair.ensures at c.evict_step.ensures.some,
      c.push_back_reserved.ensures.items ∙ ap (λ l. l ++ c.unwrap-pair.result ∷ []) c.reserve.ensures.items,
      refl,
    ))
