use Rattle.std.proofs.Common.{◌≡◌, true, false, sym, ◌∙◌}
use Rattle.tier_single.proofs.tier.restarts.are_unused.Goals as goal

pub returns-then-not-are_zero : goal.returns-then-not-are_zero
returns-then-not-are_zero g c =
    ((λ t. let no : false ≡ true = t in absurd cc), (λ new. sym c.if-not-are_zero.true ∙ c.are_zero.ensures.1 (c.evicted_size-size.ensures ∙ new.evicted_size, c.evicted_items-items.ensures ∙ new.evicted_items)))
