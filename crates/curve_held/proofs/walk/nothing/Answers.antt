use Rattle.std.proofs.Common.{◌∙◌, ap, ℕ, Option, List, ◌++◌, ◌∷◌, [], None}
use Rattle.std.proofs.lemmas.List.{replicate-append-replicate}
use Rattle.curve_held.proofs.walk.nothing.Goals as goal

pub loop-preserved : goal.loop-preserved
loop-preserved c =
    let n : List (Option ℕ) = None ∷ [] in
    c.in_ok-push.ensures.items ∙ ap (λ (l : List (Option ℕ)). l ++ n) c.loop.invariant ∙ replicate-append-replicate c.loop.counter 1 None
