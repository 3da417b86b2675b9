use Rattle.std.proofs.Common.{ℕ, refl, ap, ◌∙◌, inl}
use Rattle.tier_calls.specs.Told.{plain}
use Rattle.tier_calls.specs.declared.structs.CallAnswer.{CallAnswer}
use Rattle.tier_calls.proofs.held.TierHandle.weight.Goals as goal

pub returns-in-Some : goal.returns-in-Some
returns-in-Some c =
    let e = c.in-Some.ensures.some in (
      refl,
      inl (
        e.0,
        e.1,
        ap (λ (p : CallAnswer). record p { number = c.in-Some.weight; second = c.in-Some.tracked }) c.plain.ensures
            ∙ ap (λ (w : ℕ × ℕ). record (plain 49) { number = w.0; second = w.1 }) e.2,
      ),
    )
