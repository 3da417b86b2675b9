use Rattle.std.proofs.Common.{◌≡◌, ◌∙◌, Bool, true, false, not, refl, sym}
use Rattle.cache_words.proofs.VarianceMap.{no_names, some_name}
use Rattle.cache_words.proofs.variance.VarianceBuilder.has_variance.Goals as goal

not_true : (b : Bool) → (b ≡ true → ⊥) → not b ≡ true
not_true true h = absurd (h refl)
not_true false h = refl

not_both : (b : Bool) → not b ≡ true → b ≡ true → ⊥
not_both true h k = cc
not_both false h k = cc

pub returns : goal.returns
returns c = (
  λ h e. not_both c.is_empty.result h (c.is_empty.ensures.1 (some_name c.self.inside.values.entries (c.self.view_is ∙ e))),
  λ h. not_true c.is_empty.result (λ e. h (sym c.self.view_is ∙ no_names c.self.inside.values.entries (c.is_empty.ensures.0 e))),
)
