use Rattle.std.proofs.Common.{◌≡◌, sym, subst}
use Rattle.tier_recorded.proofs.NewLaws.{empty-order, empty-made}
use Rattle.tier_model.specs.Started.{HasOnlyOrder, settings_of}
use Rattle.tier_single.specs.Options.{settings_with}
use Rattle.example_threads.proofs.setting.empty.Goals as goal

pub returns : goal.returns
returns c = (
  subst HasOnlyOrder (sym c.in_ok-tier.ensures.state) (empty-order (settings_with 4 c.settings-set.result)),
  subst (λ t. settings_of t ≡ settings_with 4 c.settings-set.result) (sym c.in_ok-tier.ensures.state) (empty-made (settings_with 4 c.settings-set.result)),
)
