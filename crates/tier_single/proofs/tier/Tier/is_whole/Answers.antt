use Rattle.std.proofs.Common.{◌≡◌, sym, ◌∙◌}
use Rattle.tier_model.specs.Answers.{whole_told}
use Rattle.tier_model.proofs.ToldLaws.{HasReadOut-told}
use Rattle.tier_single.proofs.tier.Tier.is_whole.Goals as goal

pub returns-clause-told : goal.returns-clause-told
returns-clause-told g c = rw (← c.self.view_is) c.is_whole.ensures

pub returns-clause-past : goal.returns-clause-past
returns-clause-past g c =
    let is : c.is_whole.result ≡ whole_told c.args.self.now c.args.request = rw (← c.self.view_is) c.is_whole.ensures in
    λ start h all past told. HasReadOut-told start c.args.self.now h c.args.request all past (sym is ∙ told)
