use Rattle.std.proofs.Common.{ap, ◌∙◌}
use Rattle.std.specs.FinMap as map
use Rattle.cache_words.specs.Variance.{Values}
use Rattle.cache_words.proofs.VarianceMap.{one_added}
use Rattle.cache_words.proofs.variance.VarianceBuilder.add.Goals as goal

pub returns-clause-ok : goal.returns-clause-ok
returns-clause-ok c =
    one_added c.self.inside.values.entries c.insert.new.self.entries c.args.name c.args.value c.in_ok-insert.ensures.updates.0
    ∙ ap (λ (m : Values). map.insert m c.args.name c.args.value) c.self.view_is
