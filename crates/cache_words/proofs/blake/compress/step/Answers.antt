use Rattle.std.proofs.Common.{ap, ◌∙◌}
use Rattle.cache_words.specs.Blake.{round}
use Rattle.cache_words.proofs.Compressing.{rounds_next}
use Rattle.cache_words.proofs.blake.compress.step.Goals as goal

pub returns : goal.returns
returns c = λ start before.
    rounds_next start c.args.m.now c.args.v.now c.round.new.v c.args.r before
    (c.round.ensures ∙ ap (round c.args.v.now c.args.m.now) c.row.ensures.same)
