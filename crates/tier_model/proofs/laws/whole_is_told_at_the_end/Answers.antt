use Rattle.tier_model.proofs.ToldLaws.{HasReadOut-told, told-at-end, told-read}
use Rattle.tier_model.proofs.laws.whole_is_told_at_the_end.Goals as goal

pub returns-clause-read : goal.returns-clause-read
returns-clause-read c = HasReadOut-told

pub returns-clause-told : goal.returns-clause-told
returns-clause-told c = told-at-end

pub returns-clause-at_end : goal.returns-clause-at_end
returns-clause-at_end c = told-read
