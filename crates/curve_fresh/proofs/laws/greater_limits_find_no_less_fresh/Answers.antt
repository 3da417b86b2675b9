use Rattle.curve_fresh.proofs.OneLifetime.{no-less-fresh}
use Rattle.curve_fresh.proofs.laws.greater_limits_find_no_less_fresh.Goals as goal

pub returns : goal.returns
returns c = λ weight limit limit' watermark lifetime requests l h o. no-less-fresh weight limit limit' watermark lifetime l requests h o
