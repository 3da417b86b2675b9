use Rattle.std.proofs.Common.{sym, ◌∙◌}
use Rattle.curve_loads.proofs.Held.{held-stays}
use Rattle.curve_loads.proofs.Places.{places-of, test-of}
use Rattle.curve_loads.proofs.Asked.{stays-asked}
use Rattle.curve_loads.proofs.laws.loads_tell_what_is_held.Goals as goal

pub returns-clause-places : goal.returns-clause-places
returns-clause-places c = λ weight limit watermark e steps. (
  λ h. places-of weight limit watermark e steps (sym (held-stays weight limit watermark e steps) ∙ h),
  λ o. held-stays weight limit watermark e steps ∙ test-of weight limit watermark e steps o,
)

pub returns-clause-test : goal.returns-clause-test
returns-clause-test c = λ weight limit watermark e steps. held-stays weight limit watermark e steps

pub returns-clause-asks : goal.returns-clause-asks
returns-clause-asks c = λ weight limit watermark e steps h. held-stays weight limit watermark e steps ∙ stays-asked weight limit watermark e steps h
