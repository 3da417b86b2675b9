use Rattle.std.proofs.Common.{refl, ap, ◌∙◌, inl}
use Rattle.tier_calls.specs.Called.{counts_of}
use Rattle.tier_calls.proofs.held.TierHandle.report.Goals as goal

pub returns-in-Some : goal.returns-in-Some
returns-in-Some c = (
  refl,
  inl (c.in-Some.ensures.some.0, c.in-Some.ensures.some.1, c.counts_of.ensures ∙ ap counts_of c.in-Some.ensures.some.2),
)
