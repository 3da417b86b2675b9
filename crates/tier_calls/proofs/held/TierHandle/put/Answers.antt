use Rattle.std.proofs.Common.{sym, inl}
use Rattle.tier_calls.proofs.held.TierHandle.put.Goals as goal

pub returns-in-Ok : goal.returns-in-Ok
returns-in-Ok c = inl (
  c.in-Some.moment,
  c.in-Some-given_of.given,
  sym c.in-Some.ensures,
  sym c.in-Some-given_of.ensures,
  inl (c.in-Ok.key, c.in-Ok.ensures.ok, inl c.put_within.ensures),
)
