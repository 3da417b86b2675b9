use denote.Param.{number, param}
use Rattle.std.proofs.Common.{arith, refl}
use Rattle.tier_recorded.proofs.Matched.{matched}
use Rattle.tier_recorded.proofs.ToldLaws.{told}
use Rattle.tier_shared.proofs.CountLaws.{counted-more}
use Rattle.tier_shared.proofs.CountedRooms.{tier_room}
use Rattle.tier_shared.proofs.counted.Counted.step.Goals as goal

pub step-outcome-requires : goal.step-outcome-requires
step-outcome-requires g c = tier_room (param 0 (number g.row.N)) (param 1 g.row.R) (param 2 g.row.L) (param 3 g.row.S) (param 4 g.row.S-Hasher) g.R.Rng g.L.Ledger g.S.BuildHasher g.S.Hasher.Hasher assumption

pub invariant_of-self : goal.invariant_of-self
invariant_of-self g c = (
  counted-more _ _ _ _ _ _ _ _ c.self.invariant.0 c.step-outcome.ensures refl refl,
  c.self.invariant.1,
  omega (arith, c.count.ensures.total, c.self.invariant.2),
  c.self.invariant.3,
  c.self.invariant.4,
  c.self.invariant.5,
)

pub returns-clause-counted : goal.returns-clause-counted
returns-clause-counted g c = rw (← c.self.view_is) (matched c.step-outcome.result _ _ (told _ _ _ _ _ _ c.step-outcome.ensures) (record { takes = c.step-outcome.ensures; others = refl }))

pub returns-clause-pass : goal.returns-clause-pass
returns-clause-pass g c = matched c.step-outcome.result _ _ (told _ _ _ _ _ _ c.step-outcome.ensures) c.count.ensures.calls
