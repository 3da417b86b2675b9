use denote.Param.{number, param}
use Rattle.std.proofs.Common.{◌+◌, ℕ, ap, arith, refl}
use Rattle.tier_shared.proofs.CountedRooms.{tier_room}
use Rattle.tier_recorded.proofs.HitLaws.{made-hit, most-calls}
use Rattle.tier_shared.proofs.HitCounts.{counted-hit, counts-hit}
use Rattle.tier_shared.proofs.counted.Counted.hit.Goals as goal

pub hit-hit-requires : goal.hit-hit-requires
hit-hit-requires g c = tier_room (param 0 (number g.row.N)) (param 1 g.row.R) (param 2 g.row.L) (param 3 g.row.S) (param 4 g.row.S-Hasher) g.R.Rng g.L.Ledger g.S.BuildHasher g.S.Hasher.Hasher assumption

pub count_all-requires : goal.count_all-requires
count_all-requires g c =
    let most = most-calls c.hit-hit.result in
    omega (arith, most, c.calls_of-calls.ensures, c.self.invariant.2, c.if-self.false)

pub overflow_add-self : goal.overflow_add-self
overflow_add-self g c =
    let most = most-calls c.hit-hit.result in
    omega (arith, most, c.calls_of-calls.ensures, c.if-self.false)

pub invariant_of-self : goal.invariant_of-self
invariant_of-self g c = (
  counted-hit c.args.moment c.args.request c.args.key.now _ _ _ _ _ c.hit-hit.result c.self.invariant.0 (c.hit-hit.ensures.takes _) refl (ap (λ (n : ℕ). c.self.inside.calls + n) c.calls_of-calls.ensures),
  c.self.invariant.1,
  omega (arith, c.count_all.ensures.total, c.self.invariant.2),
  c.self.invariant.3,
  c.self.invariant.4,
  c.self.invariant.5,
)

pub returns-clause-counted : goal.returns-clause-counted
returns-clause-counted g c =
    rw (← c.self.view_is)
    (made-hit c.args.moment c.args.request c.args.key.now _ _ (g.R.Rng.stream c.self.inside.rng) c.hit-hit.result _ _ (c.hit-hit.ensures.takes _)
    (counts-hit c.args.moment c.args.request c.args.key.now _ _ (g.R.Rng.stream c.self.inside.rng) c.hit-hit.result (c.hit-hit.ensures.takes _) (rw c.calls_of-calls.ensures refl)))

pub returns-clause-pass : goal.returns-clause-pass
returns-clause-pass g c =
    made-hit c.args.moment c.args.request c.args.key.now _ _ (g.R.Rng.stream c.self.inside.rng) c.hit-hit.result _ _ (c.hit-hit.ensures.takes _) (rw (← c.calls_of-calls.ensures) c.count_all.ensures.calls)

pub returns-clause-one : goal.returns-clause-one
returns-clause-one g c = c.hit-hit.ensures.one

pub returns-clause-hit : goal.returns-clause-hit
returns-clause-hit g c = rw (← c.self.view_is) c.hit-hit.ensures.hit
