use denote.Param.{number, param}
use Rattle.std.proofs.Common.{arith, refl}
use Rattle.tier_single.specs.Hits.{answer_found}
use Rattle.tier_recorded.proofs.Matched.{matched}
use Rattle.tier_recorded.proofs.ToldLaws.{told}
use Rattle.tier_shared.proofs.CountLaws.{counted-more}
use Rattle.tier_shared.proofs.CountedRooms.{tier_room}
use Rattle.tier_shared.proofs.counted.Counted.find.Goals as goal

pub find-found-requires : goal.find-found-requires
find-found-requires g c = tier_room (param 0 (number g.row.N)) (param 1 g.row.R) (param 2 g.row.L) (param 3 g.row.S) (param 4 g.row.S-Hasher) g.R.Rng g.L.Ledger g.S.BuildHasher g.S.Hasher.Hasher assumption

pub invariant_of-self : goal.invariant_of-self
invariant_of-self g c = (
  counted-more _ _ _ _ _ _ _ _ c.self.invariant.0 (c.find-found.ensures.takes _) refl refl,
  c.self.invariant.1,
  omega (arith, c.count.ensures.total, c.self.invariant.2),
  c.self.invariant.3,
  c.self.invariant.4,
  c.self.invariant.5,
)

pub returns-clause-counted : goal.returns-clause-counted
returns-clause-counted g c =
    rw (← c.self.view_is)
    (matched (answer_found c.find-found.result) _ _ (told _ _ _ _ _ _ (c.find-found.ensures.takes (g.R.Rng.stream c.self.inside.rng))) (record { takes = c.find-found.ensures.takes _; others = refl }))

pub returns-clause-pass : goal.returns-clause-pass
returns-clause-pass g c = matched (answer_found c.find-found.result) _ _ (told _ _ _ _ _ _ (c.find-found.ensures.takes (g.R.Rng.stream c.self.inside.rng))) c.count.ensures.calls

pub returns-clause-head : goal.returns-clause-head
returns-clause-head g c = rw (← c.self.view_is) c.find-found.ensures.head

pub returns-clause-one : goal.returns-clause-one
returns-clause-one g c = c.find-found.ensures.one
