use Rattle.std.proofs.Common.{◌≡◌, arith, refl, ◌-◌, ◌/◌, ◌^◌}
use Rattle.lru_core.proofs.Summed.{none_summed, lists-replicate}
use Rattle.lru_core.proofs.sharded.LruCore.with_hasher.Goals as goal

pub invariant_of-result : goal.invariant_of-result
invariant_of-result g c =
    let e : c.units.counter ≡ g.row.N = omega arith in
    rw (c.units.invariant.0, e) (none_summed g.row.N c.requires)

pub returns : goal.returns
returns g c =
    let e : c.units.counter ≡ g.row.N = omega arith in
    rw (c.units.invariant.0, e, lists-replicate g.row.N ((2 ^ 64 - 1) / g.row.N)) refl
