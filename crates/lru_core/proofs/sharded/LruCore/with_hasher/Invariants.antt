use Rattle.std.proofs.Common.{◌≡◌, ◌-◌, ◌/◌, ◌^◌, [], replicate, vec_len, vec_capacity}
use Rattle.lru_core.proofs.sharded.LruCore.with_hasher.Given as goal

abbrev pub invariant-units : goal.invariant-units
invariant-units g l =
    (l.units.items ≡ replicate l.counter (record { rows = []; bound = (2 ^ 64 - 1) / g.row.N }))
    × (vec_len l.units ≡ l.counter) × (vec_capacity l.units ≡ g.row.N)
