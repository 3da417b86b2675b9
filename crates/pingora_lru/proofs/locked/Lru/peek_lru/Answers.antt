use Rattle.std.proofs.Common.{rules, refl, [], ◌∷◌, ◌++◌}
use Rattle.lru_core.specs.Rows.{a_row}
use Rattle.pingora_lru.proofs.locked.Lru.peek_lru.Goals as goal

pub returns-in-Some : goal.returns-in-Some
returns-in-Some g c =
    let e = c.in-Some.ensures in
    (e.0 ++ a_row e.1 c.in-Some.item.now c.in-Some.weight ∷ [], (e.0, e.1, c.in-Some.item.now, c.in-Some.weight, refl, (search rules, refl)))
