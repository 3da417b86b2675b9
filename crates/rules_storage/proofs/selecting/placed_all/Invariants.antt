use Rattle.std.proofs.Common.{◌≡◌, true, [], drop, map}
use Rattle.std.specs.List.{fold}
use Rattle.rules_fields.specs.Texts.{small}
use Rattle.rules_storage.specs.Selecting.{placed, placed_all, ascends}
use Rattle.rules_storage.proofs.selecting.placed_all.Given as goal

abbrev pub invariant-loop-name : goal.invariant-loop-name
invariant-loop-name l =
    (fold placed (map (λ n. n.items) l.names.keys) (map small (map (λ e. e.now) (drop l.name-index l.found))) ≡ placed_all (map (λ e. e.now) l.found))
    × (ascends (map (λ n. n.items) l.names.keys) ≡ true)
