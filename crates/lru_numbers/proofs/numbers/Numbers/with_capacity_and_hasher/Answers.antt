use Rattle.std.proofs.Common.{nat_eq}
use Rattle.std.specs.HashMap.{get}
use Rattle.lru_numbers.proofs.PlaceLaws.{IsPlaced-same}
use Rattle.lru_numbers.proofs.numbers.Numbers.with_capacity_and_hasher.Goals as goal

pub invariant_of-numbers : goal.invariant_of-numbers
invariant_of-numbers g c =
    (c.numbers.invariant.0, IsPlaced-same (get nat_eq c.numbers.inside.places) (get nat_eq c.room_for.new.places) c.numbers.inside.entries.entries c.room_for.new.entries.entries c.numbers.invariant.1 c.room_for.ensures.places c.room_for.ensures.entries)
