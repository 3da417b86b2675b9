use Rattle.std.proofs.Common.{◌≡◌, ◌<◌, ◌^◌, true, false, refl, sym, ◌∙◌}
use denote.Param.{layout, number, param}
use mir.Syntax.{Ty}
use prog.Memory.{size}
use Rattle.tier_single.specs.contracts.tier.Tier.{the_row}
use Rattle.tier_model.specs.State.{State}
use Rattle.tier_requests.specs.Shelves.{shelf_of}
use Rattle.tier_single.specs.States.{state_by}
use Rattle.tier_single.proofs.NewLaws.{idle-alone}
use Rattle.tier_single.proofs.Room.{inner_room}
use Rattle.tier_single.proofs.tier.Tier.has_only_order.Goals as goal

pub are_unused-requires : goal.are_unused-requires
are_unused-requires g c =
    let tier : Ty = layout (the_row (param 0 (number g.row.N)) (param 1 g.row.S) (param 2 g.row.S-Hasher) g.S.BuildHasher g.S.Hasher.Hasher) in
    let room : size tier < 2 ^ 63 = assumption in
    inner_room tier 2 1 _ _ refl _ _ refl room

pub returns-then-not-are_zero : goal.returns-then-not-are_zero
returns-then-not-are_zero g c =
    rw (← c.self.view_is) ((λ t. let no : false ≡ true = t in absurd cc), (λ new. sym c.if-not-are_zero.true ∙ c.are_zero.ensures.1 (new.found, new.absent)))

pub returns-then-is_empty : goal.returns-then-is_empty
returns-then-is_empty g c =
    let s : State = state_by c.self.inside.parts.manager c.self.inside.wait (shelf_of c.self.inside.parts.store) c.self.inside.parts.lock c.self.inside.requests c.self.inside.found c.self.inside.absent in
    let zero = c.are_zero.ensures.0 c.if-not-are_zero.false in
    let none = c.is_empty.ensures.0 c.if-is_empty.true in
    let past = c.self.invariant.2 in
    let idle = idle-alone past.0 s past.1 past.2 none in
    rw (← c.self.view_is) (
      (λ t. let unused = c.are_unused.ensures.0 t in record {
        bodies = unused.bodies;
        flying = idle.flying;
        readers = idle.readers;
        lock = idle.lock;
        requests = none;
        found = zero.0;
        absent = zero.1;
        evicted_size = unused.evicted_size;
        evicted_items = unused.evicted_items;
      }),
      (λ new. c.are_unused.ensures.1 (record { bodies = new.bodies; evicted_size = new.evicted_size; evicted_items = new.evicted_items })),
    )

pub returns-else-is_empty : goal.returns-else-is_empty
returns-else-is_empty g c =
    rw (← c.self.view_is) ((λ t. let no : c.is_empty.result ≡ true = t in absurd cc), (λ new. c.is_empty.ensures.1 new.requests))
