use Rattle.std.proofs.Common.{◌∙◌, ◌<◌, ℕ, nat_eq, cond, Some, ap, sym, length, arith}
use Rattle.lru_core.specs.declared.rows.TheConstants.{MOST_ROWS}
use Rattle.lru_numbers.proofs.CountLaws.{many_named}
use Rattle.std.specs.HashMap.{get}
use Rattle.lru_numbers.proofs.PlaceLaws.{IsPlaced-same, IsPlaced-push, names-push, unnumbered}
use Rattle.lru_numbers.proofs.FreeLaws.{first_named, spent_named}
use Rattle.lru_numbers.proofs.numbers.Numbers.give.Goals as goal

pub returns-in_default-clause-spent : goal.returns-in_default-clause-spent
returns-in_default-clause-spent g c back e =
    (cc, rw (← c.self.view_is) (spent_named g.row.N (get nat_eq c.self.inside.places) c.self.inside.entries.entries c.args.hash c.self.invariant.1 c.in_default.ensures.none))

pub returns-then-place-ge-MOST_ROWS-clause-long : goal.returns-then-place-ge-MOST_ROWS-clause-long
returns-then-place-ge-MOST_ROWS-clause-long g c back e =
    (cc, rw (← c.self.view_is) (many_named (get nat_eq c.self.inside.places) c.self.inside.entries.entries MOST_ROWS c.self.invariant.1 (omega (arith, c.if-place-ge-MOST_ROWS.true, c.len-place.ensures.len))))

pub invariant_of-self : goal.invariant_of-self
invariant_of-self g c =
    (c.self.invariant.0, IsPlaced-same (get nat_eq c.self.inside.places) (get nat_eq c.room_for.new.places) c.self.inside.entries.entries c.room_for.new.entries.entries c.self.invariant.1 c.room_for.ensures.places c.room_for.ensures.entries)

pub put_entry-requires-clause-new : goal.put_entry-requires-clause-new
put_entry-requires-clause-new g c =
    rw c.room_for.ensures.entries (unnumbered (get nat_eq c.self.inside.places) c.self.inside.entries.entries c.self.invariant.1 c.args.entry (rw (← c.self.view_is) at c.requires))

pub invariant_of-self-2 : goal.invariant_of-self-2
invariant_of-self-2 g c =
    let still = IsPlaced-same (get nat_eq c.self.inside.places) (get nat_eq c.room_for.new.places) c.self.inside.entries.entries c.room_for.new.entries.entries c.self.invariant.1 c.room_for.ensures.places c.room_for.ensures.entries in (
      c.self.invariant.0,
      rw c.put_entry.ensures (IsPlaced-push (get nat_eq c.room_for.new.places) (get nat_eq c.put_place.new.places) c.room_for.new.entries.entries c.args.entry c.in-Some.number still
          (c.room_for.ensures.places c.in-Some.number ∙ c.in-Some.ensures.some.free)
          (λ q. c.put_place.ensures q ∙ ap (λ (n : ℕ). cond (nat_eq c.in-Some.number q) (Some n) (get nat_eq c.room_for.new.places q)) (c.len-place.ensures.len ∙ sym (ap length c.room_for.ensures.entries)))),
    )

pub returns-clause-first : goal.returns-clause-first
returns-clause-first g c = rw (← c.self.view_is) (first_named g.row.N (get nat_eq c.self.inside.places) c.self.inside.entries.entries c.args.hash c.self.invariant.1 c.in-Some.number c.in-Some.ensures.some)

pub returns-clause-named : goal.returns-clause-named
returns-clause-named g c i =
    let still = IsPlaced-same (get nat_eq c.self.inside.places) (get nat_eq c.room_for.new.places) c.self.inside.entries.entries c.room_for.new.entries.entries c.self.invariant.1 c.room_for.ensures.places c.room_for.ensures.entries in
    rw (c.put_entry.ensures, ← c.self.view_is, ← c.room_for.ensures.entries) (names-push (get nat_eq c.room_for.new.places) (get nat_eq c.put_place.new.places) c.room_for.new.entries.entries c.args.entry c.in-Some.number still
    (c.room_for.ensures.places c.in-Some.number ∙ c.in-Some.ensures.some.free)
    (λ q. c.put_place.ensures q ∙ ap (λ (n : ℕ). cond (nat_eq c.in-Some.number q) (Some n) (get nat_eq c.room_for.new.places q)) (c.len-place.ensures.len ∙ sym (ap length c.room_for.ensures.entries))) i)

pub returns-then-is_err-clause-memory : goal.returns-then-is_err-clause-memory
returns-then-is_err-clause-memory g c back e =
    let few : length c.self.inside.entries.entries < MOST_ROWS = omega (arith, c.if-place-ge-MOST_ROWS.false, c.len-place.ensures.len) in
    (cc, rw (← c.self.view_is) few, c.in-Some.number, rw (← c.self.view_is) (first_named g.row.N (get nat_eq c.self.inside.places) c.self.inside.entries.entries c.args.hash c.self.invariant.1 c.in-Some.number c.in-Some.ensures.some))
