use Rattle.std.proofs.Common.{◌∙◌, ap, Some, nat_eq, sym}
use Rattle.std.specs.HashMap.{get}
use Rattle.cache_entries.specs.declared.entry.CacheEntryKey.{CacheEntryKey}
use Rattle.lru_numbers.specs.Names.{name_at}
use Rattle.lru_numbers.proofs.PlaceLaws.{no_name, names_unused}
use Rattle.lru_numbers.proofs.SwapLaws.{may_move, IsPlaced-moved, names-moved, IsPlaced-popped, names-popped, entry_taken}
use Rattle.lru_numbers.proofs.numbers.Numbers.give_back.Goals as goal
use Rattle.lru_numbers.proofs.numbers.Numbers.give_back.Goals.{in-Some, in_default}

pub returns-in_err-place-clause-value : goal.returns-in_err-place-clause-value
returns-in_err-place-clause-value g c =
    rw (← c.self.view_is, c.from_residual.ensures) (sym (no_name (get nat_eq c.self.inside.places) c.self.inside.entries.entries c.self.invariant.1 c.args.number (sym c.in_err-place.ensures.value)))

pub returns-in_err-place-clause-after : goal.returns-in_err-place-clause-after
returns-in_err-place-clause-after g c =
    rw (← c.self.view_is) (names_unused (name_at c.self.inside.entries.entries) c.args.number (no_name (get nat_eq c.self.inside.places) c.self.inside.entries.entries c.self.invariant.1 c.args.number (sym c.in_err-place.ensures.value)))

pub move_place-requires : goal.move_place-requires
move_place-requires g c =
    may_move (get nat_eq c.self.inside.places) (get nat_eq c.take_place.new.places) c.self.inside.entries.entries c.swap_remove_index.new.self.entries c.args.number c.in_ok-place.place c.unwrap-entry.result c.self.invariant.1 (sym c.in_ok-place.ensures.value) (sym c.swap_remove_index.ensures.entry ∙ c.unwrap-entry.ensures) (rw c.unwrap-entry.ensures at c.swap_remove_index.ensures.entries) c.take_place.ensures.after
    (c.in-Some._entry.now, c.in-Some.moved.now) (sym c.in-Some.ensures.entry)

pub invariant_of-self-in-Some : goal.invariant_of-self-in-Some
invariant_of-self-in-Some g c = (
  c.self.invariant.0,
  IsPlaced-moved (get nat_eq c.self.inside.places) (get nat_eq c.take_place.new.places) c.self.inside.entries.entries c.swap_remove_index.new.self.entries c.args.number c.in_ok-place.place c.unwrap-entry.result c.self.invariant.1 (sym c.in_ok-place.ensures.value) (sym c.swap_remove_index.ensures.entry ∙ c.unwrap-entry.ensures) (rw c.unwrap-entry.ensures at c.swap_remove_index.ensures.entries) c.take_place.ensures.after
      (c.in-Some._entry.now, c.in-Some.moved.now) (sym c.in-Some.ensures.entry) (get nat_eq c.move_place.new.places) c.move_place.ensures,
)

pub invariant_of-self-in_default : goal.invariant_of-self-in_default
invariant_of-self-in_default g c = (
  c.self.invariant.0,
  IsPlaced-popped (get nat_eq c.self.inside.places) (get nat_eq c.take_place.new.places) c.self.inside.entries.entries c.swap_remove_index.new.self.entries c.args.number c.in_ok-place.place c.unwrap-entry.result c.self.invariant.1 (sym c.in_ok-place.ensures.value) (sym c.swap_remove_index.ensures.entry ∙ c.unwrap-entry.ensures) (rw c.unwrap-entry.ensures at c.swap_remove_index.ensures.entries) c.take_place.ensures.after (sym c.in_default.ensures.entry),
)

pub returns-clause-value : goal.returns-clause-value
returns-clause-value g c =
    rw (← c.self.view_is) (ap (λ (e : CacheEntryKey). Some e) c.into_entry.ensures ∙ sym (entry_taken (get nat_eq c.self.inside.places) (get nat_eq c.take_place.new.places) c.self.inside.entries.entries c.swap_remove_index.new.self.entries c.args.number c.in_ok-place.place c.unwrap-entry.result c.self.invariant.1 (sym c.in_ok-place.ensures.value) (sym c.swap_remove_index.ensures.entry ∙ c.unwrap-entry.ensures) (rw c.unwrap-entry.ensures at c.swap_remove_index.ensures.entries) c.take_place.ensures.after))

pub returns-clause-after : goal.returns-clause-after
returns-clause-after g c =
    rw (← c.self.view_is) (elim c.match-get_index.branch [
      | in-Some w ↦ rw w.self-is (names-moved (get nat_eq c.self.inside.places) (get nat_eq c.take_place.new.places) c.self.inside.entries.entries c.swap_remove_index.new.self.entries c.args.number c.in_ok-place.place c.unwrap-entry.result c.self.invariant.1 (sym c.in_ok-place.ensures.value) (sym c.swap_remove_index.ensures.entry ∙ c.unwrap-entry.ensures) (rw c.unwrap-entry.ensures at c.swap_remove_index.ensures.entries) c.take_place.ensures.after
          (w.in-Some._entry.now, w.in-Some.moved.now) (sym w.in-Some.ensures.entry) (get nat_eq w.move_place.new.places) w.move_place.ensures)
      | in_default w ↦ rw w.self-is (names-popped (get nat_eq c.self.inside.places) (get nat_eq c.take_place.new.places) c.self.inside.entries.entries c.swap_remove_index.new.self.entries c.args.number c.in_ok-place.place c.unwrap-entry.result c.self.invariant.1 (sym c.in_ok-place.ensures.value) (sym c.swap_remove_index.ensures.entry ∙ c.unwrap-entry.ensures) (rw c.unwrap-entry.ensures at c.swap_remove_index.ensures.entries) c.take_place.ensures.after (sym w.in_default.ensures.entry))
    ])
