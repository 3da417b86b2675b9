use Rattle.std.proofs.Common.{◌≡◌, ◌∙◌, ap, sym, true, false}
use Rattle.std.specs.Prelude.{option_map}
use Rattle.gateway_exchanges.specs.Places.{numbers_in, keys_in}
use Rattle.gateway_exchanges.proofs.Places.{get-key, remove-key, set-key}
use Rattle.gateway_exchanges.proofs.TableLaws.{last-left, some-stay, none-stay}
use Rattle.std.specs.FinMap.{from_entries}
use Rattle.std.specs.Ordering.{nat_cmp}
use Rattle.std.specs.Cmp.Lexicographic.{slice_cmp}
use Rattle.tier_model.proofs.Tables.{each_of}
use Rattle.gateway_exchanges.proofs.table.leave_key.Goals.{in-None, in-Some}
use Rattle.gateway_exchanges.proofs.table.leave_key.Goals as goal

pub returns-then-is_last : goal.returns-then-is_last
returns-then-is_last c = elim c.match-get_mut.branch [
  | in-None w ↦ absurd (let never : true ≡ false = sym c.if-is_last.true ∙ w.is_last-is in cc)
  | in-Some w ↦
      let was = get-key numbers_in c.args.by_key.now.entries c.args.key.now ∙ ap (option_map numbers_in) (sym w.in-Some.ensures.value) in
      let put = ap (λ m. from_entries {R = slice_cmp nat_cmp} (each_of numbers_in m.entries)) w.by_key-is ∙ ap (from_entries {R = slice_cmp nat_cmp}) (ap (each_of numbers_in) (c.get_mut.follows.holds w.remove_number-is_last.new.numbers).0)
      ∙ set-key numbers_in c.args.by_key.now.entries c.args.key.now w.in-Some.numbers.now w.remove_number-is_last.new.numbers (sym w.in-Some.ensures.value) in
      last-left (keys_in c.args.by_key.now) (keys_in c.match-get_mut.by_key) _ c.args.key.now w.in-Some.numbers.now.items w.remove_number-is_last.new.numbers.items c.args.x was w.remove_number-is_last.ensures.left put
      (sym w.remove_number-is_last.ensures.none ∙ sym w.is_last-is ∙ c.if-is_last.true)
      (remove-key numbers_in c.match-get_mut.by_key.entries c.remove-numbers.new.self.entries c.args.key.now c.remove-numbers.ensures.updates.0)
]

pub returns-else-is_last : goal.returns-else-is_last
returns-else-is_last c = elim c.match-get_mut.branch [
  | in-None w ↦
      let was = get-key numbers_in c.args.by_key.now.entries c.args.key.now ∙ ap (option_map numbers_in) (sym w.in-None.ensures.value) in
      rw (w.by_key-is, c.get_mut.follows.holds-at-none) (none-stay (keys_in c.args.by_key.now) c.args.key.now c.args.x was)
  | in-Some w ↦
      let was = get-key numbers_in c.args.by_key.now.entries c.args.key.now ∙ ap (option_map numbers_in) (sym w.in-Some.ensures.value) in
      let put = ap (λ m. from_entries {R = slice_cmp nat_cmp} (each_of numbers_in m.entries)) w.by_key-is ∙ ap (from_entries {R = slice_cmp nat_cmp}) (ap (each_of numbers_in) (c.get_mut.follows.holds w.remove_number-is_last.new.numbers).0)
      ∙ set-key numbers_in c.args.by_key.now.entries c.args.key.now w.in-Some.numbers.now w.remove_number-is_last.new.numbers (sym w.in-Some.ensures.value) in
      some-stay (keys_in c.args.by_key.now) (keys_in c.match-get_mut.by_key) c.args.key.now w.in-Some.numbers.now.items w.remove_number-is_last.new.numbers.items c.args.x was w.remove_number-is_last.ensures.left put
      (sym w.remove_number-is_last.ensures.none ∙ sym w.is_last-is ∙ c.if-is_last.false)
]
