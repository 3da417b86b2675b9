use Rattle.std.proofs.Common.{◌∙◌, sym, subst}
use Rattle.lru_numbers.specs.Parts.{entry_with_parts}
use Rattle.lru_numbers.specs.Names.{name_at, without_name, IsOneToOne}
use Rattle.cache_evict.proofs.NumberedLaws.{IsNumber-named}
use Rattle.cache_evict.proofs.RefusalLaws.{same_names}
use Rattle.lru_numbers.proofs.NameLaws.{one-without, without-here, without-other}
use Rattle.cache_evict.proofs.WrittenLaws.{IsNumbered-without, managed-without, managed-untouched}
use Rattle.cache_evict.proofs.tracker.Tracker.remove_parts.Goals as goal

pub invariant_of-self : goal.invariant_of-self
invariant_of-self g c =
    let names = name_at c.self.inside.numbers in
    let k = c.in-Some.number in
    IsNumbered-without g.row.N names (name_at c.take_back.new.numbers) c.self.inside.core c.remove.new.self k (entry_with_parts c.args.parts) 0 0 c.self.invariant
    (λ i m. c.take_back.ensures i ∙ without-other names k i m) (c.self.invariant.home k (entry_with_parts c.args.parts) c.in-Some.ensures.some)
    (subst IsOneToOne (sym (same_names (without_name names k) (name_at c.take_back.new.numbers) c.take_back.ensures)) (one-without names k c.self.invariant.one))
    (c.take_back.ensures k ∙ without-here names k) (IsNumber-named names k (entry_with_parts c.args.parts) c.self.invariant.one c.in-Some.ensures.some) c.remove.ensures.after

pub returns-in-Some : goal.returns-in-Some
returns-in-Some g c =
    let names = name_at c.self.inside.numbers in
    let k = c.in-Some.number in
    rw (← c.self.view_is) (managed-without g.row.N names (name_at c.take_back.new.numbers) c.self.inside.core c.remove.new.self k (entry_with_parts c.args.parts) c.self.inside.evicted_size c.self.inside.evicted_items c.self.invariant
    (λ i m. c.take_back.ensures i ∙ without-other names k i m) (c.self.invariant.home k (entry_with_parts c.args.parts) c.in-Some.ensures.some)
    (subst IsOneToOne (sym (same_names (without_name names k) (name_at c.take_back.new.numbers) c.take_back.ensures)) (one-without names k c.self.invariant.one))
    (c.take_back.ensures k ∙ without-here names k) (IsNumber-named names k (entry_with_parts c.args.parts) c.self.invariant.one c.in-Some.ensures.some) c.remove.ensures.after)

pub returns-in_default : goal.returns-in_default
returns-in_default g c = rw (← c.self.view_is) (managed-untouched g.row.N (name_at c.self.inside.numbers) c.self.inside.core (entry_with_parts c.args.parts) c.self.inside.evicted_size c.self.inside.evicted_items c.self.invariant c.in_default.ensures.none)
