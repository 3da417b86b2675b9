use Rattle.std.proofs.Common.{sym, ap, is_some, ℕ, Option}
use Rattle.cache_entries.specs.Entry.{owned_of}
use Rattle.lru_numbers.specs.Names.{name_at}
use Rattle.cache_evict.proofs.WrittenLaws.{IsNumbered-used, managed-used, weight-there, weight_of-none}
use Rattle.cache_evict.proofs.tracker.Tracker.touch.Goals as goal

pub invariant_of-self : goal.invariant_of-self
invariant_of-self g c =
    IsNumbered-used g.row.N (name_at c.self.inside.numbers) c.self.inside.core c.promote.new.self c.in-Some.number (owned_of c.args.entry) c.self.inside.evicted_size c.self.inside.evicted_items c.self.invariant c.in-Some.ensures.some c.promote.ensures.after

pub returns-in-Some-clause-found : goal.returns-in-Some-clause-found
returns-in-Some-clause-found g c =
    rw (← c.self.view_is) (sym (ap (λ (o : Option ℕ). is_some o) (weight-there g.row.N (name_at c.self.inside.numbers) c.self.inside.core c.promote.new.self c.in-Some.number (owned_of c.args.entry) c.self.inside.evicted_size c.self.inside.evicted_items c.self.invariant c.in-Some.ensures.some c.promote.ensures.after)))

pub returns-in-Some-clause-moved : goal.returns-in-Some-clause-moved
returns-in-Some-clause-moved g c w t =
    rw (← c.self.view_is) (managed-used g.row.N (name_at c.self.inside.numbers) c.self.inside.core c.promote.new.self c.in-Some.number (owned_of c.args.entry) c.self.inside.evicted_size c.self.inside.evicted_items c.self.invariant c.in-Some.ensures.some c.promote.ensures.after w)

pub returns-in-None-clause-found : goal.returns-in-None-clause-found
returns-in-None-clause-found g c =
    rw (← c.self.view_is) (sym (ap (λ (o : Option ℕ). is_some o) (weight_of-none g.row.N (name_at c.self.inside.numbers) c.self.inside.core 0 (owned_of c.args.entry) c.self.invariant c.in-None.ensures.none)))
