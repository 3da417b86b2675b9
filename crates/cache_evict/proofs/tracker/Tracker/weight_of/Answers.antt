use Rattle.std.proofs.Common.{◌∙◌, sym}
use Rattle.cache_entries.specs.Entry.{owned_of}
use Rattle.lru_numbers.specs.Names.{name_at}
use Rattle.cache_evict.proofs.WrittenLaws.{weight_of-number, weight_of-none}
use Rattle.cache_evict.proofs.tracker.Tracker.weight_of.Goals as goal

pub returns-in-Some : goal.returns-in-Some
returns-in-Some g c = rw (← c.self.view_is) (c.peek_weight.ensures ∙ sym (weight_of-number g.row.N (name_at c.self.inside.numbers) c.self.inside.core c.in-Some.number (owned_of c.args.entry) c.self.invariant c.in-Some.ensures.some))

pub returns-in-None : goal.returns-in-None
returns-in-None g c = rw (← c.self.view_is) (sym (weight_of-none g.row.N (name_at c.self.inside.numbers) c.self.inside.core 0 (owned_of c.args.entry) c.self.invariant c.in-None.ensures.none))
