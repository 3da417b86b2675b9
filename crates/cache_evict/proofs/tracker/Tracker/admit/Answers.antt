use Rattle.std.proofs.Common.{refl, rules}
use Rattle.lru_numbers.specs.Names.{name_at}
use Rattle.cache_evict.proofs.WrittenLaws.{weight_of-none}
use Rattle.cache_evict.proofs.RefusalLaws.{ok_then, err_then, either_way, has_shard, has_own_row, IsNumbered-put, managed-put, refused-named, IsNumbered-same}
use Rattle.cache_evict.proofs.tracker.Tracker.admit.Goals as goal

pub invariant_of-self : goal.invariant_of-self
invariant_of-self g c =
    either_way c.put_first.result _ _ _
    (IsNumbered-put g.row.N (name_at c.self.inside.numbers) c.self.inside.core c.put_first.new.core c.in-Some.number c.args.entry c.args.weight 0 0 c.self.invariant (rw c.from.ensures at c.in-Some.ensures.some))
    (λ s. IsNumbered-same g.row.N (name_at c.self.inside.numbers) (name_at c.self.inside.numbers) c.self.inside.core c.put_first.new.core (λ i. refl) s c.self.invariant)
    c.put_first.ensures.ok c.put_first.ensures.err

pub returns-in-Some-clause-ok : goal.returns-in-Some-clause-ok
returns-in-Some-clause-ok g c =
    rw (← c.self.view_is) (ok_then c.put_first.result _ _ (managed-put g.row.N (name_at c.self.inside.numbers) c.self.inside.core c.put_first.new.core c.in-Some.number c.args.entry c.args.weight c.self.inside.evicted_size c.self.inside.evicted_items c.self.invariant (rw c.from.ensures at c.in-Some.ensures.some)) c.put_first.ensures.ok)

pub returns-in-Some-clause-why : goal.returns-in-Some-clause-why
returns-in-Some-clause-why g c =
    rw (← c.self.view_is) (err_then c.put_first.result _ _ (refused-named g.row.N (name_at c.self.inside.numbers) c.self.inside.core c.self.inside.core c.in-Some.number c.args.entry c.args.weight c.self.inside.evicted_size c.self.inside.evicted_items c.self.invariant (rw c.from.ensures at c.in-Some.ensures.some)) c.put_first.ensures.why)

pub put_first-requires : goal.put_first-requires
put_first-requires g c = (
  search rules,
  (
    has_shard g.row.N (name_at c.self.inside.numbers) c.self.inside.core c.self.invariant c.in-Some.number,
    has_own_row g.row.N (name_at c.self.inside.numbers) c.self.inside.core c.self.invariant c.in-Some.number c.args.entry (rw c.from.ensures at c.in-Some.ensures.some),
  ),
)

pub put_owned-requires : goal.put_owned-requires
put_owned-requires g c = (
  search rules,
  rw (← c.self.view_is) (weight_of-none g.row.N (name_at c.self.inside.numbers) c.self.inside.core 0 c.args.entry c.self.invariant (rw c.from.ensures at c.in-None.ensures.none)),
)
