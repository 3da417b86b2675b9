use Rattle.std.proofs.Common.{◌≡◌, None, ◌∙◌, refl, sym, rules}
use Rattle.cache_entries.specs.Rows.{weight_of}
use Rattle.lru_numbers.specs.Names.{name_at}
use Rattle.cache_evict.specs.Managed.{rows_of}
use Rattle.cache_evict.proofs.AnewLaws.{IsNumbered-anew, managed-anew, anew_new}
use Rattle.cache_evict.proofs.FaultLaws.{ok_means}
use Rattle.cache_evict.proofs.WrittenLaws.{weight_of-number, weight_of-none}
use Rattle.cache_evict.proofs.RefusalLaws.{ok_then, err_then, either_way, refused-named, IsNumbered-same}
use Rattle.cache_evict.proofs.tracker.Tracker.reweigh.Goals as goal

pub invariant_of-self : goal.invariant_of-self
invariant_of-self g c =
    let named = rw c.from.ensures at c.in-Some.ensures.some in
    either_way c.weigh_row.result _ _ _
    (IsNumbered-anew g.row.N (name_at c.self.inside.numbers) c.self.inside.core c.weigh_row.new.core c.in-Some.number c.args.entry.now c.args.weight 0 0 c.self.invariant named)
    (λ s. IsNumbered-same g.row.N (name_at c.self.inside.numbers) (name_at c.self.inside.numbers) c.self.inside.core c.weigh_row.new.core (λ i. refl) s c.self.invariant)
    c.weigh_row.ensures.ok c.weigh_row.ensures.err

pub returns-in-Some-clause-ok : goal.returns-in-Some-clause-ok
returns-in-Some-clause-ok g c =
    let named = rw c.from.ensures at c.in-Some.ensures.some in
    rw (← c.self.view_is) (ok_then c.weigh_row.result _ _
    (managed-anew g.row.N (name_at c.self.inside.numbers) c.self.inside.core c.weigh_row.new.core c.in-Some.number c.args.entry.now c.args.weight c.self.inside.evicted_size c.self.inside.evicted_items c.self.invariant named)
    c.weigh_row.ensures.ok)

pub returns-in-Some-clause-before : goal.returns-in-Some-clause-before
returns-in-Some-clause-before g c =
    let named = rw c.from.ensures at c.in-Some.ensures.some in
    rw (← c.self.view_is) (ok_means c.weigh_row.result _ _
    (λ old is. is ∙ sym (weight_of-number g.row.N (name_at c.self.inside.numbers) c.self.inside.core c.in-Some.number c.args.entry.now c.self.invariant named))
    c.weigh_row.ensures.before)

pub returns-in-Some-clause-why : goal.returns-in-Some-clause-why
returns-in-Some-clause-why g c =
    let named = rw c.from.ensures at c.in-Some.ensures.some in
    rw (← c.self.view_is) (err_then c.weigh_row.result _ _
    (refused-named g.row.N (name_at c.self.inside.numbers) c.self.inside.core c.self.inside.core c.in-Some.number c.args.entry.now c.args.weight c.self.inside.evicted_size c.self.inside.evicted_items c.self.invariant named)
    c.weigh_row.ensures.why)

pub put_copy-requires : goal.put_copy-requires
put_copy-requires g c = (
  search rules,
  rw (c.from-in-None.ensures, ← c.self.view_is) (weight_of-none g.row.N (name_at c.self.inside.numbers) c.self.inside.core 0 c.args.entry.now c.self.invariant (rw c.from.ensures at c.in-None.ensures.none)),
)

pub returns-in_ok-put_copy-in-None-clause-ok : goal.returns-in_ok-put_copy-in-None-clause-ok
returns-in_ok-put_copy-in-None-clause-ok g c =
    let none : weight_of c.args.entry.now (rows_of g.row.N c.args.entry.now c.args.self.now) ≡ None =
    rw (← c.self.view_is) (weight_of-none g.row.N (name_at c.self.inside.numbers) c.self.inside.core 0 c.args.entry.now c.self.invariant (rw c.from.ensures at c.in-None.ensures.none)) in
    (rw c.from-in-None.ensures at c.in_ok-put_copy-in-None.ensures.ok) ∙ anew_new g.row.N c.args.entry.now c.args.weight c.args.self.now none

pub returns-in_ok-put_copy-in-None-clause-before : goal.returns-in_ok-put_copy-in-None-clause-before
returns-in_ok-put_copy-in-None-clause-before g c =
    let none : weight_of c.args.entry.now (rows_of g.row.N c.args.entry.now c.args.self.now) ≡ None =
    rw (← c.self.view_is) (weight_of-none g.row.N (name_at c.self.inside.numbers) c.self.inside.core 0 c.args.entry.now c.self.invariant (rw c.from.ensures at c.in-None.ensures.none)) in
    sym none
