use Rattle.std.proofs.Common.{◌∙◌, ap, subst, refl, rules, ℕ}
use Rattle.std.specs.Prelude.{◌≡◌, None}
use Rattle.cache_entries.specs.Rows.{weight_of}
use Rattle.lru_core.specs.Rows.{raised}
use Rattle.lru_numbers.specs.Names.{name_at}
use Rattle.cache_evict.specs.Managed.{rows_of, put_first}
use Rattle.cache_evict.specs.Numbered.{managed_in}
use Rattle.cache_evict.specs.Refusals.{IsRefusal}
use Rattle.cache_evict.proofs.WrittenLaws.{weight_of-none}
use Rattle.cache_evict.proofs.RefusalLaws.{ok_then, err_then, either_way, IsNumbered-put, managed-put, refused-named, IsNumbered-same, weighed_after, weighs_new}
use Rattle.cache_evict.proofs.tracker.Tracker.increment.Goals as goal

pub invariant_of-self : goal.invariant_of-self
invariant_of-self g c =
    let named = rw c.from.ensures at c.in-Some.ensures.some in
    let own = c.self.invariant.known c.in-Some.number c.args.entry.now named in
    either_way c.raise_first.result _ _ _
    (IsNumbered-put g.row.N (name_at c.self.inside.numbers) c.self.inside.core c.raise_first.new.core c.in-Some.number c.args.entry.now (raised own.0 c.args.delta c.args.cap) 0 0 c.self.invariant named)
    (λ s. IsNumbered-same g.row.N (name_at c.self.inside.numbers) (name_at c.self.inside.numbers) c.self.inside.core c.raise_first.new.core (λ i. refl) s c.self.invariant)
    (c.raise_first.ensures.ok own.0 own.1) c.raise_first.ensures.err

pub returns-in-Some-clause-ok : goal.returns-in-Some-clause-ok
returns-in-Some-clause-ok g c =
    let named = rw c.from.ensures at c.in-Some.ensures.some in
    let own = c.self.invariant.known c.in-Some.number c.args.entry.now named in
    let m = managed_in (name_at c.self.inside.numbers) c.self.inside.core c.self.inside.evicted_size c.self.inside.evicted_items in
    rw (← c.self.view_is) (ok_then c.raise_first.result _ _ (λ s.
    managed-put g.row.N (name_at c.self.inside.numbers) c.self.inside.core c.raise_first.new.core c.in-Some.number c.args.entry.now (raised own.0 c.args.delta c.args.cap) c.self.inside.evicted_size c.self.inside.evicted_items c.self.invariant named s
    ∙ ap (λ (w : ℕ). put_first g.row.N c.args.entry.now w m) (weighed_after g.row.N (name_at c.self.inside.numbers) c.self.inside.core c.in-Some.number c.args.entry.now own.0 c.args.delta c.args.cap c.self.inside.evicted_size c.self.inside.evicted_items c.self.invariant named own.1))
    (c.raise_first.ensures.ok own.0 own.1))

pub returns-in-Some-clause-why : goal.returns-in-Some-clause-why
returns-in-Some-clause-why g c =
    let named = rw c.from.ensures at c.in-Some.ensures.some in
    let own = c.self.invariant.known c.in-Some.number c.args.entry.now named in
    let m = managed_in (name_at c.self.inside.numbers) c.self.inside.core c.self.inside.evicted_size c.self.inside.evicted_items in
    rw (← c.self.view_is) (err_then c.raise_first.result _ _ (λ why p.
    subst (λ (w : ℕ). IsRefusal g.row.N c.args.entry.now w m why) (weighed_after g.row.N (name_at c.self.inside.numbers) c.self.inside.core c.in-Some.number c.args.entry.now own.0 c.args.delta c.args.cap c.self.inside.evicted_size c.self.inside.evicted_items c.self.invariant named own.1)
    (refused-named g.row.N (name_at c.self.inside.numbers) c.self.inside.core c.self.inside.core c.in-Some.number c.args.entry.now (raised own.0 c.args.delta c.args.cap) c.self.inside.evicted_size c.self.inside.evicted_items c.self.invariant named why p))
    (c.raise_first.ensures.why own.0 own.1))

pub put_copy-requires : goal.put_copy-requires
put_copy-requires g c = (
  search rules,
  rw (c.from-in-None.ensures, ← c.self.view_is) (weight_of-none g.row.N (name_at c.self.inside.numbers) c.self.inside.core 0 c.args.entry.now c.self.invariant (rw c.from.ensures at c.in-None.ensures.none)),
)

pub returns-in-None-clause-ok : goal.returns-in-None-clause-ok
returns-in-None-clause-ok g c =
    let none : weight_of c.args.entry.now (rows_of g.row.N c.args.entry.now c.args.self.now) ≡ None =
    rw (← c.self.view_is) (weight_of-none g.row.N (name_at c.self.inside.numbers) c.self.inside.core 0 c.args.entry.now c.self.invariant (rw c.from.ensures at c.in-None.ensures.none)) in
    ok_then c.put_copy.result _ _ (λ s. s ∙ ap (λ (w : ℕ). put_first g.row.N c.args.entry.now w c.args.self.now) (weighs_new g.row.N c.args.entry.now c.weight_of_new.result c.args.delta c.args.cap c.args.self.now none c.weight_of_new.ensures)) (rw c.from-in-None.ensures at c.put_copy.ensures.ok)

pub returns-in-None-clause-why : goal.returns-in-None-clause-why
returns-in-None-clause-why g c =
    let none : weight_of c.args.entry.now (rows_of g.row.N c.args.entry.now c.args.self.now) ≡ None =
    rw (← c.self.view_is) (weight_of-none g.row.N (name_at c.self.inside.numbers) c.self.inside.core 0 c.args.entry.now c.self.invariant (rw c.from.ensures at c.in-None.ensures.none)) in
    err_then c.put_copy.result _ _ (λ why p. subst (λ (w : ℕ). IsRefusal g.row.N c.args.entry.now w c.args.self.now why) (weighs_new g.row.N c.args.entry.now c.weight_of_new.result c.args.delta c.args.cap c.args.self.now none c.weight_of_new.ensures) p) (rw c.from-in-None.ensures at c.put_copy.ensures.why)
