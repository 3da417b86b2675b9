use Rattle.std.proofs.Common.{rules}
use Rattle.lru_numbers.specs.Names.{name_at}
use Rattle.cache_evict.specs.Managed.{HasNoOtherReason}
use Rattle.cache_evict.specs.Numbered.{managed_in}
use Rattle.cache_evict.proofs.RefusalLaws.{ok_then, err_then, either_way, err_same, on_err, unnumbered_entry, has_free, IsNumbered-given, managed-given, refused-new, IsNumbered-same, managed-same}
use Rattle.cache_evict.proofs.tracker.Tracker.put_new.Goals as goal

pub put_new-requires : goal.put_new-requires
put_new-requires g c =
    let room : HasNoOtherReason g.row.N c.args.entry c.args.weight (managed_in (name_at c.self.inside.numbers) c.self.inside.core c.self.inside.evicted_size c.self.inside.evicted_items) = rw (← c.self.view_is) at c.requires.room in (
      search rules,
      (
        search rules,
        (
          unnumbered_entry g.row.N (name_at c.self.inside.numbers) c.self.inside.core c.args.entry c.self.invariant room.0,
          has_free g.row.N (name_at c.self.inside.numbers) c.self.inside.core c.self.invariant,
        ),
      ),
    )

pub invariant_of-self : goal.invariant_of-self
invariant_of-self g c =
    let room : HasNoOtherReason g.row.N c.args.entry c.args.weight (managed_in (name_at c.self.inside.numbers) c.self.inside.core c.self.inside.evicted_size c.self.inside.evicted_items) = rw (← c.self.view_is) at c.requires.room in
    let none = unnumbered_entry g.row.N (name_at c.self.inside.numbers) c.self.inside.core c.args.entry c.self.invariant room.0 in
    either_way c.put_new.result _ _ _
    (IsNumbered-given g.row.N (name_at c.self.inside.numbers) (name_at c.put_new.new.numbers) c.self.inside.core c.put_new.new.core c.args.entry c.args.hash c.args.weight 0 0 c.self.invariant none c.requires.hash c.args.end)
    (λ s. IsNumbered-same g.row.N (name_at c.self.inside.numbers) (name_at c.put_new.new.numbers) c.self.inside.core c.put_new.new.core s.0 s.1 c.self.invariant)
    c.put_new.ensures.ok (err_same c.put_new.result _ _ c.put_new.ensures.numbers c.put_new.ensures.core)

pub returns-clause-ok : goal.returns-clause-ok
returns-clause-ok g c =
    let room : HasNoOtherReason g.row.N c.args.entry c.args.weight (managed_in (name_at c.self.inside.numbers) c.self.inside.core c.self.inside.evicted_size c.self.inside.evicted_items) = rw (← c.self.view_is) at c.requires.room in
    let none = unnumbered_entry g.row.N (name_at c.self.inside.numbers) c.self.inside.core c.args.entry c.self.invariant room.0 in
    rw (← c.self.view_is) (ok_then c.put_new.result _ _ (managed-given g.row.N (name_at c.self.inside.numbers) (name_at c.put_new.new.numbers) c.self.inside.core c.put_new.new.core c.args.entry c.args.hash c.args.weight c.self.inside.evicted_size c.self.inside.evicted_items c.self.invariant none c.requires.hash c.args.end) c.put_new.ensures.ok)

pub returns-clause-err : goal.returns-clause-err
returns-clause-err g c =
    rw (← c.self.view_is) (on_err c.put_new.result _ _ (λ s. managed-same (name_at c.self.inside.numbers) (name_at c.put_new.new.numbers) c.self.inside.core c.put_new.new.core c.self.inside.evicted_size c.self.inside.evicted_items s.0 s.1)
    (err_same c.put_new.result _ _ c.put_new.ensures.numbers c.put_new.ensures.core))

pub returns-clause-why : goal.returns-clause-why
returns-clause-why g c =
    let room : HasNoOtherReason g.row.N c.args.entry c.args.weight (managed_in (name_at c.self.inside.numbers) c.self.inside.core c.self.inside.evicted_size c.self.inside.evicted_items) = rw (← c.self.view_is) at c.requires.room in
    let none = unnumbered_entry g.row.N (name_at c.self.inside.numbers) c.self.inside.core c.args.entry c.self.invariant room.0 in
    rw (← c.self.view_is) (err_then c.put_new.result _ _ (refused-new g.row.N (name_at c.self.inside.numbers) (name_at c.put_new.new.numbers) c.self.inside.core c.put_new.new.core c.args.entry c.args.hash c.args.weight c.self.inside.evicted_size c.self.inside.evicted_items c.self.invariant none c.requires.hash room) c.put_new.ensures.why)
