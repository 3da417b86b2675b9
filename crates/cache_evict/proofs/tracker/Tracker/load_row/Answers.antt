use Rattle.std.proofs.Common.{◌∙◌, refl, rules}
use Rattle.std.specs.Prelude.{◌≡◌, None}
use Rattle.cache_entries.specs.BorrowedEntry.{borrowed_entry}
use Rattle.cache_entries.specs.BorrowedRow.{borrowed_row}
use Rattle.cache_entries.specs.Rows.{weight_of}
use Rattle.lru_numbers.specs.Names.{name_at}
use Rattle.cache_evict.specs.Loads.{loaded}
use Rattle.cache_evict.specs.Managed.{put_last, rows_of}
use Rattle.cache_evict.proofs.BackLaws.{managed-kept}
use Rattle.cache_evict.proofs.LoadLaws.{restored-first, loaded-last, tried}
use Rattle.cache_evict.proofs.WrittenLaws.{weight_of-none}
use Rattle.cache_evict.proofs.RefusalLaws.{ok_then, err_then, either_way, has_shard, has_own_row, IsNumbered-put, managed-put, refused-named, IsNumbered-same}
use Rattle.cache_evict.proofs.tracker.Tracker.load_row.Goals as goal

pub put_first-requires : goal.put_first-requires
put_first-requires g c = (
  search rules,
  (
    has_shard g.row.N (name_at c.self.inside.numbers) c.self.inside.core c.self.invariant c.in-Some.number,
    has_own_row g.row.N (name_at c.self.inside.numbers) c.self.inside.core c.self.invariant c.in-Some.number (borrowed_entry c.args.row.now.entry) c.in-Some.ensures.some,
  ),
)

pub invariant_of-self : goal.invariant_of-self
invariant_of-self g c =
    either_way c.put_first.result _ _ _
    (IsNumbered-put g.row.N (name_at c.self.inside.numbers) c.self.inside.core c.put_first.new.core c.in-Some.number (borrowed_entry c.args.row.now.entry) c.args.row.now.weight 0 0 c.self.invariant c.in-Some.ensures.some)
    (λ s. IsNumbered-same g.row.N (name_at c.self.inside.numbers) (name_at c.self.inside.numbers) c.self.inside.core c.put_first.new.core (λ i. refl) s c.self.invariant)
    c.put_first.ensures.ok c.put_first.ensures.err

pub returns-in-PassedOver-clause-ok : goal.returns-in-PassedOver-clause-ok
returns-in-PassedOver-clause-ok g c =
    rw (c.in-PassedOver.is, ← c.self.view_is) (managed-kept g.row.N (name_at c.self.inside.numbers) c.self.inside.core c.in-Some.number (borrowed_entry c.args.row.now.entry) c.args.row.now.weight c.self.inside.evicted_size c.self.inside.evicted_items c.self.invariant c.in-Some.ensures.some)

pub returns-in-MovedFirst-clause-ok : goal.returns-in-MovedFirst-clause-ok
returns-in-MovedFirst-clause-ok g c =
    rw (c.in-MovedFirst.is, ← c.self.view_is) (ok_then c.put_first.result _ _ (λ s.
    managed-put g.row.N (name_at c.self.inside.numbers) c.self.inside.core c.put_first.new.core c.in-Some.number (borrowed_entry c.args.row.now.entry) c.args.row.now.weight c.self.inside.evicted_size c.self.inside.evicted_items c.self.invariant c.in-Some.ensures.some s
    ∙ restored-first g.row.N (name_at c.self.inside.numbers) c.self.inside.core (borrowed_entry c.args.row.now.entry) c.self.inside.evicted_size c.self.inside.evicted_items c.self.invariant c.in-Some.number c.args.row.now.weight c.in-Some.ensures.some)
    c.put_first.ensures.ok)

pub returns-in-MovedFirst-clause-why : goal.returns-in-MovedFirst-clause-why
returns-in-MovedFirst-clause-why g c =
    rw (← c.self.view_is) (err_then c.put_first.result _ _ (λ why p. rw c.in-MovedFirst.is (
      tt,
      refused-named g.row.N (name_at c.self.inside.numbers) c.self.inside.core c.self.inside.core c.in-Some.number (borrowed_entry c.args.row.now.entry) c.args.row.now.weight c.self.inside.evicted_size c.self.inside.evicted_items c.self.invariant c.in-Some.ensures.some why p,
    ))
    c.put_first.ensures.why)

pub put_borrowed-requires : goal.put_borrowed-requires
put_borrowed-requires g c = (
  search rules,
  rw (← c.self.view_is) (weight_of-none g.row.N (name_at c.self.inside.numbers) c.self.inside.core 0 (borrowed_entry c.args.row.now.entry) c.self.invariant c.in-None.ensures.none),
)

pub returns-in-None-clause-ok : goal.returns-in-None-clause-ok
returns-in-None-clause-ok g c =
    let last : put_last g.row.N (borrowed_entry c.args.row.now.entry) c.args.row.now.weight c.args.self.now ≡ loaded c.args.again g.row.N (borrowed_row c.args.row.now) c.args.self.now =
    rw (← c.self.view_is) (loaded-last g.row.N (name_at c.self.inside.numbers) c.self.inside.core (borrowed_entry c.args.row.now.entry) c.self.inside.evicted_size c.self.inside.evicted_items c.self.invariant c.args.again c.args.row.now.weight c.in-None.ensures.none) in
    ok_then c.put_borrowed.result _ _ (λ s. s ∙ last) c.put_borrowed.ensures.ok

pub returns-in-None-clause-why : goal.returns-in-None-clause-why
returns-in-None-clause-why g c =
    let none : weight_of (borrowed_entry c.args.row.now.entry) (rows_of g.row.N (borrowed_entry c.args.row.now.entry) c.args.self.now) ≡ None =
    rw (← c.self.view_is) (weight_of-none g.row.N (name_at c.self.inside.numbers) c.self.inside.core 0 (borrowed_entry c.args.row.now.entry) c.self.invariant c.in-None.ensures.none) in
    err_then c.put_borrowed.result _ _ (λ why p. (tried c.args.again g.row.N (borrowed_row c.args.row.now) c.args.self.now none, p)) c.put_borrowed.ensures.why
