use Rattle.std.proofs.Common.{Some, sym, ap, ◌∙◌}
use Rattle.tier_requests.proofs.TableLaws.{on-open, begins_now, open-passes, none-passes, ok-map, err-map, put-same}
use Rattle.tier_requests.proofs.requests.Requests.begin.Goals as goal
use Rattle.tier_requests.proofs.requests.Requests.begin.Goals.{in-Some, in-None}

pub begin-requires-clause-phase : goal.begin-requires-clause-phase
begin-requires-clause-phase g c = open-passes begins_now c.self.inside.table.entries c.args.id c.deref_mut.result.now (sym (ap Some (c.deref_mut.ensures.value ∙ c.kept.view_is) ∙ c.in-Some.ensures.value)) (rw (← c.self.view_is) at c.requires.open)

pub returns-clause-begun : goal.returns-clause-begun
returns-clause-begun g c =
    elim c.match-get_mut.branch [
      | in-Some w ↦
          rw (w.self-inside-is, w.parts-is, w.result-is, ← c.self.view_is)
          (ok-map w.begin.result w.begin.ensures.begun
          (on-open c.self.inside.table.entries (c.get_mut.follows.lender w.begin.new.self).entries c.args.id w.deref_mut.result.now w.begin.new.self _ _ (sym (ap Some (w.deref_mut.ensures.value ∙ w.kept.view_is) ∙ w.in-Some.ensures.value))
          (c.get_mut.follows.holds w.begin.new.self).0))
      | in-None w ↦ absurd (none-passes begins_now c.self.inside.table.entries c.args.id (sym w.in-None.ensures.value) (rw (← c.self.view_is) at c.requires.open))
    ]

pub returns-clause-refused : goal.returns-clause-refused
returns-clause-refused g c =
    elim c.match-get_mut.branch [
      | in-Some w ↦ rw (w.parts-is, w.result-is) w.begin.ensures.refused
      | in-None w ↦ absurd (none-passes begins_now c.self.inside.table.entries c.args.id (sym w.in-None.ensures.value) (rw (← c.self.view_is) at c.requires.open))
    ]

pub returns-clause-err : goal.returns-clause-err
returns-clause-err g c =
    elim c.match-get_mut.branch [
      | in-Some w ↦
          rw (w.self-inside-is, w.parts-is, w.result-is, ← c.self.view_is)
          (err-map w.begin.result w.begin.ensures.err
          (λ same. (
            put-same c.self.inside.table.entries (c.get_mut.follows.lender w.begin.new.self).entries c.args.id w.deref_mut.result.now w.begin.new.self (sym (ap Some (w.deref_mut.ensures.value ∙ w.kept.view_is) ∙ w.in-Some.ensures.value))
                (c.get_mut.follows.holds w.begin.new.self).0 same.0,
            same.1,
          )))
      | in-None w ↦ absurd (none-passes begins_now c.self.inside.table.entries c.args.id (sym w.in-None.ensures.value) (rw (← c.self.view_is) at c.requires.open))
    ]
