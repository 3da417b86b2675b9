use Rattle.std.proofs.Common.{Some, sym, ap, ◌∙◌}
use Rattle.tier_requests.proofs.TableLaws.{on-open, begins_now, open-passes, none-passes}
use Rattle.tier_requests.proofs.requests.Requests.give_up.Goals as goal
use Rattle.tier_requests.proofs.requests.Requests.give_up.Goals.{in-Some, in-None}

pub give_up-requires : goal.give_up-requires
give_up-requires g c = open-passes begins_now c.self.inside.table.entries c.args.id c.deref_mut.result.now (sym (ap Some (c.deref_mut.ensures.value ∙ c.kept.view_is) ∙ c.in-Some.ensures.value)) (rw (← c.self.view_is) at c.requires)

pub returns-clause-given_up : goal.returns-clause-given_up
returns-clause-given_up g c =
    elim c.match-get_mut.branch [
      | in-Some w ↦
          rw (w.self-inside-is, w.parts-is, ← c.self.view_is)
          (on-open c.self.inside.table.entries (c.get_mut.follows.lender w.give_up.new.self).entries c.args.id w.deref_mut.result.now w.give_up.new.self _ _ (sym (ap Some (w.deref_mut.ensures.value ∙ w.kept.view_is) ∙ w.in-Some.ensures.value))
          (c.get_mut.follows.holds w.give_up.new.self).0 w.give_up.ensures.given_up)
      | in-None w ↦ absurd (none-passes begins_now c.self.inside.table.entries c.args.id (sym w.in-None.ensures.value) (rw (← c.self.view_is) at c.requires))
    ]
