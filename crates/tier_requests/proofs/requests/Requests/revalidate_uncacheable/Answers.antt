use Rattle.std.proofs.Common.{Some, sym, ap, ◌∙◌}
use Rattle.tier_requests.proofs.TableLaws.{on-open, renews_now, open-passes, none-passes}
use Rattle.tier_requests.proofs.requests.Requests.revalidate_uncacheable.Goals as goal
use Rattle.tier_requests.proofs.requests.Requests.revalidate_uncacheable.Goals.{in-Some, in-None}

pub revalidate_uncacheable-requires : goal.revalidate_uncacheable-requires
revalidate_uncacheable-requires g c = open-passes renews_now c.self.inside.table.entries c.args.id c.deref_mut.result.now (sym (ap Some (c.deref_mut.ensures.value ∙ c.kept.view_is) ∙ c.in-Some.ensures.value)) (rw (← c.self.view_is) at c.requires)

pub returns-clause-answer : goal.returns-clause-answer
returns-clause-answer g c =
    elim c.match-get_mut.branch [
      | in-Some w ↦
          rw (w.self-inside-is, w.parts-is, ← c.self.view_is)
          (on-open c.self.inside.table.entries (c.get_mut.follows.lender w.revalidate_uncacheable.new.self).entries c.args.id w.deref_mut.result.now w.revalidate_uncacheable.new.self _ _ (sym (ap Some (w.deref_mut.ensures.value ∙ w.kept.view_is) ∙ w.in-Some.ensures.value))
          (c.get_mut.follows.holds w.revalidate_uncacheable.new.self).0 w.revalidate_uncacheable.ensures.answer)
      | in-None w ↦ absurd (none-passes renews_now c.self.inside.table.entries c.args.id (sym w.in-None.ensures.value) (rw (← c.self.view_is) at c.requires))
    ]
