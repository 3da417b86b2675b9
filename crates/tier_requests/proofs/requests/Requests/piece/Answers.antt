use Rattle.std.proofs.Common.{Some, refl, sym, ap, ◌∙◌}
use Rattle.tier_requests.proofs.TableLaws.{on-open, on-none}
use Rattle.tier_requests.proofs.requests.Requests.piece.Goals as goal
use Rattle.tier_requests.proofs.requests.Requests.piece.Goals.{in-Some, in-None}

pub returns-clause-answer : goal.returns-clause-answer
returns-clause-answer g c =
    elim c.match-get_mut.branch [
      | in-Some w ↦
          rw (w.self-inside-is, w.parts-is, w.result-is, ← c.self.view_is)
          (on-open c.self.inside.table.entries (c.get_mut.follows.lender w.piece.new.self).entries c.args.id w.deref_mut.result.now w.piece.new.self _ _ (sym (ap Some (w.deref_mut.ensures.value ∙ w.kept.view_is) ∙ w.in-Some.ensures.value))
          (c.get_mut.follows.holds w.piece.new.self).0 (w.piece.ensures.request, w.piece.ensures.answer))
      | in-None w ↦ rw (w.self-inside-is, w.parts-is, w.result-is, c.get_mut.follows.holds-at-none, ← c.self.view_is) (on-none c.self.inside.table.entries c.args.id _ _ (sym w.in-None.ensures.value) (refl, refl))
    ]
