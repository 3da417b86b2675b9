use Rattle.std.proofs.Common.{◌∙◌, sym, ap}
use Rattle.tier_model.proofs.Tables.{get-table}
use Rattle.gateway_exchanges.specs.Tails.{passed, is_last_reader}
use Rattle.gateway_exchanges.proofs.TailLaws.{changed-there, changed-nowhere}
use Rattle.gateway_exchanges.proofs.tails.Tails.pass.Goals.{in-Some, in-None}
use Rattle.gateway_exchanges.proofs.tails.Tails.pass.Goals as goal

pub returns-clause-last : goal.returns-clause-last
returns-clause-last c = elim c.match-get_mut.branch [
  | in-Some w ↦ rw (w.result-is, ← c.self.view_is) (w.pass_tail.ensures.last ∙ sym (ap is_last_reader (get-table c.self.inside.open.entries c.args.x ∙ sym w.in-Some.ensures.value)))
  | in-None w ↦ rw (w.result-is, ← c.self.view_is) (sym (ap is_last_reader (get-table c.self.inside.open.entries c.args.x ∙ sym w.in-None.ensures.value)))
]

pub returns-clause-left : goal.returns-clause-left
returns-clause-left c = elim c.match-get_mut.branch [
  | in-Some w ↦
      rw (w.self-inside-is, ← c.self.view_is)
      (changed-there c.self.inside.open.entries _ c.args.x passed w.in-Some.tail.now w.pass_tail.new.tail (c.get_mut.follows.holds w.pass_tail.new.tail).0 (sym w.in-Some.ensures.value) w.pass_tail.ensures.left)
  | in-None w ↦
      rw (w.self-inside-is, c.get_mut.follows.holds-at-none, ← c.self.view_is) (changed-nowhere c.self.inside.open.entries c.args.x passed (sym w.in-None.ensures.value))
]
