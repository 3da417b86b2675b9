use Rattle.std.proofs.Common.{sym}
use Rattle.gateway_exchanges.specs.Tails.{taken}
use Rattle.gateway_exchanges.proofs.TableLaws.{ok-map, err-map}
use Rattle.gateway_exchanges.proofs.TailLaws.{changed-there, changed-nowhere, same-there}
use Rattle.gateway_exchanges.proofs.tails.Tails.take.Goals.{in-Some, in-None}
use Rattle.gateway_exchanges.proofs.tails.Tails.take.Goals as goal

pub returns-clause-ok : goal.returns-clause-ok
returns-clause-ok c = elim c.match-get_mut.branch [
  | in-Some w ↦
      rw (w.self-inside-is, w.result-is, ← c.self.view_is)
      (ok-map w.take.result w.take.ensures.ok
      (changed-there c.self.inside.open.entries _ c.args.x (taken c.args.piece.now c.args.place c.args.most) w.in-Some.tail.now w.take.new.self (c.get_mut.follows.holds w.take.new.self).0 (sym w.in-Some.ensures.value)))
  | in-None w ↦
      rw (w.self-inside-is, w.result-is, c.get_mut.follows.holds-at-none, ← c.self.view_is)
      (changed-nowhere c.self.inside.open.entries c.args.x (taken c.args.piece.now c.args.place c.args.most) (sym w.in-None.ensures.value))
]

pub returns-clause-err : goal.returns-clause-err
returns-clause-err c = elim c.match-get_mut.branch [
  | in-Some w ↦
      rw (w.self-inside-is, w.result-is, ← c.self.view_is)
      (err-map w.take.result w.take.ensures.err
      (same-there c.self.inside.open.entries _ c.args.x w.in-Some.tail.now w.take.new.self (c.get_mut.follows.holds w.take.new.self).0 (sym w.in-Some.ensures.value)))
  | in-None w ↦ rw w.result-is tt
]
