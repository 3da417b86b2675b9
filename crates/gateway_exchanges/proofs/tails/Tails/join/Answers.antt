use Rattle.std.proofs.Common.{sym}
use Rattle.gateway_exchanges.specs.Tails.{joined}
use Rattle.gateway_exchanges.proofs.TailLaws.{changed-there, changed-nowhere}
use Rattle.gateway_exchanges.proofs.tails.Tails.join.Goals.{in-Some, in_default}
use Rattle.gateway_exchanges.proofs.tails.Tails.join.Goals as goal

pub returns : goal.returns
returns c = elim c.match-get_mut.branch [
  | in-Some w ↦
      rw (w.self-inside-is, ← c.self.view_is)
      (changed-there c.self.inside.open.entries _ c.args.x (joined c.args.count) w.in-Some.tail.now w.join.new.self (c.get_mut.follows.holds w.join.new.self).0 (sym w.in-Some.ensures.value) w.join.ensures)
  | in_default w ↦
      rw (w.self-inside-is, c.get_mut.follows.holds-at-none, ← c.self.view_is) (changed-nowhere c.self.inside.open.entries c.args.x (joined c.args.count) (sym w.in_default.ensures.value))
]
