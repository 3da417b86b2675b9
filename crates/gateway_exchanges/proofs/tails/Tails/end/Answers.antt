use Rattle.std.proofs.Common.{sym, refl}
use Rattle.gateway_exchanges.specs.Tails.{ended}
use Rattle.gateway_exchanges.proofs.TailLaws.{changed-there, changed-nowhere}
use Rattle.gateway_exchanges.proofs.tails.Tails.end.Goals.{in-Some, in_default}
use Rattle.gateway_exchanges.proofs.tails.Tails.end.Goals as goal

pub returns : goal.returns
returns c = elim c.match-get_mut.branch [
  | in-Some w ↦
      rw (w.self-inside-is, ← c.self.view_is)
      (changed-there c.self.inside.open.entries _ c.args.x (ended c.args.ending) w.in-Some.tail.now (ended c.args.ending w.in-Some.tail.now)
      (c.get_mut.follows.holds (ended c.args.ending w.in-Some.tail.now)).0 (sym w.in-Some.ensures.value) refl)
  | in_default w ↦
      rw (w.self-inside-is, c.get_mut.follows.holds-at-none, ← c.self.view_is) (changed-nowhere c.self.inside.open.entries c.args.x (ended c.args.ending) (sym w.in_default.ensures.value))
]
