use Rattle.std.proofs.Common.{sym, true, false, ◌∙◌}
use Rattle.store_memory.specs.Alive.{has}
use Rattle.store_memory.proofs.FinishLaws.{no-key, some-key}
use Rattle.store_memory.proofs.cache.MemCache.key_of.Goals as goal

pub returns-in_default : goal.returns-in_default
returns-in_default g c = rw (← c.self.view_is) (sym (no-key (has c.self.inside.alive) c.args.number c.self.inside.flights (sym c.in_default.ensures)))

pub returns-then-is_alive : goal.returns-then-is_alive
returns-then-is_alive g c = rw (← c.self.view_is) (sym (some-key (has c.self.inside.alive) c.args.number c.in-Some.key true c.self.inside.flights (sym c.in-Some.ensures) (sym c.is_alive.ensures ∙ c.if-is_alive.true)))

pub returns-else-is_alive : goal.returns-else-is_alive
returns-else-is_alive g c = rw (← c.self.view_is) (sym (some-key (has c.self.inside.alive) c.args.number c.in-Some.key false c.self.inside.flights (sym c.in-Some.ensures) (sym c.is_alive.ensures ∙ c.if-is_alive.false)))
