use Rattle.std.proofs.Common.{sym, ◌∙◌, ap}
use Rattle.std.specs.Prelude.{Some}
use Rattle.std.specs.Option.{option_copied}
use Rattle.store_memory.specs.Alive.{has}
use Rattle.store_memory.proofs.ShownLaws.{streamed-none, streamed-alive}
use Rattle.store_memory.proofs.cache.MemCache.flying.Goals as goal

pub returns-else-is_alive : goal.returns-else-is_alive
returns-else-is_alive g c = rw (← c.self.view_is) (streamed-none (has c.self.inside.alive) c.self.inside.flights c.args.key.now c.args.number (sym c.is_alive.ensures ∙ c.if-is_alive.false))

pub returns-then-is_alive : goal.returns-then-is_alive
returns-then-is_alive g c =
    rw (← c.self.view_is) (streamed-alive (has c.self.inside.alive) c.self.inside.flights c.self.inside.next c.args.key.now c.args.number c.flight.result.now c.self.invariant (sym c.is_alive.ensures ∙ c.if-is_alive.true) (sym c.get.ensures.value ∙ ap option_copied c.unwrap.ensures ∙ ap Some (sym c.flight.ensures)))
