use Rattle.std.proofs.Common.{◌≡◌, vec_len}
use Rattle.pingora_lru.specs.Draws.{after_steps}
use Rattle.pingora_lru.proofs.locked.Lru.evict_to_limit.Given as goal

abbrev pub invariant-steps : goal.invariant-steps
invariant-steps g l = g.G.Rng.stream l.rng ≡ after_steps (vec_len l.pairs) (g.G.Rng.stream l.fn.rng)
