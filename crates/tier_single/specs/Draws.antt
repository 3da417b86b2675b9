-- Which words of a generator pick the evicted entries.
pub use Rattle.tier_promise.specs.Draws.{finished_of, weighed_for, evicts_in, evicts_from, AreDrawn, AreAllDrawn}
