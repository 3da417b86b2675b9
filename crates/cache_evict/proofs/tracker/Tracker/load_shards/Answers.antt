use Rattle.std.proofs.Common.{rules, arith}
use Rattle.cache_evict.specs.FileLoads.{TakesShard}
use Rattle.cache_evict.proofs.FileLoadLaws.{lent-same, loads-lent}
use Rattle.cache_evict.proofs.tracker.Tracker.load_shards.Goals as goal

pub returns-in-Ok : goal.returns-in-Ok
returns-in-Ok g c = record {
  loads = loads-lent (TakesShard g.row.N) (λ d. d.0.now) (λ d. d.0.ghost_name) (λ d i bytes r d' step. (search rules, search rules)) g.row.N
      c.in-Ok.report.loaded c.in-Ok.report.missing c.in-Ok.report.errored.items _ _ _ c.self-1.given.1 c.in-Ok.ensures.loads;
  counts = c.in-Ok.ensures.counts;
  cleaned = c.in-Ok.ensures.cleaned;
  stay = λ kept i below. c.load_shards.ensures.stay kept i (omega (arith, g.N.fits));
  told = c.in-Ok.ensures.told;
}

pub returns-in-Err : goal.returns-in-Err
returns-in-Err g c = (
  c.new.ensures.items,
  record {
    manager = lent-same (λ d. d.0.now) (λ d. d.0.ghost_name) _ _ _ c.self-1.given.1 c.in-Err.ensures.refused.0;
    same = c.in-Err.ensures.refused.1;
    told = c.in-Err.ensures.told;
  },
)
