use Rattle.std.proofs.Common.{rules, arith, refl, List, ℕ, Result}
use Rattle.cache_evict.proofs.FileLoadLaws.{loads-lent}
use Rattle.lru_async_manager.specs.declared.fault.RowsFault.{RowsFault}
use Rattle.lru_async_manager.specs.Files.{IsRead}
use Rattle.lru_async_manager.proofs.manager.Manager.load.Goals as goal

pub returns-in-Ok : goal.returns-in-Ok
returns-in-Ok g c = record {
  loads = loads-lent (λ (before : Unit {0}) (i : ℕ) (bytes : List ℕ) (r : Result (Unit {0}) RowsFault) (after : Unit {0}). IsRead bytes r) (λ d. tt) (λ d. tt {0}) (λ d i bytes r d' step. (search rules, refl)) g.row.N
      c.in-Ok.report.loaded c.in-Ok.report.missing c.in-Ok.report.errored.items _ _ tt (λ e. refl) c.in-Ok.ensures.loads;
  counts = c.in-Ok.ensures.counts;
  cleaned = c.in-Ok.ensures.cleaned;
  stay = λ kept i below. c.load_shards.ensures.stay kept i (omega (arith, g.N.fits));
  told = c.in-Ok.ensures.told;
}

pub returns-in-Err : goal.returns-in-Err
returns-in-Err g c = (c.new.ensures.items, c.in-Err.ensures.refused.1, c.in-Err.ensures.told)
