use Rattle.std.proofs.Common.{ℕ, refl, subst}
use Rattle.curve_runs.specs.declared.run.Load.{Load}
use Rattle.curve_timed.specs.Counting.{IsCounted}
use Rattle.curve_timed.proofs.count.count_fresh.Goals as goal

pub returns-in_ok-count-clause-some : goal.returns-in_ok-count-clause-some
returns-in_ok-count-clause-some c =
    rw c.in-Some.is (
      c.count.new.table,
      refl,
      subst (λ (n : ℕ). let load : Load = record { first = c.args.first; moment = c.args.when.moment; since = n } in IsCounted c.in-Some.table c.count.new.table c.args.entry c.args.weight load)
          c.in_ok-stale_from.ensures.ok c.in_ok-count.ensures.counted,
    )
