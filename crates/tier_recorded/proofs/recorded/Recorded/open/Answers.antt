use Rattle.std.proofs.Common.{[], arith, subst}
use Rattle.rand_core.specs.Stream.{Stream}
use Rattle.tier_recorded.specs.Histories.{IsReplay}
use Rattle.tier_recorded.proofs.HistoryLaws.{replay-none}
use Rattle.tier_recorded.proofs.SeatLaws.{seated-none}
use Rattle.tier_recorded.proofs.recorded.Recorded.open.Goals as goal

pub invariant_of-result : goal.invariant_of-result
invariant_of-result g c =
    let replayed : IsReplay c.args.tier (g.R.Rng.stream c.args.opening.rng) [] c.args.tier (g.R.Rng.stream c.args.rng) =
    subst (λ (s : Stream). IsReplay c.args.tier (g.R.Rng.stream c.args.opening.rng) [] c.args.tier s) c.requires.words (replay-none _ _)
    in
    rw (c.new.ensures.items, c.new-2.ensures.items, c.new-3.ensures.items) (
      (c.args.tier, c.requires.opens, replayed),
      tt,
      seated-none,
      c.open-book.ensures.total,
      omega (arith, c.open-book.ensures.parts, c.requires.blank),
      c.open-book.ensures.amount,
      c.requires.blank.2,
    )
