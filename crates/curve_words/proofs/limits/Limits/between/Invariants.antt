use Rattle.std.proofs.Common.{◌≤◌}
use Rattle.curve_words.proofs.LimitLaws.{IsBegun}
use Rattle.curve_words.proofs.limits.Limits.between.Given as goal

abbrev pub invariant-loop-step : goal.invariant-loop-step
invariant-loop-step l = record {
  begun : IsBegun l.from l.last l.step l.all.items;
  two : 2 ≤ l.step;
  high : l.last ≤ l.to;
}
