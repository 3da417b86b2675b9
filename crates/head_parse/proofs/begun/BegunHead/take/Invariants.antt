use Rattle.std.proofs.Common.{◌≡◌, ◌≤◌, ◌++◌, ◌-◌, length, take}
use Rattle.httparse.specs.Grammar.{HasNoResponse}
use Rattle.head_parse.proofs.begun.BegunHead.take.Given as goal

abbrev pub invariant-loop-taken : goal.invariant-loop-taken
invariant-loop-taken l = record {
  within : l.taken ≤ length l.piece;
  bytes : l.self ≡ l.fn.self ++ take l.taken l.piece;
  none : HasNoResponse l.fn.self → HasNoResponse l.self;
}

abbrev pub decreases-loop-taken : goal.decreases-loop-taken
decreases-loop-taken l = length l.piece - l.taken
