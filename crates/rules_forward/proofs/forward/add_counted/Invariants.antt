use Rattle.std.proofs.Common.{◌≡◌, ◌+◌, ◌∷◌, ◌++◌, ◌==◌, [], drop, take, map, length, reverse, false}
use Rattle.rules_fields.specs.Fields.{fields, without}
use Rattle.http1_message_parts.specs.Views.{made_fields}
use Rattle.rules_forward.specs.Forward.{counted, rewritten}
use Rattle.rules_forward.proofs.forward.add_counted.Given as goal

abbrev pub invariant-loop-line : goal.invariant-loop-line
invariant-loop-line l = made_fields l.made.items ++ map (counted l.counts) (without (rewritten l.forwards_for) (fields (drop l.line-index l.lines))) ≡ made_fields l.fn.made.items ++ map (counted l.counts) (without (rewritten l.forwards_for) (fields l.lines))
