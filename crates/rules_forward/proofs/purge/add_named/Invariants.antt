use Rattle.std.proofs.Common.{◌≡◌, ◌+◌, ◌∷◌, ◌++◌, ◌==◌, [], drop, take, map, length, reverse, false}
use Rattle.rules_fields.specs.Fields.{fields, all}
use Rattle.rules_fields.specs.Types.{asked_of, chosen}
use Rattle.rules_forward.specs.Purge.{named_in}
use Rattle.rules_forward.proofs.purge.add_named.Given as goal

abbrev pub invariant-loop-line : goal.invariant-loop-line
invariant-loop-line l = map (λ k. k.items) l.keys.items ++ named_in (asked_of l.request) (chosen l.options) (all l.name (fields (drop l.line-index l.lines))) ≡ map (λ k. k.items) l.fn.keys.items ++ named_in (asked_of l.request) (chosen l.options) (all l.name (fields l.lines))
