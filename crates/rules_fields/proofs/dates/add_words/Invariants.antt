use Rattle.std.proofs.Common.{◌≡◌, ◌++◌, drop, false}
use Rattle.rules_fields.specs.Dates.{words_from}
use Rattle.rules_fields.proofs.dates.add_words.Given as goal

abbrev pub invariant-loop-b : goal.invariant-loop-b
invariant-loop-b l = l.cased.items ++ words_from l.inside (drop l.b-index l.words) ≡ l.fn.cased.items ++ words_from false l.words
