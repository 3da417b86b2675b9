use Rattle.std.proofs.Common.{◌≡◌, ◌==◌, drop}
use Rattle.std.specs.List.{list_any}
use Rattle.rules_storage.proofs.judging.is_among.Given as goal

abbrev pub invariant-loop-n : goal.invariant-loop-n
invariant-loop-n l = list_any (λ n. n == l.status) (drop l.n-index l.statuses) ≡ list_any (λ n. n == l.status) l.statuses
