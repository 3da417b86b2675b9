use Rattle.std.proofs.Common.{◌≡◌, ◌==◌, drop}
use Rattle.std.specs.Prelude.{find, option_map}
use Rattle.rules_storage.proofs.lifetime.first_of.Given as goal

abbrev pub invariant-loop-row : goal.invariant-loop-row
invariant-loop-row l = option_map (λ g. g.seconds) (find (λ g. g.status == l.status) (drop l.row-index l.rows)) ≡ option_map (λ g. g.seconds) (find (λ g. g.status == l.status) l.rows)
