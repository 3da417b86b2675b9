use Rattle.std.proofs.Common.{◌≡◌, ◌&&◌, codes, drop}
use Rattle.std.specs.Prelude.{bytes_eq, is_none}
use Rattle.std.specs.List.{list_any}
use Rattle.rules_fields.specs.Meaning.{meanings}
use Rattle.rules_reuse.proofs.using.most_late.Given as goal

abbrev pub invariant-loop-d : goal.invariant-loop-d
invariant-loop-d l = list_any (λ d. bytes_eq d.0 (codes "max-stale") && is_none d.1) (meanings (drop l.d-index l.ds)) ≡ list_any (λ d. bytes_eq d.0 (codes "max-stale") && is_none d.1) (meanings l.ds)
