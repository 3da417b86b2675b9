use Rattle.std.proofs.Common.{◌≡◌, ◌++◌, drop, map}
use Rattle.std.specs.Prelude.{Some}
use Rattle.rules_fields.specs.Types.{asked_of, chosen}
use Rattle.rules_response.specs.Reply.{piece_of}
use Rattle.rules_ffi.specs.Lists.{second_key}
use Rattle.rules_ffi.specs.SetViews.{set_of}
use Rattle.rules_ffi.proofs.variants.keys_by.Given as goal

abbrev pub invariant-loop-set : goal.invariant-loop-set
invariant-loop-set l =
    map piece_of l.keys.items ++ map (λ s. record { before = second_key (asked_of l.request) (chosen l.options) s; from = 0; to = Some 0 }) (map set_of (drop l.set-index l.sets))
    ≡ map (λ s. record { before = second_key (asked_of l.request) (chosen l.options) s; from = 0; to = Some 0 }) (map set_of l.sets)
