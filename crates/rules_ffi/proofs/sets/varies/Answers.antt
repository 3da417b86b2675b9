use Rattle.std.proofs.Common.{ℕ, List, map, ap, ◌∙◌, not}
use Rattle.rules_fields.specs.Fields.{fields}
use Rattle.rules_storage.specs.Selecting.{counting}
use Rattle.rules_ffi.specs.Sets.{has_place}
use Rattle.rules_ffi.specs.SetViews.{set_of}
use Rattle.rules_ffi.proofs.sets.varies.Goals as goal

pub returns : goal.returns
returns c =
    let names = ap (map (λ n. n.items)) c.as_slice.ensures.value ∙ c.in_ok-names.ensures in
    let sets = ap (map set_of) c.as_slice-2.ensures.value ∙ c.in_ok-sets.ensures in
    ap not
    (c.in_ok-has.ensures.has ∙ ap (λ (ns : List (List ℕ)). has_place ns (map set_of c.as_slice-2.result.now)) names
    ∙ ap (has_place (counting (fields c.args.lines.now))) sets)
