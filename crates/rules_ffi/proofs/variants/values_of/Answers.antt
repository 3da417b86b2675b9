use Rattle.std.proofs.Common.{◌≡◌, ℕ, List, map, ap, sym, ◌∙◌, subst}
use Rattle.std.specs.Prelude.{IfOk}
use Rattle.std.proofs.lemmas.Simd.{map-map}
use Rattle.rules_fields.specs.Texts.{small}
use Rattle.rules_fields.specs.Fields.{fields}
use Rattle.rules_reuse.specs.Variants.{secondary}
use Rattle.rules_ffi.proofs.variants.values_of.Goals as goal

pub returns : goal.returns
returns c =
    let names = ap (map (λ n. n.now)) c.as_slice.ensures.value in
    subst (λ (ns : List (List ℕ)). IfOk c.secondary.result (λ v. v.items ≡ secondary ns (fields c.args.lines.now)))
    (sym (map-map small (λ n. n.now) c.as_slice.result.now) ∙ ap (map small) names) c.secondary.ensures
