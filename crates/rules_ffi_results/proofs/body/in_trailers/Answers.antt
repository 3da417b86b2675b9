use Rattle.std.proofs.Common.{◌≤◌, length, sym, subst, arith}
use Rattle.rules_ffi_results.specs.Trailers.{section_of}
use Rattle.rules_ffi_results.proofs.Decoding.{Within, ending_within}
use Rattle.rules_ffi_results.proofs.body.in_trailers.Goals as goal

pub overflow_add-at : goal.overflow_add-at
overflow_add-at c =
    let w : Within (length c.args.rest.now) (section_of c.in_ok-trailers.field-0) =
    subst (Within (length c.args.rest.now)) (sym c.in_ok-trailers.ensures) (ending_within c.args.rest.now c.unwrap_or-scanned.result c.args.body.most) in
    let u : c.in-Whole.used ≤ length c.args.rest.now = subst (λ s. Within (length c.args.rest.now) (section_of s)) c.in-Whole.is w in
    omega (arith, u, c.requires)
