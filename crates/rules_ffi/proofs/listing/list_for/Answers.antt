use Rattle.std.proofs.Common.{◌≡◌, ℕ, List, map, ap, ◌∙◌, subst}
use Rattle.std.specs.Prelude.{IfOk}
use Rattle.rules_ffi.specs.Sets.{Set, sets_of}
use Rattle.rules_ffi.specs.SetViews.{set_of}
use Rattle.rules_ffi.specs.Lists.{list_or}
use Rattle.rules_ffi.proofs.listing.list_for.Goals as goal

pub returns : goal.returns
returns c =
    let token = c.args.token.now in
    let now = c.args.now in
    let names = ap (map (λ n. n.items)) c.as_slice.ensures.value ∙ c.in_ok-names.ensures in
    let sets = ap (map set_of) c.as_slice-2.ensures.value ∙ c.in_ok-sets.ensures in
    subst (λ (ns : List (List ℕ)). IfOk c.list_with.result (λ t. (t.0.items, t.1) ≡ list_or ns (sets_of c.args.old.now) token now)) names
    (subst (λ (ss : List Set). IfOk c.list_with.result (λ t. (t.0.items, t.1) ≡ list_or (map (λ n. n.items) c.as_slice.result.now) ss token now)) sets c.list_with.ensures)
