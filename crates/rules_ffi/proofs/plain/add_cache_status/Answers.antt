use Rattle.std.proofs.Common.{◌≡◌, ◌∙◌, ap, subst, List, ℕ, ◌++◌, codes, append_assoc}
use Rattle.std.specs.Prelude.{OnOk}
use Rattle.rules_ffi_results.specs.Heads.{line_end}
use Rattle.rules_ffi.specs.Plains.{detail_of}
use Rattle.rules_ffi.proofs.plain.add_cache_status.Goals as goal

pub returns : goal.returns
returns c =
    let rest = detail_of c.args.name.now ++ line_end in
    let proxy = c.args.proxy.now in
    let text = c.args.text.now.items in
    let name = codes "Cache-Status: " in
    subst (λ (l : List ℕ). OnOk c.add_detail.result (c.add_detail.new.text.items ≡ l))
    (ap (λ (l : List ℕ). l ++ rest) (c.in_ok-extend_from_slice-2.ensures.items ∙ ap (λ (l : List ℕ). l ++ proxy) c.in_ok-extend_from_slice.ensures.items)
    ∙ append_assoc (text ++ name) proxy rest ∙ append_assoc text name (proxy ++ rest))
    c.add_detail.ensures
