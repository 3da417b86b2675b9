use Rattle.std.proofs.Common.{◌≡◌, ◌∙◌, ap, subst, sym}
use Rattle.std.specs.Prelude.{IfOk, IfNone}
use Rattle.std.specs.List.{AllByRecursion}
use Rattle.http_header.specs.FieldValue.{FieldValue}
use Rattle.http_header.specs.HeaderMap.{Entries, pairs}
use Rattle.head_lines.specs.declared.header.ResponseHeader.{ResponseHeader}
use Rattle.head_metas.proofs.MapLines.{append_all-pairs}
use Rattle.head_packed.specs.HeadText.{IsPlainField}
use Rattle.head_packed.specs.Shared.{fields_or, kept_head}
use Rattle.head_packed.proofs.shared.KeptHead.headers.Goals as goal

pub returns-in-Some : goal.returns-in-Some
returns-in-Some c =
    let kept : c.in-Some.whole.value ≡ (kept_head c.self.inside).headers = sym (ap (λ w. fields_or (λ b. b.value) w c.self.inside.text.items) c.in-Some.is) in
    subst (λ (x : Entries FieldValue). IfOk c.cloned.result (λ h. h ≡ x)) (c.deref.ensures ∙ kept ∙ ap (λ (h : ResponseHeader). h.headers) c.self.view_is) c.cloned.ensures

pub returns-in-None : goal.returns-in-None
returns-in-None c =
    let m = (kept_head c.self.inside).headers in
    let plain : AllByRecursion IsPlainField (pairs m) = subst (λ w. IfNone w (AllByRecursion IsPlainField (pairs m))) c.in-None.is c.self.invariant.given in
    subst (λ (x : Entries FieldValue). IfOk c.fields_of.result (λ h. h ≡ x)) (append_all-pairs m c.self.invariant.map ∙ ap (λ (h : ResponseHeader). h.headers) c.self.view_is)
    (c.fields_of.ensures (pairs m) plain (c.as_slice.ensures.value ∙ c.self.invariant.text))
