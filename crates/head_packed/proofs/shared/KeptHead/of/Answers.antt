use Rattle.std.proofs.Common.{◌≡◌, ◌∙◌, length, ap, sym, subst}
use Rattle.std.specs.Prelude.{IfNone}
use Rattle.std.specs.List.{AllByRecursion}
use Rattle.http_header.specs.HeaderMap.{pairs, IsHeaderMap}
use Rattle.head_lines.specs.declared.header.ResponseHeader.{ResponseHeader}
use Rattle.head_metas.specs.Head.{written_head}
use Rattle.head_packed.specs.HeadText.{head_text, line_feeds, IsPlainField}
use Rattle.head_packed.specs.Shared.{fields_or}
use Rattle.head_packed.proofs.TextLaws.{kept-fields, kept-plain}
use Rattle.head_packed.proofs.shared.KeptHead.of.Goals as goal

pub invariant_of-result : goal.invariant_of-result
invariant_of-result c =
    let h : ResponseHeader = c.args.header.now in
    let whole = c.in_ok-whole.whole in
    let text = c.in_ok-text.text.items in
    let fields : fields_or (λ m. m.value) whole text ≡ h.headers = kept-fields (λ m. m.value) whole text h.headers c.in_ok-whole.ensures.whole c.in_ok-text.ensures.text c.in_ok-whole.ensures.map in
    let same : h ≡ record { status = h.status; headers = fields_or (λ m. m.value) whole text } = sym (λ i. record { status = h.status; headers = fields i }) in
    record {
      len = subst (λ (x : ResponseHeader). c.in-Some.len ≡ length (written_head x)) same c.in-Some.ensures.some;
      text = subst (λ (x : ResponseHeader). text ≡ head_text x) same c.in_ok-text.ensures.text;
      lines = c.lines_in-lines.ensures ∙ ap line_feeds (c.as_slice.ensures.value ∙ subst (λ (x : ResponseHeader). text ≡ head_text x) same c.in_ok-text.ensures.text);
      map = subst (λ (x : ResponseHeader). IsHeaderMap x.headers) same c.in_ok-whole.ensures.map;
      given = subst (λ (x : ResponseHeader). IfNone whole (AllByRecursion IsPlainField (pairs x.headers))) same (kept-plain whole _ _ c.in_ok-whole.ensures.whole);
    }

pub returns : goal.returns
returns c =
    let h : ResponseHeader = c.args.header.now in
    let fields = kept-fields (λ m. m.value) c.in_ok-whole.whole c.in_ok-text.text.items h.headers c.in_ok-whole.ensures.whole c.in_ok-text.ensures.text c.in_ok-whole.ensures.map in
    λ i. record { status = h.status; headers = fields i }
