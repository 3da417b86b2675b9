use Rattle.std.proofs.Common.{◌≡◌, true, false, ◌∙◌, ap, sym, List, Option, Some}
use Rattle.std.specs.Prelude.{codes}
use Rattle.cache_words.specs.Time.{MomentValue}
use Rattle.head_directives.specs.Written.{Written}
use Rattle.head_directives.specs.Control.{named, lines_under}
use Rattle.head_directives.specs.Lifetime.{lists_fields}
use Rattle.cache_heads.specs.Stale.{revalidate_window, error_window}
use Rattle.cache_heads.specs.Meta.{new_meta}
use Rattle.cache_heads.specs.Verdict.{verdict_by, kept_until}
use Rattle.cache_heads.specs.declared.reason.RespCacheable.TheVariants.{Cacheable}
use Rattle.cache_heads.proofs.Refusals.{on_err}
use Rattle.cache_heads.proofs.filters.by_lines.resp_cacheable_by_lines.Goals as goal

pub returns-in_default-fresh_until-clause-verdict : goal.returns-in_default-fresh_until-clause-verdict
returns-in_default-fresh_until-clause-verdict g c =
    let k = c.in-Some.ensures in
    let until = sym c.in_default-fresh_until.is ∙ c.fresh_until.ensures k.0 k.2 in
    let defaults = c.args.defaults.now in
    ap (λ (u : Option MomentValue). kept_until u c.args.now (Some k.0) c.args.resp_header defaults.stale_while_revalidate_sec defaults.stale_if_error_sec) until
    ∙ ap (λ (o : Option (List Written)). verdict_by c.args.now o c.args.resp_header false g.F.FreshDurationByStatusFn.duration defaults) (sym k.1)

pub returns-clause-verdict : goal.returns-clause-verdict
returns-clause-verdict g c =
    let k = c.in-Some.ensures in
    let now = c.args.now in
    let header = c.args.resp_header in
    let moment = c.in-Some-fresh_until.until in
    let defaults = c.args.defaults.now in
    let until = sym c.in-Some-fresh_until.is ∙ c.fresh_until.ensures k.0 k.2 in
    let revalidate = c.windows-revalidate.ensures.revalidate k.0 k.2 in
    let error = c.windows-revalidate.ensures.error k.0 k.2 in
    let same = c.lists_fields.ensures.none c.if-lists_fields.false k.0 k.2 header.headers in
    ap Cacheable (c.new-meta.ensures
    ∙ ap (λ r. new_meta moment now r c.windows-revalidate.result.1 header) revalidate
    ∙ ap (λ e. new_meta moment now (revalidate_window (Some k.0) defaults.stale_while_revalidate_sec) e header) error
    ∙ ap (λ h. new_meta moment now (revalidate_window (Some k.0) defaults.stale_while_revalidate_sec) (error_window (Some k.0) defaults.stale_if_error_sec) (record header { headers = h })) (sym same))
    ∙ ap (λ (u : Option MomentValue). kept_until u now (Some k.0) header defaults.stale_while_revalidate_sec defaults.stale_if_error_sec) until
    ∙ ap (λ (o : Option (List Written)). verdict_by now o header false g.F.FreshDurationByStatusFn.duration defaults) (sym k.1)

pub returns-in_err-control-clause-memory : goal.returns-in_err-control-clause-memory
returns-in_err-control-clause-memory g c =
    let k = c.in-Some.ensures in
    let listed : (ds : List Written) × (named (lines_under (codes "cache-control") c.args.resp_header.headers) ≡ Some ds) × (lists_fields ds ≡ true) =
    (k.0, k.1, sym (c.lists_fields.ensures.exact k.0 k.2) ∙ c.if-lists_fields.true) in
    on_err c.from_residual.result listed
