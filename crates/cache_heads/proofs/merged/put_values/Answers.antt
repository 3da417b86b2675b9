use Rattle.std.proofs.Common.{rules, ◌≡◌, List, [], ◌∷◌, ◌++◌, refl, ap, sym, ◌∙◌}
use Rattle.http_header.specs.declared.value.HeaderValue.{HeaderValue}
use Rattle.http_header.specs.HeaderMap.{Entries, append}
use Rattle.http_header.specs.Token.{lowercase}
use Rattle.cache_heads.specs.Merged.{with_values}
use Rattle.cache_heads.proofs.MergeLaws.{append-more, more-behind, none-behind, first-passes, more-passes}
use Rattle.cache_heads.proofs.merged.put_values.Goals as goal

pub loop-value-init : goal.loop-value-init
loop-value-init c = (c.in-Ok.first, [], search rules, search rules)

pub loop-value-preserved : goal.loop-value-preserved
loop-value-preserved c =
    let i = c.loop-value.invariant in (
      i.0,
      i.1 ++ c.in-Some-value.value.now ∷ [],
      (c.in_ok-append_copy.ensures.ok ∙ ap (λ (m : Entries HeaderValue). append m (lowercase c.args.name.now) c.in-Some-value.value.now) i.2 ∙ append-more (lowercase c.args.name.now) (i.0 ∷ i.1) c.in-Some-value.value.now c.args.headers.now),
      i.3 ∙ ap (λ (l : List HeaderValue). i.0 ∷ l) (more-behind i.1 c.in-Some-value.value.now c.next-in-loop-value.new.self c.loop-value.value-iterator c.in-Some-value.ensures.steps),
    )

-- what was sent has been put
pub returns-clause-ok : goal.returns-clause-ok
returns-clause-ok c =
    let i = c.loop-value.invariant in
    i.2 ∙ ap (λ (vs : List HeaderValue). with_values (lowercase c.args.name.now) vs c.args.headers.now) (sym (i.3 ∙ ap (λ (l : List HeaderValue). i.0 ∷ l) (none-behind i.1 c.loop-value.value-iterator c.in-None.ensures.steps.0)))

-- the first value doesn't fit
pub returns-in_err-insert-clause-full : goal.returns-in_err-insert-clause-full
returns-in_err-insert-clause-full c e =
    first-passes c.args.headers.now (lowercase c.args.name.now) c.in-Some.first.now c.next.new.self _ (search rules) (c.in_err-insert.ensures.full.0 (search rules))

-- one more value doesn't fit
pub returns-in_err-append_copy-clause-full : goal.returns-in_err-append_copy-clause-full
returns-in_err-append_copy-clause-full c e =
    let i = c.loop-value.invariant in
    more-passes c.args.headers.now c.loop-value.headers (lowercase c.args.name.now) i.0 i.1 c.in-Some-value.value.now c.next-in-loop-value.new.self _
    (i.3 ∙ ap (λ (l : List HeaderValue). i.0 ∷ i.1 ++ l) c.in-Some-value.ensures.steps) i.2 (c.in_err-append_copy.ensures.full (search rules))
