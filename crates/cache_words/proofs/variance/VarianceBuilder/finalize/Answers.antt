use Rattle.std.proofs.Common.{◌≡◌, ◌∙◌, ap, map, refl, true, false}
use Rattle.std.specs.Map.Iter.{deref_pair}
use Rattle.std.proofs.lemmas.List.{map_push}
use Rattle.std.proofs.lemmas.Map.Iter.{iter_end}
use Rattle.cache_words.specs.Variance.{variance_text}
use Rattle.cache_words.specs.Blake.{blake2b_128}
use Rattle.cache_words.proofs.VarianceMap.{variance_none, variance_some, text_more}
use Rattle.cache_words.proofs.variance.VarianceBuilder.finalize.Goals as goal

pub returns-then-is_empty : goal.returns-then-is_empty
returns-then-is_empty c = variance_none c.self.inside.values.entries c.args.self c.self.view_is (c.if-is_empty.ensures.0 refl)

pub names-preserved : goal.names-preserved
names-preserved c =
    let s1 = c.update.ensures _ c.names.invariant in
    let s2 = c.update-in-names.ensures _ s1 in
    let s3 = c.update-in-names-2.ensures _ s2 in
    let s4 = c.update-in-names-3.ensures _ s3 in
    rw (map_push deref_pair c.names.yielded (c.in-Some.name, c.in-Some.value), text_more (map deref_pair c.names.yielded) c.in-Some.name.now c.in-Some.value.now)
    (rw (c.as_slice.ensures, c.as_slice-in-names.ensures) at s4)

pub returns : goal.returns
returns c =
    let given = c.into_iter-name-iterator.ensures.into_iter_gives in
    let all = iter_end deref_pair c.self.inside.values.entries c.names.yielded _ _ _ _ given.0 c.names.yielded_by c.in-None.is c.next.ensures.steps in
    variance_some c.self.inside.values.entries c.args.self c.finalize.result c.self.view_is given.5 (λ z. let bad : false ≡ true = c.if-is_empty.ensures.1 z in cc)
    (c.finalize.ensures _ c.names.invariant ∙ ap (λ p. blake2b_128 (variance_text p)) all.0)
