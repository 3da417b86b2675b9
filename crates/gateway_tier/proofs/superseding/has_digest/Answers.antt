use Rattle.std.proofs.Common.{ℕ, Vec, Global, ap, sym, ◌∙◌}
use Rattle.std.specs.Prelude.{nat_eq}
use Rattle.std.specs.Cmp.Lexicographic.{pointwise}
use Rattle.std.proofs.lemmas.List.Folds.{list_any_at}
use Rattle.cache_words.specs.Blake.{blake2b_128}
use Rattle.gateway_tier.proofs.Walks.{any-map}
use Rattle.gateway_tier.proofs.superseding.has_digest.Goals as goal

pub returns-then-is_of : goal.returns-then-is_of
returns-then-is_of c =
    sym (any-map (λ key. pointwise nat_eq (blake2b_128 key) c.args.digest.now) (λ (key : Vec ℕ Global). key.items) c.args.keys.now
    ∙ list_any_at (λ (key : Vec ℕ Global). pointwise nat_eq (blake2b_128 key.items) c.args.digest.now) c.args.keys.now c.loop-key.key-index c.key-item.result c.loop-key-test.true
    (ap (λ (key : Vec ℕ Global). pointwise nat_eq (blake2b_128 key.items) c.args.digest.now) (sym c.key-item.is) ∙ sym c.is_of.ensures ∙ c.if-is_of.true))
