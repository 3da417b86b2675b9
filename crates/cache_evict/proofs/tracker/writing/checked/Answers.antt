use Rattle.std.proofs.Common.{◌<◌, ◌^◌, ℕ, subst}
use Rattle.std.specs.Prelude.{IfSome, IsUtf8, Option}
use Rattle.cache_words.specs.declared.key.CompactCacheKey.{CompactCacheKey}
use Rattle.cache_words.specs.Pack.{IsHash}
use Rattle.cache_evict.proofs.tracker.writing.checked.Goals as goal

pub returns-clause-fits : goal.returns-clause-fits
returns-clause-fits c short = record {
  primary = subst (λ (k : CompactCacheKey). IsHash k.primary) c.key-key.ensures c.check_hash.ensures;
  variance = subst (λ (k : CompactCacheKey). IfSome k.variance IsHash) c.key-key.ensures c.check_variance.ensures;
  tag = subst (λ (k : CompactCacheKey). IsUtf8 k.user_tag) c.key-key.ensures c.as_str-tag.ensures.utf8;
  short = short;
  id = subst (λ (o : Option ℕ). IfSome o (λ n. n < 2 ^ 64)) c.entry_id.ensures c.check_id.ensures;
}
