use Rattle.std.proofs.Common.{inl, ap, ◌∙◌, List}
use Rattle.cache_entries.specs.declared.entry.CacheEntryKey.{CacheEntryKey}
use Rattle.tier_calls.specs.Answers.{words_of}
use Rattle.tier_calls.proofs.held.TierHandle.read.Goals as goal

pub returns-in-Some : goal.returns-in-Some
returns-in-Some c = (
  c.read_out.ensures.head,
  inl (
    c.in-Some.outcome,
    λ t. c.in-Some.ensures.some t (words_of c.args.self.now.rng),
    c.read_out.ensures.answer ∙ c.read_told-told.ensures,
    ap (λ (e : List CacheEntryKey). record c.args.self.now { tier = c.read.new.self; evicted = e }) c.new.ensures,
    c.read_out.ensures.body,
  ),
)
