use Rattle.std.proofs.Common.{rules, sym, ap, ◌∙◌}
use Rattle.tier_calls.specs.Tiers.{state_of}
use Rattle.tier_calls.proofs.MadeLaws.{refused-of, empty-of}
use Rattle.tier_calls.proofs.made.make.Goals as goal

pub returns : goal.returns
returns c = record {
  told = search rules;
  refused = search (refused-of, rules);
  tier = λ s e. empty-of c.args.options.now c.new-tier.result c.shards_of.result c.settings_of.result c.shards_of.ensures c.settings_of.ensures c.new-tier.ensures.count
      c.new-tier.ensures.empty s (ap state_of (sym c.new.ensures.tier) ∙ e);
  words = search rules;
  most = search rules;
  evicted = search rules;
  list = search rules;
  files = search rules;
}
