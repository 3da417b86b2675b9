use Rattle.std.proofs.Common.{◌∙◌, sym}
use Rattle.curve_keys.proofs.ShareLaws.{adds-unsaid, adds-said}
use Rattle.curve_keys.proofs.readings.Readings.feed.Goals as goal

pub returns-then-not-is_said-clause-fed : goal.returns-then-not-is_said-clause-fed
returns-then-not-is_said-clause-fed c = adds-unsaid c.args.key.now c.args.said c.args.when c.args.times c.args.self.now (sym c.is_said.ensures ∙ c.if-not-is_said.true)

pub returns-clause-fed : goal.returns-clause-fed
returns-clause-fed c = adds-said c.args.key.now c.args.said c.args.when c.args.times _ _ (sym c.is_said.ensures ∙ c.if-not-is_said.false) c.in_ok-feed_said.ensures.added
