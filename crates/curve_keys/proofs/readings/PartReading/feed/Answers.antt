use Rattle.std.proofs.Common.{◌∙◌, refl, sym}
use Rattle.curve_keys.proofs.ShareLaws.{adds-other, adds-own}
use Rattle.curve_keys.proofs.readings.PartReading.feed.Goals as goal

pub returns-then-not-has-clause-added : goal.returns-then-not-has-clause-added
returns-then-not-has-clause-added c =
    adds-other (record { key = c.args.key.now; said = c.args.said; when = c.args.when; times = c.args.times }) c.args.self.now (sym c.has.ensures ∙ c.if-not-has.true)

pub returns-clause-added : goal.returns-clause-added
returns-clause-added c =
    adds-own (record { key = c.args.key.now; said = c.args.said; when = c.args.when; times = c.args.times }) _ _ refl c.in_ok-feed.ensures.same
    (sym c.has.ensures ∙ c.if-not-has.false) c.requires.said c.in_ok-feed.ensures.read
