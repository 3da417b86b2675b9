use Rattle.tier_served.proofs.Serving.{served_by}
use Rattle.tier_served.proofs.serve.Serve.serve.Goals as goal

pub returns-in-Get : goal.returns-in-Get
returns-in-Get g c =
    served_by (g.Self.Serve.state c.args.self.now) (g.R.Rng.stream c.args.rng.now) c.args.request.now c.get.result (g.Self.Serve.state c.get.new.tier) (g.R.Rng.stream c.get.new.rng) _ c.in-Get.is
    (record { calls = c.get.ensures.calls; leaves = c.get.ensures.leaves; aside = c.get.ensures.aside })
