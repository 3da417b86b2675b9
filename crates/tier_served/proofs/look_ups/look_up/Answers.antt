use Rattle.std.proofs.Common.{◌≡◌, ◌∙◌, true, Some, ap, sym}
use Rattle.tier_served.specs.Looks.{hit_of}
use Rattle.tier_served.proofs.LookedUp.{looked-absent, unread, looked-whole}
use Rattle.tier_served.proofs.look_ups.look_up.Goals as goal

pub read-requires : goal.read-requires
read-requires g c =
    let h : hit_of c.in_ok-answer.answer ≡ Some true = sym c.hit_of.ensures ∙ c.in-Some-true.is ∙ ap Some c.in-Some-true.field-0-test in
    unread (g.T.Serve.state c.args.tier.now) (g.R.Rng.stream c.args.rng.now) c.args.moment c.args.id (g.T.Serve.state c.take_at.new.tier) (g.R.Rng.stream c.take_at.new.rng) c.in_ok-answer.answer
    (rw c.in_ok-answer.was at c.take_at.ensures) h c.requires

pub returns-in-Some-true : goal.returns-in-Some-true
returns-in-Some-true g c = λ e is_new.
    let h : hit_of c.in_ok-answer.answer ≡ Some true = sym c.hit_of.ensures ∙ c.in-Some-true.is ∙ ap Some c.in-Some-true.field-0-test in
    looked-whole (g.T.Serve.state c.args.tier.now) (g.R.Rng.stream c.args.rng.now) c.args.moment c.args.id (g.T.Serve.state c.take_at.new.tier) (g.R.Rng.stream c.take_at.new.rng) c.in_ok-answer.answer
    (rw c.in_ok-answer.was at c.take_at.ensures) h e is_new c.read.result (g.T.Serve.state c.read.new.tier) (g.R.Rng.stream c.read.new.rng) c.read.ensures

pub returns-in-None : goal.returns-in-None
returns-in-None g c = λ e is_new.
    looked-absent (g.T.Serve.state c.args.tier.now) (g.R.Rng.stream c.args.rng.now) c.args.moment c.args.id (g.T.Serve.state c.take_at.new.tier) (g.R.Rng.stream c.take_at.new.rng) c.in_ok-answer.answer
    (rw c.in_ok-answer.was at c.take_at.ensures) (sym c.hit_of.ensures ∙ c.in-None.is) e is_new
