use Rattle.std.proofs.Common.{◌≡◌, ℕ, List, Option, drop, subst, arith}
use Rattle.tier_loads.specs.Requests.{PlainRequest}
use Rattle.tier_served.specs.Uniform.{AreSeenAs}
use Rattle.tier_served.specs.Known.{Knows}
use Rattle.tier_served.proofs.Alike.{noted-all}
use Rattle.tier_served.proofs.uniformity.uniform.Goals as goal

-- src/uniformity.rt:21:1
pub returns : goal.returns
returns g c =
    let none : c.loop-i.i ≡ 0 = omega (arith, c.loop-i-test.false) in
    let noted = c.loop-i.invariant.noted in
    let seen : List (Option PlainRequest) = noted.0 in
    (seen, subst (λ (i : ℕ). AreSeenAs (drop i c.args.requests.now) seen) none noted.1, noted-all c.loop-i.alike seen (Knows c.loop-i.table) noted.2)
