use Rattle.std.proofs.Common.{ap, ◌∙◌}
use Rattle.std.proofs.lemmas.Result.{IfOk-weaker}
use Rattle.request_puts.specs.Response.{whole_by}
use Rattle.request_puts.proofs.put.whole.whole_of.Goals as goal

pub returns-in-Complete-clause-whole : goal.returns-in-Complete-clause-whole
returns-in-Complete-clause-whole g c =
    let gives = rw c.in-Complete.is at c.in_ok-response.ensures in
    IfOk-weaker c.whole_by.result _ _ (λ whole e. (gives.0, gives.1, e ∙ ap (whole_by c.args.limit (g.C.CachePut.verdict c.args.cache_put.now c.args.moment)) gives.2)) c.whole_by.ensures.whole

pub returns-in-Incomplete-clause-whole : goal.returns-in-Incomplete-clause-whole
returns-in-Incomplete-clause-whole g c =
    let gives = rw c.in-Incomplete.is at c.in_ok-response.ensures in
    IfOk-weaker c.short_by.result _ _ (λ whole e. (gives.0, gives.1, e ∙ ap (whole_by c.args.limit (g.C.CachePut.verdict c.args.cache_put.now c.args.moment)) gives.2)) c.short_by.ensures.whole
