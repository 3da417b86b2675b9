use Rattle.std.proofs.Common.{rules, ap}
use Rattle.std.proofs.lemmas.Fn.{filter_same}
use Rattle.gateway_exchanges.specs.Replies.{reply_of}
use Rattle.gateway.specs.Calls.{is_woken}
use Rattle.gateway.proofs.calling.keep_open.Goals as goal

pub returns : goal.returns
returns c =
    ap (λ ys. record (reply_of c.args.out.now) { wakes = ys })
    (filter_same _ (is_woken c.args.is_polled c.args.x c.args.table.now) _ (λ y b f' k. search rules) _ _ c.retain.ensures.filtered)
