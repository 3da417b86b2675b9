use Rattle.std.proofs.Common.{if◌then◌else◌, []}
use Rattle.gateway_exchanges.specs.Replies.{reply_of}
use Rattle.gateway_tier.specs.Releases.{waiters_of}
use Rattle.gateway_tier.specs.Roles.{readers_of}
use Rattle.gateway_tier.proofs.Walks.{with_wakes-append}
use Rattle.gateway_tier.proofs.at_tier.wake_released.Goals as goal

pub returns-clause-ok : goal.returns-clause-ok
returns-clause-ok c =
    rw (with_wakes-append (if c.args.released.permit then waiters_of c.args.e.now c.args.g.now.table else [])
    (if c.args.released.write then readers_of c.args.e.now c.args.g.now.table else []) (reply_of c.args.out.now))
    (rw c.in_ok-wake_if_permit.ensures.ok at c.wake_if_write.ensures.ok)
