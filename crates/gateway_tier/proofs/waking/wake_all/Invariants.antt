use Rattle.std.proofs.Common.{◌≡◌, filter, take}
use Rattle.std.specs.Prelude.{option_copied}
use Rattle.gateway_exchanges.specs.Frames.{HasSameButWakes}
use Rattle.gateway_exchanges.specs.Replies.{reply_of}
use Rattle.gateway_exchanges.specs.Tables.{numbers_at}
use Rattle.gateway_tier.specs.Roles.{plays, with_own, with_wakes}
use Rattle.gateway_tier.proofs.waking.wake_all.Given as goal

abbrev pub invariant-loop-place : goal.invariant-loop-place
invariant-loop-place l = record {
  woken : reply_of l.out ≡ with_wakes (filter (plays l.role l.key (with_own (option_copied l.own) l.g.table)) (take l.place (numbers_at l.key l.g.table))) (reply_of l.fn.out);
  rest : HasSameButWakes l.fn.out l.out;
}
