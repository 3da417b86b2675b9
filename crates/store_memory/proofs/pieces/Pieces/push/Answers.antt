use Rattle.std.proofs.Common.{rules, ap, length, ◌≡◌, ◌<◌}
use Rattle.store_memory.proofs.PieceLaws.{ends_push}
use Rattle.store_memory.proofs.pieces.Pieces.push.Goals as goal

pub invariant_of-self-2 : goal.invariant_of-self-2
invariant_of-self-2 c =
    let items = c.self.inside.items.items in
    let same : length c.in_ok-bytes.bytes ≡ length c.args.more = ap length c.in_ok-bytes.ensures.value in
    let some : 0 < length c.in_ok-bytes.bytes = search rules in
    let end = c.in-Some.ensures in (
      rw (c.push_reserved.ensures.items, c.reserve.ensures.items) (ends_push items 0 (record { end = c.in-Some.end; bytes = c.in_ok-bytes.bytes }) c.self.invariant.0 some (search rules) (search rules)),
      c.kept.ensures.empty,
    )
