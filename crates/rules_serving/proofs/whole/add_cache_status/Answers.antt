use Rattle.std.proofs.Common.{map}
use Rattle.rules_fields.specs.Types.{chosen}
use Rattle.rules_serving.proofs.Written.{status_written}
use Rattle.rules_serving.proofs.whole.add_cache_status.Goals as goal

pub returns : goal.returns
returns c =
    status_written c.args.text.now.items c.extend_from_slice.new.self.items c.extend_from_slice-2.new.self.items c.add_said.new.text.items c.extend_from_slice-3.new.self.items
    (map (λ h. h.now) c.args.how.now) (chosen c.args.options.now)
    c.in_ok-extend_from_slice.ensures.items c.in_ok-extend_from_slice-2.ensures.items c.in_ok-add_said.ensures c.in_ok-extend_from_slice-3.ensures.items
