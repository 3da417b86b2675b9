use Rattle.std.proofs.Common.{refl, append_assoc}
use Rattle.gateway_rules.proofs.urls.add_request_line.Goals as goal

pub returns : goal.returns
returns c = rw (c.in_ok-extend_from_slice-3.ensures.items, c.in_ok-extend_from_slice-2.ensures.items, c.in_ok-extend_from_slice.ensures.items, append_assoc, append_assoc) refl
