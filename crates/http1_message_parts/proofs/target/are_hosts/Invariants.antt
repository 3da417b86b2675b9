use Rattle.std.proofs.Common.{◌≡◌, drop, map}
use Rattle.std.specs.List.{list_all}
use Rattle.http1_message_parts.specs.Host.{is_host}
use Rattle.http1_message_parts.proofs.target.are_hosts.Given as goal

abbrev pub invariant-loop-host : goal.invariant-loop-host
invariant-loop-host l = list_all is_host (map (λ h. h.now) (drop l.host-index l.hosts)) ≡ list_all is_host (map (λ h. h.now) l.hosts)
