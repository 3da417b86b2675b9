use Rattle.std.proofs.Common.{◌≡◌, drop, map}
use Rattle.http1_message.specs.Cookies.{is_kept}
use Rattle.http1_message.proofs.cookies.is_kept.Given as goal

abbrev pub invariant-loop-name : goal.invariant-loop-name
invariant-loop-name l = is_kept (map (λ n. n.now) (drop l.name-index l.names)) l.crumb ≡ is_kept (map (λ n. n.now) l.names) l.crumb
