use Rattle.std.proofs.Common.{◌≡◌, drop, map}
use Rattle.std.specs.List.{list_any}
use Rattle.http1_message_parts.specs.Body.{is_chunked}
use Rattle.http1_message_parts.proofs.body.any_chunked.Given as goal

abbrev pub invariant-loop-coding : goal.invariant-loop-coding
invariant-loop-coding l = list_any is_chunked (map (λ e. e.now) (drop l.coding-index l.codings)) ≡ list_any is_chunked (map (λ e. e.now) l.codings)
