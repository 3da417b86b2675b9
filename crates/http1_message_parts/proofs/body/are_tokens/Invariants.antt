use Rattle.std.proofs.Common.{◌≡◌, drop, map}
use Rattle.std.specs.List.{list_all}
use Rattle.httparse.specs.Grammar.{is_token}
use Rattle.http1_message_parts.proofs.body.are_tokens.Given as goal

abbrev pub invariant-loop-coding : goal.invariant-loop-coding
invariant-loop-coding l = list_all is_token (map (λ e. e.now) (drop l.coding-index l.codings)) ≡ list_all is_token (map (λ e. e.now) l.codings)
