use Rattle.std.proofs.Common.{◌≡◌, drop, map, bytes_eq}
use Rattle.std.specs.List.{list_any}
use Rattle.http1_message_parts.specs.Host.{normal_host}
use Rattle.http1_message_parts.proofs.target.is_word.Given as goal

abbrev pub invariant-loop-word : goal.invariant-loop-word
invariant-loop-word l =
    list_any (λ word. bytes_eq (normal_host l.scheme word) l.host) (map (λ h. h.now) (drop l.word-index l.words))
    ≡ list_any (λ word. bytes_eq (normal_host l.scheme word) l.host) (map (λ h. h.now) l.words)
