use Rattle.std.proofs.Common.{◌≡◌, drop, map}
use Rattle.std.specs.Prelude.{bytes_eq}
use Rattle.std.specs.List.{list_any}
use Rattle.http1_message_parts.specs.Host.{normal_host}
use Rattle.rules_quick.proofs.front.is_word.Given as goal

abbrev pub invariant-loop-word : goal.invariant-loop-word
invariant-loop-word l =
    list_any (λ word. bytes_eq (normal_host l.scheme word) l.host) (map (λ h. h.now) (drop l.word-index l.words)) ≡ list_any (λ word. bytes_eq (normal_host l.scheme word) l.host) (map (λ h. h.now) l.words)
