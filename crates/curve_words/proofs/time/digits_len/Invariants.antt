use Rattle.std.proofs.Common.{◌≡◌, ◌+◌, drop}
use Rattle.std.specs.List.{prefix_len}
use Rattle.curve_words.specs.Words.{is_digit}
use Rattle.curve_words.proofs.time.digits_len.Given as goal

abbrev pub invariant-loop-byte : goal.invariant-loop-byte
invariant-loop-byte l = (l.count ≡ l.byte-index) × (l.count + prefix_len is_digit (drop l.byte-index l.text) ≡ prefix_len is_digit l.text)
