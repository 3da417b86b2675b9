use Rattle.std.proofs.Common.{◌≡◌, ◌+◌, drop}
use Rattle.std.specs.List.{prefix_len}
use Rattle.curve_words.specs.Words.{is_blank}
use Rattle.curve_words.proofs.words.after_blanks.Given as goal

abbrev pub invariant-loop-byte : goal.invariant-loop-byte
invariant-loop-byte l = (l.count ≡ l.byte-index) × (l.count + prefix_len is_blank (drop l.byte-index l.text) ≡ prefix_len is_blank l.text)
