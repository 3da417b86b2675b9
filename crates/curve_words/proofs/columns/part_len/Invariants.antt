use Rattle.std.proofs.Common.{◌≡◌, ◌+◌, drop}
use Rattle.std.specs.List.{prefix_len}
use Rattle.curve_words.specs.Columns.{is_within}
use Rattle.curve_words.proofs.columns.part_len.Given as goal

abbrev pub invariant-loop-byte : goal.invariant-loop-byte
invariant-loop-byte l = (l.count ≡ l.byte-index) × (l.count + prefix_len (is_within l.delimiter) (drop l.byte-index l.text) ≡ prefix_len (is_within l.delimiter) l.text)
