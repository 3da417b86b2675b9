-- The bytes so far, in front of those of what is left, are all the bytes, unless something was no digit.
use Rattle.std.proofs.Common.{◌≡◌, ◌≤◌, ◌+◌, ◌-◌, ◌*◌, drop}
use Rattle.std.specs.Prelude.{vec_len, vec_capacity}
use Rattle.trace_lines.proofs.HexLemmas.{SoFar}
use Rattle.trace_lines.proofs.hex_text.decode.Given as goal

abbrev pub invariant-pairs : goal.invariant-pairs
invariant-pairs l = record {
  rest : l.rest ≡ drop (2 * l.counter) l.text;
  room : vec_len l.bytes + (l.end - l.counter) ≤ vec_capacity l.bytes;
  so_far : SoFar l.lowest l.text l.bytes.items l.counter;
}
