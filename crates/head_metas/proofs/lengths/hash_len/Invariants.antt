use Rattle.std.proofs.Common.{◌≡◌, ◌+◌, ◌*◌, ◌≤◌, take, length}
use Rattle.std.specs.Prelude.{flat_map}
use Rattle.cache_words.specs.Forms.{shortest, numbers}
use Rattle.head_metas.proofs.lengths.hash_len.Given as goal

-- each byte takes two bytes at most
abbrev pub invariant-each : goal.invariant-each
invariant-each l = record {
  within : l.len ≤ 3 + 2 * l.byte-index;
  form : l.len ≡ 3 + length (flat_map (shortest numbers) (take l.byte-index l.hash));
}
