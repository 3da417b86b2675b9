use Rattle.std.proofs.Common.{◌+◌, arith, take}
use Rattle.std.proofs.lemmas.List.{take_more, flat_map_more}
use Rattle.cache_words.specs.Forms.{shortest, numbers, arrays}
use Rattle.cache_words.proofs.pack.writing.form_of.Goals as goal

pub each-preserved : goal.each-preserved
each-preserved c = record {
  within = omega (arith, c.each.invariant.within, c.write_byte-len.ensures.end);
  form =
      rw (take_more c.args.hash.now c.each.byte-index 0 (omega arith), ← flat_map_more (shortest numbers) (shortest arrays 16) (take c.each.byte-index c.args.hash.now) _)
      (rw c.each.invariant.form at c.write_byte-len.ensures.written);
}
