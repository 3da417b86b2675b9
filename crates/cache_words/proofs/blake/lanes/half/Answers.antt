use Rattle.std.proofs.Common.{refl}
use Rattle.cache_words.proofs.blake.lanes.half.Goals as goal

pub returns : goal.returns
returns c j h =
    rw (
      c.xor_rotate-b1.ensures j h,
      c.add-c1.ensures j h,
      c.xor_rotate-d1.ensures j h,
      c.add-a1.ensures j h,
      c.add.ensures j h,
    ) refl
