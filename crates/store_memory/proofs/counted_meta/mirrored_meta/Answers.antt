use Rattle.store_memory.proofs.LengthLaws.{mirrored-length}
use Rattle.store_memory.proofs.counted_meta.mirrored_meta.Goals as goal

pub returns-clause-len : goal.returns-clause-len
returns-clause-len c =
    mirrored-length c.args.meta.now c.mirrored.result c.mirrored-2.result c.mirrored-3.result c.mirrored_option.result c.mirrored_option-2.result
    c.mirrored.ensures.len c.mirrored-2.ensures.len c.mirrored-3.ensures.len c.mirrored_option.ensures.nil c.mirrored_option-2.ensures.there c.mirrored_option-2.ensures.count
