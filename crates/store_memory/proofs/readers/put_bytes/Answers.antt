use Rattle.std.proofs.Common.{sym, ◌∙◌, ap}
use Rattle.std.specs.Option.{option_copied_mut}
use Rattle.store_memory.proofs.ReaderLaws.{left-set}
use Rattle.store_memory.proofs.readers.put_bytes.Goals as goal

pub returns : goal.returns
returns c =
    left-set c.args.number c.unwrap-reading.result.now c.args.buffer c.args.whole c.args.readers.now (c.get_mut.follows.lender _) c.get_mut.ensures.ordered
    (sym c.get_mut.ensures.value ∙ ap option_copied_mut c.unwrap-reading.ensures) (c.get_mut.follows.holds _).0
