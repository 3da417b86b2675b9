use Rattle.std.proofs.Common.{sym, ◌∙◌}
use Rattle.store_memory.specs.Kept.{bytes_in}
use Rattle.store_memory.proofs.ReaderLaws.{left-none}
use Rattle.store_memory.proofs.readers.leave_bytes.Goals as goal

pub returns-else-contains_key : goal.returns-else-contains_key
returns-else-contains_key c = sym (left-none c.args.number (bytes_in c.args.buffer) c.args.whole c.args.readers.now (sym c.contains_key.ensures ∙ c.if-contains_key.false))
