use Rattle.std.proofs.Common.{rules}
use Rattle.cache_words.proofs.pack.sink.VecU8Sink.put.Goals as goal

pub returns : goal.returns
returns c = search rules
