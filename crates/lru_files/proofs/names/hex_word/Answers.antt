use Rattle.std.proofs.Common.{rules}
use Rattle.lru_files.proofs.names.hex_word.Goals as goal

pub returns : goal.returns
returns c = search rules
