use Rattle.std.proofs.Common.{rules}
use Rattle.lru_files.proofs.mem_folder.MemFolder.read_open.Goals as goal

pub returns : goal.returns
returns c = search rules
