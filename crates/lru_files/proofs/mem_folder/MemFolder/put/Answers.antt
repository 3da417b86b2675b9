use Rattle.std.proofs.Common.{arith}
use Rattle.std.proofs.lemmas.Map.Text.{text_keys}
use Rattle.lru_files.proofs.mem_folder.MemFolder.put.Goals as goal

pub returns-clause-ok : goal.returns-clause-ok
returns-clause-ok c = record {
  there = grind (arith, text_keys);
  others = λ path away. grind (arith, text_keys, away);
}
