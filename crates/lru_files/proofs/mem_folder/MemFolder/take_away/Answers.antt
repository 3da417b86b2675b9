use Rattle.std.proofs.Common.{arith, rules}
use Rattle.std.proofs.lemmas.Map.Text.{text_keys}
use Rattle.lru_files.proofs.mem_folder.MemFolder.take_away.Goals as goal

pub returns-clause-gone : goal.returns-clause-gone
returns-clause-gone c = λ found. record {
  was = search rules;
  gone = grind (arith, text_keys);
  others = λ path away. grind (arith, text_keys, away);
}
