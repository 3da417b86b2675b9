use Rattle.std.proofs.Common.{rules}
use Rattle.lru_files.proofs.test_folder.TestFolder.fails_once.Goals as goal

pub returns-clause-plan : goal.returns-clause-plan
returns-clause-plan c = search rules
