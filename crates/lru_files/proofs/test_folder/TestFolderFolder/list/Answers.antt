use Rattle.std.proofs.Common.{subst}
use Rattle.std.specs.Prelude.{IfOk, map, string_bytes}
use Rattle.lru_files.specs.Folder.{IsListing}
use Rattle.lru_files.specs.MemFolder.{files_of}
use Rattle.lru_files.proofs.test_folder.TestFolderFolder.list.Goals as goal

pub returns-clause-ok : goal.returns-clause-ok
returns-clause-ok c = λ kept. subst (λ folder. IfOk c.list.result (λ names. IsListing (files_of folder) c.args.dir.now (map string_bytes names.items))) c.refuses.ensures.folder (c.list.ensures.ok kept)
