use Rattle.std.proofs.Common.{rules}
use Rattle.std.specs.Prelude.{codes}
use Rattle.lru_files.proofs.Runs.{weakened}
use Rattle.lru_async_manager.specs.Files.{IsSomeText}
use Rattle.lru_async_manager.proofs.SavingLaws.{are_whole-by, left-by, memory_is_uncalled}
use Rattle.lru_async_manager.proofs.manager.Manager.save.Goals as goal

pub returns-clause-saved : goal.returns-clause-saved
returns-clause-saved g c = record {
  ended = c.save_shards-saved.result;
  answer = c.answered.ensures;
  left = left-by c.args.dir.now (codes "lru.data") c.args.words.now g.row.N (λ i. IsSomeText) g.F.Folder.did g.F.Folder.keeps g.F.Folder.opened g.F.Folder.files
      c.args.folder.now c.save_shards-saved.new.folder c.save_shards-saved.result c.save_shards-saved.ensures.stops c.save_shards-saved.ensures.left (λ i below r post. search rules);
  counts = c.save_shards-saved.ensures.counts;
  told = c.save_shards-saved.ensures.told;
}

pub returns-clause-stops : goal.returns-clause-stops
returns-clause-stops g c = λ kept.
    weakened _ (λ left h. are_whole-by c.args.dir.now (codes "lru.data") c.args.words.now g.row.N _ (λ i. IsSomeText) (λ i below r post. search rules) (g.F.Folder.files c.args.folder.now) left h)
    (c.save_shards-saved.ensures.stops kept)

pub returns-clause-uncalled : goal.returns-clause-uncalled
returns-clause-uncalled g c = λ memory.
    memory_is_uncalled g.F.Folder.did g.F.Folder.failures_of c.args.dir.now c.args.folder.now c.save_shards-saved.new.folder c.save_shards-saved.result c.answered.result c.answered.ensures
    c.save_shards-saved.ensures.told memory
