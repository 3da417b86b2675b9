use Rattle.std.proofs.Common.{rules}
use Rattle.std.specs.Prelude.{codes}
use Rattle.lru_files.proofs.Runs.{weakened}
use Rattle.cache_evict.proofs.SaveLaws.{are_whole, saves-by}
use Rattle.cache_evict.proofs.tracker.Tracker.save_shards.Goals as goal

pub returns-clause-saved : goal.returns-clause-saved
returns-clause-saved g c =
    saves-by c.args.dir.now (codes "lru.data") c.args.words.now g.row.N c.args.self.now
    g.F.Folder.did g.F.Folder.failures_of g.F.Folder.keeps g.F.Folder.opened g.F.Folder.files c.args.folder.now c.save_shards-saved.new.folder
    c.save_shards-saved.result c.answered.result c.save_shards-saved.ensures.stops c.self.invariant.some c.answered.ensures c.save_shards-saved.ensures.counts c.save_shards-saved.ensures.told
    c.save_shards-saved.ensures.left (λ i below r post. search rules)

pub returns-clause-stops : goal.returns-clause-stops
returns-clause-stops g c = λ kept.
    weakened _ (λ left h. are_whole c.args.dir.now (codes "lru.data") c.args.words.now g.row.N c.args.self.now _ (λ i below r post. search rules) (g.F.Folder.files c.args.folder.now) left h)
    (c.save_shards-saved.ensures.stops kept)
