use Rattle.cache_evict.proofs.TurnLaws.{shards_again, one_again}
use Rattle.cache_evict.proofs.laws.what_was_saved_is_loaded.Goals as goal

pub returns-clause-shards : goal.returns-clause-shards
returns-clause-shards g c name dir words n limit watermark m new old saved start end report loads kept =
    shards_again g.F.Folder.did g.F.Folder.failures_of g.F.Folder.keeps g.F.Folder.files kept name dir words n limit watermark m new old saved start end report loads

pub returns-clause-one : goal.returns-clause-one
returns-clause-one g c name dir words limit watermark m new old saved start end report loads kept =
    one_again g.F.Folder.did g.F.Folder.failures_of g.F.Folder.keeps g.F.Folder.files kept name dir words limit watermark m new old saved start end report loads
