use Rattle.std.proofs.Common.{ℕ, ◌<◌, ◌^◌, subst, sym}
use Rattle.lru_numbers.specs.Names.{name_at}
use Rattle.cache_evict.proofs.GoneLaws.{sizes}
use Rattle.cache_evict.proofs.RoomLaws.{within-tracked}
use Rattle.cache_evict.proofs.tracker.Tracker.shards_are_within.Goals as goal

pub returns : goal.returns
returns g c =
    let names = name_at c.self.inside.numbers in
    let shards = c.self.inside.core.shards in
    rw (← c.self.view_is) (
      within-tracked g.row.N names shards c.shards_are_within.ensures.within,
      subst (λ (w : ℕ). w < 2 ^ 64) (sym (sizes names shards)) c.shards_are_within.ensures.counted,
    )
