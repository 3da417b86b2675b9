use Rattle.std.proofs.Common.{refl}
use Rattle.store_memory.proofs.ReadLaws.{reading-parted}
use Rattle.store_memory.proofs.cache.MemCache.detach.Goals as goal

pub returns : goal.returns
returns g c =
    rw (← c.self.view_is) (record { store = refl; next = refl; readings = reading-parted c.args.number c.self.inside.readers c.detach.new.readers c.detach.ensures })
