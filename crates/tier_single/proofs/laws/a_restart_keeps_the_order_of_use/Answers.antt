use Rattle.tier_single.proofs.RestartLaws.{order_again}
use Rattle.tier_single.proofs.laws.a_restart_keeps_the_order_of_use.Goals as goal

pub returns : goal.returns
returns g c n limit watermark dir words m m' old saved start end report loads kept =
    order_again g.F.Folder.did g.F.Folder.failures_of g.F.Folder.keeps g.F.Folder.files kept n limit watermark dir words m m' old saved start end report loads
