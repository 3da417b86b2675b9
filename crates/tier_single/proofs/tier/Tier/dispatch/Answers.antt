use Rattle.tier_single.proofs.RunLaws.{Steps-took, Steps-drawn}
use Rattle.tier_single.proofs.tier.Tier.dispatch.Goals as goal

pub returns-in-Open : goal.returns-in-Open
returns-in-Open g c = Steps-took c.args.self.now _ c.args.event.now _ c.open.result c.open.new.self c.in-Open.is tt (c.open.ensures c.args.event.now.moment)

pub returns-in-LookUp : goal.returns-in-LookUp
returns-in-LookUp g c = Steps-took c.args.self.now _ c.args.event.now _ c.look_up.result c.look_up.new.self c.in-LookUp.is tt c.look_up.ensures

pub returns-in-Poll : goal.returns-in-Poll
returns-in-Poll g c = Steps-took c.args.self.now _ c.args.event.now _ c.poll.result c.poll.new.self c.in-Poll.is tt c.poll.ensures

pub returns-in-Begin : goal.returns-in-Begin
returns-in-Begin g c = Steps-took c.args.self.now _ c.args.event.now _ c.begin.result c.begin.new.self c.in-Begin.is tt c.begin.ensures

pub returns-in-Piece : goal.returns-in-Piece
returns-in-Piece g c = Steps-took c.args.self.now _ c.args.event.now _ c.piece.result c.piece.new.self c.in-Piece.is tt (c.piece.ensures c.args.event.now.moment)

pub returns-in-Read : goal.returns-in-Read
returns-in-Read g c = Steps-took c.args.self.now _ c.args.event.now _ c.read.result c.read.new.self c.in-Read.is tt (c.read.ensures c.args.event.now.moment)

pub returns-in-Drop : goal.returns-in-Drop
returns-in-Drop g c = Steps-took c.args.self.now _ c.args.event.now _ c.drop_request.result c.drop_request.new.self c.in-Drop.is tt (c.drop_request.ensures c.args.event.now.moment)

pub returns-in-Purge : goal.returns-in-Purge
returns-in-Purge g c = Steps-took c.args.self.now _ c.args.event.now _ c.purge.result c.purge.new.self c.in-Purge.is tt (c.purge.ensures c.args.event.now.moment)

pub returns-in-Finish : goal.returns-in-Finish
returns-in-Finish g c = Steps-drawn c.args.self.now _ c.args.event.now _ c.finish.result c.finish.new.self _ c.in-Finish.is (c.finish.ensures c.args.event.now.moment)

pub returns-in-Put : goal.returns-in-Put
returns-in-Put g c = Steps-drawn c.args.self.now _ c.args.event.now _ c.put.result c.put.new.self _ c.in-Put.is c.put.ensures

pub returns-in-Revalidate : goal.returns-in-Revalidate
returns-in-Revalidate g c = Steps-drawn c.args.self.now _ c.args.event.now _ c.revalidate.result c.revalidate.new.self _ c.in-Revalidate.is c.revalidate.ensures
