use Rattle.cache_words.proofs.Lanes.{shifts_rotate}
use Rattle.cache_words.proofs.blake.lanes.xor_rotate.Goals as goal

pub returns : goal.returns
returns c = shifts_rotate c.args.k c.requires.0 c.requires.1 c.args.a c.fits-a.0 c.args.b c.fits-b.0
