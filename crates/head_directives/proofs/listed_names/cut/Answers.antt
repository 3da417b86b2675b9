use Rattle.head_directives.proofs.Listing.{onto_nothing}
use Rattle.head_directives.proofs.listed_names.cut.Goals as goal

pub loop-i-init : goal.loop-i-init
loop-i-init c = onto_nothing c.args.bytes.now
