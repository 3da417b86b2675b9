use Rattle.gateway_rules.proofs.Pieces.{takes_of}
use Rattle.gateway_rules.proofs.Rules.next_piece.Goals as goal

pub returns-clause-takes : goal.returns-clause-takes
returns-clause-takes c = takes_of c.args.body.now c.args.bytes.now c.piece.result c.piece.ensures
