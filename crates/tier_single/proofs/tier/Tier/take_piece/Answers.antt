use Rattle.std.proofs.Common.{refl}
use Rattle.tier_model.specs.declared.event.Action.TheVariants.{Piece}
use Rattle.tier_single.proofs.RunLaws.{Steps-took, Takes-step}
use Rattle.tier_single.proofs.tier.Tier.take_piece.Goals as goal

pub returns : goal.returns
returns g c = λ t s. Takes-step c.args.self.now s (record { moment = t; action = Piece c.args.id c.args.bytes.now c.args.end }) c.piece.result c.piece.new.self s
    (Steps-took c.args.self.now s (record { moment = t; action = Piece c.args.id c.args.bytes.now c.args.end }) (Piece c.args.id c.args.bytes.now c.args.end) c.piece.result c.piece.new.self refl tt (c.piece.ensures t))
