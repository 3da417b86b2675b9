use Rattle.std.proofs.Common.{◌≡◌, ◌-◌, ◌<◌, ◌≤◌, length, drop}
use Rattle.rules_ffi_results.specs.Bodies.{LiesIn}
use Rattle.gateway_rules.specs.Bodies.{body_of, piece_of, decoded_in}
use Rattle.gateway_rules.proofs.Pieces.{GoesOn}
use Rattle.gateway_rules.proofs.Rules.decoded.Given as goal

abbrev pub invariant-loop-piece : goal.invariant-loop-piece
invariant-loop-piece l = record {
  within : l.used ≤ length l.given;
  same : l.body ≡ l.fn.body;
  lies : LiesIn l.piece.told (length (drop l.used l.given));
  takes : l.piece.told.status ≡ 71 → 0 < l.piece.told.used;
  so_far : GoesOn l.fn.body.trailers.items (drop l.used l.given) (piece_of l.piece) l.content.items l.used (decoded_in (body_of l.fn.body) l.given);
}

abbrev pub decreases-loop-piece : goal.decreases-loop-piece
decreases-loop-piece l = length l.given - l.used
