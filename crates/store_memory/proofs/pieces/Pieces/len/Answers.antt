use Rattle.std.proofs.Common.{sym}
use Rattle.store_memory.proofs.PieceLaws.{ends_last}
use Rattle.store_memory.proofs.pieces.Pieces.len.Goals as goal

pub returns-in-Some : goal.returns-in-Some
returns-in-Some c = rw (← c.self.view_is) (ends_last c.self.inside.items.items c.in-Some.piece.now c.self.invariant.0 (rw c.deref.ensures.value at (sym c.in-Some.ensures.value)))
