use Rattle.trace_lines.proofs.read.action.Goals as goal

pub returns-in-Open : goal.returns-in-Open
returns-in-Open c = rw c.in-Open.is (c.open.ensures c.args.moment)

pub returns-in-Begin : goal.returns-in-Begin
returns-in-Begin c = rw c.in-Begin.is (c.begin.ensures c.args.moment)

pub returns-in-Revalidate : goal.returns-in-Revalidate
returns-in-Revalidate c = rw c.in-Revalidate.is (c.revalidate.ensures c.args.moment)

pub returns-in-Piece : goal.returns-in-Piece
returns-in-Piece c = rw c.in-Piece.is (c.piece.ensures c.args.moment)

pub returns-in-Put : goal.returns-in-Put
returns-in-Put c = rw c.in-Put.is (c.put.ensures c.args.moment)
