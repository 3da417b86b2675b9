use Rattle.std.proofs.Common.{take}
use Rattle.head_parse.specs.Parse.{ParserHolds}
use Rattle.request_puts.specs.Response.{joined}
use Rattle.request_puts.proofs.put.whole.parsed.Given as goal

abbrev pub invariant-loop-piece : goal.invariant-loop-piece
invariant-loop-piece l = ParserHolds (joined (take l.piece-index l.pieces)) l.parser
