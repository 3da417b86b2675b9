use Rattle.std.proofs.Common.{◌∙◌, take, ap}
use Rattle.std.proofs.lemmas.List.{take-take}
use Rattle.trace_replay.proofs.input.give_room_back.Goals as goal

pub returns-then-end-le-BLOCK-clause-bytes : goal.returns-then-end-le-BLOCK-clause-bytes
returns-then-end-le-BLOCK-clause-bytes c =
    ap (take c.args.end) (c.shrink_to.ensures.items ∙ c.truncate.ensures.items) ∙ take-take c.args.end 32768 c.args.block.now.items c.if-end-le-BLOCK.true
