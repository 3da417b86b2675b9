use Rattle.std.proofs.Common.{refl}
use Rattle.head_metas.proofs.HeadLines.{takes_line, refuses_line}
use Rattle.head_metas.proofs.head.add.Goals as goal

pub returns-in-Ok-clause-ok : goal.returns-in-Ok-clause-ok
returns-in-Ok-clause-ok c =
    rw c.in-Ok.ensures.ok (takes_line c.args.all.now c.args.name c.args.value c.requires.names (λ refused. let e = c.in-Ok.ensures.full.1 refused in cc))

pub returns-in-Err-MaxSizeReached-clause-err : goal.returns-in-Err-MaxSizeReached-clause-err
returns-in-Err-MaxSizeReached-clause-err c =
    let full = rw c.in-Err-MaxSizeReached.field-0-is at c.in-Err-MaxSizeReached.ensures.full in
    refuses_line c.args.all.now c.args.name c.args.value c.requires.room (full.0 refl)
