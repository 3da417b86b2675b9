use Rattle.std.proofs.Common.{Bool, sym, subst, ◌∙◌}
use Rattle.tier_served.specs.Known.{AreNoted, Knows}
use Rattle.tier_served.proofs.Alike.{noted_if}
use Rattle.tier_served.proofs.seen.note_next.Goals as goal

-- src/seen.rt:90:1
pub returns : goal.returns
returns g c = λ p before same noted.
    noted_if p c.in-Some.seen before (Knows c.args.table.now) _ c.note.result (sym c.in-Some.is ∙ same)
    (subst (λ (alike : Bool). AreNoted alike before (Knows c.args.table.now)) c.if-not-alike.false noted) c.note.ensures
