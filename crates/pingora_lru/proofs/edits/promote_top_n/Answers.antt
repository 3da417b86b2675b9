use Rattle.std.proofs.Common.{sym, refl, ◌∙◌}
use Rattle.std.proofs.lemmas.Bool.{false≢true}
use Rattle.pingora_lru.proofs.Present.{kept_near}
use Rattle.pingora_lru.proofs.edits.promote_top_n.Goals as goal

pub returns-else-need_promote-clause-after : goal.returns-else-need_promote-clause-after
returns-else-need_promote-clause-after g c = rw (← kept_near c.args.key c.args.top c.args.unit.now.rows (λ p. false≢true (sym c.if-need_promote.false ∙ c.need_promote.ensures.1 p))) refl
