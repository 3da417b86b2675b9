use Rattle.std.proofs.Common.{sym, ◌∙◌}
use Rattle.request_cache.proofs.EndLaws.{never-disabled, again-disabled}
use Rattle.request_cache.proofs.request.HttpCache.disable.Goals as goal

pub returns-then-is_never_enabled-clause-disabled :
    goal.returns-then-is_never_enabled-clause-disabled
returns-then-is_never_enabled-clause-disabled g c =
    never-disabled g.S.Hit.HandleHit.reader g.S.Miss.HandleMiss.number (g.L.CacheKeyLock.custom c.args.parts.now.lock) c.args.reason
    (g.S.Contents.held c.args.parts.now.store) (g.L.CacheKeyLock.state c.args.parts.now.lock) _ c.args.self.now c.self.view_is c.self.invariant.1 (sym c.is_never_enabled.ensures ∙ c.if-is_never_enabled.true)

pub returns-then-is_disabled-clause-disabled : goal.returns-then-is_disabled-clause-disabled
returns-then-is_disabled-clause-disabled g c =
    again-disabled g.S.Hit.HandleHit.reader g.S.Miss.HandleMiss.number (g.L.CacheKeyLock.custom c.args.parts.now.lock) c.args.reason
    (g.S.Contents.held c.args.parts.now.store) (g.L.CacheKeyLock.state c.args.parts.now.lock) _ c.args.self.now c.self.view_is c.self.invariant.1 (sym c.is_never_enabled.ensures ∙ c.if-is_never_enabled.false)
    (sym c.is_disabled.ensures ∙ c.if-is_disabled.true)
