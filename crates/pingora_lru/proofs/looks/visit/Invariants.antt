use denote.Param.Always.{always_mut}
use Rattle.std.specs.List.{FoldsTo}
use Rattle.lru_core.specs.Updates.{Visits}
use Rattle.pingora_lru.proofs.looks.visit.Given as goal

-- the calls that are to come, after those that were made, are all calls
abbrev pub invariant-items : goal.invariant-items
invariant-items g l =
    always_mut g.F.FnMut l.f
    × ((last : _) → FoldsTo (Visits g.F.FnMut) l.f l.items last → FoldsTo (Visits g.F.FnMut) l.initial.f l.initial.items last)
