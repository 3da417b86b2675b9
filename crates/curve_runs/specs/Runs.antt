-- Runs of sizes: what each of many sizes has, where neighbours mostly have the same.
use Rattle.std.specs.Prelude.{ℕ, zero, suc, nat_lt, nat_le, ◌||◌, if◌then◌else◌, List, [], ◌∷◌, Option, Some, None, unwrap_or, Vec}
use Rattle.std.specs.declared.alloc.Global.{Global}
use Rattle.curve_runs.specs.declared.run.Run.{Run}
use Rattle.curve_runs.specs.declared.run.Load.{Load}

-- what size i has by the first run that ends past it
abbrev pub given : ℕ → List Run → Option ℕ
given i [] = None
given i (r ∷ runs) = if nat_lt i r.end then Some r.since else given i runs

-- the same, and 0 without such a run
abbrev pub at : ℕ → List Run → ℕ
at i runs = unwrap_or (given i runs) 0

-- what size i has after a request: the sizes before the first that holds the entry load it, and so do those at which it is stale
abbrev pub loaded : Load → ℕ → ℕ → ℕ
loaded l i had = if nat_lt i l.first || nat_le had l.moment then l.since else had

-- the runs of entry e, where entries have these; none past them
abbrev pub runs_of : ℕ → List (Vec Run Global) → List Run
runs_of e [] = []
runs_of zero (v ∷ vs) = v.items
runs_of (suc e) (v ∷ vs) = runs_of e vs

-- from when on the last load of entry e at size i is stale
abbrev pub since_of : (e i : ℕ) → List (Vec Run Global) → ℕ
since_of e i all = at i (runs_of e all)
