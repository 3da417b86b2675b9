-- Runs of a folder's calls, one call after the other.
use Rattle.std.proofs.Common.{List, [], ◌∷◌, ◌++◌, Option, sym, refl, subst, ℕ}
use Rattle.lru_files.specs.Folder.{Files, FolderCall, Outcome, FolderStep, StoppedIn, IsRun, EachStop, StopsLeave}

module _ {D : Type 0} (did : D → FolderCall → Outcome → D → Type 0) where
  run-append : (old : D) (steps : List (FolderStep D)) (middle : D) (call : FolderCall) (outcome : Outcome) (new : D)
      → IsRun did old steps middle → did middle call outcome new → IsRun did old (steps ++ record { call = call; outcome = outcome; after = new } ∷ []) new
  run-append old [] middle call outcome new run step = (subst (λ s. did s call outcome new) (sym run) step, refl)
  run-append old (first ∷ steps) middle call outcome new run step = (run.0, run-append first.after steps middle call outcome new run.1 step)

module _ {D : Type 0} (did : D → FolderCall → Outcome → D → Type 0) (opened : D → Option (List ℕ)) (files : D → Files) (P : Files → Type 0) where
  stops-append : (old : D) (steps : List (FolderStep D)) (middle : D) (call : FolderCall) (outcome : Outcome) (new : D)
      → IsRun did old steps middle → EachStop opened files P old steps
      → ((left : Files) → StoppedIn call (opened middle) (files middle) left → P left) → P (files new)
      → EachStop opened files P old (steps ++ record { call = call; outcome = outcome; after = new } ∷ [])
  stops-append old [] middle call outcome new run stops here after =
      (subst (λ s. (left : Files) → StoppedIn call (opened s) (files s) left → P left) (sym run) here, after)
  stops-append old (first ∷ steps) middle call outcome new run stops here after = (stops.0, stops-append first.after steps middle call outcome new run.1 stops.1 here after)

module _ {D : Type 0} {did : D → FolderCall → Outcome → D → Type 0} {opened : D → Option (List ℕ)} {files : D → Files} {P : Files → Type 0} where
  -- a run of no call
  pub stops_begin : (old : D) → P (files old) → StopsLeave did opened files P old old
  stops_begin old holds = record { steps = []; run = refl; stops = holds }

  -- one more call
  pub stops_more : {old middle new : D} (call : FolderCall) (outcome : Outcome) → StopsLeave did opened files P old middle → did middle call outcome new
      → ((left : Files) → StoppedIn call (opened middle) (files middle) left → P left) → P (files new)
      → StopsLeave did opened files P old new
  stops_more {old} {middle} {new} call outcome before step here after = record {
    steps = before.steps ++ record { call = call; outcome = outcome; after = new } ∷ [];
    run = run-append did old before.steps middle call outcome new before.run step;
    stops = stops-append did opened files P old before.steps middle call outcome new before.run before.stops here after;
  }

module _ {D : Type 0} (did : D → FolderCall → Outcome → D → Type 0) (opened : D → Option (List ℕ)) (files : D → Files) (P Q : Files → Type 0) (weaker : (left : Files) → P left → Q left) where
  stops-weaken : (old : D) (steps : List (FolderStep D)) → EachStop opened files P old steps → EachStop opened files Q old steps
  stops-weaken old [] stops = weaker (files old) stops
  stops-weaken old (first ∷ steps) stops = ((λ left stop. weaker left (stops.0 left stop)), stops-weaken first.after steps stops.1)

-- a run whose stops leave more
pub weakened : {D : Type 0} {did : D → FolderCall → Outcome → D → Type 0} {opened : D → Option (List ℕ)} {files : D → Files} {P : Files → Type 0} {old new : D} (Q : Files → Type 0)
    → ((left : Files) → P left → Q left) → StopsLeave did opened files P old new → StopsLeave did opened files Q old new
weakened {did = did} {opened = opened} {files = files} {P = P} {old = old} Q weaker run = record {
  steps = run.steps;
  run = run.run;
  stops = stops-weaken did opened files P Q weaker old run.steps run.stops;
}

module _ {D : Type 0} (did : D → FolderCall → Outcome → D → Type 0) where
  pub run-join : (old : D) (steps : List (FolderStep D)) (middle : D) (more : List (FolderStep D)) (new : D)
      → IsRun did old steps middle → IsRun did middle more new → IsRun did old (steps ++ more) new
  run-join old [] middle more new run after = subst (λ s. IsRun did s more new) (sym run) after
  run-join old (first ∷ steps) middle more new run after = (run.0, run-join first.after steps middle more new run.1 after)

module _ {D : Type 0} (did : D → FolderCall → Outcome → D → Type 0) (opened : D → Option (List ℕ)) (files : D → Files) (P : Files → Type 0) where
  stops-join : (old : D) (steps : List (FolderStep D)) (middle : D) (more : List (FolderStep D))
      → IsRun did old steps middle → EachStop opened files P old steps → EachStop opened files P middle more
      → EachStop opened files P old (steps ++ more)
  stops-join old [] middle more run stops after = subst (λ s. EachStop opened files P s more) (sym run) after
  stops-join old (first ∷ steps) middle more run stops after = (stops.0, stops-join first.after steps middle more run.1 stops.1 after)

-- one run after the other
pub joined : {D : Type 0} {did : D → FolderCall → Outcome → D → Type 0} {opened : D → Option (List ℕ)} {files : D → Files} {P : Files → Type 0} {old middle new : D}
    → StopsLeave did opened files P old middle → StopsLeave did opened files P middle new → StopsLeave did opened files P old new
joined {did = did} {opened = opened} {files = files} {P = P} {old = old} {middle = middle} {new = new} first then = record {
  steps = first.steps ++ then.steps;
  run = run-join did old first.steps middle then.steps new first.run then.run;
  stops = stops-join did opened files P old first.steps middle then.steps first.run first.stops then.stops;
}

module _ {D : Type 0} (did : D → FolderCall → Outcome → D → Type 0) (opened : D → Option (List ℕ)) (files : D → Files) (P : Files → Type 0) where
  holds_last : (old : D) (steps : List (FolderStep D)) (new : D) → IsRun did old steps new → EachStop opened files P old steps → P (files new)
  holds_last old [] new run stops = subst (λ s. P (files s)) run stops
  holds_last old (first ∷ steps) new run stops = holds_last first.after steps new run.1 stops.1

-- what each stop leaves, the end leaves too
pub holds_at_end : {D : Type 0} {did : D → FolderCall → Outcome → D → Type 0} {opened : D → Option (List ℕ)} {files : D → Files} {P : Files → Type 0} {old new : D}
    → StopsLeave did opened files P old new → P (files new)
holds_at_end {did = did} {opened = opened} {files = files} {P = P} {old = old} {new = new} run = holds_last did opened files P old run.steps new run.run run.stops
