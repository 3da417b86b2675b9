-- Loads of a manager, from those of its shards' files.
use Rattle.std.proofs.Common.{◌≡◌, ℕ, List, Option, Result, Ok, Err, sym, refl, ap, ◌∙◌, subst}
use Rattle.lru_files.specs.Load.{Loads}
use Rattle.lru_files.specs.Load.Loads.{NoShard, Taken, Missing, Refused, Unread}
use Rattle.lru_files.specs.declared.fault.ShardLoadFailure.{ShardLoadFailure}

module _ {D X E A : Type 0} {keeps : Type 0} {file_of : ℕ → Option (List ℕ)} (step : D → ℕ → List ℕ → Result (Unit {0}) E → D → Type 0)
    (seen : X → ℕ → List ℕ → Result (Unit {0}) E → X → Type 0) (view : D → X) (name : D → A)
    (turn : (d : D) (i : ℕ) (bytes : List ℕ) (r : Result (Unit {0}) E) (d' : D) → step d i bytes r d' → seen (view d) i bytes r (view d') × (name d ≡ name d')) where
  loads-seen : (n loaded missing : ℕ) (errored : List (ℕ × ShardLoadFailure E)) (s t : D) → Loads keeps file_of step n loaded missing errored s t
      → Loads keeps file_of seen n loaded missing errored (view s) (view t)
  loads-seen _ _ _ _ _ _ (NoShard start) = NoShard (view start)
  loads-seen _ _ _ _ _ _ (Taken n loaded missing errored start now next bytes before file took) =
      Taken n loaded missing errored (view start) (view now) (view next) bytes (loads-seen n loaded missing errored start now before) file (turn now n bytes (Ok tt) next took).0
  loads-seen _ _ _ _ _ _ (Missing n loaded missing errored start now before file) =
      Missing n loaded missing errored (view start) (view now) (loads-seen n loaded missing errored start now before) file
  loads-seen _ _ _ _ _ _ (Refused n loaded missing errored start now next bytes error before file took) =
      Refused n loaded missing errored (view start) (view now) (view next) bytes error (loads-seen n loaded missing errored start now before) file (turn now n bytes (Err error) next took).0
  loads-seen _ _ _ _ _ _ (Unread n loaded missing errored start now failure before unread) =
      Unread n loaded missing errored (view start) (view now) failure (loads-seen n loaded missing errored start now before) unread

  name-stays : (n loaded missing : ℕ) (errored : List (ℕ × ShardLoadFailure E)) (s t : D) → Loads keeps file_of step n loaded missing errored s t → name s ≡ name t
  name-stays _ _ _ _ _ _ (NoShard start) = refl
  name-stays _ _ _ _ _ _ (Taken n loaded missing errored start now next bytes before file took) =
      name-stays n loaded missing errored start now before ∙ (turn now n bytes (Ok tt) next took).1
  name-stays _ _ _ _ _ _ (Missing n loaded missing errored start now before file) = name-stays n loaded missing errored start now before
  name-stays _ _ _ _ _ _ (Refused n loaded missing errored start now next bytes error before file took) =
      name-stays n loaded missing errored start now before ∙ (turn now n bytes (Err error) next took).1
  name-stays _ _ _ _ _ _ (Unread n loaded missing errored start now failure before unread) = name-stays n loaded missing errored start now before

-- what a loader with a state does to what the state lends
pub loads-lent : {D X E A : Type 0} {keeps : Type 0} {file_of : ℕ → Option (List ℕ)} {step : D → ℕ → List ℕ → Result (Unit {0}) E → D → Type 0}
    (seen : X → ℕ → List ℕ → Result (Unit {0}) E → X → Type 0) (view : D → X) (name : D → A)
    → ((d : D) (i : ℕ) (bytes : List ℕ) (r : Result (Unit {0}) E) (d' : D) → step d i bytes r d' → seen (view d) i bytes r (view d') × (name d ≡ name d'))
    → (n loaded missing : ℕ) (errored : List (ℕ × ShardLoadFailure E)) (s t : D) (x : X) → (name s ≡ name t → x ≡ view t)
    → Loads keeps file_of step n loaded missing errored s t → Loads keeps file_of seen n loaded missing errored (view s) x
loads-lent {keeps = keeps} {file_of = file_of} {step = step} seen view name turn n loaded missing errored s t x ends loads =
    subst (λ y. Loads keeps file_of seen n loaded missing errored (view s) y) (sym (ends (name-stays step seen view name turn n loaded missing errored s t loads)))
    (loads-seen step seen view name turn n loaded missing errored s t loads)

-- a loader that wasn't asked
pub lent-same : {D X A : Type 0} (view : D → X) (name : D → A) (s t : D) (x : X) → (name s ≡ name t → x ≡ view t) → t ≡ s → x ≡ view s
lent-same view name s t x ends same = ends (ap name (sym same)) ∙ ap view same
