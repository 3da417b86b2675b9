-- A load as far as it has come.
use Rattle.std.proofs.Common.{◌≡◌, inl, inr, ℕ, ◌+◌, Bool, true, false, List, [], ◌∷◌, ◌++◌, Option, Result, Ok, Err, sym, ◌∙◌, subst}
use Rattle.std.specs.Prelude.{map, filter}
use Rattle.lru_files.specs.Folder.{Files, IsSame, path_in}
use Rattle.lru_files.specs.Names.{is_temp_name, shard_path}
use Rattle.lru_files.specs.Load.{Loads, LoadsOne, Removes, CleansUp, ShardsStay}
use Rattle.lru_files.specs.Load.Loads.{Taken, Missing, Refused, Unread}
use Rattle.lru_files.specs.Load.Removes.{NoPath, Gone, Left}
use Rattle.lru_files.specs.declared.fault.ShardLoadFailure.{ShardLoadFailure}
use Rattle.lru_files.specs.declared.fault.ShardLoadFailure.TheVariants.{Io, Deserialize, Memory}
use Rattle.lru_files.specs.declared.fault.TempFileCleanupReport.{TempFileCleanupReport}
use Rattle.lru_files.proofs.TempNames.{shard_stays}

module _ {D E : Type 0} (keeps : Type 0) (file_of : ℕ → Option (List ℕ)) (step : D → ℕ → List ℕ → Result (Unit {0}) E → D → Type 0)
    (n loaded missing : ℕ) (errored : List (ℕ × ShardLoadFailure E)) (start now next : D) (file : Option (List ℕ)) (same : keeps → file ≡ file_of n)
    (before : Loads keeps file_of step n loaded missing errored start now) where
  pub loads-found : (found : Bool) → found ≡ true → LoadsOne keeps file (step now n) now next (Ok found) → Loads keeps file_of step (n + 1) (loaded + 1) missing errored start next
  loads-found found is_found one =
      let taken : LoadsOne keeps file (step now n) now next (Ok true) = subst (λ f. LoadsOne {D = D} {E = E} keeps file (step now n) now next (Ok f)) is_found one in
      Taken n loaded missing errored start now next taken.0 before (λ kept. sym (same kept) ∙ taken.1 kept) taken.2

  pub loads-missing : (found : Bool) → found ≡ false → LoadsOne keeps file (step now n) now next (Ok found) → Loads keeps file_of step (n + 1) loaded (missing + 1) errored start next
  loads-missing found is_missing one =
      let none : LoadsOne keeps file (step now n) now next (Ok false) = subst (λ f. LoadsOne {D = D} {E = E} keeps file (step now n) now next (Ok f)) is_missing one in
      subst (λ d. Loads keeps file_of step (n + 1) loaded (missing + 1) errored start d) none.1
      (Missing n loaded missing errored start now before (λ kept. sym (same kept) ∙ none.0 kept))

  pub loads-failed : (failure : ShardLoadFailure E) → LoadsOne keeps file (step now n) now next (Err failure)
      → Loads keeps file_of step (n + 1) loaded missing (errored ++ (n, failure) ∷ []) start next
  loads-failed (Io call) one = subst (λ d. Loads keeps file_of step (n + 1) loaded missing (errored ++ (n, Io call) ∷ []) start d) one.1
      (Unread n loaded missing errored start now (Io call) before one.0)
  loads-failed (Deserialize error) one = Refused n loaded missing errored start now next one.0 error before (λ kept. sym (same kept) ∙ one.1 kept) one.2
  loads-failed Memory one = subst (λ d. Loads keeps file_of step (n + 1) loaded missing (errored ++ (n, Memory) ∷ []) start d) one
      (Unread n loaded missing errored start now Memory before tt)

removes-then : (paths : List (List ℕ)) (removed : ℕ) (old new last : Files) → Removes paths removed old new → IsSame new last → Removes paths removed old last
removes-then paths removed old new last (NoPath before after unchanged) same = NoPath before last (λ path. same path ∙ unchanged path)
removes-then paths removed old new last (Gone front at count before now after removes gone) same =
    Gone front at count before now last removes (record { was = gone.was; gone = same at ∙ gone.gone; others = λ path away. same path ∙ gone.others path away })
removes-then paths removed old new last (Left front at count before now after removes unchanged) same =
    Left front at count before now last removes (λ path. same path ∙ unchanged path)

pub cleans_up-then : (dir file_name : List ℕ) (old new last : Files) (report : TempFileCleanupReport) → CleansUp dir file_name old new report → IsSame new last
    → CleansUp dir file_name old last report
cleans_up-then dir file_name old new last report (inl unlisted) same = inl (unlisted.0, unlisted.1, λ path. same path ∙ unlisted.2 path)
cleans_up-then dir file_name old new last report (inr cleaned) same =
    inr (cleaned.0, cleaned.1, cleaned.2, cleaned.3, removes-then (map (path_in dir) (filter (is_temp_name file_name) cleaned.0)) report.removed old new last cleaned.4 same)

pub cleans_up-stay : (dir file_name : List ℕ) (old new : Files) (report : TempFileCleanupReport) → CleansUp dir file_name old new report → ShardsStay dir file_name old new
cleans_up-stay dir file_name old new report (inl unlisted) = λ i small. unlisted.2 (shard_path dir file_name i)
cleans_up-stay dir file_name old new report (inr cleaned) = λ i small. shard_stays dir file_name cleaned.0 i small cleaned.4
