-- What calls reported, one run after the other.
use Rattle.std.proofs.Common.{◌≡◌, ℕ, zero, suc, ◌+◌, ◌-◌, ◌^◌, min, List, [], ◌∷◌, ◌++◌, length, sym, ◌∙◌, refl, ap, subst, arith}
use Rattle.std.specs.Prelude.{flat_map}
use Rattle.std.proofs.lemmas.Grind.{flat_map-append}
use Rattle.std.proofs.lemmas.List.{append-nil, flat_map_more, length-append}
use Rattle.lru_files.specs.Folder.{FolderCall, Outcome, FolderStep}
use Rattle.lru_files.specs.Told.{Tells, error_of, errors_of, raised}
use Rattle.lru_files.specs.declared.fault.ShardFileError.{ShardFileError}
use Rattle.lru_files.proofs.Runs.{run-join}

raised-join : (count m n : ℕ) → raised (raised count m) n ≡ raised count (m + n)
raised-join count m zero = ap (raised count) (omega arith)
raised-join count m (suc n) = ap (λ c. min (c + 1) (2 ^ 64 - 1)) (raised-join count m n) ∙ ap (raised count) one_more
  where
    one_more : suc (m + n) ≡ m + suc n
    one_more = omega arith

module _ {D : Type 0} {did : D → FolderCall → Outcome → D → Type 0} {failures : D → ℕ} where
  pub tells_nothing : (state : D) → Tells did failures [] state state
  tells_nothing state = record { steps = []; run = refl; told = refl; counted = refl }

  pub tells_call : {old new : D} (call : FolderCall) (outcome : Outcome) → did old call outcome new → failures new ≡ raised (failures old) (length (error_of outcome call))
      → Tells did failures (error_of outcome call) old new
  tells_call {old} {new} call outcome step counted = record {
    steps = record { call = call; outcome = outcome; after = new } ∷ [];
    run = (step, refl);
    told = append-nil (error_of outcome call);
    counted = counted;
  }

  pub tells_then : {errors more : List ShardFileError} {old middle new : D} → Tells did failures errors old middle → Tells did failures more middle new
      → Tells did failures (errors ++ more) old new
  tells_then {errors} {more} {old} {middle} {new} first then = record {
    steps = first.steps ++ then.steps;
    run = run-join did old first.steps middle then.steps new first.run then.run;
    told = flat_map-append (λ (step : FolderStep D). error_of step.outcome step.call) first.steps then.steps ∙ ap (λ e. e ++ errors_of then.steps) first.told ∙ ap (λ e. errors ++ e) then.told;
    counted = then.counted ∙ ap (λ c. raised c (length more)) first.counted ∙ raised-join (failures old) (length errors) (length more)
        ∙ ap (raised (failures old)) (sym (length-append errors more));
  }

  -- after calls none of which failed
  pub tells_on : {errors : List ShardFileError} {old middle new : D} → Tells did failures errors old middle → Tells did failures [] middle new → Tells did failures errors old new
  tells_on {errors} {old} {new = new} first then = subst (λ e. Tells did failures e old new) (append-nil errors) (tells_then first then)

  -- after calls that reported one failure more
  pub tells_more : {X : Type 0} (front : List ShardFileError) (error_of_item : X → List ShardFileError) (failed : List X) (x : X) {old middle new : D}
      → Tells did failures (front ++ flat_map error_of_item failed) old middle → Tells did failures (error_of_item x) middle new
      → Tells did failures (front ++ flat_map error_of_item (failed ++ x ∷ [])) old new
  tells_more front error_of_item failed x {old} {new = new} first then =
      subst (λ e. Tells did failures e old new) (flat_map_more error_of_item front failed x) (tells_then first then)
