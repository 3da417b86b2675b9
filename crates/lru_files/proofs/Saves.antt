-- A save as far as it has come.
use Rattle.std.proofs.Common.{◌≡◌, ◌≢◌, ◌⊎◌, inl, inr, ℕ, ◌+◌, ◌<◌, ◌≤◌, ◌^◌, List, [], ◌∷◌, ◌++◌, Option, Some, Result, Ok, Err, Vec, sym, ◌∙◌, refl, subst, arith}
use Rattle.std.specs.Prelude.{slice_index}
use Rattle.std.proofs.lemmas.Bool.{cases_eq}
use Rattle.std.specs.declared.alloc.Global.{Global}
use Rattle.lru_files.specs.Folder.{Files, FolderCall, Outcome, IsSame, StoppedIn, StopsLeave}
use Rattle.lru_files.specs.Folder.FolderCall.{Make}
use Rattle.lru_files.specs.Names.{shard_path, temp_path}
use Rattle.lru_files.specs.Save.{OneLeft, IsOneOldOrNew, AreOldOrNew, ShardLeft, ShardsLeft, OthersStay, Gives, outcome_of, AreNumbered}
use Rattle.lru_files.specs.declared.fault.ShardSaveFailure.{ShardSaveFailure}
use Rattle.lru_files.proofs.Apart.{temp_not_shard, same_shard, same_temp}
use Rattle.lru_files.proofs.Numbered.{outcome-beyond, outcome-append, outcome-here}
use Rattle.lru_files.proofs.Runs.{weakened, joined, holds_at_end, stops_begin, stops_more}

module _ {D E : Type 0} where
  -- the shards below `done` are saved or failed, the others are as before
  pub record IsSavedTo (did : D → FolderCall → Outcome → D → Type 0) (opened : D → Option (List ℕ)) (files : D → Files) (dir file_name words : List ℕ)
      (serialized : ℕ → Result (Vec ℕ Global) E → Type 0) (shards : ℕ) (old now : D) (failed : List (ℕ × ShardSaveFailure E)) (done : ℕ) : Type 0 where
    pub run : StopsLeave did opened files (AreOldOrNew dir file_name words serialized shards (files old)) old now
    pub left : ShardsLeft dir file_name words serialized done (files old) (files now) failed
    pub ahead : (i : ℕ) → done ≤ i → i < shards → (files now (shard_path dir file_name i) ≡ files old (shard_path dir file_name i))
        × (files now (temp_path dir file_name i (slice_index words i)) ≡ files old (temp_path dir file_name i (slice_index words i)))
    pub others : OthersStay dir file_name words shards (files old) (files now)

module _ {E : Type 0} (serialized : Result (Vec ℕ Global) E → Type 0) where
  -- what holds of a shard's files holds of their equals
  shard_left-along : {file file' temp temp' new_file new_file' new_temp new_temp' : Option (List ℕ)} {outcome outcome' : Result (Unit {0}) (ShardSaveFailure E)}
      → file ≡ file' → temp ≡ temp' → new_file ≡ new_file' → new_temp ≡ new_temp' → outcome ≡ outcome'
      → ShardLeft serialized file temp new_file new_temp outcome → ShardLeft serialized file' temp' new_file' new_temp' outcome'
  shard_left-along {file = file} {file' = file'} {temp = temp} {temp' = temp'} {new_file = new_file} {new_file' = new_file'} {new_temp = new_temp} {new_temp' = new_temp'} {outcome = outcome} {outcome' = outcome'} e1 e2 e3 e4 e5 left =
      subst (λ o. ShardLeft serialized file' temp' new_file' new_temp' o) e5
      (subst (λ x. ShardLeft serialized file' temp' new_file' x outcome) e4
      (subst (λ x. ShardLeft serialized file' temp' x new_temp outcome) e3
      (subst (λ x. ShardLeft serialized file' x new_file new_temp outcome) e2
      (subst (λ x. ShardLeft serialized x temp new_file new_temp outcome) e1 left))))

-- the files of one shard changed alone
pub record IsStep (dir file_name words : List ℕ) (n : ℕ) (now next : Files) : Type 0 where
  pub others : (path : List ℕ) → path ≢ shard_path dir file_name n → path ≢ temp_path dir file_name n (slice_index words n) → next path ≡ now path

module _ {dir file_name words : List ℕ} {shards : ℕ} (fits : shards < 2 ^ 64) where
  other_shard : (n : ℕ) (now next : Files) (i : ℕ) → n < shards → i < shards → i ≢ n → IsStep dir file_name words n now next
      → next (shard_path dir file_name i) ≡ now (shard_path dir file_name i)
  other_shard n now next i below here apart step = step.others (shard_path dir file_name i)
      (λ e. apart (same_shard dir file_name i n (omega arith) (omega arith) e))
      (λ e. temp_not_shard dir file_name n i (slice_index words n) (omega arith) (sym e))

  other_temp : (n : ℕ) (now next : Files) (i : ℕ) → n < shards → i < shards → i ≢ n → IsStep dir file_name words n now next
      → next (temp_path dir file_name i (slice_index words i)) ≡ now (temp_path dir file_name i (slice_index words i))
  other_temp n now next i below here apart step = step.others (temp_path dir file_name i (slice_index words i))
      (λ e. temp_not_shard dir file_name i n (slice_index words i) (omega arith) e)
      (λ e. apart (same_temp dir file_name i n (slice_index words i) (slice_index words n) (omega arith) (omega arith) e))

others-step : {dir file_name words : List ℕ} {shards : ℕ} (n : ℕ) (old now next : Files) → n < shards → OthersStay dir file_name words shards old now → IsStep dir file_name words n now next
    → OthersStay dir file_name words shards old next
others-step n old now next below others step = λ path no_shard no_temp. step.others path (no_shard n below) (no_temp n below) ∙ others path no_shard no_temp

module _ {E : Type 0} {dir file_name words : List ℕ} (serialized : ℕ → Result (Vec ℕ Global) E → Type 0) {shards : ℕ} (fits : shards < 2 ^ 64) where
  old_or_new-shard : (n : ℕ) (old now left : Files) → n < shards → AreOldOrNew dir file_name words serialized shards old now
      → now (shard_path dir file_name n) ≡ old (shard_path dir file_name n)
      → IsOneOldOrNew (serialized n) (temp_path dir file_name n (slice_index words n)) (shard_path dir file_name n) now left
      → (i : ℕ) → i < shards → (i ≡ n) ⊎ (i ≢ n)
      → (left (shard_path dir file_name i) ≡ old (shard_path dir file_name i)) ⊎ ((bytes : List ℕ) × Gives (serialized i) bytes × (left (shard_path dir file_name i) ≡ Some bytes))
  old_or_new-shard n old now left below before same one i here (inr apart) =
      let e : left (shard_path dir file_name i) ≡ now (shard_path dir file_name i) = other_shard fits n now left i below here apart (record { others = one.others }) in
      subst (λ x. (x ≡ old (shard_path dir file_name i)) ⊎ ((bytes : List ℕ) × Gives (serialized i) bytes × (x ≡ Some bytes))) (sym e) (before.each i here)
  old_or_new-shard n old now left below before same one i here (inl at) =
      subst (λ k. (left (shard_path dir file_name k) ≡ old (shard_path dir file_name k)) ⊎ ((bytes : List ℕ) × Gives (serialized k) bytes × (left (shard_path dir file_name k) ≡ Some bytes)))
      (sym at) (subst (λ x. (left (shard_path dir file_name n) ≡ x) ⊎ ((bytes : List ℕ) × Gives (serialized n) bytes × (left (shard_path dir file_name n) ≡ Some bytes))) same one.file)

  -- a stop in the save of one shard
  pub old_or_new-step : (n : ℕ) (old now left : Files) → n < shards → AreOldOrNew dir file_name words serialized shards old now
      → now (shard_path dir file_name n) ≡ old (shard_path dir file_name n)
      → IsOneOldOrNew (serialized n) (temp_path dir file_name n (slice_index words n)) (shard_path dir file_name n) now left
      → AreOldOrNew dir file_name words serialized shards old left
  old_or_new-step n old now left below before same one = record {
    each = λ i here. old_or_new-shard n old now left below before same one i here (cases_eq i n);
    others = others-step n old now left below before.others (record { others = one.others });
  }

module _ {E : Type 0} (dir file_name words : List ℕ) (serialized : ℕ → Result (Vec ℕ Global) E → Type 0) {shards : ℕ} (fits : shards < 2 ^ 64) where
  left-shard : (n : ℕ) (old now next : Files) (failed failed' : List (ℕ × ShardSaveFailure E)) (result : Result (Unit {0}) (ShardSaveFailure E)) → n < shards
      → ShardsLeft dir file_name words serialized n old now failed
      → now (shard_path dir file_name n) ≡ old (shard_path dir file_name n) → now (temp_path dir file_name n (slice_index words n)) ≡ old (temp_path dir file_name n (slice_index words n))
      → OneLeft (serialized n) (temp_path dir file_name n (slice_index words n)) (shard_path dir file_name n) now next result
      → ((i : ℕ) → i ≢ n → outcome_of failed' i ≡ outcome_of failed i) → outcome_of failed' n ≡ result
      → (i : ℕ) → i < n + 1 → (i ≡ n) ⊎ (i ≢ n)
      → ShardLeft (serialized i) (old (shard_path dir file_name i)) (old (temp_path dir file_name i (slice_index words i)))
      (next (shard_path dir file_name i)) (next (temp_path dir file_name i (slice_index words i))) (outcome_of failed' i)
  left-shard n old now next failed failed' result below before file_stays temp_stays one others here i to (inr apart) =
      let under : i < n = omega (arith, apart) in
      let file : next (shard_path dir file_name i) ≡ now (shard_path dir file_name i) = other_shard fits n now next i below (omega arith) apart (record { others = one.others }) in
      let temp : next (temp_path dir file_name i (slice_index words i)) ≡ now (temp_path dir file_name i (slice_index words i)) =
      other_temp fits n now next i below (omega arith) apart (record { others = one.others }) in
      shard_left-along (serialized i) refl refl (sym file) (sym temp) (sym (others i apart)) (before i under)
  left-shard n old now next failed failed' result below before file_stays temp_stays one others here i to (inl at) =
      subst (λ k. ShardLeft (serialized k) (old (shard_path dir file_name k)) (old (temp_path dir file_name k (slice_index words k)))
      (next (shard_path dir file_name k)) (next (temp_path dir file_name k (slice_index words k))) (outcome_of failed' k)) (sym at)
      (shard_left-along (serialized n) file_stays temp_stays refl refl (sym here) one.shard)

same_from_stop : (dir : List ℕ) (opened : Option (List ℕ)) (old left : Files) → StoppedIn (Make dir) opened old left → IsSame old left
same_from_stop dir opened old left (inl same) = same
same_from_stop dir opened old left (inr same) = same

module _ {E : Type 0} (dir file_name words : List ℕ) (serialized : ℕ → Result (Vec ℕ Global) E → Type 0) (shards : ℕ) where
  -- the folder is made, and no shard was tried
  pub made_stop : (old left : Files) → IsSame old left → AreOldOrNew {E = E} dir file_name words serialized shards old left
  made_stop old left same = record {
    each = λ i to. inl (same (shard_path dir file_name i));
    others = λ path no_shard no_temp. same path;
  }

module _ {D E : Type 0} {did : D → FolderCall → Outcome → D → Type 0} {opened : D → Option (List ℕ)} {files : D → Files} {dir file_name words : List ℕ}
    {serialized : ℕ → Result (Vec ℕ Global) E → Type 0} {shards : ℕ} (fits : shards < 2 ^ 64) where
  -- one more shard
  pub saved-step : {old now : D} (next : D) (failed failed' : List (ℕ × ShardSaveFailure E)) (n : ℕ) (result : Result (Unit {0}) (ShardSaveFailure E)) → n < shards
      → IsSavedTo did opened files dir file_name words serialized shards old now failed n
      → OneLeft (serialized n) (temp_path dir file_name n (slice_index words n)) (shard_path dir file_name n) (files now) (files next) result
      → StopsLeave did opened files (IsOneOldOrNew (serialized n) (temp_path dir file_name n (slice_index words n)) (shard_path dir file_name n) (files now)) now next
      → ((i : ℕ) → i ≢ n → outcome_of failed' i ≡ outcome_of failed i) → outcome_of failed' n ≡ result
      → IsSavedTo did opened files dir file_name words serialized shards old next failed' (n + 1)
  saved-step {old} {now} next failed failed' n result below before one run others here =
      let same : (files now (shard_path dir file_name n) ≡ files old (shard_path dir file_name n)) × (files now (temp_path dir file_name n (slice_index words n)) ≡ files old (temp_path dir file_name n (slice_index words n)))
      = before.ahead n (omega arith) below in
      record {
        run = joined before.run (weakened (AreOldOrNew dir file_name words serialized shards (files old))
            (λ left stop. old_or_new-step serialized fits n (files old) (files now) left below (holds_at_end before.run) same.0 stop) run);
        left = λ i to. left-shard dir file_name words serialized fits n (files old) (files now) (files next) failed failed' result below before.left same.0 same.1 one others here i to (cases_eq i n);
        ahead = λ i from to.
            let apart : i ≢ n = λ e. (omega (arith, e)) in
            let step : IsStep dir file_name words n (files now) (files next) = record { others = one.others } in
            let earlier : (files now (shard_path dir file_name i) ≡ files old (shard_path dir file_name i)) × (files now (temp_path dir file_name i (slice_index words i)) ≡ files old (temp_path dir file_name i (slice_index words i)))
            = before.ahead i (omega arith) to in
            (other_shard fits n (files now) (files next) i below to apart step ∙ earlier.0, other_temp fits n (files now) (files next) i below to apart step ∙ earlier.1);
        others = others-step n (files old) (files now) (files next) below before.others (record { others = one.others });
      }

  -- one more shard that was saved
  pub saved-ok : {old now : D} (next : D) (failed : List (ℕ × ShardSaveFailure E)) (n : ℕ) → n < shards
      → IsSavedTo did opened files dir file_name words serialized shards old now failed n → AreNumbered 0 n failed
      → OneLeft (serialized n) (temp_path dir file_name n (slice_index words n)) (shard_path dir file_name n) (files now) (files next) (Ok tt)
      → StopsLeave did opened files (IsOneOldOrNew (serialized n) (temp_path dir file_name n (slice_index words n)) (shard_path dir file_name n) (files now)) now next
      → IsSavedTo did opened files dir file_name words serialized shards old next failed (n + 1)
  saved-ok next failed n below before numbered one run = saved-step next failed failed n (Ok tt) below before one run
      (λ i apart. refl) (outcome-beyond 0 n failed n numbered (omega arith))

  -- one more shard that failed
  pub saved-err : {old now : D} (next : D) (failed : List (ℕ × ShardSaveFailure E)) (n : ℕ) (failure : ShardSaveFailure E) → n < shards
      → IsSavedTo did opened files dir file_name words serialized shards old now failed n → AreNumbered 0 n failed
      → OneLeft (serialized n) (temp_path dir file_name n (slice_index words n)) (shard_path dir file_name n) (files now) (files next) (Err failure)
      → StopsLeave did opened files (IsOneOldOrNew (serialized n) (temp_path dir file_name n (slice_index words n)) (shard_path dir file_name n) (files now)) now next
      → IsSavedTo did opened files dir file_name words serialized shards old next (failed ++ (n, failure) ∷ []) (n + 1)
  saved-err next failed n failure below before numbered one run = saved-step next failed (failed ++ (n, failure) ∷ []) n (Err failure) below before one run
      (λ i apart. outcome-append failed n failure i apart) (outcome-here 0 n failed n failure numbered (omega arith))

  pub made_run : {old made : D} (outcome : Outcome) → did old (Make dir) outcome made → IsSame (files old) (files made)
      → StopsLeave did opened files (AreOldOrNew dir file_name words serialized shards (files old)) old made
  made_run {old} {made} outcome step same = stops_more (Make dir) outcome (stops_begin old (made_stop dir file_name words serialized shards (files old) (files old) (λ path. refl))) step
      (λ left stop. made_stop dir file_name words serialized shards (files old) left (same_from_stop dir (opened old) (files old) left stop)) (made_stop dir file_name words serialized shards (files old) (files made) same)

  pub saved-begin : {old made : D} (outcome : Outcome) → did old (Make dir) outcome made → IsSame (files old) (files made)
      → IsSavedTo did opened files dir file_name words serialized shards old made [] 0
  saved-begin {old} {made} outcome step same = record {
    run = made_run outcome step same;
    left = λ i to. absurd (omega (arith, to));
    ahead = λ i from to. (same (shard_path dir file_name i), same (temp_path dir file_name i (slice_index words i)));
    others = λ path no_shard no_temp. same path;
  }

  -- no shard is left
  pub saved-all : {old now : D} {failed : List (ℕ × ShardSaveFailure E)} {done : ℕ} → done ≡ shards → IsSavedTo did opened files dir file_name words serialized shards old now failed done
      → ShardsLeft dir file_name words serialized shards (files old) (files now) failed × OthersStay dir file_name words shards (files old) (files now)
  saved-all all so_far = ((λ i to. so_far.left i (omega (arith, to, all))), so_far.others)
