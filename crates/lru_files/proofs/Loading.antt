-- What was read of an open file is what was there when it was opened.
use Rattle.std.proofs.Common.{◌≡◌, ℕ, ◌+◌, ◌<◌, List, [], ◌∷◌, ◌++◌, length, take, get_or, Option, Some, Bool, true, String, sym, ◌∙◌, refl, ap, subst}
use Rattle.std.specs.Prelude.{map, string_bytes}
use Rattle.std.specs.declared.alloc.Global.{Global}
use Rattle.std.proofs.lemmas.List.{map-append, take_more}
use Rattle.lru_files.specs.Load.{AreRemovals, Removes}
use Rattle.lru_files.specs.declared.fault.ShardFileError.{ShardFileError}
use Rattle.lru_files.specs.declared.fault.ShardFileError.TheVariants.{Remove}
use Rattle.lru_files.specs.Load.Removes.{NoPath, Gone, Left}
use Rattle.lru_files.specs.Folder.{Files, IsSame, IsGone, OpensFile}

opened_at : (at : List ℕ) (old : Files) (found : Bool) (opened : Option (List ℕ)) → found ≡ true → OpensFile at old found opened → opened ≡ Some at
opened_at at old found opened is_found opens = (subst (λ f. OpensFile at old f opened) is_found opens).1

pub read_whole : {at path bytes : List ℕ} {old now : Files} {found : Bool} {opened : Option (List ℕ)} → OpensFile at old found opened → found ≡ true → IsSame old now
    → ((p : List ℕ) → opened ≡ Some p → now p ≡ Some bytes) → at ≡ path → old path ≡ Some bytes
read_whole {at = at} {bytes = bytes} {old = old} {now = now} {found = found} {opened = opened} opens is_found same reads is_path =
    subst (λ p. old p ≡ Some bytes) is_path (sym (same at) ∙ reads at (opened_at at old found opened is_found opens))

-- one more path
more_paths : (paths : List (String Global)) (i : ℕ) (item : String Global) → i < length paths → item ≡ get_or paths i item
    → map string_bytes (take (i + 1) paths) ≡ map string_bytes (take i paths) ++ string_bytes item ∷ []
more_paths paths i item below is_item =
    ap (map string_bytes) (take_more paths i item below) ∙ map-append string_bytes (take i paths) (get_or paths i item ∷ [])
    ∙ ap (λ x. map string_bytes (take i paths) ++ string_bytes x ∷ []) (sym is_item)

pub removes-gone : (paths : List (String Global)) (i : ℕ) (item : String Global) (at : List ℕ) (removed : ℕ) {old now : Files} (new : Files) → i < length paths → item ≡ get_or paths i item
    → at ≡ string_bytes item → Removes (map string_bytes (take i paths)) removed old now → IsGone now new at
    → Removes (map string_bytes (take (i + 1) paths)) (removed + 1) old new
removes-gone paths i item at removed {old} {now} new below is_item is_at before gone =
    subst (λ ps. Removes ps (removed + 1) old new) (sym (more_paths paths i item below is_item))
    (Gone (map string_bytes (take i paths)) (string_bytes item) removed old now new before (subst (λ p. IsGone now new p) is_at gone))

pub removes-left : (paths : List (String Global)) (i : ℕ) (item : String Global) (removed : ℕ) {old now : Files} (new : Files) → i < length paths → item ≡ get_or paths i item
    → Removes (map string_bytes (take i paths)) removed old now → IsSame now new
    → Removes (map string_bytes (take (i + 1) paths)) removed old new
removes-left paths i item removed {old} {now} new below is_item before same =
    subst (λ ps. Removes ps removed old new) (sym (more_paths paths i item below is_item))
    (Left (map string_bytes (take i paths)) (string_bytes item) removed old now new before same)

pub removals-append : (calls : List ShardFileError) → AreRemovals calls → AreRemovals (calls ++ Remove ∷ [])
removals-append [] all = (refl, tt)
removals-append (call ∷ calls) all = (all.0, removals-append calls all.1)

-- removals after what changed nothing
pub removes-after : (paths : List (List ℕ)) (removed : ℕ) (first old new : Files) → IsSame first old → Removes paths removed old new → Removes paths removed first new
removes-after paths removed first old new same (NoPath before after unchanged) = NoPath first after (λ path. unchanged path ∙ same path)
removes-after paths removed first old new same (Gone front at count before now after removes gone) =
    Gone front at count first now after (removes-after front count first before now same removes) gone
removes-after paths removed first old new same (Left front at count before now after removes unchanged) =
    Left front at count first now after (removes-after front count first before now same removes) unchanged
