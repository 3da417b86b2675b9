-- One shard's save, from what writing its bytes left.
use Rattle.std.proofs.Common.{◌≡◌, ◌≢◌, ◌⊎◌, inl, inr, ℕ, List, take, Option, Some, Result, Ok, Err, Vec, sym, refl, subst}
use Rattle.std.specs.declared.alloc.Global.{Global}
use Rattle.lru_files.specs.Folder.{Files, IsPut}
use Rattle.lru_files.specs.Save.{IsOldOrNew, IsReplaced, LeftByWriting, OneLeft, IsOneOldOrNew, TempLeft, Gives}
use Rattle.lru_files.specs.declared.fault.ShardFileError.{ShardFileError}
use Rattle.lru_files.specs.declared.fault.ShardFileError.TheVariants.{Create, Write, Flush, Rename, Open, Read, ReadDir, ReadDirEntry, Remove}
use Rattle.lru_files.specs.declared.fault.ShardSaveFailure.TheVariants.{Io}

module _ {E : Type 0} {serialized : Result (Vec ℕ Global) E → Type 0} {temp at : List ℕ} {old new : Files} where
  pub one_left-replaced : (given : Vec ℕ Global) → serialized (Ok given) → IsReplaced old new temp at given.items
      → OneLeft serialized temp at old new (Ok tt)
  one_left-replaced given gave replaced = record {
    shard = (given.items, (given, gave, refl), replaced.was, replaced.there, replaced.gone);
    others = replaced.others;
  }

  put_left : (given : Vec ℕ Global) (call : ShardFileError) (bytes : List ℕ) → serialized (Ok given) → temp ≢ at → IsPut old new temp bytes
      → (TempLeft given.items (old temp) (new temp) call) → OneLeft serialized temp at old new (Err (Io call))
  put_left given call bytes gave apart put temp_left = record {
    shard = (given.items, (given, gave, refl), put.others at (λ e. apart (sym e)), temp_left);
    others = λ path away_from_at away. put.others path away;
  }

  pub one_left-failed : (given : Vec ℕ Global) (call : ShardFileError) → serialized (Ok given) → temp ≢ at → LeftByWriting old new temp at given.items (Err call)
      → OneLeft serialized temp at old new (Err (Io call))
  one_left-failed given Create gave apart same = record {
    shard = (given.items, (given, gave, refl), same at, same temp);
    others = λ path away_from_at away. same path;
  }
  one_left-failed given Write gave apart part = put_left given Write (take part.0 given.items) gave apart part.1.put (part.1.was, (part.0, part.1.put.there))
  one_left-failed given Flush gave apart added = put_left given Flush given.items gave apart added.put (added.was, added.put.there)
  one_left-failed given Rename gave apart added = put_left given Rename given.items gave apart added.put (added.was, added.put.there)
  one_left-failed given Open gave apart never = absurd never
  one_left-failed given Read gave apart never = absurd never
  one_left-failed given ReadDir gave apart never = absurd never
  one_left-failed given ReadDirEntry gave apart never = absurd never
  one_left-failed given Remove gave apart never = absurd never

old_or_new_file : {E : Type 0} (serialized : Result (Vec ℕ Global) E → Type 0) {file new_file : Option (List ℕ)} (given : Vec ℕ Global)
    → serialized (Ok given) → (new_file ≡ file) ⊎ (new_file ≡ Some given.items)
    → (new_file ≡ file) ⊎ ((bytes : List ℕ) × Gives serialized bytes × (new_file ≡ Some bytes))
old_or_new_file serialized given gave (inl same) = inl same
old_or_new_file serialized given gave (inr there) = inr (given.items, (given, gave, refl), there)

module _ {E : Type 0} {serialized : Result (Vec ℕ Global) E → Type 0} {temp at : List ℕ} {old new : Files} where
  pub one_old_or_new : (given : Vec ℕ Global) → serialized (Ok given) → IsOldOrNew old temp at given.items new → IsOneOldOrNew serialized temp at old new
  one_old_or_new given gave around = record { file = old_or_new_file serialized given gave around.file; others = around.others }

-- what holds of three texts holds of their equals
pub along_texts : {temp temp' at at' bytes bytes' : List ℕ} (P : List ℕ → List ℕ → List ℕ → Type 0) → temp ≡ temp' → at ≡ at' → bytes ≡ bytes' → P temp at bytes → P temp' at' bytes'
along_texts {temp = temp} {temp' = temp'} {at = at} {at' = at'} {bytes' = bytes'} P same_temp same_at same_bytes holds =
    subst (λ t. P t at' bytes') same_temp (subst (λ p. P temp p bytes') same_at (subst (λ b. P temp at b) same_bytes holds))
