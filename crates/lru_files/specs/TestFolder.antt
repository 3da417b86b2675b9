-- Which calls a test folder refuses.
use Rattle.std.specs.Prelude.{◌≡◌, ◌+◌, ◌-◌, ◌^◌, ◌==◌, min, nat_lt, ℕ, Bool, true, false}
use Rattle.lru_files.specs.Folder.{FolderCall, Outcome, Ends}
use Rattle.lru_files.specs.Folder.FolderCall.{Make, Create, Write, Flush, Rename, Open, Read, Names, Remove}
use Rattle.lru_files.specs.Folder.Outcome.{Failed}
use Rattle.lru_files.specs.MemFolder.{files_of, opened_of}
use Rattle.lru_files.specs.declared.test_folder.Plan.{Plan}
use Rattle.lru_files.specs.declared.test_folder.Plan.TheVariants.{Renames, After, Once}
use Rattle.lru_files.specs.declared.test_folder.TestFolder.{TestFolder}

abbrev pub is_rename : FolderCall → Bool
is_rename (Rename from to) = true
is_rename (Make dir) = false
is_rename (Create at) = false
is_rename (Write bytes) = false
is_rename Flush = false
is_rename (Open at) = false
is_rename Read = false
is_rename (Names dir) = false
is_rename (Remove at) = false

-- whether the plan refuses the call of this number
abbrev pub is_refused : Plan → ℕ → (a_rename : Bool) → Bool
is_refused Renames number a_rename = a_rename
is_refused (After calls bytes) number a_rename = nat_lt calls number
is_refused (Once call) number a_rename = number == call

-- A call has the next number. One that the plan refuses failed; the others did what they do in the folder in memory.
abbrev pub EndsByPlan : TestFolder → FolderCall → Outcome → TestFolder → Type 0
EndsByPlan before call outcome after = (after.plan ≡ before.plan) × (after.calls ≡ min (before.calls + 1) (2 ^ 64 - 1))
    × (is_refused before.plan after.calls (is_rename call) ≡ true → outcome ≡ Failed)
    × Ends call outcome (opened_of before.folder) (files_of before.folder) (files_of after.folder)
