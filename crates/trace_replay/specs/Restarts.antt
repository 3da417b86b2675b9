-- A replay that starts from a folder and saves to it.
use Rattle.std.specs.Prelude.{◌≡◌, ◌⊎◌, ℕ, zero, suc, List, [], ◌∷◌, ◌++◌, length, codes, decimal, Result, Ok, Err, ⊤}
use Rattle.rand_core.specs.Stream.{Stream, next_u32}
use Rattle.lru_files.specs.Folder.{Files, FolderCall, Outcome, IsSame}
use Rattle.lru_files.specs.Told.{Tells}
use Rattle.lru_files.specs.declared.fault.ShardLoadReport.{ShardLoadReport}
use Rattle.lru_files.specs.declared.fault.ShardSaveReport.{ShardSaveReport}
use Rattle.cache_words.specs.declared.pack.fault.PackWriteFault.{PackWriteFault}
use Rattle.cache_evict.specs.declared.load_fault.LoadFault.{LoadFault}
use Rattle.cache_evict.specs.Managed.{Managed}
use Rattle.tier_model.specs.declared.event.TierFault.{TierFault}
use Rattle.tier_model.specs.declared.event.TierFault.TheVariants as fault
use Rattle.tier_model.specs.Started.{opening_of}
use Rattle.tier_model.specs.State.{State, empty_state}
use Rattle.tier_single.specs.Restarts.{SavesOrder, LoadsOrder}
use Rattle.trace_lines.specs.declared.line.Line.{Line}
use Rattle.trace_replay.specs.declared.options.ReplayOptions.{ReplayOptions}
use Rattle.trace_replay.specs.declared.replay.ReplayError.{ReplayError}
use Rattle.trace_replay.specs.declared.replay.ReplayError.TheVariants.{Folder}
use Rattle.trace_replay.specs.Starts.{settings_over}
use Rattle.trace_replay.specs.Replays.{Start, EndsReplay, IsBegun, ended}
use Rattle.trace_replay.specs.Words.{words_of}

-- the line that reports what was loaded
abbrev pub loaded_text : ShardLoadReport LoadFault → List ℕ
loaded_text report =
    codes "recency loaded=" ++ (decimal report.loaded ++ (codes " missing=" ++ (decimal report.missing ++ (codes " errored=" ++ decimal (length report.errored.items)))))

-- the line that says how many shards were saved, and how many failed
abbrev pub counts_text : ℕ → ℕ → List ℕ
counts_text saved failed = codes "recency saved=" ++ (decimal saved ++ (codes " failed=" ++ decimal failed))

-- so many words, and what is left
abbrev pub next_words : ℕ → Stream → List ℕ × Stream
next_words zero s = ([], s)
next_words (suc n) s = let first = next_u32 s in let rest = next_words n first.1 in (first.0 ∷ rest.0, rest.1)

-- what a save of n shards is reported as, and the outcome of the replay: where none was saved, that is a fault, which is reported after the line
abbrev pub IsToldOfSave : ℕ → Result (ShardSaveReport PackWriteFault) TierFault → List ℕ → Result ⊤ ReplayError → Type 0
IsToldOfSave n (Ok report) text result = (text ≡ counts_text report.saved (length report.failed.items)) × (result ≡ Ok tt)
IsToldOfSave n (Err fault.Folder) text result = (text ≡ counts_text 0 n) × (result ≡ Err Folder)
IsToldOfSave n (Err _) text result = ⊥

-- the line that is to report such a save, with its line feed; without memory for a save there is none
abbrev pub last_line : ℕ → Result (ShardSaveReport PackWriteFault) TierFault → List ℕ
last_line n (Ok report) = ended (counts_text report.saved (length report.failed.items))
last_line n (Err fault.Folder) = ended (counts_text 0 n)
last_line n (Err _) = []

-- a tier of the options over n shards that holds this order of use
abbrev pub holding : ℕ → ReplayOptions → Managed → State
holding n o m = record (empty_state (settings_over n o)) { managed = m }

-- with such a tier and the words of the seed a replay goes on
abbrev pub start_from : ℕ → ReplayOptions → Managed → Start
start_from n o m = record { opening = opening_of (holding n o m); words = words_of o.seed }

-- No call failed, no file changed, and nothing was written.
pub record IsUntouched {D : Type 0} (did : D → FolderCall → Outcome → D → Type 0) (failures : D → ℕ) (keeps : Type 0) (files : D → Files) (old new : D) (text : List ℕ) : Type 0 where
  pub same : keeps → IsSame (files old) (files new)
  pub told : Tells did failures [] old new
  pub nothing : text ≡ []

module _ {D : Type 0} (did : D → FolderCall → Outcome → D → Type 0) (failures : D → ℕ) (keeps : Type 0) (files : D → Files) (n : ℕ) (o : ReplayOptions) (dir : List ℕ) where
  -- an empty tier of the options loaded this order of use
  abbrev pub LoadsInto : Managed → D → D → ShardLoadReport LoadFault → Type 0
  LoadsInto managed old new report = LoadsOrder did failures keeps files n dir (empty_state (settings_over n o)).managed managed old new (Ok report)

  -- what a load from the folder reported
  abbrev pub IsLoadReport : D → ShardLoadReport LoadFault → Type 0
  IsLoadReport old report = (managed : Managed) × (new : D) × LoadsInto managed old new report

  -- The order of use was loaded, which the first line reports; the lines were answered by a tier that began with it; and its order of use was saved under the next words
  -- of the generator, of which this came.
  pub record IsSaved (lines : List Line) (old new : D) (text : List ℕ) (came : Result (ShardSaveReport PackWriteFault) TierFault) : Type 0 where
    pub mid : D
    pub report : ShardLoadReport LoadFault
    pub managed : Managed
    pub loads : LoadsInto managed old mid report
    pub answers : List ℕ
    pub state : State
    pub words : Stream
    pub replays : EndsReplay (start_from n o managed) lines answers state words
    pub saves : SavesOrder did failures keeps files n dir state.managed (next_words n words).0 mid new came
    pub written : text ≡ ended (loaded_text report) ++ answers

  -- the same, and what came of the save is reported by the last line and by the result
  pub record IsRestart (lines : List Line) (old new : D) (text : List ℕ) (result : Result ⊤ ReplayError) : Type 0 where
    pub before : List ℕ
    pub came : Result (ShardSaveReport PackWriteFault) TierFault
    pub saved : IsSaved lines old new before came
    pub last : List ℕ
    pub told : IsToldOfSave n came last result
    pub written : text ≡ before ++ ended last

  -- the same, but of the last line only a beginning is written
  pub record IsUntold (lines : List Line) (old new : D) (text : List ℕ) : Type 0 where
    pub before : List ℕ
    pub came : Result (ShardSaveReport PackWriteFault) TierFault
    pub saved : IsSaved lines old new before came
    pub begun : List ℕ
    pub rest : List ℕ
    pub line : last_line n came ≡ begun ++ rest
    pub written : text ≡ before ++ begun

  -- The order of use was loaded and nothing was saved. A beginning of the first line is written, or that line and a beginning of what answers the others.
  pub record IsUnsaved (lines : List Line) (old new : D) (text : List ℕ) : Type 0 where
    pub report : ShardLoadReport LoadFault
    pub managed : Managed
    pub loads : LoadsInto managed old new report
    pub written : ((rest : List ℕ) × (ended (loaded_text report) ≡ text ++ rest))
        ⊎ ((answers : List ℕ) × IsBegun (start_from n o managed) lines answers × (text ≡ ended (loaded_text report) ++ answers))

  -- how far a restart comes that ends early: nothing is loaded, or nothing is saved, or only the last line isn't reported whole
  abbrev pub EndsEarly : List Line → D → D → List ℕ → Type 0
  EndsEarly lines old new text = IsUntouched did failures keeps files old new text ⊎ (IsUnsaved lines old new text ⊎ IsUntold lines old new text)
