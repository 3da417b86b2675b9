-- A replay between a load and a save.
use Rattle.std.proofs.Common.{◌≡◌, ◌∙◌, ◌⊎◌, inl, inr, subst, ℕ, zero, suc, List, [], ◌++◌, length, Option, Some, None, Result, Ok, Err, OnOk, refl, sym, append-nil, arith}
use Rattle.std.specs.Prelude.{IfSome, ⊤}
use Rattle.std.specs.Io.KnownBytes.{Appends}
use Rattle.std.proofs.KnownBytes.{Appends-trans}
use Rattle.rand_core.specs.Stream.{Stream, next_u32}
use Rattle.lru_files.specs.Folder.{Files, FolderCall, Outcome}
use Rattle.lru_files.proofs.Told.{tells_nothing}
use Rattle.lru_files.specs.declared.fault.ShardLoadReport.{ShardLoadReport}
use Rattle.lru_files.specs.declared.fault.ShardSaveReport.{ShardSaveReport}
use Rattle.cache_words.specs.declared.pack.fault.PackWriteFault.{PackWriteFault}
use Rattle.cache_evict.specs.declared.fault.EvictFault.TheVariants as evict
use Rattle.cache_evict.specs.declared.load_fault.LoadFault.{LoadFault}
use Rattle.cache_evict.specs.Managed.{Managed, fresh}
use Rattle.tier_model.specs.declared.event.TierFault.{TierFault}
use Rattle.tier_model.specs.State.{State, empty_state}
use Rattle.tier_single.specs.Restarts.{SavesOrder, LoadsOrder}
use Rattle.trace_replay.specs.declared.options.ReplayOptions.{ReplayOptions}
use Rattle.trace_replay.specs.declared.replay.ReplayError.{ReplayError}
use Rattle.trace_replay.specs.Starts.{settings_over}
use Rattle.trace_lines.specs.declared.line.Line.{Line}
use Rattle.trace_replay.specs.Outputs.{HasBegun}
use Rattle.trace_replay.specs.Replays.{EndsReplay, IsBegun, Start, ended, requests_in}
use Rattle.trace_replay.specs.Restarts.{EndsEarly, IsLoadReport, IsRestart, IsSaved, IsToldOfSave, IsUntouched, last_line, loaded_text, next_words, start_from}

pub length_words : (n : ℕ) (s : Stream) → length (next_words n s).0 ≡ n
length_words zero s = refl
length_words (suc n) s = let rest = length_words n (next_u32 s).1 in omega (arith, rest)

-- a success is the one that it is
pub on_ok_is : {E : Type 0} (P : Type 0) (r : Result (Unit {0}) E) → OnOk r P → OnOk r (P × (r ≡ Ok tt))
on_ok_is P (Ok x) h = (h, refl)
on_ok_is P (Err e) h = tt

-- what answers all lines begins to answer them
whole_is_begun : (start : Start) (lines : List Line) (text : List ℕ) (state : State) (words : Stream) → EndsReplay start lines text state words → IsBegun start lines text
whole_is_begun start lines text state words h = record {
  answered = lines;
  left = [];
  history = h.history;
  answers = h.answers;
  state = state;
  rest = [];
  split = sym (append-nil lines);
  replays = h.replays;
  past = h.past;
  drawn = (words, h.drawn);
  begins = sym h.reported ∙ sym (append-nil text);
}

module _ {D : Type 0} (did : D → FolderCall → Outcome → D → Type 0) (failures : D → ℕ) (keeps : Type 0) (files : D → Files) where
  pub untouched : (state : D) → IsUntouched did failures keeps files state state []
  untouched state = record { same = λ kept path. refl; told = tells_nothing state; nothing = refl }

  -- a load that gives a fault was out of memory
  unloaded : (n : ℕ) (dir : List ℕ) (m m' : Managed) (old new : D) (fault : TierFault) → LoadsOrder did failures keeps files n dir m m' old new (Err fault)
      → IsUntouched did failures keeps files old new []
  unloaded n dir m m' old new fault (Ok report, told, loads) = absurd cc
  unloaded n dir m m' old new fault (Err (evict.Memory v), told, loads) = record { same = loads.1.same; told = loads.1.told; nothing = refl }
  unloaded n dir m m' old new fault (Err (evict.File v), told, loads) = absurd loads
  unloaded n dir m m' old new fault (Err (evict.Weight v), told, loads) = absurd loads
  unloaded n dir m m' old new fault (Err (evict.Length v), told, loads) = absurd loads
  unloaded n dir m m' old new fault (Err (evict.NumbersSpent v), told, loads) = absurd loads

  pub unloaded-unless_ok : (n : ℕ) (dir : List ℕ) (m m' : Managed) (old new : D) (result : Result (ShardLoadReport LoadFault) TierFault)
      → ((report : ShardLoadReport LoadFault) → result ≡ Ok report → ⊥) → LoadsOrder did failures keeps files n dir m m' old new result → IsUntouched did failures keeps files old new []
  unloaded-unless_ok n dir m m' old new (Ok report) other loads = absurd (other report refl)
  unloaded-unless_ok n dir m m' old new (Err fault) other loads = unloaded n dir m m' old new fault loads

module _ {D : Type 0} (did : D → FolderCall → Outcome → D → Type 0) (failures : D → ℕ) (keeps : Type 0) (files : D → Files) (n : ℕ) (o : ReplayOptions) (dir : List ℕ) where
  -- what was written of a trace up to some place, and what a replay of its lines is then
  abbrev Writes : (input w0 w1 : Option (List ℕ)) → (List Line → List ℕ → Type 0) → Type 0
  Writes input w0 w1 P = IfSome input (λ trace. (text : List ℕ) × Appends w0 w1 text × P (requests_in trace) text)

  is_saved : (trace : List ℕ) (old mid new : D) (managed : Managed) (report : ShardLoadReport LoadFault) (answers : List ℕ) (state : State) (words : Stream)
      (came : Result (ShardSaveReport PackWriteFault) TierFault) → LoadsOrder did failures keeps files n dir (empty_state (settings_over n o)).managed managed old mid (Ok report)
      → EndsReplay (start_from n o managed) (requests_in trace) answers state words → SavesOrder did failures keeps files n dir state.managed (next_words n words).0 mid new came
      → IsSaved did failures keeps files n o dir (requests_in trace) old new (ended (loaded_text report) ++ answers) came
  is_saved trace old mid new managed report answers state words came loads replays saves = record {
    mid = mid;
    report = report;
    managed = managed;
    loads = loads;
    answers = answers;
    state = state;
    words = words;
    replays = replays;
    saves = saves;
    written = refl;
  }

  pub restarted : (input w0 w1 w2 w3 : Option (List ℕ)) (old mid new : D) (managed : Managed) (report : ShardLoadReport LoadFault) (state : State) (words : Stream)
      (came : Result (ShardSaveReport PackWriteFault) TierFault) (last : List ℕ) (result : Result ⊤ ReplayError)
      → LoadsOrder did failures keeps files n dir (empty_state (settings_over n o)).managed managed old mid (Ok report) → Appends w0 w1 (ended (loaded_text report))
      → Writes input w1 w2 (λ lines text. EndsReplay (start_from n o managed) lines text state words)
      → SavesOrder did failures keeps files n dir state.managed (next_words n words).0 mid new came → IsToldOfSave n came last result → Appends w2 w3 (ended last)
      → Writes input w0 w3 (λ lines text. IsRestart did failures keeps files n o dir lines old new text result)
  restarted None w0 w1 w2 w3 old mid new managed report state words came last result loads first body saves told third = tt
  restarted (Some trace) w0 w1 w2 w3 old mid new managed report state words came last result loads first body saves told third = (
    (ended (loaded_text report) ++ body.0) ++ ended last,
    Appends-trans w0 w2 w3 (ended (loaded_text report) ++ body.0) (ended last) (Appends-trans w0 w1 w2 (ended (loaded_text report)) body.0 first body.1) third,
    record {
      before = ended (loaded_text report) ++ body.0;
      came = came;
      saved = is_saved trace old mid new managed report body.0 state words came loads body.2 saves;
      last = last;
      told = told;
      written = refl;
    },
  )

  -- nothing was written
  pub early_untouched : (input w0 w1 : Option (List ℕ)) (old new : D) → IsUntouched did failures keeps files old new [] → Appends w0 w1 []
      → Writes input w0 w1 (λ lines text. EndsEarly did failures keeps files n o dir lines old new text)
  early_untouched None w0 w1 old new same nothing = tt
  early_untouched (Some trace) w0 w1 old new same nothing = ([], nothing, inl same)

  -- the first line was begun
  pub early_loaded : (input w0 w1 : Option (List ℕ)) (old new : D) (managed : Managed) (report : ShardLoadReport LoadFault)
      → LoadsOrder did failures keeps files n dir (empty_state (settings_over n o)).managed managed old new (Ok report) → HasBegun w0 w1 (ended (loaded_text report))
      → Writes input w0 w1 (λ lines text. EndsEarly did failures keeps files n o dir lines old new text)
  early_loaded None w0 w1 old new managed report loads begun = tt
  early_loaded (Some trace) w0 w1 old new managed report loads begun =
      (begun.1.0, begun.1.2, inr (inl (record { report = report; managed = managed; loads = loads; written = inl (begun.0, begun.1.1) })))

  -- the lines were begun
  pub early_begun : (input w0 w1 w2 : Option (List ℕ)) (old new : D) (managed : Managed) (report : ShardLoadReport LoadFault)
      → LoadsOrder did failures keeps files n dir (empty_state (settings_over n o)).managed managed old new (Ok report) → Appends w0 w1 (ended (loaded_text report))
      → Writes input w1 w2 (IsBegun (start_from n o managed)) → Writes input w0 w2 (λ lines text. EndsEarly did failures keeps files n o dir lines old new text)
  early_begun None w0 w1 w2 old new managed report loads first body = tt
  early_begun (Some trace) w0 w1 w2 old new managed report loads first body = (
    ended (loaded_text report) ++ body.0,
    Appends-trans w0 w1 w2 (ended (loaded_text report)) body.0 first body.1,
    inr (inl (record { report = report; managed = managed; loads = loads; written = inr (body.0, body.2, refl) })),
  )

  -- all lines were answered, and nothing was saved
  pub early_answered : (input w0 w1 w2 : Option (List ℕ)) (old new : D) (managed : Managed) (report : ShardLoadReport LoadFault) (state : State) (words : Stream)
      → LoadsOrder did failures keeps files n dir (empty_state (settings_over n o)).managed managed old new (Ok report) → Appends w0 w1 (ended (loaded_text report))
      → Writes input w1 w2 (λ lines text. EndsReplay (start_from n o managed) lines text state words) → Writes input w0 w2 (λ lines text. EndsEarly did failures keeps files n o dir lines old new text)
  early_answered None w0 w1 w2 old new managed report state words loads first body = tt
  early_answered (Some trace) w0 w1 w2 old new managed report state words loads first body =
      early_begun (Some trace) w0 w1 w2 old new managed report loads first (body.0, body.1, whole_is_begun (start_from n o managed) (requests_in trace) body.0 state words body.2)

  -- the last line was begun
  pub early_saved : (input w0 w1 w2 w3 : Option (List ℕ)) (old mid new : D) (managed : Managed) (report : ShardLoadReport LoadFault) (state : State) (words : Stream)
      (came : Result (ShardSaveReport PackWriteFault) TierFault)
      → LoadsOrder did failures keeps files n dir (empty_state (settings_over n o)).managed managed old mid (Ok report) → Appends w0 w1 (ended (loaded_text report))
      → Writes input w1 w2 (λ lines text. EndsReplay (start_from n o managed) lines text state words)
      → SavesOrder did failures keeps files n dir state.managed (next_words n words).0 mid new came → HasBegun w2 w3 (last_line n came)
      → Writes input w0 w3 (λ lines text. EndsEarly did failures keeps files n o dir lines old new text)
  early_saved None w0 w1 w2 w3 old mid new managed report state words came loads first body saves begun = tt
  early_saved (Some trace) w0 w1 w2 w3 old mid new managed report state words came loads first body saves begun = (
    (ended (loaded_text report) ++ body.0) ++ begun.1.0,
    Appends-trans w0 w2 w3 (ended (loaded_text report) ++ body.0) begun.1.0 (Appends-trans w0 w1 w2 (ended (loaded_text report)) body.0 first body.1) begun.1.2,
    inr (inr (record {
      before = ended (loaded_text report) ++ body.0;
      came = came;
      saved = is_saved trace old mid new managed report body.0 state words came loads body.2 saves;
      begun = begun.1.0;
      rest = begun.0;
      line = begun.1.1;
      written = refl;
    })),
  )

  -- what a load that was not reported whole leaves, by a tier that was empty
  pub early_start : (tier : State) → tier ≡ empty_state (settings_over n o) → (input w0 w1 : Option (List ℕ)) (old new : D) (managed : Managed)
      → (IsUntouched did failures keeps files old new [] × Appends w0 w1 [])
      ⊎ ((report : ShardLoadReport LoadFault) × LoadsOrder did failures keeps files n dir (fresh n tier.managed.limit tier.managed.watermark) managed old new (Ok report) × HasBegun w0 w1 (ended (loaded_text report)))
      → Writes input w0 w1 (λ lines text. EndsEarly did failures keeps files n o dir lines old new text)
  early_start tier is input w0 w1 old new managed (inl h) = early_untouched input w0 w1 old new h.0 h.1
  early_start tier is input w0 w1 old new managed (inr h) =
      early_loaded input w0 w1 old new managed h.0 (subst (λ (x : State). LoadsOrder did failures keeps files n dir (fresh n x.managed.limit x.managed.watermark) managed old new (Ok h.0)) is h.1) h.2

  -- nothing is reported yet
  pub is_unreported : (old : D) (loaded : Option (ShardLoadReport LoadFault)) → loaded ≡ None → IfSome loaded (IsLoadReport did failures keeps files n o dir old)
  is_unreported old loaded none = subst (λ (l : Option (ShardLoadReport LoadFault)). IfSome l (IsLoadReport did failures keeps files n o dir old)) (sym none) tt

  -- what is reported of a load into a tier that was empty, where nothing was before, is what a load from the folder reported
  pub is_reported : (tier : State) → tier ≡ empty_state (settings_over n o) → (old mid : D) (managed : Managed) (before loaded : Option (ShardLoadReport LoadFault)) → before ≡ None
      → (loaded ≡ before) ⊎ ((report : ShardLoadReport LoadFault) × (loaded ≡ Some report)
      × LoadsOrder did failures keeps files n dir (fresh n tier.managed.limit tier.managed.watermark) managed old mid (Ok report))
      → IfSome loaded (IsLoadReport did failures keeps files n o dir old)
  is_reported tier is old mid managed before loaded none (inl same) = is_unreported old loaded (same ∙ none)
  is_reported tier is old mid managed before loaded none (inr h) =
      subst (λ (l : Option (ShardLoadReport LoadFault)). IfSome l (IsLoadReport did failures keeps files n o dir old)) (sym h.1) (
        managed,
        mid,
        subst (λ (x : State). LoadsOrder did failures keeps files n dir (fresh n x.managed.limit x.managed.watermark) managed old mid (Ok h.0)) is h.2,
      )
