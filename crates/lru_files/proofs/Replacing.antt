-- A file that is replaced by way of a temporary one: what each call leaves, and a stop in it.
use Rattle.std.proofs.Common.{◌≡◌, ◌≢◌, inl, inr, ℕ, List, [], take, Option, Some, None, sym, ◌∙◌, refl, subst}
use Rattle.lru_files.specs.Folder.{Files, FolderCall, Outcome, IsSame, IsPut, IsMoved, IsGrown, Refuses, Writes, StoppedIn, StopsLeave}
use Rattle.lru_files.specs.Folder.FolderCall.{Create, Write, Flush, Rename}
use Rattle.lru_files.specs.Save.{IsAdded, IsOldOrNew, IsReplaced}
use Rattle.lru_files.proofs.Runs.{stops_begin, stops_more}

-- no path but the temporary one changed
pub record IsAside (old : Files) (temp : List ℕ) (new : Files) : Type 0 where
  pub others : (path : List ℕ) → path ≢ temp → new path ≡ old path

pub old_from_aside : {old new : Files} {temp : List ℕ} (at bytes : List ℕ) → temp ≢ at → IsAside old temp new → IsOldOrNew old temp at bytes new
old_from_aside at bytes apart aside = record {
  file = inl (aside.others at (λ e. apart (sym e)));
  others = λ path away_from_at away. aside.others path away;
}

pub aside_begin : (old : Files) (temp : List ℕ) → IsAside old temp old
aside_begin old temp = record { others = λ path away. refl }

pub aside-same : {old before : Files} {temp : List ℕ} (left : Files) → IsAside old temp before → IsSame before left → IsAside old temp left
aside-same left aside same = record { others = λ path away. same path ∙ aside.others path away }

pub aside-put : {old before : Files} {temp bytes : List ℕ} (left : Files) → IsAside old temp before → IsPut before left temp bytes → IsAside old temp left
aside-put left aside put = record { others = λ path away. put.others path away ∙ aside.others path away }

aside-grown : {old before : Files} {temp bytes : List ℕ} (left : Files) → IsAside old temp before → IsGrown before left temp bytes → IsAside old temp left
aside-grown left aside grown = record { others = λ path away. grown.others path away ∙ aside.others path away }

pub aside-writes : {old before : Files} {temp : List ℕ} {opened : Option (List ℕ)} (bytes : List ℕ) (left : Files)
    → opened ≡ Some temp → IsAside old temp before → Writes bytes opened before left → IsAside old temp left
aside-writes {before = before} {temp = temp} bytes left is_open aside writes =
    aside-grown left aside (subst (λ o. Writes bytes o before left) is_open writes)

pub aside-refused : {old before : Files} {temp : List ℕ} {opened : Option (List ℕ)} (bytes : List ℕ) (left : Files)
    → opened ≡ Some temp → IsAside old temp before → Refuses (Write bytes) opened before left → IsAside old temp left
aside-refused bytes left is_open aside (inl same) = aside-same left aside same
aside-refused bytes left is_open aside (inr part) = aside-writes (take part.0 bytes) left is_open aside part.1

-- the temporary file is written whole
pub put-writes : {old created written : Files} {temp : List ℕ} {opened : Option (List ℕ)} (bytes : List ℕ)
    → opened ≡ Some temp → IsPut old created temp [] → Writes bytes opened created written → IsPut old written temp bytes
put-writes {old} {created} {written} {temp} bytes is_open put writes =
    let grown : IsGrown created written temp bytes = subst (λ o. Writes bytes o created written) is_open writes in
    record {
      there = grown.grown [] put.there;
      others = λ path away. grown.others path away ∙ put.others path away;
    }

pub put-same : {old written : Files} {temp bytes : List ℕ} (left : Files) → IsPut old written temp bytes → IsSame written left → IsPut old left temp bytes
put-same {temp} left put same = record {
  there = same temp ∙ put.there;
  others = λ path away. same path ∙ put.others path away;
}

-- the temporary file has a beginning
put-refused : {old created written : Files} {temp : List ℕ} {opened : Option (List ℕ)} (bytes : List ℕ)
    → opened ≡ Some temp → IsPut old created temp [] → Refuses (Write bytes) opened created written → (n : ℕ) × IsPut old written temp (take n bytes)
put-refused {written = written} bytes is_open put (inl same) = (0, put-same written put same)
put-refused bytes is_open put (inr part) = (part.0, put-writes (take part.0 bytes) is_open put part.1)

-- a new temporary file has a beginning
pub added-refused : {old created written : Files} {temp : List ℕ} {opened : Option (List ℕ)} (bytes : List ℕ)
    → old temp ≡ None → opened ≡ Some temp → IsPut old created temp [] → Refuses (Write bytes) opened created written → (n : ℕ) × IsAdded old written temp (take n bytes)
added-refused bytes absent is_open put refused = let part = put-refused bytes is_open put refused in (part.0, record { was = absent; put = part.1 })

pub replaced-moved : {old written new : Files} {temp at bytes : List ℕ} → old temp ≡ None → temp ≢ at → IsPut old written temp bytes → IsMoved written new temp at
    → IsReplaced old new temp at bytes
replaced-moved absent apart put moved = record {
  was = absent;
  there = moved.there ∙ put.there;
  gone = moved.gone apart;
  others = λ path away_from_at away. moved.others path away away_from_at ∙ put.others path away;
}

pub old_or_new-moved : {old written new : Files} {temp at bytes : List ℕ} → IsPut old written temp bytes → IsMoved written new temp at → IsOldOrNew old temp at bytes new
old_or_new-moved put moved = record {
  file = inr (moved.there ∙ put.there);
  others = λ path away_from_at away. moved.others path away away_from_at ∙ put.others path away;
}

-- a stop in each of the calls of one replacement
module _ {old : Files} {temp at bytes : List ℕ} (apart : temp ≢ at) where
  create_stop : (before left : Files) (was_open : Option (List ℕ)) → IsAside old temp before → StoppedIn (Create temp) was_open before left
      → IsOldOrNew old temp at bytes left
  create_stop before left was_open aside (inl same) = old_from_aside at bytes apart (aside-same left aside same)
  create_stop before left was_open aside (inr put) = old_from_aside at bytes apart (aside-put left aside put)

  write_stop : (before left : Files) (is_open : Option (List ℕ)) → is_open ≡ Some temp → IsAside old temp before → StoppedIn (Write bytes) is_open before left
      → IsOldOrNew old temp at bytes left
  write_stop before left is_open same_open aside (inl part) = old_from_aside at bytes apart (aside-refused bytes left same_open aside part)
  write_stop before left is_open same_open aside (inr whole) = old_from_aside at bytes apart (aside-writes bytes left same_open aside whole)

  flush_stop : (before left : Files) (was_open : Option (List ℕ)) → IsAside old temp before → StoppedIn Flush was_open before left
      → IsOldOrNew old temp at bytes left
  flush_stop before left was_open aside (inl same) = old_from_aside at bytes apart (aside-same left aside same)
  flush_stop before left was_open aside (inr same) = old_from_aside at bytes apart (aside-same left aside same)

  aside_from_put : (before : Files) → IsPut old before temp bytes → IsAside old temp before
  aside_from_put before put = aside-put before (aside_begin old temp) put

  rename_stop : (before left : Files) (was_open : Option (List ℕ)) → IsPut old before temp bytes → StoppedIn (Rename temp at) was_open before left
      → IsOldOrNew old temp at bytes left
  rename_stop before left was_open put (inl same) = old_from_aside at bytes apart (aside-same left (aside_from_put before put) same)
  rename_stop before left was_open put (inr moved) = old_or_new-moved put moved

-- the calls of one replacement, one after the other
module _ {D : Type 0} {did : D → FolderCall → Outcome → D → Type 0} {opened : D → Option (List ℕ)} {files : D → Files} {old : D} {temp at bytes : List ℕ} (apart : temp ≢ at) where
  pub created_run : {created : D} (outcome : Outcome) → did old (Create temp) outcome created → IsAside (files old) temp (files created)
      → StopsLeave did opened files (IsOldOrNew (files old) temp at bytes) old created
  created_run {created} outcome step aside = stops_more (Create temp) outcome (stops_begin old (old_from_aside at bytes apart (aside_begin (files old) temp))) step
      (λ left stop. create_stop apart (files old) left (opened old) (aside_begin (files old) temp) stop) (old_from_aside at bytes apart aside)

  pub written_run : {created written : D} (outcome : Outcome) → StopsLeave did opened files (IsOldOrNew (files old) temp at bytes) old created
      → IsAside (files old) temp (files created) → opened created ≡ Some temp → did created (Write bytes) outcome written → IsAside (files old) temp (files written)
      → StopsLeave did opened files (IsOldOrNew (files old) temp at bytes) old written
  written_run {created} outcome run before same_open step aside = stops_more (Write bytes) outcome run step
      (λ left stop. write_stop apart (files created) left (opened created) same_open before stop) (old_from_aside at bytes apart aside)

  pub flushed_run : {written flushed : D} (outcome : Outcome) → StopsLeave did opened files (IsOldOrNew (files old) temp at bytes) old written
      → IsAside (files old) temp (files written) → did written Flush outcome flushed → IsAside (files old) temp (files flushed)
      → StopsLeave did opened files (IsOldOrNew (files old) temp at bytes) old flushed
  flushed_run {written} outcome run before step aside = stops_more Flush outcome run step
      (λ left stop. flush_stop apart (files written) left (opened written) before stop) (old_from_aside at bytes apart aside)

  pub renamed_run : {flushed renamed : D} (outcome : Outcome) → StopsLeave did opened files (IsOldOrNew (files old) temp at bytes) old flushed
      → IsPut (files old) (files flushed) temp bytes → did flushed (Rename temp at) outcome renamed → IsOldOrNew (files old) temp at bytes (files renamed)
      → StopsLeave did opened files (IsOldOrNew (files old) temp at bytes) old renamed
  renamed_run {flushed} outcome run put step after = stops_more (Rename temp at) outcome run step
      (λ left stop. rename_stop apart (files flushed) left (opened flushed) put stop) after
