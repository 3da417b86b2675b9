-- The report of a tier: of a state, and of the history after it.
use Rattle.std.specs.Prelude.{◌≡◌, ℕ, ◌+◌, Bool, true, false, List, [], ◌∷◌, length, find, if◌then◌else◌, Some, Ok}
use Rattle.std.specs.List.{sum_by, AllByRecursion}
use Rattle.std.specs.FinMap.{len, values}
use Rattle.cache_heads.specs.Meta.{meta_length}
use Rattle.cache_entries.specs.Keys.{same_bytes}
use Rattle.cache_entries.specs.declared.rows.Tracked.{Tracked}
use Rattle.cache_entries.specs.Rows.{all_weights}
use Rattle.cache_evict.specs.Managed.{saturated, total_size, total_items}
use Rattle.cache_changes.specs.Changes.{StoredKey, Write, Changes}
use Rattle.cache_changes.specs.Writes.{bytes_of, meta_of, IsBody}
use Rattle.cache_changes.specs.Uses.{IsOrderOfUse}
use Rattle.cache_changes.specs.Bound.{HasDistinctKeys}
use Rattle.tier_model.specs.declared.event.Answer.TheVariants.{Found, Absent}
use Rattle.tier_model.specs.declared.report.Report.{Report}
use Rattle.tier_model.specs.Calls.{History, Outcome, evicted_by}
use Rattle.tier_model.specs.Histories.{Kept, Opening, changes_of}
use Rattle.tier_model.specs.State.{State}
use Rattle.tier_model.specs.After.{counted}

-- the answers counted, the bodies with their bytes, their metas as they are written and what they have outside, the tracked entries with their weights
abbrev pub report_of : State → Report
report_of s = record {
  found = s.found;
  absent = s.absent;
  bodies = len s.shelf.bodies;
  bytes = counted 0 (sum_by (λ x. length x.body.bytes) (values s.shelf.bodies));
  meta = counted 0 (sum_by (λ x. meta_length x.body.meta) (values s.shelf.bodies));
  tracked = total_items s.managed;
  weight = total_size s.managed;
  evicted = s.managed.evicted_items;
  external = counted 0 (sum_by (λ x. x.body.meta.external) (values s.shelf.bodies));
}

abbrev pub is_found : Outcome → Bool
is_found (Ok (Found fresh complete given)) = true
is_found _ = false

abbrev pub is_absent : Outcome → Bool
is_absent (Ok (Absent given)) = true
is_absent _ = false

-- how many look-ups were answered found
abbrev pub found_answers : History → ℕ
found_answers [] = 0
found_answers (c ∷ h) = if is_found c.outcome then found_answers h + 1 else found_answers h

-- how many were answered absent
abbrev pub absent_answers : History → ℕ
absent_answers [] = 0
absent_answers (c ∷ h) = if is_absent c.outcome then absent_answers h + 1 else absent_answers h

-- how many entries were evicted
abbrev pub evictions : History → ℕ
evictions [] = 0
evictions (c ∷ h) = evictions h + length (evicted_by c.outcome)

-- the writes are all that are bodies, each once
pub record AreAllBodies (writes : List (Write Kept)) (changes : Changes Kept) : Type 0 where
  pub distinct : HasDistinctKeys writes
  pub each : AllByRecursion (λ w. IsBody w.key w changes) writes
  pub all : (k : StoredKey) (w : Write Kept) → IsBody k w changes → find (λ v. same_bytes v.key k) writes ≡ Some w

-- what the report says of a history
pub record IsReport (r : Report) (start : Opening) (h : History) : Type 0 where
  pub found : r.found ≡ saturated (found_answers h)
  pub absent : r.absent ≡ saturated (absent_answers h)
  pub evicted : r.evicted ≡ saturated (evictions h)
  pub bodies : (writes : List (Write Kept)) × AreAllBodies writes (changes_of start h) × (r.bodies ≡ length writes)
      × (r.bytes ≡ saturated (sum_by (λ w. length (bytes_of w.number (changes_of start h))) writes))
      × (r.meta ≡ saturated (sum_by (λ w. meta_length (meta_of w (changes_of start h)).meta) writes))
      × (r.external ≡ saturated (sum_by (λ w. (meta_of w (changes_of start h)).meta.external) writes))
  pub tracked : (rows : List Tracked) × IsOrderOfUse rows (changes_of start h) × (r.tracked ≡ length rows) × (r.weight ≡ all_weights rows)
