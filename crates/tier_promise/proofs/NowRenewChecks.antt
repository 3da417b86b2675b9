-- What is asked of a revalidation first, and its faults: its phase, and that what its request has seen is the body of its key. It is by the state
-- exactly where it is by the changes.
use Rattle.std.proofs.Common.{◌∙◌, ◌≡◌, refl, ap, sym, true, false, subst, cond, ◌==◌}
use Rattle.std.specs.Prelude.{Bool, Option, Some, None, option_map}
use Rattle.std.specs.FinMap.{get}
use Rattle.cache_changes.specs.Changes.{StoredKey, stored_key}
use Rattle.cache_entries.specs.Entry.{key_of}
use Rattle.cache_entries.specs.declared.entry.CacheEntryKey.{CacheEntryKey}
use Rattle.cache_lock.specs.Changes.{Changes as LockChanges}
use Rattle.tier_model.specs.Rows.{Numbered, Bodies}
use Rattle.tier_model.specs.State.{Settings, Phase, cache_key, hit, stale, miss, begun, disabled, revalidated, Seen, State}
use Rattle.tier_model.specs.State as state
use Rattle.tier_model.specs.declared.event.TierFault.TheVariants.{WrongPhase, BadHead, NotStored}
use Rattle.tier_model.specs.declared.event.TierFault.{TierFault}
use Rattle.tier_model.specs.Checks.{can_revalidate}
use Rattle.tier_model.specs.Response.{Judged, kept, not_kept, too_early, not_read}
use Rattle.tier_model.specs.Step.{RevalidateTakes}
use Rattle.tier_model.specs.Answers.{IsRenewalFault, IsRevalidateFault, key_for, is_that_write, is_body_seen}
use Rattle.tier_promise.specs.Promise.{Write, Changes, Request, EventRow, Now, HowFar, body_of, bytes_of, is_done, still, refused, unread_row, confirm_row, revalidate_by}
use Rattle.tier_promise.proofs.NowFits.{Told, BodyFits, SeenFits, RequestFits, NowFits}
use Rattle.tier_promise.proofs.NowLands.{same-place}

-- it is the body of the key in both, or in neither
abbrev pub SeenAt : Bodies → Changes → StoredKey → Bool → Option Write → Type 0
SeenAt bodies c key true (Some w) = (b : Numbered) × (get bodies key ≡ Some b) × (body_of key c ≡ Some w)
SeenAt bodies c key false None = Unit {0}
SeenAt bodies c key _ _ = ⊥

module _ (x : Settings) (s : State) (locks : LockChanges) (now : Now) (fits : NowFits x s locks now) (q : state.Request) (r : Request) (f : RequestFits x fits.numbers fits.permits s.shelf now.changes q r) where
  abbrev c : Changes
  c = now.changes

  abbrev key : StoredKey
  key = stored_key r.entry

  abbrev At : Bool → Option Write → Type 0
  At v w = SeenAt s.shelf.bodies c key v w

  seen_by : (u v : Option Seen) (b : Option Numbered) (w : Option Write) → get s.shelf.bodies key ≡ b → body_of key c ≡ w → SeenFits fits.numbers u v
      → BodyFits fits.numbers (λ m. bytes_of m c) (λ m. is_done m c) key b w → At (is_that_write u (option_map (λ y. y.number) b)) (still v w)
  seen_by (Some u) (Some v) (Some b) (Some w) eb ew seen body =
      let test : (u.number == b.number) ≡ (v.number == w.number) =
      same-place fits.numbers s.shelf.bodies s.shelf.flying s.shelf.writes c fits.shelf u.number v.number seen.0 b.number w.number (ap (λ (y : Told). y.number) body.0) in
      subst (λ (y : Bool). At y (cond (v.number == w.number) (Some w) None)) (sym test) (by_test (v.number == w.number))
    where
      by_test : (y : Bool) → At y (cond y (Some w) None)
      by_test true = (b, eb, ew)
      by_test false = tt
  seen_by None None b w eb ew seen body = tt
  seen_by (Some u) (Some v) None None eb ew seen body = tt
  seen_by (Some u) (Some v) (Some b) None eb ew seen body = absurd body
  seen_by (Some u) (Some v) None (Some w) eb ew seen body = absurd body
  seen_by (Some u) None b w eb ew seen body = absurd seen
  seen_by None (Some v) b w eb ew seen body = absurd seen

  pub seen-at : At (is_body_seen q s.shelf) (still r.seen (body_of key c))
  seen-at = subst (λ (y : StoredKey). At (is_that_write q.seen (option_map (λ y. y.number) (get s.shelf.bodies y))) (still r.seen (body_of key c))) (sym key_is)
      (seen_by q.seen r.seen (get s.shelf.bodies key) (body_of key c) refl refl f.seen (fits.shelf.bodies key))
    where
      key_is : key_for q ≡ key
      key_is = ap (λ (e : CacheEntryKey). stored_key (key_of e)) f.entry

-- ---- the phase

module _ (r : Request) (c : Changes) where
  abbrev pub row_at : Option Judged → HowFar → Option Write → EventRow
  row_at None far w = unread_row (Some r)
  row_at (Some j) far w = confirm_row j far w r c

  pub revalidate-passed : (phase : Phase) (gave : Bool) (j : Option Judged) (far : HowFar) → can_revalidate phase gave ≡ true → revalidate_by phase gave j far r c ≡ row_at j far (still r.seen (body_of (stored_key r.entry) c))
  revalidate-passed stale false None o e = refl
  revalidate-passed stale false (Some j) o e = refl
  revalidate-passed stale true j o e = absurd cc
  revalidate-passed _ gave j o e = absurd cc

  pub revalidate-failed : (phase : Phase) (gave : Bool) (j : Option Judged) (far : HowFar) → can_revalidate phase gave ≡ false → revalidate_by phase gave j far r c ≡ refused r WrongPhase
  revalidate-failed stale true j o e = refl
  revalidate-failed stale false j o e = absurd cc
  revalidate-failed cache_key gave j o e = refl
  revalidate-failed hit gave j o e = refl
  revalidate-failed miss gave j o e = refl
  revalidate-failed begun gave j o e = refl
  revalidate-failed disabled gave j o e = refl
  revalidate-failed revalidated gave j o e = refl

-- ---- faults

-- memory with nothing done, or another fault
abbrev pub Late : State → state.Request → Bool → Option Judged → TierFault → Type 0
Late s q v (Some not_read) g = g ≡ BadHead
Late s q true (Some j) g = IsRenewalFault s q j g
Late s q false (Some j) g = g ≡ NotStored
Late s q v None g = ⊥

-- memory is taken until the head is known, and then only for the body that was found
abbrev pub Takes : Bool → Option Judged → Type 0
Takes v None = Unit {0}
Takes v (Some not_read) = ⊥
Takes v (Some j) = v ≡ true

module _ (s : State) (q : state.Request) where
  pub late-is : (v : Bool) → is_body_seen q s.shelf ≡ v → (j : Option Judged) (g : TierFault) → IsRevalidateFault s q j g → Late s q v j g
  late-is v e None g = λ p. p
  late-is v e (Some not_read) g = λ p. p
  late-is true e (Some too_early) g = rw e (λ p. p)
  late-is true e (Some (not_kept reason)) g = rw e (λ p. p)
  late-is true e (Some (kept meta)) g = rw e (λ p. p)
  late-is false e (Some too_early) g = rw e (λ p. p)
  late-is false e (Some (not_kept reason)) g = rw e (λ p. p)
  late-is false e (Some (kept meta)) g = rw e (λ p. p)

  pub takes-is : (v : Bool) → is_body_seen q s.shelf ≡ v → (j : Option Judged) → RevalidateTakes q s.shelf j → Takes v j
  takes-is v e None p = tt
  takes-is v e (Some not_read) p = p
  takes-is v e (Some too_early) p = sym e ∙ p
  takes-is v e (Some (not_kept reason)) p = sym e ∙ p
  takes-is v e (Some (kept meta)) p = sym e ∙ p
