-- Entries go, and what is stored of them goes along: the relation holds after each, and what goes in turn from the shards goes in turn from the rows.
use Rattle.std.proofs.Common.{◌≡◌, ℕ, ◌<◌, refl, ap, sym, ◌∙◌, subst, [], ◌∷◌, length, arith}
use Rattle.std.specs.Prelude.{Bool, List, Option, map}
use Rattle.std.specs.FinMap.{get}
use Rattle.cache_changes.specs.Changes.{key_alone, departs, admits}
use Rattle.cache_changes.specs.Uses.{AreShardsOf}
use Rattle.cache_changes.proofs.ManyShards.{AreShardsOf-after}
use Rattle.cache_entries.specs.declared.entry.CacheEntryKey.{CacheEntryKey}
use Rattle.cache_entries.specs.declared.rows.Tracked.{Tracked}
use Rattle.cache_entries.specs.Rows as entry_rows
use Rattle.cache_evict.specs.Managed.{Managed, taken_out, put_first}
use Rattle.cache_lock.specs.Changes.{Changes as LockChanges}
use Rattle.tier_model.specs.Keys.{Entry, alone}
use Rattle.tier_model.specs.Calls.{extended}
use Rattle.tier_model.specs.Histories.{Kept}
use Rattle.tier_model.specs.Evictions as shards
use Rattle.tier_model.specs.Rows.{without_key}
use Rattle.tier_model.specs.Shelf.{Shelf, marked}
use Rattle.tier_model.specs.State.{Settings, State}
use Rattle.tier_model.specs.After.{emptied, taken}
use Rattle.tier_promise.specs.Promise.{Changes, Now, GoInTurn, bytes_of, takes, puts, rows}
use Rattle.tier_model.proofs.RowSteps.{IsMade, made-out, made-gone, over-rows, last-rows}
use Rattle.tier_promise.proofs.NowFits.{NowFits}
use Rattle.tier_promise.proofs.NowShelf.{shelf-takes}
use Rattle.tier_promise.proofs.NowLock.{lock-same}
use Rattle.tier_promise.proofs.NowRequests.{open-carried, reads-on, marked-stays, marked-none}
use Rattle.tier_promise.proofs.NowSteps.{no_longer}

-- ---- rows

module _ (x : Settings) (pos : 0 < x.shards) (n : ℕ) (same : n ≡ x.shards) (e : CacheEntryKey) (m : Managed) (c : Changes) (a : AreShardsOf x.shards m.shards (rows c)) where
  pub rows-taken : AreShardsOf x.shards (taken_out n e m).shards (rows (takes e ∷ c))
  rows-taken = subst (λ (i : ℕ). AreShardsOf x.shards (taken_out i e m).shards (rows (takes e ∷ c))) (sym same) (AreShardsOf-after {M = Kept} x.shards (departs e) e m.shards (rows c) pos refl a)

  pub rows-put : (w : ℕ) → AreShardsOf x.shards (put_first n e w m).shards (rows (puts e w ∷ c))
  rows-put w = subst (λ (i : ℕ). AreShardsOf x.shards (put_first i e w m).shards (rows (puts e w ∷ c))) (sym same) (AreShardsOf-after {M = Kept} x.shards (admits e w) e m.shards (rows c) pos refl a)

-- what goes in turn from the shards goes in turn from the rows
pub turn-rows : (x : Settings) (pos : 0 < x.shards) (n : ℕ) (same : n ≡ x.shards) (over : Bool) (es : List CacheEntryKey) (m : Managed) (all : List Tracked) → IsMade x m → AreShardsOf x.shards m.shards all
    → shards.GoInTurn n over es m → GoInTurn x over es all
turn-rows x pos n same over [] m all made a h =
    sym (ap (λ (l : ℕ). entry_rows.is_over l m.watermark all) made.limit ∙ ap (λ (b : Option ℕ). entry_rows.is_over x.limit b all) made.watermark) ∙ over-rows x.shards m all pos a ∙ h
turn-rows x pos n same over (e ∷ es) m all made a h =
    let at : shards.GoInTurn x.shards over (e ∷ es) m = subst (λ (i : ℕ). shards.GoInTurn i over (e ∷ es) m) same h in (
      sym (ap (λ (l : ℕ). entry_rows.is_over l m.watermark all) made.limit ∙ ap (λ (b : Option ℕ). entry_rows.is_over x.limit b all) made.watermark) ∙ over-rows x.shards m all pos a ∙ at.0,
      last-rows x.shards e m all pos a at.1,
      turn-rows x pos x.shards refl over es (shards.gone x.shards e m) (entry_rows.without_row e all) (made-gone x x.shards (e ∷ []) m made)
          (AreShardsOf-after {M = Kept} x.shards (departs e) e m.shards all pos refl a) at.2,
    )

-- ---- the relation

-- without what is stored of an entry
abbrev pub out_of : CacheEntryKey → Shelf → Shelf
out_of e shelf = record shelf { bodies = without_key (key_alone e) shelf.bodies; flying = map (marked (key_alone e)) shelf.flying }

module _ (x : Settings) (s : State) (locks : LockChanges) (now : Now) (fits : NowFits x s locks now) where
  abbrev c : Changes
  c = now.changes

  -- an entry is out of the order of use, and what is stored under its key goes along
  pub out-fits : (e : CacheEntryKey) (m : Managed) → IsMade x m → AreShardsOf x.shards m.shards (rows (takes e ∷ c))
      → NowFits x (record s { shelf = out_of e s.shelf; managed = m }) locks (record now { changes = takes e ∷ c })
  out-fits e m made order =
      let shelf = shelf-takes fits.numbers e s.shelf.bodies s.shelf.flying s.shelf.writes c fits.shelf in
      record {
        numbers = fits.numbers;
        permits = fits.permits;
        wait = fits.wait;
        some = fits.some;
        made = made;
        rows = order;
        shelf = shelf;
        lock = lock-same fits.permits locks s.lock.next c fits.lock (takes e ∷ c) (omega arith) (λ m. refl) (λ k. refl);
        requests = λ id. open-carried fits.numbers fits.numbers s.shelf (out_of e s.shelf) c (takes e ∷ c) x fits.permits fits.permits (get s.requests id) (now.request id)
            (λ q is. record {
              named = λ n m h. h;
              flights = λ n f held at. marked-stays (key_alone e) n f s.shelf.flying at;
              reads = λ n place m held named h. reads-on fits.numbers (out_of e s.shelf) s.shelf.writes (takes e ∷ c) shelf n m named s.shelf c
                  (marked-none (key_alone e) n s.shelf.flying) (λ gone. refl) (λ d. (refl, d)) (no_longer (length (bytes_of m c))) h;
            })
            (λ n p h. h) (fits.requests id);
      }

  -- a key is taken out with its entry
  pub taken-fits : (n : ℕ) → n ≡ x.shards → (e : Entry) → NowFits x (taken n e s) locks (record now { changes = takes (alone e) ∷ c })
  taken-fits n same e = out-fits (alone e) (taken_out n (alone e) s.managed) (made-out x n (alone e) s.managed fits.made) (rows-taken x fits.some n same (alone e) s.managed c fits.rows)

-- these entries go, in order
pub emptied-fits : (x : Settings) (n : ℕ) → n ≡ x.shards → (es : List CacheEntryKey) (s : State) (locks : LockChanges) (now : Now) → NowFits x s locks now
    → NowFits x (emptied n es s) locks (record now { changes = extended now.changes (map takes es) })
emptied-fits x n same [] s locks now fits = fits
emptied-fits x n same (e ∷ es) s locks now fits =
    emptied-fits x n same es (record s { shelf = out_of e s.shelf; managed = shards.gone n e s.managed }) locks (record now { changes = takes e ∷ now.changes })
    (out-fits x s locks now fits e (shards.gone n e s.managed) (made-gone x n (e ∷ []) s.managed fits.made)
    (let a = rows-taken x fits.some n same e s.managed now.changes fits.rows in record { count = a.count; each = a.each }))

-- the permits are the same
pub taken-permits : (x : Settings) (s : State) (locks : LockChanges) (now : Now) (fits : NowFits x s locks now) (n : ℕ) (same : n ≡ x.shards) (e : Entry) → (taken-fits x s locks now fits n same e).permits ≡ fits.permits
unfolding taken-fits out-fits
taken-permits x s locks now fits n same e = refl

pub emptied-permits : (x : Settings) (n : ℕ) (same : n ≡ x.shards) (es : List CacheEntryKey) (s : State) (locks : LockChanges) (now : Now) (fits : NowFits x s locks now)
    → (emptied-fits x n same es s locks now fits).permits ≡ fits.permits
unfolding emptied-fits out-fits
emptied-permits x n same [] s locks now fits = refl
emptied-permits x n same (e ∷ es) s locks now fits =
    emptied-permits x n same es (record s { shelf = out_of e s.shelf; managed = shards.gone n e s.managed }) locks (record now { changes = takes e ∷ now.changes })
    (out-fits x s locks now fits e (shards.gone n e s.managed) (made-gone x n (e ∷ []) s.managed fits.made)
    (let a = rows-taken x fits.some n same e s.managed now.changes fits.rows in record { count = a.count; each = a.each }))
