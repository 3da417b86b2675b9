-- The writes in flight, and those that have readers, have begun: what each change leaves of that.
use Rattle.std.proofs.Common.{◌≡◌, ℕ, ◌+◌, ◌-◌, ◌<◌, ◌≤◌, refl, sym, ◌∙◌, true, false, cond, [], ◌∷◌, ◌++◌, arith, subst}
use Rattle.std.specs.Prelude.{◌==◌, ◌||◌, Bool, not, List, Option, Some, None, find, filter, map, nat_le, if◌then◌else◌}
use Rattle.std.specs.List.{AllByRecursion}
use Rattle.std.specs.FinMap.{get, insert, remove}
use Rattle.std.proofs.lemmas.Bool.{eqb-true}
use Rattle.cache_heads.specs.declared.meta.CacheMeta.{CacheMeta}
use Rattle.cache_entries.specs.declared.entry.CacheEntryKey.{CacheEntryKey}
use Rattle.cache_changes.specs.Changes.{StoredKey, key_alone}
use Rattle.tier_model.specs.Shelf.{InFlight, Readers, Shelf, has_number, flying_at, one_more, joined, one_less, parted, begun, appended, left_with, readers_left, landed, marked, marked_all, removed, cleared}
use Rattle.tier_model.specs.State.{Reader, closed, unread, spent, streaming}
use Rattle.tier_model.specs.After.{with_reader, without_reader, turned, pieced, on_write}
use Rattle.tier_requests.specs.Shelves.{IsBelow}
use Rattle.tier_requests.proofs.ReadingLaws.{Table, at-insert, at-remove}

-- ---- readers

-- a number that has no readers gets none by a change at another one, or at one that has readers
none-inserted : (m : Table) (k : ℕ) (v : Readers) (q : ℕ) → get m q ≡ None → (k == q) ≡ false → get (insert m k v) q ≡ None
none-inserted m k v q none other = at-insert m k v q ∙ rw other none

none-replaced : (m : Table) (k : ℕ) (r v : Readers) (q : ℕ) → get m k ≡ Some r → get m q ≡ None → get (insert m k v) q ≡ None
none-replaced m k r v q there none = by_key (k == q) refl
  where
    by_key : (t : Bool) → (k == q) ≡ t → get (insert m k v) q ≡ None
    by_key true e = let here : get m q ≡ Some r = subst (λ (x : ℕ). get m x ≡ Some r) (eqb-true k q e) there in absurd cc
    by_key false e = none-inserted m k v q none e

none-removed : (m : Table) (k q : ℕ) → get m q ≡ None → get (remove m k) q ≡ None
none-removed m k q none = at-remove m k q ∙ by_test (k == q)
  where
    by_test : (t : Bool) → cond t None (get m q) ≡ None
    by_test true = refl
    by_test false = none

pub none-parted : (n : ℕ) (m : Table) (q : ℕ) → get m q ≡ None → get (parted n m) q ≡ None
none-parted n m q none = by_readers (get m n) refl
  where
    by_last : (r : Readers) (v : Bool) → get m n ≡ Some r → get (cond v (remove m n) (insert m n (record r { count = r.count - 1 }))) q ≡ None
    by_last r true there = none-removed m n q none
    by_last r false there = none-replaced m n r (record r { count = r.count - 1 }) q there none

    by_readers : (o : Option Readers) → get m n ≡ o → get (one_less n o m) q ≡ None
    by_readers None e = none
    by_readers (Some r) e = by_last r (nat_le r.count 1) e

pub none-left : (is_finished : Bool) (n : ℕ) (o : Option InFlight) (m : Table) (q : ℕ) → get m q ≡ None → get (readers_left is_finished n o m) q ≡ None
none-left is_finished n None m q none = none
none-left is_finished n (Some f) m q none = by_readers (get m n) refl
  where
    by_readers : (o : Option Readers) → get m n ≡ o → get (left_with n f.bytes (is_finished || f.ended) o m) q ≡ None
    by_readers None e = none
    by_readers (Some r) e = none-replaced m n r (record r { left = Some f.bytes; whole = is_finished || f.ended }) q e none

-- a number below a bound isn't one that is not
apart : (n bound q : ℕ) → n < bound → bound ≤ q → (n == q) ≡ false
apart n bound q below above = by_test (n == q) refl
  where
    by_test : (t : Bool) → (n == q) ≡ t → t ≡ false
    by_test true e = let same : n ≡ q = eqb-true n q e in absurd (omega (arith, below, above, same))
    by_test false e = refl

-- ---- flights

abbrev AreBelow : ℕ → List InFlight → Type 0
AreBelow w fs = AllByRecursion (λ f. f.number < w) fs

below_mapped : (w : ℕ) (g : InFlight → InFlight) (fs : List InFlight) → ((f : InFlight) → (g f).number ≡ f.number) → AreBelow w fs → AreBelow w (map g fs)
below_mapped w g [] same b = tt
below_mapped w g (f ∷ fs) same b = (subst (λ n. n < w) (sym (same f)) b.0, below_mapped w g fs same b.1)

below_filtered : (w : ℕ) (p : InFlight → Bool) (fs : List InFlight) → AreBelow w fs → AreBelow w (filter p fs)
below_filtered w p [] b = tt
below_filtered w p (f ∷ fs) b = by_test (p f) (below_filtered w p fs b.1)
  where
    by_test : (t : Bool) → AreBelow w (filter p fs) → AreBelow w (cond t (f ∷ filter p fs) (filter p fs))
    by_test true rest = (b.0, rest)
    by_test false rest = rest

below_more : (w : ℕ) (new : InFlight) (fs : List InFlight) → new.number < w + 1 → AreBelow w fs → AreBelow (w + 1) (fs ++ new ∷ [])
below_more w new [] small b = (small, tt)
below_more w new (f ∷ fs) small b = (omega (arith, b.0), below_more w new fs small b.1)

on_number : (n : ℕ) (g : InFlight → InFlight) → ((f : InFlight) → (g f).number ≡ f.number) → (f : InFlight) → (if has_number n f then g f else f).number ≡ f.number
on_number n g same f = by_test (has_number n f)
  where
    by_test : (t : Bool) → (cond t (g f) f).number ≡ f.number
    by_test true = same f
    by_test false = refl

pub found_below : (w n : ℕ) (p : InFlight → Bool) (fs : List InFlight) (f : InFlight) → AreBelow w fs → find p fs ≡ Some f → f.number < w
found_below w n p [] f b e = absurd cc
found_below w n p (g ∷ fs) f b e = by_test (p g) e (found_below w n p fs f b.1)
  where
    by_test : (t : Bool) → cond t (Some g) (find p fs) ≡ Some f → (find p fs ≡ Some f → f.number < w) → f.number < w
    by_test true e rest = let same : g ≡ f = cc in subst (λ (x : InFlight). x.number < w) same b.0
    by_test false e rest = rest e

-- ---- changes of a shelf

pub below-parted : (n : ℕ) (s : Shelf) → IsBelow s → IsBelow (record s { readers = parted n s.readers })
below-parted n s b = record { flying = b.flying; readers = λ q above. none-parted n s.readers q (b.readers q above) }

pub below-joined : (n : ℕ) (s : Shelf) → n < s.writes → IsBelow s → IsBelow (record s { readers = joined n s.readers })
below-joined n s small b = record { flying = b.flying; readers = λ q above. none-inserted s.readers n (one_more (get s.readers n)) q (b.readers q above) (apart n s.writes q small above) }

pub below-landed : (is_finished : Bool) (n : ℕ) (s : Shelf) → IsBelow s → IsBelow (landed is_finished n s)
below-landed is_finished n s b = record {
  flying = below_filtered s.writes (λ f. not (has_number n f)) s.flying b.flying;
  readers = λ q above. none-left is_finished n (flying_at n s.flying) s.readers q (b.readers q above);
}

pub below-begun : (k : StoredKey) (meta : CacheMeta) (s : Shelf) → IsBelow s → IsBelow (record (begun k meta s) { writes = s.writes + 1 })
below-begun k meta s b = record {
  flying = below_more s.writes (record { number = s.writes; key = k; meta = meta; bytes = []; ended = false; removed = false }) s.flying (omega arith) b.flying;
  readers = λ q above. b.readers q (omega (arith, above));
}

pub below-counted : (s : Shelf) → IsBelow s → IsBelow (record s { writes = s.writes + 1 })
below-counted s b = record { flying = more s.flying b.flying; readers = λ q above. b.readers q (omega (arith, above)) }
  where
    more : (fs : List InFlight) → AreBelow s.writes fs → AreBelow (s.writes + 1) fs
    more [] b = tt
    more (f ∷ fs) b = (omega (arith, b.0), more fs b.1)

pub below-pieced : (bytes : List ℕ) (last : Bool) (n : ℕ) (s : Shelf) → IsBelow s → IsBelow (pieced bytes last n s)
below-pieced bytes last n s b = by_last last
  where
    added : AreBelow s.writes (appended n bytes s).flying
    added = below_mapped s.writes _ s.flying (on_number n (λ f. record f { bytes = f.bytes ++ bytes }) (λ f. refl)) b.flying

    by_last : (v : Bool) → IsBelow (pieced bytes v n s)
    by_last false = record { flying = added; readers = b.readers }
    by_last true = record { flying = below_mapped s.writes _ (appended n bytes s).flying (on_number n (λ f. record f { ended = true }) (λ f. refl)) added; readers = b.readers }

pub below-removed : (k : StoredKey) (s : Shelf) → IsBelow s → IsBelow (removed k s)
below-removed k s b = record { flying = below_mapped s.writes (marked (Some k)) s.flying (λ f. refl) b.flying; readers = b.readers }

pub below-cleared : (es : List CacheEntryKey) (s : Shelf) → IsBelow s → IsBelow (cleared es s)
below-cleared es s b = record { flying = all es s.flying b.flying; readers = b.readers }
  where
    all : (es : List CacheEntryKey) (fs : List InFlight) → AreBelow s.writes fs → AreBelow s.writes (marked_all es fs)
    all [] fs b = b
    all (e ∷ es) fs b = all es (map (marked (key_alone e)) fs) (below_mapped s.writes (marked (key_alone e)) fs (λ f. refl) b)

-- a reader that was there goes, and another one comes, if it is of a write that began
abbrev pub Begun : ℕ → Reader → Type 0
Begun w (streaming n place) = n < w
Begun w _ = Unit {0}

pub below-turned : (old new : Reader) (s : Shelf) → Begun s.writes new → IsBelow s → IsBelow (turned old new s)
below-turned old new s small b = gone old (record s { readers = with_reader new s.readers }) (came new small)
  where
    came : (r : Reader) → Begun s.writes r → IsBelow (record s { readers = with_reader r s.readers })
    came closed small = b
    came (unread bytes) small = b
    came spent small = b
    came (streaming n place) small = below-joined n s small b

    gone : (r : Reader) (s : Shelf) → IsBelow s → IsBelow (record s { readers = without_reader r s.readers })
    gone closed s b = b
    gone (unread bytes) s b = b
    gone spent s b = b
    gone (streaming n place) s b = below-parted n s b

pub below-on-write : (w : Option ℕ) (f : ℕ → Shelf → Shelf) (s : Shelf) → ((n : ℕ) → IsBelow (f n s)) → IsBelow s → IsBelow (on_write w f s)
below-on-write None f s h b = b
below-on-write (Some n) f s h b = h n
