-- Faults of calls that were refused.
use Rattle.std.proofs.Common.{◌≡◌, inl, inr, subst, ℕ, [], List, Option, Some, None, refl, sym, ap, is_some, false, true≢false}
use Rattle.std.specs.Prelude.{unwrap_or, Result, Ok, Err, IfOk, IfErr, OnOk}
use Rattle.rand_core.specs.Stream.{Stream}
use Rattle.cache_entries.specs.declared.entry.CacheEntryKey.{CacheEntryKey}
use Rattle.cache_entries.specs.declared.rows.Tracked.{Tracked}
use Rattle.cache_entries.specs.Rows.{weight_of}
use Rattle.cache_evict.specs.declared.fault.EvictFault.{EvictFault}
use Rattle.cache_evict.specs.declared.tracker.refusal.Refusal.{Refusal}
use Rattle.cache_evict.specs.Managed.{Managed, rows_of, put_first, use_first, Fits}
use Rattle.cache_evict.specs.Refusals.{IsRefusal}
use Rattle.cache_evict.specs.declared.fault.EvictFault.TheVariants as fault
use Rattle.cache_evict.specs.declared.tracker.refusal.Refusal.TheVariants.{Memory, Weight, Length, Spent}
use Rattle.cache_evict.specs.Faults.{evicted_of, cause_of, IsPutRefused, RunsOut, StopsAt}

one_cause : (r s : Refusal) → Some r ≡ Some s → r ≡ s
one_cause r s e = cc

-- the fault of a refusal reports why
pub told : (n : ℕ) (e : CacheEntryKey) (w : ℕ) (m : Managed) (f : EvictFault) (r : Refusal) → cause_of f ≡ Some r → IsRefusal n e w m r → IsPutRefused n e w m f
told n e w m (fault.Memory v) r i p = subst (λ (x : Refusal). IsRefusal n e w m x) (sym (one_cause Memory r i)) p
told n e w m (fault.Weight v) r i p = subst (λ (x : Refusal). IsRefusal n e w m x) (sym (one_cause Weight r i)) p
told n e w m (fault.Length v) r i p = subst (λ (x : Refusal). IsRefusal n e w m x) (sym (one_cause Length r i)) p
told n e w m (fault.NumbersSpent v) r i p = subst (λ (x : Refusal). IsRefusal n e w m x) (sym (one_cause Spent r i)) p
told n e w m (fault.File v) r i p = absurd cc

pub stops_at_once : (pick : List (List Tracked) → Stream → ℕ × Stream) (n : ℕ) (e : CacheEntryKey) (w : ℕ) (old new : Managed) (s : Stream) (f : EvictFault) (r : Refusal) → cause_of f ≡ Some r → evicted_of f ≡ [] → IsRefusal n e w old r → new ≡ old
    → StopsAt pick n e w old s f new s
stops_at_once pick n e w old new s f r i none p same = inl (told n e w old f r i p, none, same, refl)

-- a use of an entry that has no row puts it first
pub used_new : (n : ℕ) (e : CacheEntryKey) (w : ℕ) (m : Managed) → weight_of e (rows_of n e m) ≡ None → put_first n e w m ≡ use_first n e w m
used_new n e w m none = ap (λ (o : Option ℕ). put_first n e (unwrap_or o w) m) (sym none)

pub none_there : {X : Type 0} (o : Option X) → false ≡ is_some o → o ≡ None
none_there None f = refl
none_there (Some x) f = absurd (true≢false (sym f))

-- ---- a put that is followed by evictions, whose weights fit

pub stops_later : {A : Type 0} (pick : List (List Tracked) → Stream → ℕ × Stream) (n : ℕ) (e : CacheEntryKey) (w : ℕ) (old mid new : Managed) (s rest : Stream) (r : Result A EvictFault)
    → mid ≡ put_first n e w old → Fits n mid → IfErr r (λ fault. RunsOut pick mid s fault new rest) → IfErr r (λ fault. StopsAt pick n e w old s fault new rest)
stops_later pick n e w old mid new s rest (Ok x) same fits p = tt
stops_later pick n e w old mid new s rest (Err f) same fits p =
    inr (subst (λ (m : Managed). RunsOut pick m s f new rest × Fits n m) same (p, fits))

pub ok_means : {A B : Type 0} (r : Result A B) (P Q : A → Type 0) → ((x : A) → P x → Q x) → IfOk r P → IfOk r Q
ok_means (Ok x) P Q f p = f x p
ok_means (Err x) P Q f p = tt

pub fits_then : {A B : Type 0} (r : Result A B) (n : ℕ) (m mid : Managed) → mid ≡ m → Fits n mid → OnOk r (Fits n m)
fits_then (Ok x) n m mid same fits = subst (Fits n) same fits
fits_then (Err x) n m mid same fits = tt
