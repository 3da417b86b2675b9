-- Which writes the changes of a call land.
use Rattle.std.proofs.Common.{◌≡◌, ℕ, refl, true, false, cond, [], ◌∷◌, ◌++◌, ◌==◌}
use Rattle.std.specs.Prelude.{Bool, List, Option, Some, None, Ok, Err}
use Rattle.std.specs.List.{AllByRecursion}
use Rattle.cache_entries.specs.declared.entry.CacheEntryKey.{CacheEntryKey}
use Rattle.cache_entries.specs.Entry.{key_of}
use Rattle.cache_changes.specs.Changes.{stored_key, Write, Change, Changes, ends, finishes}
use Rattle.cache_changes.specs.Writes.{lands, body_now}
use Rattle.tier_model.specs.declared.event.Action.{Action}
use Rattle.tier_model.specs.declared.event.Action.TheVariants.{Finish, Drop}
use Rattle.tier_model.specs.declared.event.Answer.TheVariants.{Revalidated, Finished}
use Rattle.tier_model.specs.declared.event.TierFault.TheVariants.{WriteRemoved}
use Rattle.tier_model.specs.Keys.{Entry}
use Rattle.tier_model.specs.Calls.{Outcome, done_of}
use Rattle.tier_model.specs.Histories.{Kept, goes, settles, stores, clears, put_changes, hit_changes, look_changes, is_landing, begin_changes, piece_changes, finished_of, settles_back}
use Rattle.tier_model.specs.Histories.{finish_changes, drop_changes, renews_body, renewal_changes}
use Rattle.tier_model.specs.Rows.{FinishedBody}

-- ---- what lands

append_all : {X : Type 0} (P : X → Type 0) (xs ys : List X) → AllByRecursion P xs → AllByRecursion P ys → AllByRecursion P (xs ++ ys)
append_all P [] ys p q = q
append_all P (x ∷ xs) ys p q = (p.0, append_all P xs ys p.1 q)

-- the change doesn't land the write of that number
abbrev pub Spares : ℕ → Change Kept → Type 0
Spares n c = lands n c ≡ false

goes_spare : (n : ℕ) (es : List CacheEntryKey) → AllByRecursion (Spares n) (goes es)
goes_spare n [] = tt
goes_spare n (e ∷ es) = (refl, goes_spare n es)

pub clears_spare : (n : ℕ) (e : Entry) → AllByRecursion (Spares n) (clears e)
clears_spare n e = (refl, (refl, tt))

settles_spare : (n : ℕ) (b : FinishedBody) (es : List CacheEntryKey) → AllByRecursion (Spares n) (settles b es)
settles_spare n b es = (refl, goes_spare n es)

stores_spare : (n m : ℕ) (b : FinishedBody) (es : List CacheEntryKey) → (m == n) ≡ false → AllByRecursion (Spares n) (stores m b es)
stores_spare n m b es apart = (refl, (refl, (apart, settles_spare n b es)))

if_spare : (n : ℕ) (v : Bool) (cs : List (Change Kept)) → AllByRecursion (Spares n) cs → AllByRecursion (Spares n) (cond v cs [])
if_spare n true cs h = h
if_spare n false cs h = tt

pub look_spare : (n : ℕ) (e : Option Entry) (before : Changes Kept) → AllByRecursion (Spares n) (look_changes e before)
look_spare n None before = tt
look_spare n (Some e) before = by_body (body_now (stored_key e) before)
  where
    by_body : (w : Option (Write Kept)) → AllByRecursion (Spares n) (hit_changes e w before)
    by_body None = tt
    by_body (Some w) = (refl, tt)

pub begin_spare : (n : ℕ) (w : Option (Write Kept)) → AllByRecursion (Spares n) (begin_changes w)
begin_spare n None = tt
begin_spare n (Some w) = (refl, tt)

pub piece_spare : (n : ℕ) (w : Option (Write Kept)) (bytes : List ℕ) (last : Bool) → AllByRecursion (Spares n) (piece_changes w bytes last)
piece_spare n None bytes last = tt
piece_spare n (Some w) bytes last = (refl, if_spare n last (ends w.number ∷ []) (refl, tt))

-- another write is the one that lands, if any
abbrev pub IsApart : ℕ → Option (Write Kept) → Type 0
IsApart n o = (v : Write Kept) → o ≡ Some v → (v.number == n) ≡ false

pub finish_spare : (n : ℕ) (o : Option (Write Kept)) (outcome : Outcome) (before : Changes Kept) → (is_landing outcome ≡ true → IsApart n o)
    → AllByRecursion (Spares n) (finish_changes o outcome before)
finish_spare n None outcome before apart = tt
finish_spare n (Some w) (Ok (Finished told es)) before apart = (apart refl w refl, settles_spare n (finished_of before w) es)
finish_spare n (Some w) (Ok _) before apart = tt
finish_spare n (Some w) (Err WriteRemoved) before apart = (apart refl w refl, tt)
finish_spare n (Some w) (Err f) before apart = by_stored (done_of f).stored refl
  where
    b : FinishedBody
    b = finished_of before w

    by_stored : (v : Bool) → (done_of f).stored ≡ v → AllByRecursion (Spares n) (cond v (finishes w ∷ settles_back b (done_of f)) [])
    by_stored false e = tt
    by_stored true e =
        (apart e w refl, append_all (Spares n) (cond (done_of f).admitted (settles b (done_of f).evicted) []) (clears b.entry) (if_spare n (done_of f).admitted (settles b (done_of f).evicted) (settles_spare n b (done_of f).evicted)) (clears_spare n b.entry))

pub drop_spare : (n : ℕ) (o : Option (Write Kept)) → IsApart n o → AllByRecursion (Spares n) (drop_changes o)
drop_spare n None apart = tt
drop_spare n (Some w) apart = (apart w refl, tt)

renews_spare : (n : ℕ) (w : Write Kept) (es : List CacheEntryKey) (before : Changes Kept) → AllByRecursion (Spares n) (renews_body w es before)
renews_spare n w es before = (refl, (refl, goes_spare n es))

pub renewal_spare : (n : ℕ) (w : Option (Write Kept)) (o : Outcome) (before : Changes Kept) → AllByRecursion (Spares n) (renewal_changes w o before)
renewal_spare n None o before = tt
renewal_spare n (Some w) (Ok (Revalidated es)) before = renews_spare n w es before
renewal_spare n (Some w) (Ok _) before = tt
renewal_spare n (Some w) (Err f) before =
    if_spare n (done_of f).stored (renews_body w (done_of f).evicted before ++ clears (key_of w.meta.entry))
    (append_all (Spares n) (renews_body w (done_of f).evicted before) (clears (key_of w.meta.entry)) (renews_spare n w (done_of f).evicted before) (clears_spare n (key_of w.meta.entry)))

pub put_spare : (n m : ℕ) (b : Option FinishedBody) (o : Outcome) → (m == n) ≡ false → AllByRecursion (Spares n) (put_changes m b o)
put_spare n m (Some b) (Ok (Finished told es)) apart = stores_spare n m b es apart
put_spare n m (Some b) (Ok _) apart = tt
put_spare n m (Some b) (Err f) apart = if_spare n (done_of f).stored (cond (done_of f).admitted (stores m b (done_of f).evicted) [] ++ clears b.entry)
    (append_all (Spares n) (cond (done_of f).admitted (stores m b (done_of f).evicted) []) (clears b.entry) (if_spare n (done_of f).admitted (stores m b (done_of f).evicted) (stores_spare n m b (done_of f).evicted apart)) (clears_spare n b.entry))
put_spare n m None o apart = tt

-- the request whose write a call lands
abbrev pub lander : Action → Outcome → Option ℕ
lander (Finish id) o = cond (is_landing o) (Some id) None
lander (Drop id) (Ok a) = Some id
lander _ _ = None
