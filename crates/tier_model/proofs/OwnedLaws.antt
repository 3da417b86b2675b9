-- Each write in flight is that of an open request.
use Rattle.cache_heads.specs.declared.given.GivenMeta.{GivenMeta}
use Rattle.std.proofs.Common.{◌≡◌, ℕ, refl, ap, sym, ◌∙◌, true, false, subst, cond, inl, inr, [], ◌∷◌, ◌++◌, ◌==◌}
use Rattle.std.specs.Prelude.{◌⊎◌, ◌&&◌, Bool, List, Option, Some, None, Ok, Err}
use Rattle.std.specs.List.{AllByRecursion}
use Rattle.std.specs.FinMap.{get, get-empty}
use Rattle.std.specs.Ordering.{nat_cmp}
use Rattle.std.proofs.lemmas.Bool.{eqb-true, eq-eqb}
use Rattle.cache_words.specs.Time.{MomentValue}
use Rattle.cache_entries.specs.declared.entry.CacheEntryKey.{CacheEntryKey}
use Rattle.cache_entries.specs.declared.rows.Tracked.{Tracked}
use Rattle.cache_entries.specs.Entry.{key_of}
use Rattle.cache_changes.specs.Changes.{stored_key, Write, Change, Changes, begins, appends, finishes}
use Rattle.cache_changes.specs.Uses.{admissions}
use Rattle.cache_changes.specs.Writes.{lands, body_now, IsInFlight}
use Rattle.tier_model.specs.declared.event.Action.{Action}
use Rattle.tier_model.specs.declared.event.Action.TheVariants.{LookUp, Begin, Revalidate, Piece, Finish, Drop, Purge, Put}
use Rattle.tier_model.specs.declared.event.Answer.{Answer}
use Rattle.tier_model.specs.declared.event.Answer.TheVariants.{Found, Begun, Revalidated, Written, Purged, Finished}
use Rattle.tier_model.specs.declared.event.TierFault.{TierFault}
use Rattle.tier_model.specs.declared.event.TierFault.TheVariants.{WriteRemoved, WrongPhase}
use Rattle.tier_model.specs.Keys.{Entry, entry_of}
use Rattle.tier_model.specs.Calls.{Call, History, Outcome, extended, done_of, finished_by, opened_for}
use Rattle.tier_model.specs.Histories.{Kept, Opening, goes, settles, stores, clears, put_changes, hit_changes, look_changes, is_landing, begun_by, write_held, begin_changes}
use Rattle.tier_model.specs.Histories.{piece_changes, finished_of, settles_back, finish_changes, drop_changes, renews_body, renewal_changes, renewal_by, changes_of, writes_begun, write_of}
use Rattle.tier_model.specs.Rows.{FinishedBody}
use Rattle.tier_model.specs.State.{Phase, Request}
use Rattle.tier_model.specs.Checks.{can_begin, unless, refusal}
use Rattle.tier_model.specs.Step.{AllowsBy}
use Rattle.tier_model.specs.Past.{state_of, IsLawful}
use Rattle.tier_model.proofs.CallLaws.{Inside, call_at}
use Rattle.tier_model.proofs.LandLaws.{Spares}
use Rattle.tier_model.proofs.OpenLaws.{no-write, passed, test_passed, unrefused}
use Rattle.tier_model.proofs.OwnTurns.{OpenFits}
use Rattle.tier_model.proofs.AnsweredLaws.{HasBegun, IsFinish, TellsWrite, answer-tells}
use Rattle.tier_model.proofs.StandLaws.{Stands-lawful}
use Rattle.tier_model.proofs.TurnLaws.{AllOf, all-turned}
use Rattle.tier_model.proofs.PhaseLaws.{WritesWell, writes-turn}

-- ---- where a write in flight comes from

abbrev begins_none : Change Kept → Bool
begins_none (begins w) = false
begins_none _ = true

flown : (w : Write Kept) (c : Change Kept) (before : Changes Kept) → IsInFlight w (c ∷ before) → (c ≡ begins w) ⊎ (IsInFlight w before × (lands w.number c ≡ false))
flown w c before f = by_since f.since f.before f.split f.flies
  where
    by_since : (since b : Changes Kept) → c ∷ before ≡ since ++ begins w ∷ b → AllByRecursion (λ x. lands w.number x ≡ false) since
        → (c ≡ begins w) ⊎ (IsInFlight w before × (lands w.number c ≡ false))
    by_since [] b e flies = inl cc
    by_since (x ∷ since) b e flies =
        let same : c ≡ x = cc in
        let rest : before ≡ since ++ begins w ∷ b = cc in
        inr (record { since = since; before = b; split = rest; flies = flies.1 }, ap (lands w.number) same ∙ flies.0)

-- through changes that begin none
flown_all : (w : Write Kept) (cs : List (Change Kept)) (changes : Changes Kept) → AllByRecursion (λ c. begins_none c ≡ true) cs → IsInFlight w (extended changes cs)
    → IsInFlight w changes × AllByRecursion (Spares w.number) cs
flown_all w [] changes none f = (f, tt)
flown_all w (c ∷ cs) changes none f =
    let rest = flown_all w cs (c ∷ changes) none.1 f in
    elim (flown w c changes rest.0) [
      | inl is ↦ let clash : true ≡ false = sym none.0 ∙ ap begins_none is in absurd cc
      | inr was ↦ (was.0, (was.1, rest.1))
    ]

abbrev BeginNone : List (Change Kept) → Type 0
BeginNone cs = AllByRecursion (λ c. begins_none c ≡ true) cs

both_none : (xs ys : List (Change Kept)) → BeginNone xs → BeginNone ys → BeginNone (xs ++ ys)
both_none [] ys p q = q
both_none (x ∷ xs) ys p q = (p.0, both_none xs ys p.1 q)

goes_none : (es : List CacheEntryKey) → BeginNone (goes es)
goes_none [] = tt
goes_none (e ∷ es) = (refl, goes_none es)

clears_none : (e : Entry) → BeginNone (clears e)
clears_none e = (refl, (refl, tt))

look_none : (e : Option Entry) (before : Changes Kept) → BeginNone (look_changes e before)
look_none None before = tt
look_none (Some e) before = by_body (body_now (stored_key e) before)
  where
    by_body : (w : Option (Write Kept)) → BeginNone (hit_changes e w before)
    by_body None = tt
    by_body (Some w) = (refl, tt)

piece_none : (w : Option (Write Kept)) (bytes : List ℕ) (last : Bool) → BeginNone (piece_changes w bytes last)
piece_none None bytes last = tt
piece_none (Some w) bytes true = (refl, (refl, tt))
piece_none (Some w) bytes false = (refl, tt)

if_none : (v : Bool) (cs : List (Change Kept)) → BeginNone cs → BeginNone (cond v cs [])
if_none true cs h = h
if_none false cs h = tt

finish_none : (o : Option (Write Kept)) (outcome : Outcome) (before : Changes Kept) → BeginNone (finish_changes o outcome before)
finish_none None outcome before = tt
finish_none (Some w) (Ok (Finished told es)) before = (refl, (refl, goes_none es))
finish_none (Some w) (Ok _) before = tt
finish_none (Some w) (Err WriteRemoved) before = (refl, tt)
finish_none (Some w) (Err f) before =
    if_none (done_of f).stored (finishes w ∷ settles_back (finished_of before w) (done_of f)) (
      refl,
      both_none (cond (done_of f).admitted (settles (finished_of before w) (done_of f).evicted) []) (clears (finished_of before w).entry)
          (if_none (done_of f).admitted (settles (finished_of before w) (done_of f).evicted) (refl, goes_none (done_of f).evicted)) (clears_none (finished_of before w).entry),
    )

renews_none : (w : Write Kept) (es : List CacheEntryKey) (before : Changes Kept) → BeginNone (renews_body w es before)
renews_none w es before = (refl, (refl, goes_none es))

renewal_none : (o : Option (Write Kept)) (outcome : Outcome) (before : Changes Kept) → BeginNone (renewal_changes o outcome before)
renewal_none None outcome before = tt
renewal_none (Some w) (Ok (Revalidated es)) before = renews_none w es before
renewal_none (Some w) (Ok _) before = tt
renewal_none (Some w) (Err f) before =
    if_none (done_of f).stored (renews_body w (done_of f).evicted before ++ clears (key_of w.meta.entry))
    (both_none (renews_body w (done_of f).evicted before) (clears (key_of w.meta.entry)) (renews_none w (done_of f).evicted before) (clears_none (key_of w.meta.entry)))

drop_none : (o : Option (Write Kept)) → BeginNone (drop_changes o)
drop_none None = tt
drop_none (Some w) = (refl, tt)

-- a write that a put stores is in flight no more
stored_flown : (w : Write Kept) (n : ℕ) (b : FinishedBody) (es : List CacheEntryKey) (more : List (Change Kept)) (changes : Changes Kept) → BeginNone more
    → IsInFlight w (extended changes (stores n b es ++ more)) → IsInFlight w changes
stored_flown w n b es more changes none f =
    let x = flown_all w ((appends n b.body.bytes ∷ finishes (write_of n b) ∷ settles b es) ++ more) (begins (write_of n b) ∷ changes) (refl, (refl, (refl, both_none (goes es) more (goes_none es) none))) f in
    elim (flown w (begins (write_of n b)) changes x.0) [
      | inl is ↦
          let same : write_of n b ≡ w = cc in
          let clash : true ≡ false = sym (eq-eqb (write_of n b).number w.number (ap (λ (v : Write Kept). v.number) same)) ∙ x.1.1.0 in
          absurd cc
      | inr was ↦ was.0
    ]

appended_none : (cs : List (Change Kept)) → cs ++ [] ≡ cs
appended_none [] = refl
appended_none (c ∷ cs) = ap (λ (xs : List (Change Kept)). c ∷ xs) (appended_none cs)

put_flown : (w : Write Kept) (n : ℕ) (b : Option FinishedBody) (o : Outcome) (changes : Changes Kept) → IsInFlight w (extended changes (put_changes n b o)) → IsInFlight w changes
put_flown w n (Some b) (Ok (Finished told es)) changes f =
    stored_flown w n b es [] changes tt (subst (λ (cs : List (Change Kept)). IsInFlight w (extended changes cs)) (sym (appended_none (stores n b es))) f)
put_flown w n (Some b) (Ok _) changes f = f
put_flown w n (Some b) (Err g) changes f = by_stored (done_of g).stored f
  where
    by_admitted : (v : Bool) → IsInFlight w (extended changes (cond v (stores n b (done_of g).evicted) [] ++ clears b.entry)) → IsInFlight w changes
    by_admitted true f = stored_flown w n b (done_of g).evicted (clears b.entry) changes (clears_none b.entry) f
    by_admitted false f = (flown_all w (clears b.entry) changes (clears_none b.entry) f).0

    by_stored : (v : Bool) → IsInFlight w (extended changes (cond v (cond (done_of g).admitted (stores n b (done_of g).evicted) [] ++ clears b.entry) [])) → IsInFlight w changes
    by_stored true f = by_admitted (done_of g).admitted f
    by_stored false f = f
put_flown w n None o changes f = f

-- none is in flight before any call
none_flies : (w : Write Kept) (rows : List Tracked) → IsInFlight w (admissions rows) → ⊥
none_flies w [] f = by_since f.since f.split
  where
    by_since : (since : Changes Kept) → [] ≡ since ++ begins w ∷ f.before → ⊥
    by_since [] e = absurd cc
    by_since (x ∷ since) e = absurd cc
none_flies w (r ∷ rows) f = elim (flown w _ (admissions rows) f) [
  | inl is ↦ let clash : true ≡ false = ap begins_none is in absurd cc
  | inr was ↦ none_flies w rows was.0
]

-- a finish that ends a flight lands its write
finish_lands : (w : Write Kept) (o : Outcome) (before : Changes Kept) → IsFinish o → is_landing o ≡ true → AllByRecursion (Spares w.number) (finish_changes (Some w) o before) → ⊥
finish_lands w (Ok (Finished told es)) before right lands spares = let clash : true ≡ false = sym (eq-eqb w.number w.number refl) ∙ spares.0 in absurd cc
finish_lands w (Ok _) before right lands spares = absurd right
finish_lands w (Err WriteRemoved) before right lands spares = let clash : true ≡ false = sym (eq-eqb w.number w.number refl) ∙ spares.0 in absurd cc
finish_lands w (Err f) before right lands spares = by_stored (done_of f).stored lands spares
  where
    by_stored : (v : Bool) → v ≡ true → AllByRecursion (Spares w.number) (cond v (finishes w ∷ settles_back (finished_of before w) (done_of f)) []) → ⊥
    by_stored true e spares = let clash : true ≡ false = sym (eq-eqb w.number w.number refl) ∙ spares.0 in absurd cc
    by_stored false e spares = absurd cc

-- ---- after each call

module _ (start : Opening) where
  abbrev pub Owned : History → Type 0
  Owned h = (w : Write Kept) → IsInFlight w (changes_of start h) → (id : ℕ) × (write_held start id h ≡ Some w)

  module _ (t : MomentValue) (i : Inside) (h : History) (owned : Owned h) (w : Write Kept) where
    abbrev OwnedAfter : Action → Outcome → Type 0
    OwnedAfter action o = IsInFlight w (changes_of start (call_at t action i o ∷ h)) → (id : ℕ) × (write_held start id (call_at t action i o ∷ h) ≡ Some w)

    begin_owned : (r : ℕ) (head : List ℕ) (given : Option GivenMeta) → HasBegun start r (call_at t (Begin r head given) i (Ok Begun)) h → write_held start r h ≡ None → OwnedAfter (Begin r head given) (Ok Begun)
    begin_owned r head given right none f =
        elim (flown w (begins right.0) (changes_of start h) (subst (λ (o : Option (Write Kept)). IsInFlight w (extended (changes_of start h) (begin_changes o))) right.1 f)) [
          | inl is ↦
              let same : right.0 ≡ w = cc in
              (r, ap (λ (v : Bool). cond v (begun_by start r (call_at t (Begin r head given) i (Ok Begun)) h) (write_held start r h)) (eq-eqb r r refl) ∙ right.1 ∙ ap (λ (v : Write Kept). Some v) same)
          | inr was ↦ let x = owned w was.0 in (x.0, by_one x.0 x.1 (r == x.0) refl)
        ]
      where
        by_one : (j : ℕ) → write_held start j h ≡ Some w → (v : Bool) → (r == j) ≡ v → cond v (begun_by start j (call_at t (Begin r head given) i (Ok Begun)) h) (write_held start j h) ≡ Some w
        by_one j e true is = let clash : None ≡ Some w = sym none ∙ ap (λ (k : ℕ). write_held start k h) (eqb-true r j is) ∙ e in absurd cc
        by_one j e false is = e

    finish_owned : (r : ℕ) (o : Outcome) → IsFinish o → OwnedAfter (Finish r) o
    finish_owned r o right f =
        let all = flown_all w (finish_changes (write_held start r h) o (changes_of start h)) (changes_of start h) (finish_none (write_held start r h) o (changes_of start h)) f in
        let x = owned w all.0 in
        (x.0, by_one x.0 x.1 all.1 (r == x.0) refl)
      where
        by_landing : (j : ℕ) → write_held start j h ≡ Some w → write_held start r h ≡ Some w
            → AllByRecursion (Spares w.number) (finish_changes (write_held start r h) o (changes_of start h)) → (v : Bool) → is_landing o ≡ v
            → cond (true && v) None (write_held start j h) ≡ Some w
        by_landing j e held spares true lands =
            absurd (finish_lands w o (changes_of start h) right lands
            (subst (λ (y : Option (Write Kept)). AllByRecursion (Spares w.number) (finish_changes y o (changes_of start h))) held spares))
        by_landing j e held spares false lands = e

        by_one : (j : ℕ) → write_held start j h ≡ Some w → AllByRecursion (Spares w.number) (finish_changes (write_held start r h) o (changes_of start h)) → (v : Bool) → (r == j) ≡ v
            → cond (v && is_landing o) None (write_held start j h) ≡ Some w
        by_one j e spares true is = by_landing j e (ap (λ (k : ℕ). write_held start k h) (eqb-true r j is) ∙ e) spares (is_landing o) refl
        by_one j e spares false is = e

    drop_owned : (r : ℕ) (a : Answer) → OwnedAfter (Drop r) (Ok a)
    drop_owned r a f =
        let all = flown_all w (drop_changes (write_held start r h)) (changes_of start h) (drop_none (write_held start r h)) f in
        let x = owned w all.0 in
        (x.0, by_one x.0 x.1 all.1 (r == x.0) refl)
      where
        by_one : (j : ℕ) → write_held start j h ≡ Some w → AllByRecursion (Spares w.number) (drop_changes (write_held start r h)) → (v : Bool) → (r == j) ≡ v
            → cond v None (write_held start j h) ≡ Some w
        by_one j e spares true is =
            let held : write_held start r h ≡ Some w = ap (λ (k : ℕ). write_held start k h) (eqb-true r j is) ∙ e in
            let left : AllByRecursion (Spares w.number) (drop_changes (Some w)) = subst (λ (y : Option (Write Kept)). AllByRecursion (Spares w.number) (drop_changes y)) held spares in
            let clash : true ≡ false = sym (eq-eqb w.number w.number refl) ∙ left.0 in
            absurd cc
        by_one j e spares false is = e

    abbrev Unwritten : Action → Outcome → Type 0
    Unwritten (Begin r head given) (Ok Begun) = write_held start r h ≡ None
    Unwritten _ _ = Unit {0}

    owned_after : (action : Action) (o : Outcome) → TellsWrite start action o (call_at t action i o) h → Unwritten action o → OwnedAfter action o
    owned_after (LookUp r) (Ok (Found fresh true given)) right none f = owned w (flown_all w (look_changes (opened_for r h) (changes_of start h)) (changes_of start h) (look_none (opened_for r h) (changes_of start h)) f).0
    owned_after (Begin r head given) (Ok Begun) right none f = begin_owned r head given right none f
    owned_after (Revalidate r head given) o right none f =
        let x = renewal_by start r (call_at t (Revalidate r head given) i o) h in owned w (flown_all w (renewal_changes x o (changes_of start h)) (changes_of start h) (renewal_none x o (changes_of start h)) f).0
    owned_after (Piece r bytes last) (Ok Written) right none f =
        owned w (flown_all w (piece_changes (write_held start r h) bytes last) (changes_of start h) (piece_none (write_held start r h) bytes last) f).0
    owned_after (Finish r) o right none f = finish_owned r o right f
    owned_after (Drop r) (Ok a) right none f = drop_owned r a f
    owned_after (Purge key) (Ok (Purged true)) right none f = owned w (flown_all w (clears (entry_of key)) (changes_of start h) (clears_none (entry_of key)) f).0
    owned_after (Put key pieces given) o right none f = owned w (put_flown w (writes_begun start h) (finished_by (call_at t (Put key pieces given) i o)) o (changes_of start h) f)
    owned_after _ _ right none f = owned w f

  WritesWell-lawful : (h : History) → IsLawful start h → (id : ℕ) → AllOf WritesWell (get (state_of start h).requests id)
  WritesWell-lawful [] l id = subst (AllOf WritesWell) (sym (get-empty nat_cmp id)) tt
  WritesWell-lawful (c ∷ h) l id = all-turned (state_of start h) c WritesWell (writes-turn (state_of start h) c.event.moment) (WritesWell-lawful h l.1) l.0 id

  -- a request that begins a write has none
  unwritten : (h : History) → IsLawful start h → (t : MomentValue) (i : Inside) (r : ℕ) (head : List ℕ) (given : Option GivenMeta) → refusal (state_of start h) (Begin r head given) ≡ None → write_held start r h ≡ None
  unwritten h l t i r head given n =
      let q = passed (get (state_of start h).requests r) (λ q. unless (can_begin q.phase q.gave_read) WrongPhase) n in
      no-write start r q.0 h (subst (λ (o : Option Request). OpenFits start r o h) q.1 ((Stands-lawful start h l).opens r)).0
      (by_write q.0 (test_passed (can_begin q.0.phase q.0.gave_read) WrongPhase q.2) (subst (AllOf WritesWell) q.1 (WritesWell-lawful h l r)) q.0.write refl)
    where
      by_write : (q : Request) → can_begin q.phase q.gave_read ≡ true → WritesWell q → (o : Option ℕ) → q.write ≡ o → o ≡ None
      by_write q can fits None e = refl
      by_write q can fits (Some n) e = let clash : true ≡ false = sym can ∙ ap (λ (p : Phase). can_begin p q.gave_read) (fits n e) in absurd cc

  module _ (c : Call) (h : History) (l : IsLawful start (c ∷ h)) (owned : Owned h) (w : Write Kept) where
    abbrev i : Inside
    i = record { reading = c.reading; began = c.began; asked = c.asked }

    free_of : (action : Action) (a : Answer) → refusal (state_of start h) action ≡ None → Unwritten c.event.moment i h owned w action (Ok a)
    free_of (Begin r head given) Begun n = unwritten h l.1 c.event.moment i r head given n
    free_of (Begin r head given) _ n = tt
    free_of _ a n = tt

    no_answer : (action : Action) (g : TierFault) → Unwritten c.event.moment i h owned w action (Err g)
    no_answer (Begin r head given) g = tt
    no_answer _ g = tt

    no_write : (action : Action) (g : TierFault) (c : Call) → TellsWrite start action (Err g) c h
    no_write (Finish r) g c = tt
    no_write _ g c = tt

    by_outcome : (o : Outcome) → AllowsBy (refusal (state_of start h) c.event.action) (state_of start h) c.event.moment c.event.action (call_at c.event.moment c.event.action i o) o
        → OwnedAfter c.event.moment i h owned w c.event.action o
    by_outcome (Ok a) p =
        let call = call_at c.event.moment c.event.action i (Ok a) in
        let q = unrefused (state_of start h) (refusal (state_of start h) c.event.action) c.event.moment c.event.action call a refl p in
        owned_after c.event.moment i h owned w c.event.action (Ok a)
        (answer-tells start (state_of start h) h (Stands-lawful start h l.1).opens c.event.moment c.event.action call a q.0 q.1) (free_of c.event.action a q.0)
    by_outcome (Err g) p =
        owned_after c.event.moment i h owned w c.event.action (Err g) (no_write c.event.action g (call_at c.event.moment c.event.action i (Err g))) (no_answer c.event.action g)

    owned_next : IsInFlight w (changes_of start (c ∷ h)) → (id : ℕ) × (write_held start id (c ∷ h) ≡ Some w)
    owned_next f = by_outcome c.outcome l.0.outcome f

  pub Owned-lawful : (h : History) → IsLawful start h → Owned h
  Owned-lawful [] l w f = absurd (none_flies w start.loaded f)
  Owned-lawful (c ∷ h) l w f = owned_next c h l (Owned-lawful h l.1) w f
