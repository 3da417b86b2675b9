-- The first entry that goes, goes while a limit is passed.
use Rattle.std.proofs.Common.{◌≡◌, ℕ, ◌+◌, refl, ap, sym, ◌∙◌, true, false, subst, cond, [], ◌∷◌, length, inl, inr}
use Rattle.std.specs.Prelude.{Bool, List, Ok, Err}
use Rattle.cache_entries.specs.Rows.{is_over}
use Rattle.cache_entries.specs.declared.entry.CacheEntryKey.{CacheEntryKey}
use Rattle.cache_entries.specs.declared.rows.Tracked.{Tracked}
use Rattle.tier_model.specs.declared.event.Done.{Done}
use Rattle.tier_model.specs.declared.event.TierFault.{TierFault}
use Rattle.tier_model.specs.Calls.{Call, History, Outcome, nothing_done, done_of, evicted_by, evicted_before}
use Rattle.tier_model.specs.State.{Settings}
use Rattle.tier_promise.specs.Promise.{Changes, EventRow, Now, Whether, Needs, Entering, nothing, a_use, a_body, a_renewal, HowFar, whole_way, cut, kept_out, far_by, far_of, gone_by, rows, rows_with, GoInTurn, ComesSo, StaysOut, SomeRanOut, ran_out, row_of_call, now_of, AreRight}
use Rattle.tier_promise.proofs.NowRows.{Answered, keeps_out-done}
use Rattle.tier_promise.proofs.Alone.{makes_room, ListsNone, IsAlone, call-alone}

-- where nothing was done nothing went
none-done : (f : TierFault) → done_of f ≡ nothing_done → ListsNone (Err f)
none-done f is = (ap (λ (d : Done). gone_by (far_by f d)) is, ap evicted_before is)

none-stays : (x : Settings) (e : Entering) (f : TierFault) (all : List Tracked) → StaysOut x e f all → ListsNone (Err f)
none-stays x (a_use e w) f all p = none-done f (keeps_out-done x e w nothing_done f all p.1)
none-stays x (a_renewal e w) f all p = none-done f (keeps_out-done x e w nothing_done f all p)
none-stays x nothing f all p = absurd p
none-stays x (a_body e w) f all p = absurd p

-- what ran out listed nothing
pub none-ran : (x : Settings) (used : ℕ) (needs : Needs) (o : Outcome) (c : Changes) → SomeRanOut x used needs o c → ListsNone o
none-ran x used needs o c p = elim p [
  | inl memory ↦ subst ListsNone (sym memory.0) (refl, refl)
  | inr rest ↦ elim rest [
    | inl number ↦ subst ListsNone (sym number.0) (refl, refl)
    | inr room ↦ subst ListsNone (sym room.1) (none-stays x needs.entering room.0 (rows c) room.2)
  ]
]

-- what comes in makes room only past a limit
turn-over : (x : Settings) (far : HowFar) (all : List Tracked) (e : CacheEntryKey) (es : List CacheEntryKey) (done : Bool) → gone_by far ≡ e ∷ es → GoInTurn x done (gone_by far) all → is_over x.limit x.watermark all ≡ true
turn-over x far all e es done is turn = (subst (λ (l : List CacheEntryKey). GoInTurn x done l all) is turn).0

abbrev IsOver : Settings → Entering → Changes → Type 0
IsOver x e c = is_over x.limit x.watermark (rows_with e c) ≡ true

comes-over : (x : Settings) (entering : Entering) (far : HowFar) (c : Changes) (e : CacheEntryKey) (es : List CacheEntryKey) → Whether (makes_room entering) (Unit {0}) (gone_by far ≡ []) → gone_by far ≡ e ∷ es
    → ComesSo x entering far c → IsOver x entering c
comes-over x nothing far c e es alone is so = let no : [] ≡ e ∷ es = sym alone ∙ is in absurd cc
comes-over x (a_use k w) far c e es alone is so = let no : [] ≡ e ∷ es = sym alone ∙ is in absurd cc
comes-over x (a_body k w) (whole_way gone) c e es alone is so = turn-over x (whole_way gone) (rows_with (a_body k w) c) e es false is so.1
comes-over x (a_body k w) (cut gone) c e es alone is so = turn-over x (cut gone) (rows_with (a_body k w) c) e es true is so.1
comes-over x (a_body k w) (kept_out f) c e es alone is so = absurd cc
comes-over x (a_renewal k w) (whole_way gone) c e es alone is so = turn-over x (whole_way gone) (rows_with (a_renewal k w) c) e es false is so.1
comes-over x (a_renewal k w) (cut gone) c e es alone is so = turn-over x (cut gone) (rows_with (a_renewal k w) c) e es true is so.1
comes-over x (a_renewal k w) (kept_out f) c e es alone is so = absurd cc

module _ (x : Settings) (used : ℕ) (call : Call) (now : Now) (e : CacheEntryKey) (es : List CacheEntryKey) (gone : gone_by (far_of call.outcome) ≡ e ∷ es) where
  abbrev row : EventRow
  row = row_of_call x call now

  alone-gone : (v : Bool) → Whether v (Unit {0}) (ListsNone row.outcome) → call.outcome ≡ row.outcome → Whether v (Unit {0}) (gone_by (far_of call.outcome) ≡ [])
  alone-gone true p is = tt
  alone-gone false p is = ap (λ (o : Outcome). gone_by (far_of o)) is ∙ p.0

  over-by : (v : Bool) → Whether v (SomeRanOut x used row.needs call.outcome now.changes) ((call.outcome ≡ row.outcome) × ComesSo x row.needs.entering (far_of call.outcome) now.changes) → IsOver x row.needs.entering now.changes
  over-by true p = let no : [] ≡ e ∷ es = sym (none-ran x used row.needs call.outcome now.changes p).0 ∙ gone in absurd cc
  over-by false p = comes-over x row.needs.entering (far_of call.outcome) now.changes e es (alone-gone (makes_room row.needs.entering) (call-alone x call now call.event.moment call.event.action) p.0) gone p.1

pub goes-over : (s : Settings) (used : ℕ) (loaded : List Tracked) (h : History) (c : Call) (e : CacheEntryKey) (es : List CacheEntryKey) → AreRight s used loaded (c ∷ h) → gone_by (far_of c.outcome) ≡ e ∷ es
    → is_over s.limit s.watermark (rows_with (row_of_call s c (now_of s loaded h)).needs.entering (now_of s loaded h).changes) ≡ true
goes-over s used loaded h c e es right gone = over-by s (used + length h) c (now_of s loaded h) e es gone (ran_out c.outcome) (right.0).outcome
