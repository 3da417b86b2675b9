-- What look-ups and reads say, by their rows.
use Rattle.std.proofs.Common.{◌≡◌, ◌≢◌, ℕ, ◌+◌, refl, ap, sym, ◌∙◌, true, false, subst, cond, [], ◌∷◌, ◌++◌, ◌==◌, length}
use Rattle.std.specs.Prelude.{Bool, List, Option, Some, None, option_map, option_and_then, is_some, not, ◌&&◌, Ok, Err}
use Rattle.std.proofs.lemmas.Bool.{eq-eqb}
use Rattle.cache_words.specs.Time.{MomentValue}
use Rattle.cache_changes.specs.Changes.{StoredKey, stored_key}
use Rattle.cache_entries.specs.declared.rows.Tracked.{Tracked}
use Rattle.cache_entries.specs.Keys.{same_bytes}
use Rattle.cache_entries.specs.SameEntry.{same_bytes-tells}
use Rattle.tier_model.specs.declared.event.Action.{Action}
use Rattle.tier_model.specs.declared.event.Action.TheVariants as on
use Rattle.tier_model.specs.declared.event.Answer.{Answer}
use Rattle.tier_model.specs.declared.event.Answer.TheVariants as answer
use Rattle.tier_model.specs.declared.event.LockGiven.{LockGiven}
use Rattle.tier_model.specs.declared.event.LockGiven.TheVariants as lock
use Rattle.tier_model.specs.Calls.{Call, History, Outcome, extended}
use Rattle.tier_model.specs.State.{Settings, Phase, cache_key, stale, Reader, unread}
use Rattle.tier_model.specs.Answers.{is_fresh}
use Rattle.tier_promise.specs.Promise.{Write, Permit, Changes, Request, Hold, no_lock, holds, waits, Now, Whether, EventRow, ComesSo, SomeRanOut, far_of, ran_out, shown, bytes_of, first_of, flying, waiting, asked, told, hold_given, permits_in, use_of, enters, reader_of, row_of, look_by, look_row, read_by_reader, after, now_of, AreRight, IsRight, head_found}

abbrev pub Said : Settings → ℕ → Call → Now → MomentValue → Action → Outcome → Type 0
Said s used c now t a o = Whether (ran_out o) (SomeRanOut s used (after s c t a now).row.needs o now.changes)
    ((o ≡ (after s c t a now).row.outcome) × ComesSo s (after s c t a now).row.needs.entering (far_of o) now.changes)

pub said-as : (s : Settings) (used : ℕ) (c : Call) (now : Now) (a : Action) (o : Outcome) → c.event.action ≡ a → c.outcome ≡ o → IsRight s used c now → Said s used c now c.event.moment a o
said-as s used c now a o is same r =
    subst (λ (y : Outcome). Said s used c now c.event.moment a y) same (subst (λ (y : Action). Said s used c now c.event.moment y c.outcome) is r.outcome)

pub next-as : (s : Settings) (c : Call) (now : Now) (a : Action) (o : Outcome) → c.event.action ≡ a → c.outcome ≡ o
    → cond (ran_out c.outcome) now (after s c c.event.moment c.event.action now).now ≡ cond (ran_out o) now (after s c c.event.moment a now).now
next-as s c now a o is same =
    ap (λ (y : Action). cond (ran_out c.outcome) now (after s c c.event.moment y now).now) is ∙ ap (λ (y : Outcome). cond (ran_out y) now (after s c c.event.moment a now).now) same

module _ (t : MomentValue) (q : Request) (c : Changes) where
  -- a look-up that was answered was let
  let-by : (a : Answer) (ph : Phase) (ho : Hold) → Ok a ≡ (look_by ph ho t q c).outcome → look_by ph ho t q c ≡ look_row t q (shown (stored_key q.entry) c) c
  let-by a cache_key no_lock says = refl
  let-by a stale no_lock says = refl
  let-by a cache_key (waits p first) says = absurd cc
  let-by a stale (waits p first) says = absurd cc
  let-by a _ _ says = absurd cc

  found-by : (f whole : Bool) (g : LockGiven) (o : Option Write) → Ok (answer.Found f whole g) ≡ (look_row t q o c).outcome
      → (w : Write) × (o ≡ Some w) × (f ≡ is_fresh t w.meta) × (whole ≡ not (is_some (first_of (flying (stored_key q.entry) c))))
  found-by f whole g None says = absurd cc
  found-by f whole g (Some w) says = (w, refl, cc, cc)

  abbrev new : Permit
  new = record { number = length c; key = stored_key q.entry; given = t }

  -- the permit goes to one that asks while none waits, and then waits, whether the entry is used or not
  holds-new : (b : Bool) (o : Option Permit) → waiting (stored_key q.entry) c ≡ o → lock.Write ≡ told (asked b t q c) → (o ≡ None) × (asked b t q c ≡ holds new)
  holds-new false o e says = absurd cc
  holds-new true (Some p) e says = let no : lock.Write ≡ lock.Read = says ∙ ap (λ (y : Option Permit). told (hold_given y new)) e in absurd cc
  holds-new true None e says = (refl, ap (λ (y : Option Permit). hold_given y new) e)

  waits-new : (v : Bool) (w : Write) → waiting (stored_key q.entry) (extended c (enters (use_of v q w c) c ++ permits_in (holds new))) ≡ Some new
  waits-new true w = ap (λ (v : Bool). cond v (Some new) (waiting (stored_key q.entry) c)) (same_bytes-tells.itself (stored_key q.entry))
  waits-new false w = ap (λ (v : Bool). cond v (Some new) (waiting (stored_key q.entry) c)) (same_bytes-tells.itself (stored_key q.entry))

  abbrev Gave : Option Write → Type 0
  Gave o = (waiting (stored_key q.entry) c ≡ None) × (waiting (stored_key q.entry) (extended c (look_row t q o c).changes) ≡ Some new)

  permit-absent : (o : Option Write) → Ok (answer.Absent lock.Write) ≡ (look_row t q o c).outcome → Gave o
  permit-absent None says =
      let x = holds-new q.asks (waiting (stored_key q.entry) c) refl cc in
      (x.0, ap (λ (y : Hold). waiting (stored_key q.entry) (extended c (permits_in y))) x.1 ∙ ap (λ (v : Bool). cond v (Some new) (waiting (stored_key q.entry) c)) (same_bytes-tells.itself (stored_key q.entry)))
  permit-absent (Some w) says = absurd cc

  permit-found : (f whole : Bool) (o : Option Write) → Ok (answer.Found f whole lock.Write) ≡ (look_row t q o c).outcome → Gave o
  permit-found f whole None says = absurd cc
  permit-found f whole (Some w) says =
      let x = holds-new (q.asks && not (is_fresh t w.meta)) (waiting (stored_key q.entry) c) refl cc in
      let v = not (is_some (first_of (flying (stored_key q.entry) c))) in
      (x.0, ap (λ (y : Hold). waiting (stored_key q.entry) (extended c (enters (use_of v q w c) c ++ permits_in y))) x.1 ∙ waits-new v w)

module _ (s : Settings) (used : ℕ) (loaded : List Tracked) (h : History) (c : Call) (id : ℕ) (q : Request) (right : AreRight s used loaded (c ∷ h)) (is : c.event.action ≡ on.LookUp id) (at : (now_of s loaded h).request id ≡ Some q) where
  abbrev now : Now
  now = now_of s loaded h

  abbrev t : MomentValue
  t = c.event.moment

  row-is : (a : Answer) → c.outcome ≡ Ok a → (Ok a ≡ (look_row t q (shown (stored_key q.entry) now.changes) now.changes).outcome) × (row_of (now.request id) (λ r. look_by r.phase r.hold t r now.changes) ≡ look_row t q (shown (stored_key q.entry) now.changes) now.changes)
  row-is a o =
      let said = said-as s (used + length h) c now (on.LookUp id) (Ok a) is o right.0 in
      let rows : row_of (now.request id) (λ r. look_by r.phase r.hold t r now.changes) ≡ look_by q.phase q.hold t q now.changes = ap (λ (y : Option Request). row_of y (λ r. look_by r.phase r.hold t r now.changes)) at in
      let one : Ok a ≡ (look_by q.phase q.hold t q now.changes).outcome = said.0 ∙ ap (λ (y : EventRow). y.outcome) rows in
      let two = let-by t q now.changes a q.phase q.hold one in
      (one ∙ ap (λ (y : EventRow). y.outcome) two, rows ∙ two)

  pub found-fresh : (f whole : Bool) (g : LockGiven) → c.outcome ≡ Ok (answer.Found f whole g) → (w : Write) × (shown (stored_key q.entry) now.changes ≡ Some w) × (f ≡ is_fresh t w.meta)
      × (whole ≡ not (is_some (first_of (flying (stored_key q.entry) now.changes))))
  found-fresh f whole g o = found-by t q now.changes f whole g (shown (stored_key q.entry) now.changes) (row-is (answer.Found f whole g) o).0

  -- a permit was given, and waits
  gave : (a : Answer) → c.outcome ≡ Ok a → (Ok a ≡ (look_row t q (shown (stored_key q.entry) now.changes) now.changes).outcome → Gave t q now.changes (shown (stored_key q.entry) now.changes))
      → (waiting (stored_key q.entry) now.changes ≡ None) × (waiting (stored_key q.entry) (now_of s loaded (c ∷ h)).changes ≢ None)
  gave a o by_row =
      let row = row-is a o in
      let x = by_row row.0 in
      let after_is : (now_of s loaded (c ∷ h)).changes ≡ extended now.changes (look_row t q (shown (stored_key q.entry) now.changes) now.changes).changes =
      ap (λ (y : Now). y.changes) (next-as s c now (on.LookUp id) (Ok a) is o) ∙ ap (λ (y : EventRow). extended now.changes y.changes) row.1 in
      (x.0, λ none. let clash : None ≡ Some (new t q now.changes) = sym none ∙ ap (waiting (stored_key q.entry)) after_is ∙ x.1 in absurd cc)

  pub one-writer : c.outcome ≡ Ok (answer.Absent lock.Write) → (waiting (stored_key q.entry) now.changes ≡ None) × (waiting (stored_key q.entry) (now_of s loaded (c ∷ h)).changes ≢ None)
  one-writer o = gave (answer.Absent lock.Write) o (permit-absent t q now.changes (shown (stored_key q.entry) now.changes))

  pub one-writer-stale : (f whole : Bool) → c.outcome ≡ Ok (answer.Found f whole lock.Write)
      → (waiting (stored_key q.entry) now.changes ≡ None) × (waiting (stored_key q.entry) (now_of s loaded (c ∷ h)).changes ≢ None)
  one-writer-stale f whole o = gave (answer.Found f whole lock.Write) o (permit-found t q now.changes f whole (shown (stored_key q.entry) now.changes))

-- the head of what is found, and what is read after it, are of one write
module _ (s : Settings) (used : ℕ) (loaded : List Tracked) (h : History) (look read : Call) (id : ℕ) (fresh : Bool) (given : LockGiven) (bytes : List ℕ) (right : AreRight s used loaded (read ∷ look ∷ h))
    (is : look.event.action ≡ on.LookUp id) (o : look.outcome ≡ Ok (answer.Found fresh true given)) (is2 : read.event.action ≡ on.Read id) (o2 : read.outcome ≡ Ok (answer.Bytes bytes)) where
  abbrev first : Now
  first = now_of s loaded h

  abbrev later : Now
  later = now_of s loaded (look ∷ h)

  abbrev at_look : MomentValue
  at_look = look.event.moment

  reads : (r : Request) (all : List ℕ) → later.request id ≡ Some r → r.reader ≡ unread all → bytes ≡ all
  reads r all at reader =
      let said = said-as s (used + length (look ∷ h)) read later (on.Read id) (Ok (answer.Bytes bytes)) is2 o2 right.0 in
      let one : Ok (answer.Bytes bytes) ≡ (read_by_reader r.reader r later.changes).outcome = said.0 ∙ ap (λ (y : Option Request). (row_of y (λ q. read_by_reader q.reader q later.changes)).outcome) at in
      let two : Ok (answer.Bytes bytes) ≡ Ok (answer.Bytes all) = one ∙ ap (λ (y : Reader). (read_by_reader y r later.changes).outcome) reader in
      cc

  by_request : (y : Option Request) → first.request id ≡ y → (w : Write) × (head_found id first ≡ Some w.meta) × (fresh ≡ is_fresh at_look w.meta) × (bytes ≡ bytes_of w.number first.changes)
  by_request None at =
      let said = said-as s (used + length h) look first (on.LookUp id) (Ok (answer.Found fresh true given)) is o right.1.0 in
      let no : Ok (answer.Found fresh true given) ≡ (row_of None (λ r. look_by r.phase r.hold at_look r first.changes)).outcome =
      said.0 ∙ ap (λ (y : Option Request). (row_of y (λ r. look_by r.phase r.hold at_look r first.changes)).outcome) at in
      absurd cc
  by_request (Some q) at =
      let row = row-is s used loaded h look id q right.1 is at (answer.Found fresh true given) o in
      let f = found-by at_look q first.changes fresh true given (shown (stored_key q.entry) first.changes) row.0 in
      let w : Write = f.0 in
      let there : later.request id ≡ (look_row at_look q (Some w) first.changes).request =
      ap (λ (n : Now). n.request id) (next-as s look first (on.LookUp id) (Ok (answer.Found fresh true given)) is o)
      ∙ ap (λ (v : Bool). cond v (row_of (first.request id) (λ r. look_by r.phase r.hold at_look r first.changes)).request (first.request id)) (eq-eqb id id refl)
      ∙ ap (λ (y : EventRow). y.request) row.1
      ∙ ap (λ (y : Option Write). (look_row at_look q y first.changes).request) f.1 in (
        w,
        ap (λ (y : Option Request). option_map (λ (x : Write). x.meta) (option_and_then (λ r. shown (stored_key r.entry) first.changes) y)) at ∙ ap (λ (y : Option Write). option_map (λ (x : Write). x.meta) y) f.1,
        f.2,
        reads _ (bytes_of w.number first.changes) there (ap (λ (v : Bool). reader_of v w first.changes) (sym f.3)),
      )

  pub head-and-body : (w : Write) × (head_found id first ≡ Some w.meta) × (fresh ≡ is_fresh at_look w.meta) × (bytes ≡ bytes_of w.number first.changes)
  head-and-body = by_request (first.request id) refl
