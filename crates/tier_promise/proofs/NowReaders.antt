-- What a request read of what it has to read is what its reader says, whatever right answers came.
use Rattle.std.proofs.Common.{◌≡◌, ℕ, ◌+◌, refl, ap, sym, ◌∙◌, true, false, cond, [], ◌∷◌, ◌++◌, ◌==◌, length, arith}
use Rattle.std.specs.Prelude.{Bool, List, Some, Ok, drop}
use Rattle.std.proofs.lemmas.Bool.{eqb-true}
use Rattle.std.proofs.lemmas.List.{append-nil, append_assoc, length-append}
use Rattle.cache_entries.specs.declared.rows.Tracked.{Tracked}
use Rattle.tier_model.specs.declared.event.Action.{Action}
use Rattle.tier_model.specs.declared.event.Action.TheVariants as on
use Rattle.tier_model.specs.Calls.{Call, History, Outcome, extended, is_end_of_reader, bytes_answered, bytes_given, bytes_read}
use Rattle.tier_model.specs.Answers.{next_by}
use Rattle.tier_model.specs.Checks.{has_reader}
use Rattle.tier_model.specs.State.{Settings, Reader, closed, unread, spent, streaming}
use Rattle.tier_promise.specs.Promise.{Change, Changes, Now, appends, bytes_of, is_done, now_of}
use Rattle.tier_promise.specs.Promise.{read_on, reader_after}
use Rattle.tier_promise.specs.Readers.{HasReader, HasWhole, HasPart, HasRead}
use Rattle.tier_model.proofs.CallLaws.{named_by}

-- ---- bytes only come at the end

abbrev pub Grows : Changes → Changes → Type 0
Grows c d = (n : ℕ) → (more : List ℕ) × (bytes_of n d ≡ bytes_of n c ++ more)

more-bytes : (x : Change) (c : Changes) → Grows c (x ∷ c)
more-bytes (appends m b last) c n = by_number (m == n)
  where
    by_number : (v : Bool) → (more : List ℕ) × (cond v (bytes_of n c ++ b) (bytes_of n c) ≡ bytes_of n c ++ more)
    by_number true = (b, refl)
    by_number false = ([], sym (append-nil (bytes_of n c)))
more-bytes _ c n = ([], sym (append-nil (bytes_of n c)))

pub grows : (xs : List Change) (c : Changes) → Grows c (extended c xs)
grows [] c n = ([], sym (append-nil (bytes_of n c)))
grows (x ∷ xs) c n =
    let a = more-bytes x c n in
    let b = grows xs (x ∷ c) n in
    (a.0 ++ b.0, b.1 ∙ ap (λ (l : List ℕ). l ++ b.0) a.1 ∙ append_assoc (bytes_of n c) a.0 b.0)

-- ---- calls of others

another : (i j : ℕ) → (Some j ≡ Some i → ⊥) → (j == i) ≡ false
another i j apart = by_test (j == i) refl
  where
    by_test : (v : Bool) → (j == i) ≡ v → v ≡ false
    by_test false e = refl
    by_test true e = absurd (apart (ap (λ (k : ℕ). Some k) (eqb-true j i e)))

pub others-stay : (action : Action) (o : Outcome) (i : ℕ) → (named_by action ≡ Some i → ⊥) → is_end_of_reader i action o ≡ false
others-stay (on.LookUp j) (Ok a) i apart = another i j apart
others-stay (on.Begin j head given) (Ok a) i apart = another i j apart
others-stay (on.Drop j) (Ok a) i apart = another i j apart
others-stay _ _ i apart = refl

pub others-silent : (action : Action) (o : Outcome) (i : ℕ) → (named_by action ≡ Some i → ⊥) → bytes_given i action o ≡ []
others-silent (on.Read j) (Ok a) i apart = ap (λ (v : Bool). cond v (bytes_answered a) []) (another i j apart)
others-silent _ _ i apart = refl

-- ---- what goes on

module _ (s : Settings) (loaded : List Tracked) (h : History) where
  abbrev now : Now
  now = now_of s loaded h

  module _ (id : ℕ) (call : Call) (on : is_end_of_reader id call.event.action call.outcome ≡ false) where
    abbrev later : (since : History) → HasReader s loaded id since h → HasReader s loaded id (call ∷ since) (call ∷ h)
    later since r = record { call = r.call; before = r.before; request = r.request; split = ap (λ (l : History). call ∷ l) r.split; asked = r.asked; last = (on, r.last) }

    whole-later : (bytes more : List ℕ) (since : History) → bytes ≡ more → HasWhole s loaded id bytes since h → HasWhole s loaded id more (call ∷ since) (call ∷ h)
    whole-later bytes more since same x = (later since x.0, x.1, (x.2.0, x.2.1, sym same ∙ x.2.2))

    part-later : (n : ℕ) (since : History) → HasPart s loaded id n since h → HasPart s loaded id n (call ∷ since) (call ∷ h)
    part-later n since x = (later since x.0, x.1)

    -- a reader goes on, where the request reads nothing
    pub keeps-reader : bytes_given id call.event.action call.outcome ≡ [] → (c : Changes) → Grows now.changes c → (a : Reader) → HasRead s loaded id a now.changes h → HasRead s loaded id a c (call ∷ h)
    keeps-reader none c more a x = by_reader a x
      where
        same : (since : History) → bytes_read id since ++ bytes_given id call.event.action call.outcome ≡ bytes_read id since
        same since = ap (λ (l : List ℕ). bytes_read id since ++ l) none ∙ append-nil (bytes_read id since)

        by_reader : (a : Reader) → HasRead s loaded id a now.changes h → HasRead s loaded id a c (call ∷ h)
        by_reader closed x = tt
        by_reader (unread bytes) x = (call ∷ x.0, whole-later bytes bytes x.0 refl x.1, same x.0 ∙ x.2)
        by_reader spent x = (call ∷ x.0, whole-later (bytes_read id x.0) (bytes_read id (call ∷ x.0)) x.0 (sym (same x.0)) x.1)
        by_reader (streaming n place) x =
            let y = more n in (
              call ∷ x.0,
              part-later n x.0 x.1,
              x.2 ∙ ap (λ (l : List ℕ). length l) (sym (same x.0)),
              (
                x.3.0 ++ y.0,
                y.1 ∙ ap (λ (l : List ℕ). l ++ y.0) x.3.1 ∙ append_assoc (bytes_read id x.0) x.3.0 y.0 ∙ ap (λ (l : List ℕ). l ++ (x.3.0 ++ y.0)) (sym (same x.0)),
              ),
            )

    -- what it read goes to what it read before
    front : (l : List ℕ) (d : Bool) → bytes_answered (next_by l d) ≡ l
    front [] true = refl
    front [] false = refl
    front (b ∷ l) d = refl

    past : (xs ys : List ℕ) → drop (length xs) (xs ++ ys) ≡ ys
    past [] ys = refl
    past (b ∷ xs) ys = past xs ys

    pub reads-more : (a : Reader) → has_reader a ≡ true → bytes_given id call.event.action call.outcome ≡ bytes_answered (read_on a now.changes)
        → HasRead s loaded id a now.changes h → HasRead s loaded id (reader_after a now.changes) now.changes (call ∷ h)
    reads-more (unread bytes) there said x =
        (call ∷ x.0, whole-later bytes (bytes_read id (call ∷ x.0)) x.0 (sym (ap (λ (l : List ℕ). bytes_read id x.0 ++ l) said ∙ ap (λ (l : List ℕ). l ++ bytes) x.2)) x.1)
    reads-more spent there said x =
        (call ∷ x.0, whole-later (bytes_read id x.0) (bytes_read id (call ∷ x.0)) x.0 (sym (ap (λ (l : List ℕ). bytes_read id x.0 ++ l) said ∙ append-nil (bytes_read id x.0))) x.1)
    reads-more (streaming n place) there said x =
        let all : List ℕ = bytes_of n now.changes in
        let ahead : drop place all ≡ x.3.0 = ap (λ (k : ℕ). drop k all) x.2 ∙ ap (drop (length (bytes_read id x.0))) x.3.1 ∙ past (bytes_read id x.0) x.3.0 in
        let given : bytes_given id call.event.action call.outcome ≡ x.3.0 = said ∙ front (drop place all) (is_done n now.changes) ∙ ahead in
        let joined : bytes_read id (call ∷ x.0) ≡ all = ap (λ (l : List ℕ). bytes_read id x.0 ++ l) given ∙ sym x.3.1 in
        let long : length all ≡ length (bytes_read id x.0 ++ x.3.0) = ap (λ (l : List ℕ). length l) x.3.1 in
        let parts : length (bytes_read id x.0 ++ x.3.0) ≡ length (bytes_read id x.0) + length x.3.0 = length-append (bytes_read id x.0) x.3.0 in
        let at = x.2 in
        let ends : length (bytes_read id (call ∷ x.0)) ≡ length all = ap (λ (l : List ℕ). length l) joined in
        (call ∷ x.0, part-later n x.0 x.1, omega (arith, long, parts, at, ends), ([], sym joined ∙ sym (append-nil (bytes_read id (call ∷ x.0)))))
    reads-more closed there said x = absurd cc
