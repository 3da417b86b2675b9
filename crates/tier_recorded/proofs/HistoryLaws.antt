-- A history with one record more.
use Rattle.std.proofs.Common.{◌≡◌, ◌≤◌, arith, ℕ, ◌+◌, List, [], ◌∷◌, ◌++◌, length, map, inl, inr, subst, sym, refl, ap, ◌∙◌}
use Rattle.std.proofs.lemmas.Bool.{cases_eq, eq-eqb, ne_eqb}
use Rattle.std.proofs.lemmas.List.{append-nil, append_assoc, map_push}
use Rattle.rand_core.specs.Stream.{Stream}
use Rattle.tier_model.specs.declared.event.Event.{Event}
use Rattle.tier_model.specs.Calls.{Outcome}
use Rattle.tier_model.specs.State.{State}
use Rattle.tier_single.specs.Takes.{Takes}
use Rattle.tier_single.proofs.RunLaws.{Takes-none, Takes-more}
use Rattle.tier_recorded.specs.declared.history.Record.{Record}
use Rattle.tier_recorded.specs.declared.history.CallerRecord.{CallerRecord}
use Rattle.tier_recorded.specs.declared.note.Note.{Note}
use Rattle.tier_recorded.specs.Notes.{note_of}
use Rattle.tier_recorded.specs.Histories.{own_of, records_of, HasTurns, IsReplay}

-- of its caller
pub records-same : (c : ℕ) (rs : List Record) (r : Record) → r.caller ≡ c → records_of c (rs ++ r ∷ []) ≡ records_of c rs ++ own_of r ∷ []
records-same c [] r e = rw (eq-eqb r.caller c e) refl
records-same c (q ∷ rs) r e = elim (cases_eq q.caller c) [
  | inl f ↦ rw (eq-eqb q.caller c f) (ap (λ (l : List CallerRecord). own_of q ∷ l) (records-same c rs r e))
  | inr n ↦ rw (ne_eqb q.caller c n) (records-same c rs r e)
]

-- of any other
pub records-other : (c : ℕ) (rs : List Record) (r : Record) → (r.caller ≡ c → ⊥) → records_of c (rs ++ r ∷ []) ≡ records_of c rs
records-other c [] r n = rw (ne_eqb r.caller c n) refl
records-other c (q ∷ rs) r n = elim (cases_eq q.caller c) [
  | inl f ↦ rw (eq-eqb q.caller c f) (ap (λ (l : List CallerRecord). own_of q ∷ l) (records-other c rs r n))
  | inr m ↦ rw (ne_eqb q.caller c m) (records-other c rs r n)
]

pub turns-more : (before rs : List Record) (r : Record) → HasTurns before rs → r.turn ≡ length (records_of r.caller (before ++ rs)) → HasTurns before (rs ++ r ∷ [])
turns-more before [] r h e = (e ∙ ap (λ (l : List Record). length (records_of r.caller l)) (append-nil before), tt)
turns-more before (q ∷ rs) r h e =
    (h.0, turns-more (before ++ q ∷ []) rs r h.1 (e ∙ ap (λ (l : List Record). length (records_of r.caller l)) (sym (append_assoc before (q ∷ []) rs))))

pub replay-none : (old : State) (s : Stream) → IsReplay old s [] old s
replay-none old s = ([], Takes-none old s, refl)

pub replay-more : (old : State) (s : Stream) (h : List Record) (mid : State) (left : Stream) (r : Record) (o : Outcome) (new : State) (rest : Stream)
    → IsReplay old s h mid left → Takes mid left (r.event ∷ []) (o ∷ []) new rest → r.note ≡ note_of o → IsReplay old s (h ++ r ∷ []) new rest
replay-more old s h mid left r o new rest p takes e = (
  p.0 ++ o ∷ [],
  subst (λ (es : List Event). Takes old s es (p.0 ++ o ∷ []) new rest) (sym (map_push (λ (x : Record). x.event) h r))
      (Takes-more old s (map (λ (x : Record). x.event) h) p.0 mid left r.event o new rest p.1 takes),
  map_push (λ (x : Record). x.note) h r ∙ ap (λ (l : List Note). l ++ r.note ∷ []) p.2
      ∙ ap (λ (n : Note). map note_of p.0 ++ n ∷ []) e ∙ sym (map_push note_of p.0 o),
)

-- a caller has no more records than the history
pub records-most : (c : ℕ) (rs : List Record) → length (records_of c rs) ≤ length rs
records-most c [] = omega arith
records-most c (r ∷ rs) = elim (cases_eq r.caller c) [
  | inl e ↦ (let most = records-most c rs in rw (eq-eqb r.caller c e) (omega (arith, most)))
  | inr n ↦ (let most = records-most c rs in rw (ne_eqb r.caller c n) (omega (arith, most)))
]
