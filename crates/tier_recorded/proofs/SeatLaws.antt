-- Seats after a call, and with one seat more.
use Rattle.std.proofs.Common.{◌≡◌, ◌<◌, ℕ, zero, suc, ◌+◌, true, false, List, [], ◌∷◌, ◌++◌, length, get_or, set, inl, inr, subst, sym, refl, ap, ◌∙◌, arith}
use Rattle.std.specs.List.{sum_by}
use Rattle.std.proofs.lemmas.Bool.{cases_eq, true≢false}
use Rattle.std.proofs.lemmas.List.{get_or-set_same, get_or-set_other, length_push}
use Rattle.std.proofs.lemmas.List.Sums.{sum_by-set, sum_by_push}
use Rattle.tier_recorded.specs.declared.history.Record.{Record}
use Rattle.tier_recorded.specs.declared.history.CallerRecord.{CallerRecord}
use Rattle.tier_recorded.specs.declared.history.Seat.{Seat}
use Rattle.tier_recorded.specs.Histories.{own_of, records_of, AreSame}
use Rattle.tier_recorded.specs.Seats.{PassState, stranger, seat_of, IsTurn, Shows, mark, AreSeated}
use Rattle.tier_recorded.proofs.HistoryLaws.{records-same, records-other}

-- a caller whose pass is gathered is none whose pass isn't
other-caller : (seats : List Seat) (c d : ℕ) → (seat_of c seats).is_gathered ≡ false → (seat_of d seats).is_gathered ≡ true → d ≡ c → ⊥
other-caller seats c d free is_one e = true≢false (sym is_one ∙ ap (λ (i : ℕ). (seat_of i seats).is_gathered) e ∙ free)

shows-call : (seats : List Seat) (h : List Record) (ps : List PassState) (r : Record) (s : Seat) → (seat_of r.caller seats).is_gathered ≡ false → Shows seats h ps
    → Shows (set seats r.caller s) (h ++ r ∷ []) ps
shows-call seats h [] r s free shows = tt
shows-call seats h (p ∷ ps) r s free shows =
    let other = other-caller seats r.caller p.caller free shows.1 in
    let kept : records_of p.caller (h ++ r ∷ []) ≡ records_of p.caller h = records-other p.caller h r (λ e. other (sym e)) in
    let seat : seat_of p.caller (set seats r.caller s) ≡ seat_of p.caller seats = get_or-set_other seats r.caller p.caller s stranger other in (
      subst (λ (l : List CallerRecord). AreSame p.records l) (sym kept) shows.0,
      ap (λ (x : Seat). x.is_gathered) seat ∙ shows.1,
      shows-call seats h ps r s free shows.2,
    )

module _ (seats : List Seat) (ps : List PassState) (h : List Record) (r : Record) (turn : IsTurn seats r.caller r.turn) (a : AreSeated seats ps h) where
  abbrev seat : Seat
  seat = record { records = r.turn + 1; is_gathered = false }

  abbrev after : List Seat
  after = set seats r.caller seat

  unmarked : (seat_of r.caller seats).is_gathered ≡ false
  unmarked = ap (λ (x : Seat). x.is_gathered) turn.1

  its-own : seat_of r.caller after ≡ seat
  its-own = get_or-set_same seats r.caller seat stranger turn.0

  another : (c : ℕ) → (r.caller ≡ c → ⊥) → seat_of c after ≡ seat_of c seats
  another c n = get_or-set_other seats r.caller c seat stranger (λ e. n (sym e))

  fits-call : (c : ℕ) → (seat_of c after).records ≡ length (records_of c (h ++ r ∷ []))
  fits-call c = elim (cases_eq r.caller c) [
    | inl e ↦ subst (λ (i : ℕ). (seat_of i after).records ≡ length (records_of i (h ++ r ∷ []))) e own-fits
    | inr n ↦ ap (λ (x : Seat). x.records) (another c n) ∙ a.fits c ∙ ap length (sym (records-other c h r n))
  ]
    where
      own-fits : (seat_of r.caller after).records ≡ length (records_of r.caller (h ++ r ∷ []))
      own-fits =
          let was : r.turn ≡ length (records_of r.caller h) = sym (ap (λ (x : Seat). x.records) turn.1) ∙ a.fits r.caller in
          ap (λ (x : Seat). x.records) its-own ∙ ap (λ (n : ℕ). n + 1) was ∙ sym (length_push (records_of r.caller h) (own_of r)) ∙ ap length (sym (records-same r.caller h r refl))

  held-call : (c : ℕ) → (seat_of c after).is_gathered ≡ true → (seat_of c seats).is_gathered ≡ true
  held-call c e = elim (cases_eq r.caller c) [
    | inl f ↦ absurd (true≢false (sym e ∙ ap (λ (i : ℕ). (seat_of i after).is_gathered) (sym f) ∙ ap (λ (x : Seat). x.is_gathered) its-own))
    | inr n ↦ ap (λ (x : Seat). x.is_gathered) (sym (another c n)) ∙ e
  ]

  counted-call : sum_by mark after ≡ sum_by mark seats
  counted-call =
      let sums = sum_by-set mark seats r.caller seat stranger turn.0 in
      let none : mark (seat_of r.caller seats) ≡ 0 = ap mark turn.1 in
      omega (arith, sums, none)

  pub seated-call : AreSeated after ps (h ++ r ∷ [])
  seated-call = record {
    fits = fits-call;
    shows = shows-call seats h ps r seat unmarked a.shows;
    held = λ c e. a.held c (held-call c e);
    counted = counted-call ∙ a.counted;
  }

pub seated-none : AreSeated [] [] []
seated-none = record { fits = λ c. refl; shows = tt; held = λ c e. absurd (true≢false (sym e)); counted = refl }

-- one seat more
seat-more : (seats : List Seat) (c : ℕ) → seat_of c (seats ++ stranger ∷ []) ≡ seat_of c seats
seat-more [] zero = refl
seat-more [] (suc c) = refl
seat-more (s ∷ seats) zero = refl
seat-more (s ∷ seats) (suc c) = seat-more seats c

shows-seat : (seats : List Seat) (h : List Record) (ps : List PassState) → Shows seats h ps → Shows (seats ++ stranger ∷ []) h ps
shows-seat seats h [] shows = tt
shows-seat seats h (p ∷ ps) shows = (shows.0, ap (λ (x : Seat). x.is_gathered) (seat-more seats p.caller) ∙ shows.1, shows-seat seats h ps shows.2)

pub seated-seat : (seats : List Seat) (ps : List PassState) (h : List Record) → AreSeated seats ps h → AreSeated (seats ++ stranger ∷ []) ps h
seated-seat seats ps h a = record {
  fits = λ c. ap (λ (x : Seat). x.records) (seat-more seats c) ∙ a.fits c;
  shows = shows-seat seats h ps a.shows;
  held = λ c e. a.held c (ap (λ (x : Seat). x.is_gathered) (sym (seat-more seats c)) ∙ e);
  counted = (let sums = sum_by_push mark seats stranger in omega (arith, sums)) ∙ a.counted;
}
