-- Seats whose passes are gathered.
use Rattle.std.proofs.Common.{◌≡◌, ◌<◌, ◌≤◌, ℕ, zero, suc, ◌+◌, true, false, List, [], ◌∷◌, ◌++◌, length, get_or, set, inl, inr, subst, sym, refl, ap, ◌∙◌, arith}
use Rattle.std.specs.Prelude.{Bool}
use Rattle.std.specs.List.{sum_by}
use Rattle.std.proofs.lemmas.Bool.{cases_eq, true≢false}
use Rattle.std.proofs.lemmas.List.{append-nil, append_assoc, get_or-set_same, get_or-set_other, get_or_past, length_push, length-set, nil_from_length}
use Rattle.std.proofs.lemmas.List.Sums.{sum_by-set, sum_by-cons, sum_by-append}
use Rattle.tier_recorded.specs.declared.history.Record.{Record}
use Rattle.tier_recorded.specs.declared.history.CallerRecord.{CallerRecord}
use Rattle.tier_recorded.specs.declared.history.Seat.{Seat}
use Rattle.tier_recorded.specs.Histories.{records_of, AreSame}
use Rattle.tier_recorded.specs.declared.gather.GatherFault.{GatherFault}
use Rattle.tier_recorded.specs.declared.gather.GatherFault.TheVariants.{PassDiffers, Memory}
use Rattle.tier_recorded.specs.Seats.{PassState, stranger, seat_of, Shows, IsOne, IsOpen, mark, AreSeated, Marks, MarksOnly, DiffersAt, OneDiffers, ShowsOne, total}

one-front : (c : ℕ) (ps qs : List PassState) → IsOne c ps → IsOne c (ps ++ qs)
one-front c [] qs one = absurd one
one-front c (p ∷ ps) qs one = elim one [ inl e ↦ inl e | inr more ↦ inr (one-front c ps qs more) ]

one-last : (c : ℕ) (ps : List PassState) (p : PassState) → p.caller ≡ c → IsOne c (ps ++ p ∷ [])
one-last c [] p e = inl e
one-last c (q ∷ ps) p e = inr (one-last c ps p e)

-- one pass more is gathered, whose seat becomes s
module _ (seats : List Seat) (h : List Record) (p : PassState) (s : Seat) (here : p.caller < length seats) (fresh : (seat_of p.caller seats).is_gathered ≡ false)
    (same : AreSame p.records (records_of p.caller h)) (counts : s.records ≡ (seat_of p.caller seats).records) (marked : s.is_gathered ≡ true) where
  abbrev after : List Seat
  after = set seats p.caller s

  its-own : seat_of p.caller after ≡ s
  its-own = get_or-set_same seats p.caller s stranger here

  another : (c : ℕ) → (p.caller ≡ c → ⊥) → seat_of c after ≡ seat_of c seats
  another c n = get_or-set_other seats p.caller c s stranger (λ e. n (sym e))

  stays : (c : ℕ) → (seat_of c seats).is_gathered ≡ true → (seat_of c after).is_gathered ≡ true
  stays c e = elim (cases_eq p.caller c) [
    | inl f ↦ ap (λ (i : ℕ). (seat_of i after).is_gathered) (sym f) ∙ ap (λ (x : Seat). x.is_gathered) its-own ∙ marked
    | inr n ↦ ap (λ (x : Seat). x.is_gathered) (another c n) ∙ e
  ]

  shows-mark : (qs : List PassState) → Shows seats h qs → Shows after h (qs ++ p ∷ [])
  shows-mark [] shows = (same, ap (λ (x : Seat). x.is_gathered) its-own ∙ marked, tt)
  shows-mark (q ∷ qs) shows = (shows.0, stays q.caller shows.1, shows-mark qs shows.2)

  fits-mark : (c : ℕ) → (seat_of c after).records ≡ (seat_of c seats).records
  fits-mark c = elim (cases_eq p.caller c) [
    | inl f ↦ subst (λ (i : ℕ). (seat_of i after).records ≡ (seat_of i seats).records) f (ap (λ (x : Seat). x.records) its-own ∙ counts)
    | inr n ↦ ap (λ (x : Seat). x.records) (another c n)
  ]

  held-mark : (qs : List PassState) → ((c : ℕ) → (seat_of c seats).is_gathered ≡ true → IsOne c qs) → (c : ℕ) → (seat_of c after).is_gathered ≡ true → IsOne c (qs ++ p ∷ [])
  held-mark qs held c e = elim (cases_eq p.caller c) [
    | inl f ↦ one-last c qs p f
    | inr n ↦ one-front c qs (p ∷ []) (held c (ap (λ (x : Seat). x.is_gathered) (sym (another c n)) ∙ e))
  ]

  mark-no : (x : Seat) → x.is_gathered ≡ false → mark x ≡ 0
  mark-no x e = rw e refl

  mark-yes : (x : Seat) → x.is_gathered ≡ true → mark x ≡ 1
  mark-yes x e = rw e refl

  counted-mark : (qs : List PassState) → sum_by mark seats ≡ length qs → sum_by mark after ≡ length (qs ++ p ∷ [])
  counted-mark qs e =
      let sums = sum_by-set mark seats p.caller s stranger here in
      let was = mark-no (seat_of p.caller seats) fresh in
      let is = mark-yes s marked in
      let long = length_push qs p in
      omega (arith, sums, was, is, long, e)

  pub seated-mark : (qs : List PassState) → AreSeated seats qs h → AreSeated after (qs ++ p ∷ []) h
  seated-mark qs a = record {
    fits = λ c. fits-mark c ∙ a.fits c;
    shows = shows-mark qs a.shows;
    held = held-mark qs a.held;
    counted = counted-mark qs a.counted;
  }

pub marks-none : (seats : List Seat) (h : List Record) → Marks seats [] h seats
marks-none seats h = (refl, λ qs a. subst (λ (l : List PassState). AreSeated seats l h) (sym (append-nil qs)) a)

pub marks-more : (seats : List Seat) (ps : List PassState) (h : List Record) (m : List Seat) (p : PassState) (s : Seat) → Marks seats ps h m → p.caller < length m → (seat_of p.caller m).is_gathered ≡ false
    → AreSame p.records (records_of p.caller h) → s.records ≡ (seat_of p.caller m).records → s.is_gathered ≡ true → Marks seats (ps ++ p ∷ []) h (set m p.caller s)
marks-more seats ps h m p s marks here fresh same counts marked = (
  length-set m p.caller s ∙ marks.0,
  λ qs a. subst (λ (l : List PassState). AreSeated (set m p.caller s) l h) (append_assoc qs ps (p ∷ [])) (seated-mark m h p s here fresh same counts marked (qs ++ ps) (marks.1 qs a)),
)

-- these passes, and then one more
pub marks-join : (seats : List Seat) (ps : List PassState) (h : List Record) (m : List Seat) (p : PassState) (n : List Seat) → Marks seats ps h m → Marks m (p ∷ []) h n → Marks seats (ps ++ p ∷ []) h n
marks-join seats ps h m p n first next = (
  next.0 ∙ first.0,
  λ qs a. subst (λ (l : List PassState). AreSeated n l h) (append_assoc qs ps (p ∷ [])) (next.1 (qs ++ ps) (first.1 qs a)),
)

-- ---- what is marked, and why a pass isn't gathered

one-next : (c : ℕ) (ps qs : List PassState) → IsOne c qs → IsOne c (ps ++ qs)
one-next c [] qs one = one
one-next c (p ∷ ps) qs one = inr (one-next c ps qs one)

pub only-none : (seats : List Seat) → MarksOnly seats [] seats
only-none seats c e = inl e

pub only-mark : (seats : List Seat) (p : PassState) (s : Seat) → MarksOnly seats (p ∷ []) (set seats p.caller s)
only-mark seats p s c e = elim (cases_eq p.caller c) [
  | inl f ↦ inr (inl f)
  | inr n ↦ inl (ap (λ (x : Seat). x.is_gathered) (sym (get_or-set_other seats p.caller c s stranger (λ g. n (sym g)))) ∙ e)
]

pub only-join : (seats : List Seat) (ps : List PassState) (m : List Seat) (p : PassState) (n : List Seat) → MarksOnly seats ps m → MarksOnly m (p ∷ []) n → MarksOnly seats (ps ++ p ∷ []) n
only-join seats ps m p n first next c e = elim (next c e) [
  | inr one ↦ inr (one-next c ps (p ∷ []) one)
  | inl was ↦ elim (first c was) [ inl e ↦ inl e | inr one ↦ inr (one-front c ps (p ∷ []) one) ]
]

caller_of : GatherFault → ℕ
caller_of (PassDiffers c turn) = c
caller_of Memory = 0

turn_of : GatherFault → ℕ
turn_of (PassDiffers c turn) = turn
turn_of Memory = 0

is_memory : GatherFault → Bool
is_memory (PassDiffers c turn) = false
is_memory Memory = true

pub memory-differs : (fault : GatherFault) (c turn : ℕ) → fault ≡ Memory → fault ≡ PassDiffers c turn → ⊥
unfolding is_memory
memory-differs fault c turn e f = true≢false (ap is_memory (sym e ∙ f))

-- a pass that differs from what is left open differs from what was open
differs-open : (seats m : List Seat) (h : List Record) (ps : List PassState) (p : PassState) (turn : ℕ) → length m ≡ length seats → MarksOnly seats ps m
    → DiffersAt m h [] p turn → DiffersAt seats h ps p turn
differs-open seats m h ps p turn same only d = elim d [
  | inr differ ↦ inr differ
  | inl closed ↦ inl (was-open closed.0, closed.1)
]
  where
    by_flag : (b : Bool) → (seat_of p.caller m).is_gathered ≡ b → (IsOpen m p.caller → ⊥) → IsOpen seats p.caller → IsOne p.caller ps
    by_flag false e n o = absurd (n (omega (arith, same, o.0), e))
    by_flag true e n o = elim (only p.caller e) [ inl was ↦ absurd (true≢false (sym was ∙ o.1)) | inr one ↦ one ]

    was-open : (IsOpen m p.caller → ⊥) → IsOpen seats p.caller → IsOne p.caller ps
    was-open n o = by_flag (seat_of p.caller m).is_gathered refl n o

pub one-differs : (seats m : List Seat) (h : List Record) (all before : List PassState) (p : PassState) (rest : List PassState) (fault : GatherFault) (t c turn : ℕ) → all ≡ before ++ p ∷ rest
    → length m ≡ length seats → MarksOnly seats before m → fault ≡ PassDiffers p.caller t → DiffersAt m h [] p t → fault ≡ PassDiffers c turn → OneDiffers seats h all c turn
unfolding caller_of turn_of
one-differs seats m h all before p rest fault t c turn split same only e d f =
    let faults : PassDiffers p.caller t ≡ PassDiffers c turn = sym e ∙ f in
    let turns : t ≡ turn = ap turn_of faults in
    (before, p, rest, split, ap caller_of faults, subst (λ (n : ℕ). DiffersAt seats h before p n) turns (differs-open seats m h before p t same only d))

-- ---- all passes are gathered

mark-most : (s : Seat) → mark s ≤ 1
mark-most s = by_flag s.is_gathered
  where
    by_flag : (b : Bool) → mark (record s { is_gathered = b }) ≤ 1
    by_flag true = omega arith
    by_flag false = omega arith

marks-most : (seats : List Seat) → sum_by mark seats ≤ length seats
marks-most [] = omega arith
marks-most (s ∷ seats) =
    let sums = sum_by-cons mark s seats in
    let most = marks-most seats in
    let one = mark-most s in
    omega (arith, sums, most, one)

-- no more passes are gathered than there are seats
pub gathered-most : (seats : List Seat) (ps : List PassState) (h : List Record) → AreSeated seats ps h → length ps ≤ length seats
gathered-most seats ps h a = let most = marks-most seats in omega (arith, most, a.counted)

mark-true : (s : Seat) → mark s ≡ 1 → s.is_gathered ≡ true
mark-true s e = by_flag s.is_gathered e
  where
    by_flag : (b : Bool) → mark (record s { is_gathered = b }) ≡ 1 → b ≡ true
    by_flag true f = refl
    by_flag false f = absurd (omega (arith, f))

all-marked : (seats : List Seat) (c : ℕ) → sum_by mark seats ≡ length seats → c < length seats → (seat_of c seats).is_gathered ≡ true
all-marked [] c e here = absurd (omega arith)
all-marked (s ∷ seats) zero e here =
    let sums = sum_by-cons mark s seats in
    let most = marks-most seats in
    let one = mark-most s in
    mark-true s (omega (arith, sums, most, one, e))
all-marked (s ∷ seats) (suc c) e here =
    let sums = sum_by-cons mark s seats in
    let most = marks-most seats in
    let one = mark-most s in
    all-marked seats c (omega (arith, sums, most, one, e)) (omega arith)

shows-one : (seats : List Seat) (h : List Record) (ps : List PassState) (c : ℕ) → Shows seats h ps → IsOne c ps → ShowsOne c h ps
shows-one seats h [] c shows one = absurd one
shows-one seats h (p ∷ ps) c shows one = elim one [
  | inl e ↦ inl (e, subst (λ (i : ℕ). AreSame p.records (records_of i h)) e shows.0)
  | inr more ↦ inr (shows-one seats h ps c shows.2 more)
]

pub closed-callers : (seats : List Seat) (ps : List PassState) (h : List Record) → AreSeated seats ps h → length ps ≡ length seats → (c : ℕ) → c < length seats → ShowsOne c h ps
closed-callers seats ps h a all c here = shows-one seats h ps c a.shows (a.held c (all-marked seats c (a.counted ∙ all) here))

pub closed-strangers : (seats : List Seat) (ps : List PassState) (h : List Record) → AreSeated seats ps h → (c : ℕ) → length seats ≤ c → records_of c h ≡ []
closed-strangers seats ps h a c past =
    nil_from_length (records_of c h) (sym (a.fits c) ∙ ap (λ (x : Seat). x.records) (get_or_past seats c stranger past))

pub total-append : (ps qs : List PassState) → total (ps ++ qs) ≡ total ps + total qs
total-append ps qs = sum_by-append (λ (p : PassState). length p.records) ps qs
