-- Records compared one by one, and what sharing an event's sight says.
use Rattle.std.proofs.Common.{◌≡◌, ◌<◌, ◌≤◌, ℕ, ◌+◌, List, [], ◌∷◌, ◌++◌, map, take, drop, length, subst, sym, refl, ap, ◌∙◌, arith}
use Rattle.std.proofs.lemmas.Bool.{eq-eqb, ne_eqb}
use Rattle.std.proofs.lemmas.List.{append-nil, append_assoc, drop_all, length-append, length-map, length-take-le, length_push, map_push, same_from_push, take-append-drop, take_all, take_at}
use Rattle.tier_recorded.specs.declared.history.Record.{Record}
use Rattle.tier_recorded.specs.declared.history.CallerRecord.{CallerRecord}
use Rattle.tier_recorded.specs.Histories.{SeenOwn, own_of, records_of, seen_own, AreSame, FirstDiffer}

-- of a caller's records in the history, those in front of place i are the first `turn` ones
pub record AreLeft (records : List CallerRecord) (history : List Record) (c turn i : ℕ) : Type 0 where
  pub within : turn ≤ length records
  pub front : List CallerRecord
  pub split : records_of c history ≡ front ++ records_of c (drop i history)
  pub same : AreSame (take turn records) front

-- the first records with one more
take-one : (records : List CallerRecord) (turn : ℕ) (x : CallerRecord) → turn < length records → drop turn records ≡ x ∷ drop (turn + 1) records → take (turn + 1) records ≡ take turn records ++ x ∷ []
take-one records turn x here next =
    let all : records ≡ (take turn records ++ x ∷ []) ++ drop (turn + 1) records =
    sym (take-append-drop turn records) ∙ ap (λ (l : List CallerRecord). take turn records ++ l) next ∙ sym (append_assoc (take turn records) (x ∷ []) (drop (turn + 1) records))
    in
    let long : length (take turn records ++ x ∷ []) ≡ turn + 1 = omega (arith, length_push (take turn records) x, length-take-le turn records (omega (arith, here))) in
    ap (take (turn + 1)) all ∙ take_at (take turn records ++ x ∷ []) (drop (turn + 1) records) (turn + 1) long

module _ (records : List CallerRecord) (history : List Record) (c turn i : ℕ) (left : AreLeft records history c turn i) where
  pub front-long : length left.front ≡ turn
  front-long =
      let lengths : length (map seen_own (take turn records)) ≡ length (map seen_own left.front) = ap length left.same in
      omega (arith, lengths, length-map (take turn records) seen_own, length-map left.front seen_own, length-take-le turn records left.within)

  -- the front of what the history has of the caller
  pub same-front : AreSame (take turn records) (take turn (records_of c history))
  same-front = left.same ∙ ap (map seen_own) (sym (ap (take turn) left.split ∙ take_at left.front (records_of c (drop i history)) turn front-long))

module _ (records : List CallerRecord) (history : List Record) (c turn i : ℕ) (r : Record) (rest : drop i history ≡ r ∷ drop (i + 1) history) (left : AreLeft records history c turn i) where
  -- a record of another caller
  of-other : (r.caller ≡ c → ⊥) → records_of c (drop i history) ≡ records_of c (drop (i + 1) history)
  of-other n = ap (records_of c) rest ∙ rw (ne_eqb r.caller c n) refl

  pub left-other : (r.caller ≡ c → ⊥) → AreLeft records history c turn (i + 1)
  left-other n = record {
    within = left.within;
    front = left.front;
    split = left.split ∙ ap (λ (l : List CallerRecord). left.front ++ l) (of-other n);
    same = left.same;
  }

  of-caller : r.caller ≡ c → records_of c history ≡ (left.front ++ own_of r ∷ []) ++ records_of c (drop (i + 1) history)
  of-caller e =
      let now : records_of c (drop i history) ≡ own_of r ∷ records_of c (drop (i + 1) history) = ap (records_of c) rest ∙ rw (eq-eqb r.caller c e) refl in
      left.split ∙ ap (λ (l : List CallerRecord). left.front ++ l) now ∙ sym (append_assoc left.front (own_of r ∷ []) (records_of c (drop (i + 1) history)))

  -- the first records with one more, and the front with one more
  one-more : (x : CallerRecord) → turn < length records → drop turn records ≡ x ∷ drop (turn + 1) records → map seen_own (take (turn + 1) records) ≡ map seen_own (take turn records) ++ seen_own x ∷ []
  one-more x here next = ap (map seen_own) (take-one records turn x here next) ∙ map_push seen_own (take turn records) x

  pub left-same : (x : CallerRecord) → r.caller ≡ c → turn < length records → drop turn records ≡ x ∷ drop (turn + 1) records → seen_own x ≡ seen_own (own_of r) → AreLeft records history c (turn + 1) (i + 1)
  left-same x e here next same = record {
    within = omega (arith, here);
    front = left.front ++ own_of r ∷ [];
    split = of-caller e;
    same = one-more x here next ∙ (λ j. left.same j ++ same j ∷ []) ∙ sym (map_push seen_own left.front (own_of r));
  }

  -- where they differ
  front-more : r.caller ≡ c → take (turn + 1) (records_of c history) ≡ left.front ++ own_of r ∷ []
  front-more e =
      let long : length (left.front ++ own_of r ∷ []) ≡ turn + 1 = omega (arith, length_push left.front (own_of r), front-long records history c turn i left) in
      ap (take (turn + 1)) (of-caller e) ∙ take_at (left.front ++ own_of r ∷ []) (records_of c (drop (i + 1) history)) (turn + 1) long

  pub differ-here : (x : CallerRecord) → r.caller ≡ c → turn < length records → drop turn records ≡ x ∷ drop (turn + 1) records → (seen_own x ≡ seen_own (own_of r) → ⊥) → FirstDiffer records (records_of c history) turn
  differ-here x e here next n = (
    same-front records history c turn i left,
    λ f. n ((same_from_push (map seen_own (take turn records)) (map seen_own left.front) (seen_own x) (seen_own (own_of r))
        (sym (one-more x here next) ∙ f ∙ ap (map seen_own) (front-more e) ∙ map_push seen_own left.front (own_of r))).1),
  )

  pub differ-short : r.caller ≡ c → length records ≤ turn → FirstDiffer records (records_of c history) turn
  differ-short e past = (
    same-front records history c turn i left,
    λ f.
        let lengths : length (map seen_own (take (turn + 1) records)) ≡ length (map seen_own (take (turn + 1) (records_of c history))) = ap length f in
        let whole : length (take (turn + 1) records) ≡ length records = ap length (take_all (turn + 1) records (omega (arith, past))) in
        absurd (omega (
          arith,
          lengths,
          whole,
          past,
          length-map (take (turn + 1) records) seen_own,
          length-map (take (turn + 1) (records_of c history)) seen_own,
          ap length (front-more e),
          length_push left.front (own_of r),
          front-long records history c turn i left,
        )),
  )

module _ (records : List CallerRecord) (history : List Record) (c turn i : ℕ) (left : AreLeft records history c turn i) (past : length history ≤ i) where
  pub front-all : records_of c history ≡ left.front
  front-all = left.split ∙ ap (λ (l : List Record). left.front ++ records_of c l) (drop_all i history past) ∙ append-nil left.front

  -- where the history is past, and records are left
  pub differ-long : turn < length records → FirstDiffer records (records_of c history) turn
  differ-long more = (
    same-front records history c turn i left,
    λ f.
        let lengths : length (map seen_own (take (turn + 1) records)) ≡ length (map seen_own (take (turn + 1) (records_of c history))) = ap length f in
        let whole : length (take (turn + 1) (records_of c history)) ≡ turn =
        ap (λ (l : List CallerRecord). length (take (turn + 1) l)) front-all ∙ ap length (take_all (turn + 1) left.front (omega (arith, front-long records history c turn i left))) ∙ front-long records history c turn i left
        in
        absurd (omega (
          arith,
          more,
          lengths,
          whole,
          length-map (take (turn + 1) records) seen_own,
          length-map (take (turn + 1) (records_of c history)) seen_own,
          length-take-le (turn + 1) records (omega (arith, more)),
        )),
  )

  -- where both are past
  pub same-all : length records ≤ turn → AreSame records (records_of c history)
  same-all none = ap (map seen_own) (sym (take_all turn records none)) ∙ left.same ∙ ap (map seen_own) (sym front-all)

-- where nothing was compared
pub left-none : (records : List CallerRecord) (history : List Record) (c : ℕ) → AreLeft records history c 0 0
left-none records history c = record { within = omega arith; front = []; split = refl; same = refl }
