use borrow.Rule.Slice.AtParam.{field_room}
use denote.Param.{layout, number, param}
use mir.Syntax.{Ty}
use prog.Memory.{size}
use Rattle.std.proofs.Common.{◌≡◌, ◌<◌, ◌^◌, ◌-◌, ◌∷◌, ◌++◌, ℕ, List, [], length, vec_len, vec_capacity, arith, sym, subst, ap, refl, ◌∙◌}
use Rattle.std.proofs.lemmas.Bool.{true≢false}
use Rattle.std.proofs.lemmas.List.{length-set, length_push}
use Rattle.tier_model.specs.declared.event.Event.{Event}
use Rattle.tier_single.specs.Hits.{answer_found}
use Rattle.tier_single.specs.Takes.{Takes}
use Rattle.tier_recorded.specs.declared.history.Record.{Record}
use Rattle.tier_recorded.specs.declared.history.Seat.{Seat}
use Rattle.tier_recorded.specs.declared.note.Note.{Note}
use Rattle.tier_recorded.specs.contracts.recorded.Recorded.{the_row}
use Rattle.tier_recorded.specs.Histories.{records_of}
use Rattle.tier_recorded.specs.Seats.{IsTurn}
use Rattle.tier_recorded.proofs.HistoryLaws.{turns-more, replay-more, records-most}
use Rattle.tier_recorded.proofs.SeatLaws.{seated-call}
use Rattle.tier_recorded.proofs.ToldLaws.{told}
use Rattle.tier_recorded.proofs.recorded.Recorded.record_find.Goals as goal

pub find-found-requires : goal.find-found-requires
find-found-requires g c =
    let whole : Ty = layout (the_row (param 0 (number g.row.N)) (param 1 g.row.R) (param 2 g.row.L) (param 3 g.row.S) (param 4 g.row.S-Hasher) g.R.Rng g.L.Ledger g.S.BuildHasher g.S.Hasher.Hasher) in
    let room : size whole < 2 ^ 63 = assumption in
    field_room whole 2 _ _ refl room

pub overflow_add-turn : goal.overflow_add-turn
overflow_add-turn g c =
    let turn : IsTurn c.self.inside.seats.items c.args.caller c.args.turn = c.is_turn.ensures.0 c.if-not-is_turn.false in
    let is : c.args.turn ≡ length (records_of c.args.caller c.self.inside.history.items) = sym (ap (λ (x : Seat). x.records) turn.1) ∙ c.self.invariant.2.fits c.args.caller in
    let most = records-most c.args.caller c.self.inside.history.items in
    omega (arith, is, most, c.self.inside.history.ok.0, c.self.inside.history.ok.1, c.self.inside.history.small)

pub index_mut-requires : goal.index_mut-requires
index_mut-requires g c =
    let turn : IsTurn c.self.inside.seats.items c.args.caller c.args.turn = c.is_turn.ensures.0 c.if-not-is_turn.false in
    let here = turn.0 in
    omega (arith, here, c.self.inside.seats.ok.0)

pub invariant_of-self : goal.invariant_of-self
invariant_of-self g c = rw c.in_default.ensures.items c.self.invariant

pub invariant_of-self-2 : goal.invariant_of-self-2
invariant_of-self-2 g c =
    let turn : IsTurn c.self.inside.seats.items c.args.caller c.args.turn = c.is_turn.ensures.0 c.if-not-is_turn.false in
    let is : c.args.turn ≡ length (records_of c.args.caller c.self.inside.history.items) = sym (ap (λ (x : Seat). x.records) turn.1) ∙ c.self.invariant.2.fits c.args.caller in
    let r : Record = record { caller = c.args.caller; turn = c.args.turn; event = c.args.event; note = c.noted_find-note.result } in
    let longer = length_push c.self.inside.history.items r in
    rw (c.push_reserved.ensures.items, c.in-Ok.ensures.items) (
      (c.self.invariant.0.0, c.self.invariant.0.1, replay-more _ _ _ _ _ r (answer_found c.find-found.result) _ _ c.self.invariant.0.2 (subst (λ (x : Event). Takes c.self.inside.tier (g.R.Rng.stream c.self.inside.rng) (x ∷ []) (answer_found c.find-found.result ∷ []) c.find-found.new.self (g.R.Rng.stream c.self.inside.rng)) (sym c.requires.event) (c.find-found.ensures.takes _)) c.noted_find-note.ensures),
      turns-more [] c.self.inside.history.items r c.self.invariant.1 is,
      seated-call c.self.inside.seats.items c.self.inside.gathered.items c.self.inside.history.items r turn c.self.invariant.2,
      omega (arith, longer, c.add.ensures.total, c.self.invariant.3),
      rw length-set c.self.invariant.4,
      c.self.invariant.5,
      c.self.invariant.6,
    )

pub returns-then-not-is_turn-clause-refused : goal.returns-then-not-is_turn-clause-refused
returns-then-not-is_turn-clause-refused g c =
    rw (← c.self.view_is) (record { same = refl; reason = λ turn. absurd (true≢false (sym (c.is_turn.ensures.1 turn) ∙ c.if-not-is_turn.true)) }, refl {A = ℕ})

pub returns-in_default-clause-refused : goal.returns-in_default-clause-refused
returns-in_default-clause-refused g c =
    let kept : vec_capacity c.reserve.new.self - vec_len c.reserve.new.self ≡ vec_capacity c.self.inside.history - vec_len c.self.inside.history = omega (arith, c.in_default.ensures.err, c.in_default.ensures.len) in
    let full = c.in_default.ensures.full in
    rw (← c.self.view_is) (
      record {
        same = λ i. record {
          opening = c.self.inside.opening;
          tier = c.self.inside.tier;
          rng = c.self.inside.rng;
          history = c.in_default.ensures.items i;
          seats = c.self.inside.seats.items;
          gathered = c.self.inside.gathered.items;
          room = kept i;
        };
        reason = λ turn. omega (arith, full);
      },
      refl {A = ℕ},
    )

pub returns-clause-recorded : goal.returns-clause-recorded
returns-clause-recorded g c =
    let turn : IsTurn c.self.inside.seats.items c.args.caller c.args.turn = c.is_turn.ensures.0 c.if-not-is_turn.false in
    let r : Note → Record = λ n. record { caller = c.args.caller; turn = c.args.turn; event = c.args.event; note = n } in
    rw (← c.self.view_is) (record {
      takes = subst (λ (x : Event). Takes c.self.inside.tier (g.R.Rng.stream c.self.inside.rng) (x ∷ []) (answer_found c.find-found.result ∷ []) c.find-found.new.self (g.R.Rng.stream c.self.inside.rng)) (sym c.requires.event) (c.find-found.ensures.takes _);
      history =
          c.push_reserved.ensures.items ∙ ap (λ (l : List Record). l ++ r c.noted_find-note.result ∷ []) c.in-Ok.ensures.items
          ∙ ap (λ (n : Note). c.self.inside.history.items ++ r n ∷ []) c.noted_find-note.ensures;
      is_turn = turn;
      seats = refl;
      opening = refl;
      gathered = refl;
      room = omega (arith, c.in-Ok.ensures.capacity, c.in-Ok.ensures.len, c.in-Ok.ensures.ok, c.push_reserved.ensures.capacity, c.push_reserved.ensures.len);
    })

pub returns-clause-told : goal.returns-clause-told
returns-clause-told g c = told _ _ _ _ _ _ (subst (λ (x : Event). Takes c.self.inside.tier (g.R.Rng.stream c.self.inside.rng) (x ∷ []) (answer_found c.find-found.result ∷ []) c.find-found.new.self (g.R.Rng.stream c.self.inside.rng)) (sym c.requires.event) (c.find-found.ensures.takes _))

pub returns-clause-one : goal.returns-clause-one
returns-clause-one g c = c.find-found.ensures.one

pub returns-clause-head : goal.returns-clause-head
returns-clause-head g c = rw (← c.self.view_is) c.find-found.ensures.head
