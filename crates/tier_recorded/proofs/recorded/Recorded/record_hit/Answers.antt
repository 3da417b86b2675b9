use borrow.Rule.Slice.AtParam.{field_room}
use denote.Param.{layout, number, param}
use mir.Syntax.{Ty}
use prog.Memory.{size}
use Rattle.std.proofs.Common.{◌≡◌, ◌<◌, ◌^◌, ◌+◌, ◌-◌, ◌++◌, ℕ, List, false, length, set, vec_len, vec_capacity, arith, sym, ap, refl, ◌∙◌}
use Rattle.std.proofs.lemmas.Bool.{true≢false}
use Rattle.std.proofs.lemmas.List.{length-append, length-set}
use Rattle.tier_recorded.specs.declared.history.CallerRecord.{CallerRecord}
use Rattle.tier_recorded.specs.declared.history.Record.{Record}
use Rattle.tier_recorded.specs.declared.history.Seat.{Seat}
use Rattle.tier_recorded.specs.contracts.recorded.Recorded.{the_row}
use Rattle.tier_recorded.specs.Histories.{owns, records_of}
use Rattle.tier_recorded.specs.Hits.{hit_calls, kept_all, last_turn, made_all}
use Rattle.tier_recorded.specs.Recorded.{records_by}
use Rattle.tier_recorded.specs.Seats.{IsTurn}
use Rattle.tier_recorded.proofs.HistoryLaws.{records-most}
use Rattle.tier_recorded.proofs.HitLaws.{events_made, outcomes_made, kept-hit, last-turn, made-calls, most-calls, not-unrecorded, owns-hit, recorded-hit, takes-hit}
use Rattle.tier_recorded.proofs.RecordsLaws.{records_by-length, replay-all, seated-all, turns-all}
use Rattle.tier_recorded.proofs.recorded.Recorded.record_hit.Goals as goal

pub hit-hit-requires : goal.hit-hit-requires
hit-hit-requires g c =
    let whole : Ty = layout (the_row (param 0 (number g.row.N)) (param 1 g.row.R) (param 2 g.row.L) (param 3 g.row.S) (param 4 g.row.S-Hasher) g.R.Rng g.L.Ledger g.S.BuildHasher g.S.Hasher.Hasher) in
    let room : size whole < 2 ^ 63 = assumption in
    field_room whole 2 _ _ refl room

pub keep_all-next-requires : goal.keep_all-next-requires
keep_all-next-requires g c =
    let turn : IsTurn c.self.inside.seats.items c.args.caller c.args.turn = c.is_turn.ensures.0 c.if-not-is_turn.false in
    let is : c.args.turn ≡ length (records_of c.args.caller c.self.inside.history.items) = sym (ap (λ (x : Seat). x.records) turn.1) ∙ c.self.invariant.2.fits c.args.caller in
    let most = records-most c.args.caller c.self.inside.history.items in
    record {
      room = omega (arith, c.in-Ok.ensures.ok);
      turn = omega (arith, is, most, c.self.inside.history.ok.0, c.self.inside.history.ok.1, c.self.inside.history.small);
    }

pub index_mut-requires : goal.index_mut-requires
index_mut-requires g c =
    let turn : IsTurn c.self.inside.seats.items c.args.caller c.args.turn = c.is_turn.ensures.0 c.if-not-is_turn.false in
    let here = turn.0 in
    omega (arith, here, c.self.inside.seats.ok.0)

pub overflow_sub-calls : goal.overflow_sub-calls
overflow_sub-calls g c =
    let next : c.keep_all-next.result ≡ c.args.turn + hit_calls c.hit-hit.result =
    c.keep_all-next.ensures.next ∙ ap (λ n. last_turn c.args.turn n) c.noted_hit-notes.ensures ∙ last-turn c.args.turn c.hit-hit.result
    in
    omega (arith, next)

pub invariant_of-self : goal.invariant_of-self
invariant_of-self g c = rw c.in_default.ensures.items c.self.invariant

pub invariant_of-self-2 : goal.invariant_of-self-2
invariant_of-self-2 g c =
    let turn : IsTurn c.self.inside.seats.items c.args.caller c.args.turn = c.is_turn.ensures.0 c.if-not-is_turn.false in
    let is : c.args.turn ≡ length (records_of c.args.caller c.self.inside.history.items) = sym (ap (λ (x : Seat). x.records) turn.1) ∙ c.self.invariant.2.fits c.args.caller in
    let own : List CallerRecord = owns (events_made c.args.moment c.args.request c.args.key.now c.hit-hit.result) (outcomes_made c.hit-hit.result) in
    let more : List Record = records_by c.args.caller c.args.turn own in
    let kept : c.keep_all-next.new.history.items ≡ c.self.inside.history.items ++ more =
    c.keep_all-next.ensures.items ∙ (λ i. kept_all (c.in-Ok.ensures.items i) c.args.caller c.args.turn (c.requires.events i) (c.noted_hit-notes.ensures i))
    ∙ kept-hit c.args.moment c.args.request c.args.key.now c.self.inside.history.items c.args.caller c.args.turn c.hit-hit.result
    in
    let many : length own ≡ hit_calls c.hit-hit.result = owns-hit c.args.moment c.args.request c.args.key.now c.hit-hit.result in
    let next : c.keep_all-next.result ≡ c.args.turn + length own =
    c.keep_all-next.ensures.next ∙ ap (λ n. last_turn c.args.turn n) c.noted_hit-notes.ensures ∙ last-turn c.args.turn c.hit-hit.result ∙ ap (λ (n : ℕ). c.args.turn + n) (sym many)
    in
    let longer = length-append c.self.inside.history.items more in
    let as_many = records_by-length c.args.caller c.args.turn own in
    rw (kept, next) (
      (c.self.invariant.0.0, c.self.invariant.0.1, replay-all _ _ _ _ _ c.args.caller c.args.turn _ _ _ _ c.self.invariant.0.2 (takes-hit c.args.moment c.args.request c.args.key.now _ _ c.hit-hit.result _ (c.hit-hit.ensures.takes _))),
      turns-all c.self.inside.history.items c.args.caller c.args.turn own c.self.invariant.1 is,
      seated-all c.self.inside.seats.items c.self.inside.gathered.items c.self.inside.history.items c.args.caller c.args.turn own turn c.self.invariant.2,
      omega (arith, longer, as_many, next, c.add.ensures.total, c.self.invariant.3),
      rw length-set c.self.invariant.4,
      c.self.invariant.5,
      c.self.invariant.6,
    )

pub returns-then-not-is_turn-clause-refused : goal.returns-then-not-is_turn-clause-refused
returns-then-not-is_turn-clause-refused g c =
    rw (← c.self.view_is) (record { same = refl; reason = λ turn. absurd (true≢false (sym (c.is_turn.ensures.1 turn) ∙ c.if-not-is_turn.true)) }, refl {A = ℕ})

pub returns-in_default-clause-refused : goal.returns-in_default-clause-refused
returns-in_default-clause-refused g c =
    let kept : vec_capacity c.reserve.new.self - vec_len c.reserve.new.self ≡ vec_capacity c.self.inside.history - vec_len c.self.inside.history = omega (arith, c.in_default.ensures.err, c.in_default.ensures.len) in
    let full = c.in_default.ensures.full in
    rw (← c.self.view_is) (
      record {
        same = λ i. record {
          opening = c.self.inside.opening;
          tier = c.self.inside.tier;
          rng = c.self.inside.rng;
          history = c.in_default.ensures.items i;
          seats = c.self.inside.seats.items;
          gathered = c.self.inside.gathered.items;
          room = kept i;
        };
        reason = λ turn. omega (arith, full);
      },
      refl {A = ℕ},
    )

pub returns-clause-recorded : goal.returns-clause-recorded
returns-clause-recorded g c =
    let turn : IsTurn c.self.inside.seats.items c.args.caller c.args.turn = c.is_turn.ensures.0 c.if-not-is_turn.false in
    let kept : c.keep_all-next.new.history.items
    ≡ c.self.inside.history.items ++ records_by c.args.caller c.args.turn (owns (events_made c.args.moment c.args.request c.args.key.now c.hit-hit.result) (outcomes_made c.hit-hit.result)) =
    c.keep_all-next.ensures.items ∙ (λ i. kept_all (c.in-Ok.ensures.items i) c.args.caller c.args.turn (c.requires.events i) (c.noted_hit-notes.ensures i))
    ∙ kept-hit c.args.moment c.args.request c.args.key.now c.self.inside.history.items c.args.caller c.args.turn c.hit-hit.result
    in
    let next : c.keep_all-next.result ≡ c.args.turn + hit_calls c.hit-hit.result =
    c.keep_all-next.ensures.next ∙ ap (λ n. last_turn c.args.turn n) c.noted_hit-notes.ensures ∙ last-turn c.args.turn c.hit-hit.result
    in
    let notes = made-calls c.hit-hit.result in
    let made = ap (λ n. made_all n) c.noted_hit-notes.ensures in
    rw (← c.self.view_is)
    (recorded-hit c.args.moment c.args.request c.args.key.now _ _ (g.R.Rng.stream c.self.inside.rng) c.args.caller c.args.turn c.hit-hit.result (c.hit-hit.ensures.takes _) turn (λ i. record {
      opening = c.self.inside.opening;
      tier = c.hit-hit.new.self;
      rng = c.self.inside.rng;
      history = kept i;
      seats = set c.self.inside.seats.items c.args.caller (record { records = next i; is_gathered = false });
      gathered = c.self.inside.gathered.items;
      room = vec_capacity c.keep_all-next.new.history - vec_len c.keep_all-next.new.history;
    }) (omega (arith, notes, made, c.in-Ok.ensures.capacity, c.in-Ok.ensures.len, c.in-Ok.ensures.ok, c.keep_all-next.ensures.capacity, c.keep_all-next.ensures.length)))

pub returns-clause-told : goal.returns-clause-told
returns-clause-told g c = not-unrecorded c.args.moment c.args.request c.args.key.now _ _ (g.R.Rng.stream c.self.inside.rng) c.hit-hit.result (c.hit-hit.ensures.takes _)

pub returns-clause-noted : goal.returns-clause-noted
returns-clause-noted g c = c.noted_hit-notes.ensures

pub returns-clause-counted : goal.returns-clause-counted
returns-clause-counted g c =
    let next : c.keep_all-next.result ≡ c.args.turn + hit_calls c.hit-hit.result =
    c.keep_all-next.ensures.next ∙ ap (λ n. last_turn c.args.turn n) c.noted_hit-notes.ensures ∙ last-turn c.args.turn c.hit-hit.result
    in
    omega (arith, next, c.add.ensures.amount)

pub returns-clause-one : goal.returns-clause-one
returns-clause-one g c = c.hit-hit.ensures.one

pub returns-clause-hit : goal.returns-clause-hit
returns-clause-hit g c = rw (← c.self.view_is) c.hit-hit.ensures.hit
