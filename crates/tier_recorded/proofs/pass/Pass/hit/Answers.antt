use denote.Param.{layout, number, param}
use mir.Syntax.{Ty}
use prog.Memory.{size}
use Rattle.std.proofs.Common.{ℕ, ◌<◌, ◌^◌, ◌≡◌, ◌≤◌, ◌+◌, ◌++◌, List, [], length, arith, sym, ap, ◌∙◌}
use Rattle.std.proofs.lemmas.List.{append-nil, length-append}
use Rattle.tier_model.specs.declared.event.Event.{Event}
use Rattle.tier_model.specs.Calls.{Outcome}
use Rattle.tier_recorded.specs.declared.history.CallerRecord.{CallerRecord}
use Rattle.tier_recorded.specs.contracts.recorded.Recorded.{the_row as recorded_row}
use Rattle.tier_recorded.specs.Histories.{owns}
use Rattle.tier_recorded.specs.Hits.{hit_calls, kept_all_own, made_all}
use Rattle.tier_recorded.specs.Seats.{PassState}
use Rattle.tier_recorded.proofs.HitLaws.{events_made, outcomes_made, kept_own-hit, made-calls, made-told, match-hit, owns-hit}
use Rattle.tier_recorded.proofs.pass.Pass.hit.Goals as goal

-- what is one is not none
some : (n : ℕ) → n ≡ 1 → 0 < n
some n one = omega (arith, one)

pub record_hit-requires : goal.record_hit-requires
record_hit-requires g c =
    let whole : Ty = layout (recorded_row (param 1 (number g.row.N)) (param 2 g.row.R) (param 0 g.row.L) (param 3 g.row.S) (param 4 g.row.S-Hasher) g.R.Rng g.L.Ledger g.S.BuildHasher g.S.Hasher.Hasher) in
    let room : size whole < 2 ^ 63 = assumption in
    (room, (some _ c.self.invariant.0, c.apart-theirs.ensures.0 ∙ c.requires))

pub keep_all_own-requires : goal.keep_all_own-requires
keep_all_own-requires g c = omega (arith, c.in-Ok.ensures.ok)

pub invariant_of-self-in-Ok-record_hit : goal.invariant_of-self-in-Ok-record_hit
invariant_of-self-in-Ok-record_hit g c =
    let hit = c.in-Ok-record_hit.hit in
    let own : List CallerRecord = owns (events_made c.args.moment c.args.request c.args.key.now hit) (outcomes_made hit) in
    let kept : c.keep_all_own.new.records.items ≡ c.self.inside.records.items ++ own =
    c.keep_all_own.ensures.items ∙ (λ i. kept_all_own (c.in-Ok.ensures.items i) ((c.apart-theirs.ensures.1 ∙ c.requires) i) (c.in-Ok-record_hit.ensures.noted i))
    ∙ kept_own-hit c.args.moment c.args.request c.args.key.now c.self.inside.records.items hit
    in
    let longer = ap length kept ∙ length-append c.self.inside.records.items own in
    let many = owns-hit c.args.moment c.args.request c.args.key.now hit in
    (c.in-Ok-record_hit.ensures.parts ∙ c.self.invariant.0, omega (arith, longer, many, c.in-Ok-record_hit.ensures.counted, c.self.invariant.1))

pub returns-in-Ok-record_hit-clause-records : goal.returns-in-Ok-record_hit-clause-records
returns-in-Ok-record_hit-clause-records g c =
    let hit = c.in-Ok-record_hit.hit in
    let own : List CallerRecord = owns (events_made c.args.moment c.args.request c.args.key.now hit) (outcomes_made hit) in
    let kept : c.keep_all_own.new.records.items ≡ c.args.self.now.records ++ own =
    c.keep_all_own.ensures.items
    ∙ (λ i. kept_all_own ((c.in-Ok.ensures.items ∙ ap (λ (p : PassState). p.records) c.self.view_is) i) ((c.apart-theirs.ensures.1 ∙ c.requires) i) (c.in-Ok-record_hit.ensures.noted i))
    ∙ kept_own-hit c.args.moment c.args.request c.args.key.now c.args.self.now.records hit
    in
    made-told hit _ _ c.in-Ok-record_hit.ensures.told
    (match-hit c.args.moment c.args.request c.args.key.now hit (λ (es : List Event) (os : List Outcome). c.keep_all_own.new.records.items ≡ c.args.self.now.records ++ owns es os)
    (c.keep_all_own.new.records.items ≡ c.args.self.now.records) kept (λ same. same ∙ append-nil c.args.self.now.records))

pub returns-in-Ok-record_hit-clause-history : goal.returns-in-Ok-record_hit-clause-history
returns-in-Ok-record_hit-clause-history g c =
    let caller : c.args.self.now.caller ≡ c.self.inside.caller = sym (ap (λ (p : PassState). p.caller) c.self.view_is) in
    let turn : length c.args.self.now.records ≡ c.len-turn.result =
    (let seen = ap (λ (p : PassState). length p.records) c.self.view_is in omega (arith, seen, c.len-turn.ensures, c.in-Ok.ensures.len, c.self.inside.records.ok.0))
    in
    made-told c.in-Ok-record_hit.hit _ _ c.in-Ok-record_hit.ensures.told (rw (caller, turn) c.in-Ok-record_hit.ensures.recorded)

pub returns-in-Ok-record_hit-clause-hit : goal.returns-in-Ok-record_hit-clause-hit
returns-in-Ok-record_hit-clause-hit g c = c.in-Ok-record_hit.ensures.hit

pub returns-in-Ok-record_hit-clause-one : goal.returns-in-Ok-record_hit-clause-one
returns-in-Ok-record_hit-clause-one g c = c.in-Ok-record_hit.ensures.one

pub returns-in-Ok-record_hit-clause-room : goal.returns-in-Ok-record_hit-clause-room
returns-in-Ok-record_hit-clause-room g c =
    let notes = made-calls c.in-Ok-record_hit.hit in
    let made = ap (λ n. made_all n) c.in-Ok-record_hit.ensures.noted in
    let before = ap (λ (p : PassState). p.room) c.self.view_is in
    omega (arith, notes, made, before, c.in-Ok.ensures.capacity, c.in-Ok.ensures.len, c.in-Ok.ensures.ok, c.keep_all_own.ensures.capacity, c.keep_all_own.ensures.length)
