use denote.Param.{layout, number, param}
use mir.Syntax.{Ty}
use prog.Memory.{size}
use Rattle.tier_recorded.specs.contracts.recorded.Recorded.{the_row as recorded_row}
use Rattle.std.proofs.Common.{ℕ, ◌<◌, ◌^◌, ◌≡◌, ◌∷◌, ◌++◌, List, [], length, arith, sym, ap, ◌∙◌}
use Rattle.tier_single.specs.Hits.{answer_found}
use Rattle.tier_recorded.specs.declared.history.CallerRecord.{CallerRecord}
use Rattle.tier_recorded.specs.Seats.{PassState}
use Rattle.tier_recorded.proofs.Matched.{matched}
use Rattle.tier_recorded.proofs.pass.Pass.find.Goals as goal

-- what is one is not none
some : (n : ℕ) → n ≡ 1 → 0 < n
some n one = omega (arith, one)

pub record_find-requires : goal.record_find-requires
record_find-requires g c =
    let whole : Ty = layout (recorded_row (param 1 (number g.row.N)) (param 2 g.row.R) (param 0 g.row.L) (param 3 g.row.S) (param 4 g.row.S-Hasher) g.R.Rng g.L.Ledger g.S.BuildHasher g.S.Hasher.Hasher) in
    let room : size whole < 2 ^ 63 = assumption in
    (room, (some _ c.self.invariant.0, c.apart-theirs.ensures.0 ∙ c.requires))

pub returns-in-Ok-record_find-clause-records : goal.returns-in-Ok-record_find-clause-records
returns-in-Ok-record_find-clause-records g c =
    let last : CallerRecord = record { event = c.apart-theirs.result.1; note = c.in-Ok-record_find.note } in
    matched (answer_found c.in-Ok-record_find.found) _ _ c.in-Ok-record_find.ensures.told
    (c.push_reserved.ensures.items ∙ ap (λ (l : List CallerRecord). l ++ last ∷ []) (c.in-Ok.ensures.items ∙ ap (λ (p : PassState). p.records) c.self.view_is)
    ∙ (λ i. c.args.self.now.records ++ record { event = c.apart-theirs.ensures.1 i; note = c.in-Ok-record_find.ensures.noted i } ∷ []))

pub returns-in-Ok-record_find-clause-history : goal.returns-in-Ok-record_find-clause-history
returns-in-Ok-record_find-clause-history g c =
    let caller : c.args.self.now.caller ≡ c.self.inside.caller = sym (ap (λ (p : PassState). p.caller) c.self.view_is) in
    let turn : length c.args.self.now.records ≡ c.len-turn.result =
    (let seen = ap (λ (p : PassState). length p.records) c.self.view_is in omega (arith, seen, c.len-turn.ensures, c.in-Ok.ensures.len, c.self.inside.records.ok.0))
    in
    matched (answer_found c.in-Ok-record_find.found) _ _ c.in-Ok-record_find.ensures.told (rw (caller, turn, ← c.apart-theirs.ensures.0) c.in-Ok-record_find.ensures.recorded)

pub returns-in-Ok-record_find-clause-head : goal.returns-in-Ok-record_find-clause-head
returns-in-Ok-record_find-clause-head g c = c.in-Ok-record_find.ensures.head
