use Rattle.std.proofs.Common.{◌≡◌, ◌∷◌, ◌+◌, drop, List, ap, sym, ◌∙◌, rules}
use Rattle.std.proofs.lemmas.List.{drop_more}
use Rattle.tier_recorded.specs.declared.history.CallerRecord.{CallerRecord}
use Rattle.tier_recorded.specs.declared.history.Record.{Record}
use Rattle.tier_recorded.specs.Histories.{seen_own, own_of}
use Rattle.tier_recorded.proofs.DifferLaws.{AreLeft, differ-here, differ-short, differ-long, left-same, left-other}
use Rattle.tier_recorded.proofs.differs.difference.Goals as goal
use Rattle.tier_recorded.proofs.differs.difference.Goals.{then-turn-records-via-then-turn-records, then-turn-records-via-else-turn-records+then-not-is_same_record, then-kept-caller+else-turn-records+else-not-is_same_record, else-kept-caller}

pub returns-then-turn-records-clause-other : goal.returns-then-turn-records-clause-other
returns-then-turn-records-clause-other c =
    let rest : drop c.loop-kept.kept-index c.args.history.now ≡ c.kept-item.result ∷ drop (c.loop-kept.kept-index + 1) c.args.history.now =
    drop_more c.args.history.now c.loop-kept.kept-index c.kept-item.result c.loop-kept-test.true ∙ ap (λ (r : Record). r ∷ drop (c.loop-kept.kept-index + 1) c.args.history.now) (sym c.kept-item.is)
    in
    elim c.then-turn-records.branch [
      | then-turn-records-via-then-turn-records w ↦
          differ-short c.args.records.now c.args.history.now c.args.caller c.loop-kept.turn c.loop-kept.kept-index c.kept-item.result rest c.loop-kept.invariant c.if-kept-caller.true w.if-turn-records.true
      | then-turn-records-via-else-turn-records+then-not-is_same_record w ↦ (
          let next : drop c.loop-kept.turn c.args.records.now ≡ w.index-records-turn.result ∷ drop (c.loop-kept.turn + 1) c.args.records.now =
          drop_more c.args.records.now c.loop-kept.turn w.index-records-turn.result w.if-turn-records.false
          ∙ ap (λ (x : CallerRecord). x ∷ drop (c.loop-kept.turn + 1) c.args.records.now) (sym w.index-records-turn.is)
          in
          differ-here c.args.records.now c.args.history.now c.args.caller c.loop-kept.turn c.loop-kept.kept-index c.kept-item.result rest c.loop-kept.invariant w.index-records-turn.result c.if-kept-caller.true
          w.if-turn-records.false next (search rules)
          )
    ]

pub returns-then-turn-records-2-clause-other : goal.returns-then-turn-records-2-clause-other
returns-then-turn-records-2-clause-other c =
    differ-long c.args.records.now c.args.history.now c.args.caller c.loop-kept.turn c.loop-kept.kept-index c.loop-kept.invariant c.loop-kept-test.false c.if-turn-records-2.true

pub loop-kept-preserved : goal.loop-kept-preserved
loop-kept-preserved c =
    let rest : drop c.loop-kept.kept-index c.args.history.now ≡ c.kept-item.result ∷ drop (c.loop-kept.kept-index + 1) c.args.history.now =
    drop_more c.args.history.now c.loop-kept.kept-index c.kept-item.result c.loop-kept-test.true ∙ ap (λ (r : Record). r ∷ drop (c.loop-kept.kept-index + 1) c.args.history.now) (sym c.kept-item.is)
    in
    elim c.if-kept-caller.branch [
      | then-kept-caller+else-turn-records+else-not-is_same_record w ↦ (
          let next : drop c.loop-kept.turn c.args.records.now ≡ w.index-records-turn.result ∷ drop (c.loop-kept.turn + 1) c.args.records.now =
          drop_more c.args.records.now c.loop-kept.turn w.index-records-turn.result w.if-turn-records.false
          ∙ ap (λ (x : CallerRecord). x ∷ drop (c.loop-kept.turn + 1) c.args.records.now) (sym w.index-records-turn.is)
          in
          rw w.turn-is (left-same c.args.records.now c.args.history.now c.args.caller c.loop-kept.turn c.loop-kept.kept-index c.kept-item.result rest c.loop-kept.invariant w.index-records-turn.result w.if-kept-caller.true
          w.if-turn-records.false next (search rules))
          )
      | else-kept-caller w ↦ rw w.turn-is (left-other c.args.records.now c.args.history.now c.args.caller c.loop-kept.turn c.loop-kept.kept-index c.kept-item.result rest c.loop-kept.invariant w.if-kept-caller.false)
    ]
