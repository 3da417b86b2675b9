use Rattle.std.proofs.Common.{◌≡◌, ◌∙◌, ◌+◌, ◌-◌, ℕ, zero, suc, arith, subst}
use Rattle.cache_entries.specs.BorrowedRow.{borrowed_row}
use Rattle.cache_entries.specs.RowText.{recency_at, rows_until}
use Rattle.lru_async_manager.proofs.ReadingLaws.{reads-end, reads-head, reads-more, reads-start, reads-stop}
use Rattle.lru_async_manager.proofs.files.check.Goals as goal

pub returns-in-Err-clause-fault : goal.returns-in-Err-clause-fault
returns-in-Err-clause-fault c = reads-head c.args.bytes.now c.in-Err.fault c.in-Err.ensures.exact

pub rows-init : goal.rows-init
rows-init c =
    let none : c.in-Ok.count ≡ c.in-Ok.count - 0 = omega arith in
    subst (λ (left : ℕ). (recency_at c.args.bytes.now).1 ≡ (rows_until left c.array.new.self.rest.now).1) none
    (reads-start c.args.bytes.now c.array.new.self.rest.now c.in-Ok.count c.in-Ok.ensures.exact)

pub rows-preserved : goal.rows-preserved
rows-preserved c =
    let left = c.in-Ok.count - (c.rows.counter + 1) in
    let one : c.in-Ok.count - c.rows.counter ≡ suc left = omega arith in
    subst (λ (k : ℕ). (recency_at c.args.bytes.now).1 ≡ (rows_until k c.rows.cursor.rest.now).1) one c.rows.invariant
    ∙ reads-more left c.rows.cursor.rest.now c.take_row.new.bytes.rest.now (borrowed_row c.in-Ok-take_row.row) c.in-Ok-take_row.ensures.exact

pub returns-in-Err-take_row-clause-fault : goal.returns-in-Err-take_row-clause-fault
returns-in-Err-take_row-clause-fault c =
    let left = c.in-Ok.count - (c.rows.counter + 1) in
    let one : c.in-Ok.count - c.rows.counter ≡ suc left = omega arith in
    subst (λ (k : ℕ). (recency_at c.args.bytes.now).1 ≡ (rows_until k c.rows.cursor.rest.now).1) one c.rows.invariant
    ∙ reads-stop left c.rows.cursor.rest.now c.in-Err-take_row.fault c.in-Err-take_row.ensures.exact

pub returns-clause-ok : goal.returns-clause-ok
returns-clause-ok c =
    let none : c.in-Ok.count - c.rows.counter ≡ zero = omega arith in
    subst (λ (k : ℕ). (recency_at c.args.bytes.now).1 ≡ (rows_until k c.rows.cursor.rest.now).1) none c.rows.invariant ∙ reads-end c.rows.cursor.rest.now
