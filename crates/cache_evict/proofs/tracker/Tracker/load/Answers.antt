use Rattle.std.proofs.Common.{◌≡◌, ℕ, ◌+◌, ◌-◌, suc, zero, arith, subst}
use Rattle.cache_entries.specs.BorrowedRow.{borrowed_row}
use Rattle.cache_entries.specs.RowText.{recency_at}
use Rattle.cache_evict.specs.Loads.{loaded}
use Rattle.cache_evict.proofs.LoadLaws.{HasLoaded, loaded-start, loaded-more, loads-all, loads-text, loads-stop, loads-err}
use Rattle.cache_evict.proofs.tracker.Tracker.load.Goals as goal

pub rows-init : goal.rows-init
rows-init g c =
    let none : c.in_ok-count.count ≡ c.in_ok-count.count - 0 = omega arith in
    let put = loaded c.args.again g.row.N in
    let read = recency_at c.args.bytes.now in
    subst (λ (left : ℕ). HasLoaded put read c.args.self.now left c.array.new.self.rest.now c.args.self.now) none
    (loaded-start put c.args.bytes.now c.array.new.self.rest.now c.in_ok-count.count c.args.self.now c.in_ok-count.ensures.exact)

pub returns-in_err-row : goal.returns-in_err-row
returns-in_err-row g c =
    let put = loaded c.args.again g.row.N in
    let read = recency_at c.args.bytes.now in
    let left = c.in_ok-count.count - (c.rows.counter + 1) in
    let one : c.in_ok-count.count - c.rows.counter ≡ suc left = omega arith in
    let before = subst (λ (j : ℕ). HasLoaded put read c.args.self.now j c.rows.cursor.rest.now c.rows.self) one c.rows.invariant in
    loads-err c.args.again g.row.N read c.args.self.now c.rows.self c.from_residual-in_err-row.result _ c.from_residual-in_err-row.ensures.1 (λ fault e.
    loads-text c.args.again g.row.N read c.args.self.now c.rows.self left c.rows.cursor.rest.now c.in_err-row.field-0.0 fault before c.in_err-row.ensures.exact e)

pub returns-in_err-load_row : goal.returns-in_err-load_row
returns-in_err-load_row g c =
    let put = loaded c.args.again g.row.N in
    let read = recency_at c.args.bytes.now in
    let left = c.in_ok-count.count - (c.rows.counter + 1) in
    let one : c.in_ok-count.count - c.rows.counter ≡ suc left = omega arith in
    let before = subst (λ (j : ℕ). HasLoaded put read c.args.self.now j c.rows.cursor.rest.now c.rows.self) one c.rows.invariant in
    loads-err c.args.again g.row.N read c.args.self.now c.load_row.new.self c.from_residual-in_err-load_row.result _ c.from_residual-in_err-load_row.ensures.1 (λ fault e.
    loads-stop c.args.again g.row.N read c.args.self.now c.load_row.new.self left c.rows.cursor.rest.now c.take_row.new.bytes.rest.now (borrowed_row c.in_ok-row.row) c.rows.self c.in_err-load_row.field-0.0 fault before
    c.in_ok-row.ensures.exact c.in_err-load_row.ensures.err c.in_err-load_row.ensures.why e)

pub rows-preserved : goal.rows-preserved
rows-preserved g c =
    let put = loaded c.args.again g.row.N in
    let read = recency_at c.args.bytes.now in
    let left = c.in_ok-count.count - (c.rows.counter + 1) in
    let one : c.in_ok-count.count - c.rows.counter ≡ suc left = omega arith in
    let before = subst (λ (j : ℕ). HasLoaded put read c.args.self.now j c.rows.cursor.rest.now c.rows.self) one c.rows.invariant in
    loaded-more put read c.args.self.now c.rows.self c.load_row.new.self left c.rows.cursor.rest.now c.take_row.new.bytes.rest.now (borrowed_row c.in_ok-row.row) before c.in_ok-row.ensures.exact c.in_ok-load_row.ensures.ok

pub returns : goal.returns
returns g c =
    let put = loaded c.args.again g.row.N in
    let read = recency_at c.args.bytes.now in
    let none : c.in_ok-count.count - c.rows.counter ≡ zero = omega arith in
    loads-all c.args.again g.row.N read c.args.self.now c.rows.self c.rows.cursor.rest.now (subst (λ (j : ℕ). HasLoaded put read c.args.self.now j c.rows.cursor.rest.now c.rows.self) none c.rows.invariant)
