use Rattle.std.proofs.Common.{arith}
use Rattle.head_metas.proofs.InternalLaws.{too_short, long_enough, meta_found, meta_read}
use Rattle.head_metas.proofs.internal.read.Goals as goal

pub returns-then-bytes-lt-LEAST_LEN-clause-exact : goal.returns-then-bytes-lt-LEAST_LEN-clause-exact
returns-then-bytes-lt-LEAST_LEN-clause-exact c = too_short c.args.bytes.now (omega (arith, c.if-bytes-lt-LEAST_LEN.true))

pub returns-then-bytes-lt-LEAST_LEN-clause-only : goal.returns-then-bytes-lt-LEAST_LEN-clause-only
returns-then-bytes-lt-LEAST_LEN-clause-only c = meta_read c.args.bytes.now _ (too_short c.args.bytes.now (omega (arith, c.if-bytes-lt-LEAST_LEN.true)))

pub returns : goal.returns
returns c =
    let exact = long_enough c.args.bytes.now _ c.form.result (omega (arith, c.if-bytes-lt-LEAST_LEN.false)) c.form.ensures in
    record {
      found = meta_found c.args.bytes.now c.form.result (λ i. omega (arith, c.type_inv.bytes i)) exact;
      only = meta_read c.args.bytes.now c.form.result exact;
      exact = exact;
    }
