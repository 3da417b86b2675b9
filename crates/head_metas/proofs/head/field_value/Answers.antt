use Rattle.std.proofs.Common.{◌≡◌, true, false, refl}
use Rattle.http_header.specs.FieldValue.{IsFieldValue}
use Rattle.head_metas.specs.HeadReading.{is_value}
use Rattle.head_metas.proofs.HeadLines.{value_valued, value_test, passes, fails}
use Rattle.head_metas.proofs.head.field_value.Goals as goal

pub returns-in-Ok : goal.returns-in-Ok
returns-in-Ok c =
    let bytes = c.args.bytes.now in
    let test : is_value bytes ≡ true =
    passes (is_value bytes) (IsFieldValue bytes) (value_test bytes) (value_valued bytes) (λ bad. let e = c.in-Ok.ensures.invalid.1 bad in cc) in
    rw (test, c.in-Ok.ensures.ok) refl

pub returns-in-Err-Invalid : goal.returns-in-Err-Invalid
returns-in-Err-Invalid c =
    let bytes = c.args.bytes.now in
    let invalid = rw c.in-Err-Invalid.field-0-is at c.in-Err-Invalid.ensures.invalid in
    let test : is_value bytes ≡ false = fails (is_value bytes) (IsFieldValue bytes) (value_valued bytes) (invalid.0 refl) in
    rw test refl
