use Rattle.std.proofs.Common.{◌≡◌, true, false, refl}
use Rattle.http_header.specs.FieldName.{IsFieldName}
use Rattle.head_metas.specs.HeadReading.{is_name}
use Rattle.head_metas.proofs.HeadLines.{name_named, name_test, passes, fails}
use Rattle.head_metas.proofs.head.field_name.Goals as goal

pub returns-in-Ok : goal.returns-in-Ok
returns-in-Ok c =
    let bytes = c.args.bytes.now in
    let test : is_name bytes ≡ true =
    passes (is_name bytes) (IsFieldName bytes) (name_test bytes) (name_named bytes) (λ bad. let e = c.in-Ok.ensures.invalid.1 bad in cc) in
    rw (test, c.in-Ok.ensures.ok) refl

pub returns-in-Err-Invalid : goal.returns-in-Err-Invalid
returns-in-Err-Invalid c =
    let bytes = c.args.bytes.now in
    let invalid = rw c.in-Err-Invalid.field-0-is at c.in-Err-Invalid.ensures.invalid in
    let test : is_name bytes ≡ false = fails (is_name bytes) (IsFieldName bytes) (name_named bytes) (invalid.0 refl) in
    rw test refl
