-- The status with which a request is refused, by its reason.
use Rattle.std.specs.Prelude.{ℕ}
use Rattle.http1_message_parts.specs.declared.reason.Reason.{Reason}
use Rattle.http1_message_parts.specs.declared.reason.Reason.TheVariants.{TargetTooLong, HeadTooLong, TooManyFields, FieldTooLong, Version, Method, UnknownCoding, OtherScheme, OtherHost}

abbrev pub status_of : Reason → ℕ
status_of TargetTooLong = 414
status_of HeadTooLong = 431
status_of TooManyFields = 431
status_of FieldTooLong = 431
status_of Version = 505
status_of Method = 501
status_of UnknownCoding = 501
status_of OtherScheme = 421
status_of OtherHost = 421
status_of _ = 400
