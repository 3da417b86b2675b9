-- Names of errors.
use Rattle.std.specs.Prelude.{List, ℕ, codes}
use Rattle.head_lines.specs.declared.error.ErrorType.{ErrorType}
use Rattle.head_lines.specs.declared.error.ErrorType.TheVariants.{InternalError, InvalidHTTPHeader, Custom}

abbrev pub type_name : ErrorType → List ℕ
type_name InternalError = codes "InternalError"
type_name InvalidHTTPHeader = codes "InvalidHTTPHeader"
type_name (Custom name) = name.now
