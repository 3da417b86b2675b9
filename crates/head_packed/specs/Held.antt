-- What is held of a head.
use Rattle.head_lines.specs.declared.header.ResponseHeader.{ResponseHeader}
use Rattle.head_packed.specs.declared.held.HeldHead.{HeldHead}
use Rattle.head_packed.specs.declared.held.HeldHead.TheVariants.{Whole, Shared}

abbrev pub head_of : HeldHead → ResponseHeader
head_of (Whole header) = header
head_of (Shared head alloc) = head
