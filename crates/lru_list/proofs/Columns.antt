-- The lengths of the columns of links.
use Rattle.std.proofs.Common.{◌≡◌, length, sym, ◌∙◌, Vec, vec_len}
use Rattle.std.proofs.lemmas.List.{length-map}
use Rattle.lru_list.specs.declared.linked_list.slots.Link.{Link}
use Rattle.lru_list.specs.Columns.{nexts}

pub vec_len-nexts : {Z : Type 0} → (v : Vec Link Z) → vec_len v ≡ length (nexts v.items)
vec_len-nexts v = v.ok.0 ∙ sym (length-map v.items (λ l. l.next))
