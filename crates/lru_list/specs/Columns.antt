-- The columns of the links of a list.
use Rattle.std.specs.Prelude.{ℕ, List, length, map}
use Rattle.lru_list.specs.declared.linked_list.slots.Link.{Link}
use Rattle.lru_list.specs.Links.{order_of}

abbrev pub nexts : List Link → List ℕ
nexts ls = map (λ l. l.next) ls

abbrev pub prevs : List Link → List ℕ
prevs ls = map (λ l. l.prev) ls

-- the order that the links give
abbrev pub order_in : List Link → List ℕ → List ℕ
order_in ls free = order_of (nexts ls) (length free)
