use Rattle.std.proofs.Common.{◌∙◌, ap, sym, Some, nat_eq}
use Rattle.std.specs.HashMap.{get}
use Rattle.cache_entries.specs.declared.entry.CacheEntryKey.{CacheEntryKey}
use Rattle.lru_numbers.proofs.PlaceLaws.{no_name, at_number}
use Rattle.lru_numbers.proofs.numbers.Numbers.entry_of.Goals as goal

pub returns-in_err-i : goal.returns-in_err-i
returns-in_err-i g c =
    rw (← c.self.view_is, c.from_residual.ensures) (sym (no_name (get nat_eq c.self.inside.places) c.self.inside.entries.entries c.self.invariant.1 c.args.number (sym (rw c.in_err-i.was at c.get.ensures.value))))

pub returns : goal.returns
returns g c =
    rw (← c.self.view_is) (ap (λ (e : CacheEntryKey). Some e) c.entry.ensures ∙ sym (at_number (get nat_eq c.self.inside.places) c.self.inside.entries.entries c.self.invariant.1 c.in_ok-i.field-0.now c.args.number c.in_ok-entry._number.now c.in_ok-entry.entry.now (sym c.in_ok-i.ensures.value) (sym c.in_ok-entry.ensures.entry)))
