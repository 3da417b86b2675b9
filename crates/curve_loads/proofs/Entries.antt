-- Entries that are the same, and entries that aren't.
use Rattle.std.proofs.Common.{◌≡◌, true, false, sym, subst, ◌∙◌}
use Rattle.cache_entries.specs.declared.entry.CacheEntryKey.{CacheEntryKey}
use Rattle.cache_entries.specs.Entry.{same_entry}
use Rattle.cache_entries.specs.SameEntry.{same_entry-tells, same-sym}

pub same-self : (e : CacheEntryKey) → same_entry e e ≡ true
same-self e = same_entry-tells.itself e

pub same-is : (a b : CacheEntryKey) → same_entry a b ≡ true → a ≡ b
same-is a b h = same_entry-tells.equal a b h

pub flipped : (x e : CacheEntryKey) → same_entry x e ≡ false → same_entry e x ≡ false
flipped x e h = same-sym same_entry same_entry-tells e x ∙ h

pub turned : (x e : CacheEntryKey) → same_entry x e ≡ true → same_entry e x ≡ true
turned x e h = same-sym same_entry same_entry-tells e x ∙ h

pub apart : (r x e : CacheEntryKey) → same_entry r x ≡ true → same_entry x e ≡ false → same_entry r e ≡ false
apart r x e h t = subst (λ (y : CacheEntryKey). same_entry y e ≡ false) (sym (same-is r x h)) t

pub apart-back : (r x e : CacheEntryKey) → same_entry r e ≡ true → same_entry x e ≡ false → same_entry r x ≡ false
apart-back r x e h t = subst (λ (y : CacheEntryKey). same_entry y x ≡ false) (sym (same-is r e h)) (flipped x e t)
