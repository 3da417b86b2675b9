use Rattle.std.proofs.Common.{◌+◌, ap, ◌∙◌, ◌∷◌, ◌++◌, length}
use Rattle.cache_changes.specs.Changes.{StoredKey, stored_key}
use Rattle.tier_promise.specs.Promise.{waiting, now_of}
use Rattle.tier_laws.proofs.Next.{aged-none, since-none, is-given}
use Rattle.tier_laws.proofs.waits.no_key_is_stuck.Goals as goal

pub returns : goal.returns
returns c = λ s used loaded h call id q p first polls aged none since look other r given right never is at asks key gave.
    let k = stored_key q.entry in
    let now = now_of s loaded (since ++ call ∷ h) in
    let free = since-none s used loaded k since (call ∷ h) right.1 never (aged-none s used loaded h call id q p first polls aged k none) in
    is-given s (used + length (since ++ call ∷ h)) look now other r given right.0 is at asks (ap (λ (j : StoredKey). waiting j now.changes) key ∙ free) gave
