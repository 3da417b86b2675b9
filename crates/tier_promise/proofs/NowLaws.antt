-- What explains the words of the promise: a permit waits as the answers say.
use Rattle.std.specs.Prelude.{◌≢◌, ◌↔◌, None}
use Rattle.cache_changes.specs.Changes.{StoredKey}
use Rattle.tier_model.specs.Calls.{History}
use Rattle.tier_model.specs.Histories.{Opening}
use Rattle.tier_model.specs.Locks.{PermitWaits}
use Rattle.tier_model.specs.Past.{state_of, lock_changes_of, IsLawful}
use Rattle.tier_model.proofs.PermitLaws.{Waits-permit}
use Rattle.tier_promise.specs.Promise.{waiting, now_of}
use Rattle.tier_promise.proofs.NowAll.{NowFits-lawful}
use Rattle.tier_promise.proofs.NowStart.{IsLocked-lawful}
use Rattle.tier_promise.proofs.NowWaits.{waits-alike}

pub waiting-splits : (start : Opening) (h : History) → IsLawful start h → (k : StoredKey) → (waiting k (now_of start.settings start.loaded h).changes ≢ None) ↔ PermitWaits k h
waiting-splits start h l k =
    let here = waits-alike start.settings (state_of start h) (lock_changes_of start h) (now_of start.settings start.loaded h) (NowFits-lawful start h l) (IsLocked-lawful start h l) k in
    let there = Waits-permit start h l k in
    (λ some. there.0 (here.0 some), λ waits. here.1 (there.1 waits))
