-- The whole promise holds after each lawful history.
use Rattle.tier_model.specs.Calls.{History}
use Rattle.tier_model.specs.Histories.{Opening}
use Rattle.tier_model.specs.Past.{IsLawful}
use Rattle.tier_promise.specs.Promise.{now_of, Promise}
use Rattle.tier_promise.proofs.NowAll.{used_by, AreRight-lawful}
use Rattle.tier_promise.proofs.NowAlive.{found-alive}
use Rattle.tier_promise.proofs.NowCalls.{keeps-all}
use Rattle.tier_promise.proofs.NowWithin.{within-lawful}

pub Promise-lawful : (start : Opening) (h : History) → IsLawful start h → Promise start.settings (used_by start) start.loaded h
Promise-lawful start h l = record {
  answers = AreRight-lawful start h l;
  found = λ k. found-alive k (now_of start.settings start.loaded h).changes (keeps-all start.settings (used_by start) start.loaded h (AreRight-lawful start h l)).order;
  within = within-lawful start h l;
  tracked = (keeps-all start.settings (used_by start) start.loaded h (AreRight-lawful start h l)).tracks;
}
