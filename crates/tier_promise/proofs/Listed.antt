-- The entries that went, as far as a call came, are those that its outcome lists.
use Rattle.std.proofs.Common.{◌≡◌, ℕ, refl, ap, true, false, cond, [], ◌∷◌}
use Rattle.std.specs.Prelude.{Bool, List, Ok, Err}
use Rattle.cache_entries.specs.declared.entry.CacheEntryKey.{CacheEntryKey}
use Rattle.tier_model.specs.declared.event.Answer.{Answer}
use Rattle.tier_model.specs.declared.event.Answer.TheVariants as answer
use Rattle.tier_model.specs.declared.event.TierFault.{TierFault}
use Rattle.tier_model.specs.declared.event.TierFault.TheVariants as fault
use Rattle.tier_model.specs.Answers.{stored_alone, all_done}
use Rattle.tier_model.specs.Calls.{Outcome, done_of, evicted_by, evicted_before}
use Rattle.tier_model.specs.State.{Settings}
use Rattle.tier_promise.specs.Promise.{Changes, HowFar, cut, kept_out, far_of, gone_by, told_so, ComesSo, a_body, a_renewal, rows}
use Rattle.tier_promise.proofs.NowRows.{keeps_out-done}

gone-ok : (a : Answer) → evicted_by (Ok a) ≡ gone_by (far_of (Ok a))
gone-ok (answer.Finished told es) = refl
gone-ok (answer.Revalidated es) = refl
gone-ok _ = refl

gone-short : (f : TierFault) (es : List CacheEntryKey) → ◌≡◌ {A = Outcome} (Err f) (Err (fault.Memory (all_done es))) → evicted_before (done_of f) ≡ es
gone-short f es e = let same : f ≡ fault.Memory (all_done es) = cc in ap (λ (y : TierFault). evicted_before (done_of y)) same

pub gone-told : (x : Settings) (e : CacheEntryKey) (w : ℕ) (c : Changes) (whole_answer : List CacheEntryKey → Answer) (o : Outcome) → o ≡ told_so whole_answer (far_of o) → ComesSo x (a_body e w) (far_of o) c → evicted_by o ≡ gone_by (far_of o)
gone-told x e w c whole_answer (Ok a) says so = gone-ok a
gone-told x e w c whole_answer (Err f) says so = by_done (done_of f).admitted says so
  where
    by_done : (v : Bool) → Err f ≡ told_so whole_answer (cond v (cut (done_of f).evicted) (kept_out f)) → ComesSo x (a_body e w) (cond v (cut (done_of f).evicted) (kept_out f)) c
        → evicted_before (done_of f) ≡ gone_by (cond v (cut (done_of f).evicted) (kept_out f))
    by_done true says so = gone-short f (done_of f).evicted says
    by_done false says so = ap evicted_before (keeps_out-done x e w stored_alone f (rows c) so)

pub gone-renewed : (x : Settings) (e : CacheEntryKey) (w : ℕ) (c : Changes) (whole_answer : List CacheEntryKey → Answer) (o : Outcome) → o ≡ told_so whole_answer (far_of o) → ComesSo x (a_renewal e w) (far_of o) c → evicted_by o ≡ gone_by (far_of o)
gone-renewed x e w c whole_answer (Ok a) says so = gone-ok a
gone-renewed x e w c whole_answer (Err f) says so = by_done (done_of f).admitted says so
  where
    by_done : (v : Bool) → Err f ≡ told_so whole_answer (cond v (cut (done_of f).evicted) (kept_out f)) → ComesSo x (a_renewal e w) (cond v (cut (done_of f).evicted) (kept_out f)) c
        → evicted_before (done_of f) ≡ gone_by (cond v (cut (done_of f).evicted) (kept_out f))
    by_done true says so = gone-short f (done_of f).evicted says
    by_done false says so = absurd so
