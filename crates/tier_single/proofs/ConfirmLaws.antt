-- What a head gives that confirms what a request found.
use Rattle.std.proofs.Common.{◌≡◌, ◌≢◌, ℕ, refl, ap, sym, ◌∙◌, Bool, true, false, subst, cond, Some, None, Option, List}
use Rattle.std.specs.Prelude.{Result, Ok, Err, is_some, option_map, IfSome, MatchOption, unwrap_or}
use Rattle.cache_words.specs.Time.{MomentValue}
use Rattle.head_lines.specs.declared.header.ResponseHeader.{ResponseHeader}
use Rattle.cache_heads.specs.declared.given.GivenMeta.{GivenMeta}
use Rattle.cache_heads.specs.declared.meta.CacheMeta.{CacheMeta}
use Rattle.cache_heads.specs.Merged.{merged}
use Rattle.head_parse.specs.Response.{head_of}
use Rattle.tier_model.specs.declared.event.TierFault.{TierFault}
use Rattle.tier_model.specs.declared.event.TierFault.TheVariants as fault
use Rattle.tier_model.specs.Response.{Judged, kept, not_kept, too_early, not_read, judged, given_unless, renewal_too_early, renewed_by, confirmed_alone}
use Rattle.tier_model.specs.Shelf.{Shelf}
use Rattle.tier_model.specs.State.{Seen, Request}
use Rattle.tier_model.specs.Checks.{can_revalidate}
use Rattle.tier_model.specs.Answers.{seen_meta, is_body_seen}
use Rattle.tier_requests.specs.Faults.{out_of_memory}
use Rattle.tier_requests.specs.Renewals.{IsMerged}
use Rattle.tier_single.specs.declared.put.Renewal.{Renewal}
use Rattle.tier_single.specs.declared.put.Renewal.TheVariants.{Renewed, NotRenewed}
use Rattle.tier_single.specs.Heads.{confirms, IsConfirming, IsVerdictOn}
use Rattle.tier_single.specs.Confirms.{renewal_in, IsConfirmedBy, IsConfirmedFor}
use Rattle.tier_single.specs.Given.{IsRenewedAsGiven}
use Rattle.tier_single.proofs.DatedLaws.{IsDated}
use Rattle.tier_single.proofs.JudgeLaws.{verdict-read}
use Rattle.tier_single.proofs.SeenLaws.{SeesIn}

-- ---- by the meta that was found

renewed_read : (old : CacheMeta) (j : Judged) → j ≢ not_read → renewed_by old j ≢ not_read
renewed_read old (kept meta) read none = absurd cc
renewed_read old (not_kept reason) read none = absurd cc
renewed_read old too_early read none = absurd cc
renewed_read old not_read read none = read refl

module _ (t : MomentValue) (head : List ℕ) (old : CacheMeta) (there : Bool) where
  -- a head that doesn't confirm it
  no_head : (h : Option ResponseHeader) → confirms false h ≡ false → confirmed_alone None t old h ≡ not_read
  no_head None e = refl
  no_head (Some sent) e = ap (λ (v : Bool). cond v (renewed_by old (judged t (merged old.header sent))) not_read) e

  pub confirmed-none : (f : TierFault) → IsConfirming false head (Err f) → IsConfirmedBy None t head old there (Err f)
  confirmed-none fault.BadHead read = (read.0, read.1, no_head (head_of read.0) read.2)
  confirmed-none fault.NotStored is = absurd cc
  confirmed-none fault.BeforeEpoch is = absurd cc
  confirmed-none f is = is

  -- memory ran out
  pub confirmed-memory : (f : TierFault) → f ≡ out_of_memory → IsConfirmedBy None t head old there (Err f)
  confirmed-memory f is = subst (λ (x : TierFault). IsConfirmedBy None t head old there (Err x)) (sym is) refl

  module _ (sent : ResponseHeader) (read : IsConfirming false head (Ok sent)) where
    gives : confirmed_alone None t old (head_of read.0.0) ≡ renewed_by old (judged t (merged old.header sent))
    gives = ap (confirmed_alone None t old) read.0.2 ∙ ap (λ (v : Bool). cond v (renewed_by old (judged t (merged old.header sent))) not_read) read.1

    -- but no body has that meta
    pub confirmed-gone : there ≡ false → IsConfirmedBy None t head old there (Err fault.NotStored)
    confirmed-gone gone = (gone, (read.0.0, read.0.1, λ none. renewed_read old (judged t (merged old.header sent)) (verdict-read t (merged old.header sent)) (sym gives ∙ none)))

    pub confirmed-kept : there ≡ true → (n : Renewal) → judged t (merged old.header sent) ≡ renewal_in n → IsConfirmedBy None t head old there (Ok n)
    confirmed-kept is n judges = (is, (read.0.0, read.0.1, gives ∙ ap (renewed_by old) judges))

    pub confirmed-fault : there ≡ true → (f : TierFault) → IsVerdictOn None t (merged old.header sent) (Err f) → IsConfirmedBy None t head old there (Err f)
    confirmed-fault is fault.BadHead judges = absurd (verdict-read t (merged old.header sent) judges)
    confirmed-fault is fault.NotStored judges = absurd cc
    confirmed-fault is fault.BeforeEpoch judges = (is, (read.0.0, read.0.1, gives ∙ ap (renewed_by old) judges))
    confirmed-fault is f judges = judges

-- ---- with a given meta

module _ (s : GivenMeta) (t : MomentValue) (head : List ℕ) (old : CacheMeta) (there : Bool) where
  abbrev given_judged : ResponseHeader → Judged
  given_judged header = given_unless (renewal_too_early s) s header

  -- a head that doesn't renew it
  no_given : (h : Option ResponseHeader) → confirms true h ≡ false → confirmed_alone (Some s) t old h ≡ not_read
  no_given None e = refl
  no_given (Some header) e = ap (λ (v : Bool). cond v (renewed_by old (given_judged header)) not_read) e

  pub given-none : (f : TierFault) → IsConfirming true head (Err f) → IsConfirmedBy (Some s) t head old there (Err f)
  given-none fault.BadHead read = (read.0, read.1, no_given (head_of read.0) read.2)
  given-none fault.NotStored is = absurd cc
  given-none fault.BeforeEpoch is = absurd cc
  given-none f is = is

  module _ (header : ResponseHeader) (read : IsConfirming true head (Ok header)) where
    given_gives : confirmed_alone (Some s) t old (head_of read.0.0) ≡ renewed_by old (given_judged header)
    given_gives = ap (confirmed_alone (Some s) t old) read.0.2 ∙ ap (λ (v : Bool). cond v (renewed_by old (given_judged header)) not_read) read.1

    given_read : (v : Bool) → given_unless v s header ≢ not_read
    given_read true none = absurd cc
    given_read false none = absurd cc

    -- no body has the meta that was found
    pub given-gone : there ≡ false → IsConfirmedBy (Some s) t head old there (Err fault.NotStored)
    given-gone gone = (gone, (read.0.0, read.0.1, λ none. renewed_read old (given_judged header) (given_read (renewal_too_early s)) (sym given_gives ∙ none)))

    pub given-kept : there ≡ true → (meta : CacheMeta) → given_judged header ≡ kept meta → IsConfirmedBy (Some s) t head old there (Ok (Renewed meta))
    given-kept is meta gives = (is, (read.0.0, read.0.1, given_gives ∙ ap (renewed_by old) gives))

    pub given-fault : there ≡ true → (f : TierFault) → IsRenewedAsGiven s header (Err f) → IsConfirmedBy (Some s) t head old there (Err f)
    given-fault is f early = subst (λ (x : TierFault). IsConfirmedBy (Some s) t head old there (Err x)) (sym early.0) (is, (read.0.0, read.0.1, given_gives ∙ ap (renewed_by old) early.1))

-- ---- by the request

-- whether what a request found may be confirmed, if it is open
abbrev pub may_revalidate : Option Request → Option Bool
may_revalidate o = option_map (λ q. can_revalidate q.phase q.gave_read) o

-- the request that has seen something
pub record HasSeen (o : Option Request) : Type 0 where
  pub q : Request
  pub there : o ≡ Some q
  pub can : can_revalidate q.phase q.gave_read ≡ true
  pub old : CacheMeta
  pub seen : seen_meta q ≡ Some old
  pub dated : IsDated old

pub has-seen : (o : Option Request) → may_revalidate o ≡ Some true → SeesIn o → HasSeen o
has-seen None may sees = absurd cc
has-seen (Some q) may sees = by_seen q.seen refl (sees.sees can) sees.dated
  where
    can : can_revalidate q.phase q.gave_read ≡ true
    can = cc

    by_seen : (x : Option Seen) → q.seen ≡ x → is_some x ≡ true → IfSome x (λ y. IsDated y.meta) → HasSeen (Some q)
    by_seen None is some dated = absurd cc
    by_seen (Some x) is some dated = record { q = q; there = refl; can = can; old = x.meta; seen = ap (option_map (λ (y : Seen). y.meta)) is; dated = dated }

module _ (given : Option GivenMeta) (t : MomentValue) (head : List ℕ) (o : Option Request) (shelf : Shelf) (h : HasSeen o) where
  abbrev pub there : Bool
  there = is_body_seen h.q shelf

  -- what is said of what the request has seen is said of the request
  pub of-request : (r : Result Renewal TierFault) → IsConfirmedBy given t head h.old there r → MatchOption o ⊥ (λ q. IsConfirmedFor given t head q shelf r)
  of-request r is =
      subst (λ (x : Option Request). MatchOption x ⊥ (λ q. IsConfirmedFor given t head q shelf r)) (sym h.there)
      (subst (λ (m : Option CacheMeta). MatchOption m ⊥ (λ old. IsConfirmedBy given t head old there r)) (sym h.seen) is)

  -- and back
  pub of-seen : (r : Result Renewal TierFault) → MatchOption o ⊥ (λ q. IsConfirmedFor given t head q shelf r) → IsConfirmedBy given t head h.old there r
  of-seen r is =
      subst (λ (m : Option CacheMeta). MatchOption m ⊥ (λ old. IsConfirmedBy given t head old there r)) h.seen
      (subst (λ (x : Option Request). MatchOption x ⊥ (λ q. IsConfirmedFor given t head q shelf r)) h.there is)

  pub merged-of : (sent header : ResponseHeader) → MatchOption o ⊥ (λ q. IsMerged q sent header) → header ≡ merged h.old.header sent
  merged-of sent header is =
      subst (λ (m : Option CacheMeta). MatchOption m ⊥ (λ old. header ≡ merged old.header sent)) h.seen
      (subst (λ (x : Option Request). MatchOption x ⊥ (λ q. IsMerged q sent header)) h.there is)

  -- what the requests say of the body is said of the request
  pub found-of : (v w : Bool) → v ≡ w → v ≡ unwrap_or (option_map (λ q. is_body_seen q shelf) o) false → is_body_seen h.q shelf ≡ w
  found-of v w same is = sym (is ∙ ap (λ (x : Option Request). unwrap_or (option_map (λ q. is_body_seen q shelf) x) false) h.there) ∙ same
