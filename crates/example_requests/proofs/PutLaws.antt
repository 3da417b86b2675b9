-- What a put answers.
use Rattle.std.proofs.Common.{◌≡◌, ◌∙◌, ℕ, List, refl, ap, inl, inr, true, false}
use Rattle.std.specs.Prelude.{Bool, Ok, Err, Result}
use Rattle.cache_words.specs.Key.{Key}
use Rattle.cache_evict.specs.declared.fault.EvictFault.{EvictFault}
use Rattle.cache_evict.specs.declared.fault.EvictFault.TheVariants as evict
use Rattle.cache_heads.specs.declared.meta.CacheMeta.{CacheMeta}
use Rattle.request_store.specs.Admissions.{Rules, Cache}
use Rattle.request_puts.specs.declared.put.whole.ResponseVerdict.{ResponseVerdict}
use Rattle.request_puts.specs.declared.put.whole.ResponseVerdict.TheVariants as whole
use Rattle.request_puts.specs.declared.put.outcome.PutFault.{PutFault}
use Rattle.request_puts.specs.declared.put.outcome.PutFault.TheVariants.{BadHead, ResponseTooLarge, Incomplete, MetaMoment, WriteNumbersSpent, Weight, Length, NumbersSpent, Memory}
use Rattle.request_puts.specs.declared.put.outcome.PutOutcome.{PutOutcome}
use Rattle.request_puts.specs.declared.put.outcome.PutOutcome.TheVariants.{Stored, Uncacheable}
use Rattle.request_puts.specs.Put as put
use Rattle.request_puts.specs.Put.{Puts, IsOutcome, IsTold, IsWriteRefused}
use Rattle.example_requests.specs.Puts.{IsPut}

-- a fault that comes only once a response was read
abbrev is_late : PutFault → Bool
is_late BadHead = false
is_late ResponseTooLarge = false
is_late Incomplete = false
is_late _ = true

told-late : (admitted : Bool) (cause : EvictFault) (fault : PutFault) → IsTold admitted cause fault → is_late fault ≡ true
told-late admitted (evict.Memory v) (Memory done) t = refl
told-late admitted (evict.Weight v) (Weight done) t = refl
told-late admitted (evict.Length v) (Length done) t = refl
told-late admitted (evict.NumbersSpent v) (NumbersSpent done) t = refl
told-late admitted _ _ t = absurd t

module _ {S : Type 0} (rules : Rules S) (key : Key) (gives : ResponseVerdict → Type 0) (old new : Cache S) where
  refused-late : (meta : CacheMeta) (fault : PutFault) → IsWriteRefused rules meta fault old new → is_late fault ≡ true
  refused-late meta WriteNumbersSpent r = refl
  refused-late meta MetaMoment r = refl
  refused-late meta _ r = absurd r

  put-late : (meta : CacheMeta) (body : List ℕ) (fault : PutFault) → put.IsPut rules key meta body (Err fault) old new → is_late fault ≡ true
  put-late meta body fault (inl ran) = ap is_late ran.told.1
  put-late meta body fault (inr (inl refused)) = refused-late meta fault refused
  put-late meta body fault (inr (inr stored)) = told-late _ stored.3.cause fault stored.3.told

  abbrev Answers : Result PutOutcome PutFault → Type 0
  Answers r = IsPut gives (rules.held old.store) r (rules.held new.store)

  when-late : (fault : PutFault) → is_late fault ≡ true → Answers (Err fault)
  when-late BadHead e = absurd cc
  when-late ResponseTooLarge e = absurd cc
  when-late Incomplete e = absurd cc
  when-late _ e = tt

  ok-told : (w : ResponseVerdict) → gives w → (o : PutOutcome) → IsOutcome rules key w (Ok o) old new → Answers (Ok o)
  ok-told (whole.Cacheable meta body) g (Stored size evicted) a = (meta, body, g, a.0)
  ok-told (whole.Cacheable meta body) g (Uncacheable reason) a = absurd a
  ok-told (whole.Uncacheable reason) g (Stored size evicted) a = let e = a.0 in absurd cc
  ok-told (whole.Uncacheable reason) g (Uncacheable other) a = let e = a.0 in let same : other ≡ reason = cc in rw same (g, a.1.store)
  ok-told whole.TooLarge g o a = let e = a.0 in absurd cc
  ok-told whole.Incomplete g o a = let e = a.0 in absurd cc
  ok-told whole.BadHead g o a = let e = a.0 in absurd cc

  err-told : (w : ResponseVerdict) → gives w → (fault : PutFault) → IsOutcome rules key w (Err fault) old new → Answers (Err fault)
  err-told (whole.Cacheable meta body) g fault a = when-late fault (put-late meta body fault a)
  err-told (whole.Uncacheable reason) g fault a = let e = a.0 in absurd cc
  err-told whole.TooLarge g fault a = let e = a.0 in let same : fault ≡ ResponseTooLarge = cc in rw same (g, a.1.store)
  err-told whole.Incomplete g fault a = let e = a.0 in let same : fault ≡ Incomplete = cc in rw same (g, a.1.store)
  err-told whole.BadHead g fault a = let e = a.0 in let same : fault ≡ BadHead = cc in rw same (g, a.1.store)

  -- a put answers by what the response gives
  pub put-told : (r : Result PutOutcome PutFault) → Puts rules key gives r old new → Answers r
  put-told (Err fault) (inl ran) = let e = ran.1 in let same : fault ≡ ran.0 = cc in when-late fault (ap is_late same ∙ ap is_late ran.2.1)
  put-told (Err fault) (inr p) = err-told p.0 p.1 fault p.2
  put-told (Ok o) (inl ran) = let e = ran.1 in absurd cc
  put-told (Ok o) (inr p) = ok-told p.0 p.1 o p.2
