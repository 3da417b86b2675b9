-- One step of an eviction more: its pair, and its two words.
use Rattle.std.proofs.Common.{◌≡◌, ℕ, suc, List, [], ◌∷◌, ◌++◌, Some, ap, ◌∙◌}
use Rattle.std.proofs.lemmas.List.Elements.{All-push}
use Rattle.rand_core.specs.Stream.{Stream, next_u64}
use Rattle.pingora_lru.specs.declared.call.LruCall.TheVariants.{Evict}
use Rattle.pingora_lru.specs.declared.call.Reply.TheVariants.{Taken}
use Rattle.pingora_lru.specs.Draws.{after_steps}
use Rattle.pingora_lru.specs.Records.{IsReply, AreEvicted}

pub evicted_more : {T : Type 0} (xs ys zs : List (T × ℕ)) (x : T × ℕ) → AreEvicted xs → ys ≡ xs → zs ≡ ys ++ x ∷ [] → IsReply Evict (Taken (Some x)) → AreEvicted zs
evicted_more xs ys zs x h e f p = rw (f, e) (All-push (λ pair. IsReply Evict (Taken (Some pair))) xs x h p)

pub step_drawn : (n : ℕ) (s old mid new : Stream) (a b : ℕ) → old ≡ after_steps n s → (a, mid) ≡ next_u64 old → (b, new) ≡ next_u64 mid → new ≡ after_steps (suc n) s
step_drawn n s old mid new a b h f e = ap (λ (p : ℕ × Stream). p.1) e ∙ (ap (λ (m : Stream). (next_u64 m).1) (ap (λ (p : ℕ × Stream). p.1) f) ∙ ap (λ (o : Stream). (next_u64 (next_u64 o).1).1) h)
