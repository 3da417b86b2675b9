-- Exchanges that are agreed with the tier.
use Rattle.std.proofs.Common.{◌≡◌, ℕ, refl, ap, sym, ◌∙◌, true, false, Bool, ◌==◌}
use Rattle.std.specs.Prelude.{None, Some}
use Rattle.std.proofs.lemmas.Bool.{eqb-true}
use Rattle.gateway_exchanges.specs.declared.exchange.Exchange.{Exchange}
use Rattle.gateway_state.specs.declared.state.Gateway.{Gateway}
use Rattle.gateway_exchanges.specs.Tables.{Exchanges, exchange_at}
use Rattle.gateway_state.specs.Openings.{is_open_at, KeepsOthersOpen, IsAgreed}

pub agreed : (old new : Gateway) (e left : Exchange) → left.x ≡ e.x → new.table ≡ old.table → exchange_at e.x old.table ≡ None → KeepsOthersOpen e.x old new
    → left.steps.state.tier.held ≡ is_open_at left.x new → IsAgreed old e → IsAgreed new left
agreed old new e left same table out keeps own was = record {
  own = own;
  others = λ x other there. at x other (ap (λ (t : Exchanges). exchange_at x t) (sym table) ∙ there) (e.x == x) refl;
}
  where
    at : (x : ℕ) (other : Exchange) → exchange_at x old.table ≡ Some other → (t : Bool) → (e.x == x) ≡ t → other.steps.state.tier.held ≡ is_open_at x new
    at x other there true is = absurd (let never : None ≡ Some other = sym out ∙ ap (λ n. exchange_at n old.table) (eqb-true e.x x is) ∙ there in cc)
    at x other there false is = was.others x other there ∙ sym (keeps x is)
