use Rattle.std.proofs.Common.{◌≡◌, ℕ, List, ◌∙◌, ap, map, subst}
use Rattle.std.specs.Prelude.{IfOk}
use Rattle.rules_fields.specs.Types.{asked_of, chosen}
use Rattle.rules_response.specs.Reply.{Piece}
use Rattle.rules_ffi.specs.Sets.{sets_of}
use Rattle.gateway_rules.proofs.SecondKeys.{befores_of}
use Rattle.gateway_rules.proofs.varying.keys_by.Goals as goal

pub returns : goal.returns
returns c =
    subst (λ (texts : List (List ℕ)). IfOk c.texts_of.result (λ keys. map (λ k. k.items) keys.items ≡ texts))
    (ap (map (λ (p : Piece). p.before)) c.in_ok-keys.ensures ∙ befores_of (asked_of c.args.request.now) (chosen c.args.options.now) (sets_of c.args.index.now)) c.texts_of.ensures
