-- The options, and what they say.
use Rattle.std.proofs.Common.{◌≡◌, ℕ, List, Option, Some, None, refl}
use Rattle.rules_ffi_arguments.specs.Prepared.{prepared}
use Rattle.rules_ffi_arguments.specs.declared.shapes.OptionNumbers.{OptionNumbers}
use Rattle.gateway_rules.specs.Options.{Options, with_secret, options_in}
use Rattle.gateway_rules.proofs.Told.{of_the_given}

-- their words are prepared
pub record ArePrepared (words secret : List ℕ) (o : Options) : Type 0 where
  pub all : prepared (with_secret words secret) ≡ Some o.words
  pub one : prepared words ≡ Some o.one_words

by_words : (n : OptionNumbers) (words secret : List ℕ) (a b : Option (List ℕ)) → prepared (with_secret words secret) ≡ a → prepared words ≡ b → (o : Options)
    → options_in n words secret ≡ Some o → ArePrepared words secret o
by_words n words secret None b e f o h = absurd (let k = rw e at h in cc)
by_words n words secret (Some all) None e f o h = absurd (let k = rw (e, f) at h in cc)
by_words n words secret (Some all) (Some one) e f o h =
    of_the_given (ArePrepared words secret) (record { numbers = n; words = all; one_words = one }) o (rw (e, f) at h) (record { all = e; one = f })

pub are_prepared : (n : OptionNumbers) (words secret : List ℕ) (o : Options) → options_in n words secret ≡ Some o → ArePrepared words secret o
are_prepared n words secret = by_words n words secret (prepared (with_secret words secret)) (prepared words) refl refl
