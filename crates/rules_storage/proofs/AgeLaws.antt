-- The age by `earlier` and the age by RFC 9111, 4.2.3, over plain numbers.
use Rattle.std.proofs.Common.{◌≡◌, ℕ, ◌-◌, ◌*◌, Bool, true, false, cond, arith}
use Rattle.std.specs.Prelude.{ℤ, pos, ◌+ℤ◌, ◌-ℤ◌, ◌*ℤ◌, ◌<ℤ◌, int_lt}
use Rattle.std.specs.Int.{int_max}
use Rattle.std.proofs.lemmas.Int.{ints, clamps}
use Rattle.rules_storage.specs.Ages.{second, earlier, by_age}

pub age_law : (r d age asked came now : ℕ) → pos now -ℤ earlier (r - d) age asked came ≡ (int_max (int_max (pos 0) ((pos r -ℤ pos d) *ℤ pos second)) (pos (age * second) +ℤ (pos came -ℤ pos asked)) +ℤ (pos now -ℤ pos came))
age_law r d age asked came now = omega (arith, ints, clamps)

-- by Date and Age, or by Age alone
pub age_law_by : (t : Bool) (r d age asked came now : ℕ) → pos now -ℤ cond t (earlier (r - d) age asked came) (by_age age asked)
    ≡ (cond t (int_max (int_max (pos 0) ((pos r -ℤ pos d) *ℤ pos second)) (pos (age * second) +ℤ (pos came -ℤ pos asked))) (pos (age * second) +ℤ (pos came -ℤ pos asked)) +ℤ (pos now -ℤ pos came))
age_law_by true r d age asked came now = age_law r d age asked came now
age_law_by false r d age asked came now = omega (arith, ints)

pub below : (a b c : ℤ) → a ≡ c → int_lt a b ≡ true → c <ℤ b
below a b c e h = grind (arith, ints)
