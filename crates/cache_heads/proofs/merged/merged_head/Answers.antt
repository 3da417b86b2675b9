use Rattle.std.proofs.Common.{rules, inl, inr}
use Rattle.cache_heads.proofs.MergeLaws.{passes-as}
use Rattle.cache_heads.proofs.merged.merged_head.Goals as goal

pub returns-in_err-put_values-3-clause-full : goal.returns-in_err-put_values-3-clause-full
returns-in_err-put_values-3-clause-full c e = inr (inr (inl (search rules)))

pub returns-in_err-put_values-4-clause-full : goal.returns-in_err-put_values-4-clause-full
returns-in_err-put_values-4-clause-full c e =
    inr (inr (inr (inl (passes-as _ _ c.put_values-3.new.headers _ (search rules) (c.in_err-put_values-4.ensures.full (search rules))))))

pub returns-in_err-put_values-5-clause-full : goal.returns-in_err-put_values-5-clause-full
returns-in_err-put_values-5-clause-full c e =
    inr (inr (inr (inr (inl (passes-as _ _ c.put_values-4.new.headers _ (search rules) (c.in_err-put_values-5.ensures.full (search rules)))))))
