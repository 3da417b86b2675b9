use Rattle.std.proofs.Common.{◌∙◌, refl, ap₂, get_or, Bool, Option, ℕ}
use Rattle.curve_sizes.specs.Numbers.{rows_after, is_found}
use Rattle.curve_sizes.specs.Rows.{limits_of}
use Rattle.curve_sizes.proofs.EntryLaws.{own-kept}
use Rattle.curve_sizes.proofs.Feeding.{asked-fed, first-held}
use Rattle.curve_sizes.proofs.curve.SizeCurve.ask.Goals as goal

pub returns-in-Ok-clause-fed : goal.returns-in-Ok-clause-fed
returns-in-Ok-clause-fed c = λ requests when.
    let o = rw c.as_slice.ensures.value at c.own_weight-own.ensures in
    asked-fed _ _ _ _ c.own_weight-own.result when (record {
      whole = refl;
      within = c.requires;
      old = c.in-Ok.ensures.old;
      new = c.in-Ok.ensures.first;
      own_is = o ∙ own-kept _ _ c.args.entry c.args.weight c.in-Ok.ensures.old c.in-Ok.ensures.first c.requires;
      table = c.count-first.ensures.rows ∙ ap₂ (λ (h : Option ℕ) (b : Bool). rows_after h b c.own_weight-own.result c.args.self.now.table) c.height-height.ensures c.is_past_mark-is_past.ensures;
      places = c.in_ok-ask.ensures.ok;
      none = c.in-Ok.ensures.none;
      some = c.in-Ok.ensures.some;
      asks_are = c.add_ask.ensures.asks;
      removed_are = c.add_ask.ensures.removed;
      odd_are = c.add_ask.ensures.odd;
      bytes_are = c.add_ask.ensures.bytes;
      said_are = c.add_ask.ensures.said;
    }) requests

pub returns-in-Ok-clause-first : goal.returns-in-Ok-clause-first
returns-in-Ok-clause-first c = first-held c.args.self.now c.args.entry c.count-first.result (λ k l.
    c.count-first.ensures.first k l
    ∙ ap₂ (λ (h : Option ℕ) (b : Bool). is_found h b (get_or (limits_of c.args.self.now.table) k 0)) c.height-height.ensures c.is_past_mark-is_past.ensures)
