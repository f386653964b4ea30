use Rattle.std.proofs.Common.{◌<◌, ◌^◌, ℕ, ap, subst}
use Rattle.merged_blocks.specs.declared.taps.Tap.{Tap}
use Rattle.merged_blocks.proofs.dates.has_stamp.Goals as goal

pub returns-clause-fields : goal.returns-clause-fields
returns-clause-fields c = record {
  number = subst (λ (n : ℕ). n < 2 ^ 32) c.number.ensures.is c.number.ensures.small;
  stamp = subst (λ (n : ℕ). n < 2 ^ 62) c.own_stamp.ensures.is c.own_stamp.ensures.small;
  link = subst (λ (n : ℕ). n < 65536) (ap (λ (t : Tap). t.link) c.tap_of.ensures.is) c.tap_of.ensures.link;
  original = subst (λ (n : ℕ). n < 2 ^ 32) c.original_length.ensures.is c.original_length.ensures.small;
}
