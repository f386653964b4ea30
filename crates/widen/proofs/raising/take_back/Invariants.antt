use Rattle.std.proofs.Common.{◌≡◌, vec_len}
use Rattle.widen.proofs.raising.take_back.Given as goal

abbrev pub invariant-loop-rise : goal.invariant-loop-rise
invariant-loop-rise l = record {
  extra : l.pass.extra ≡ l.initial.pass.extra;
  rises : l.pass.rises ≡ l.initial.pass.rises;
  healed : l.pass.healed ≡ l.initial.pass.healed;
}

abbrev pub decreases-loop-rise : goal.decreases-loop-rise
decreases-loop-rise l = vec_len l.pass.given
