use Rattle.std.proofs.Common.{◌<◌, ◌^◌, ◌∙◌, ℕ, sym, subst}
use Rattle.widen.proofs.raising.propose.Goals as goal

pub loop-k-init : goal.loop-k-init
loop-k-init g c = record {
  nodes = sym (c.in_ok-pass.ensures.rises ∙ c.nodes.ensures);
  extra = subst (λ (e : ℕ). e < 2 ^ 62) (sym c.in_ok-pass.ensures.extra) c.requires.extra;
  healed = c.in_ok-pass.ensures.healed c.args.b.now.problem.now;
}
