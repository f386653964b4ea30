use Rattle.std.proofs.Common.{◌≡◌, ◌+◌, length, slice_index_or, set, refl, sym, ap, ◌∙◌, inl, inr, arith, rules, get_or-set_same, get_or-set_other}
use Rattle.std.proofs.lemmas.Bool.{cases_eq}
use Rattle.std.proofs.lemmas.List.{length-set}
use Rattle.trial.specs.Draws.{next_state, drawn, state_after}
use Rattle.trial.specs.Rounds.{offset}
use Rattle.trial.proofs.Drawing.{first_state, state_more, time_begins}
use Rattle.trial.proofs.rounds.Course.begin.Goals as goal

pub loop-host-init : goal.loop-host-init
loop-host-init c = record {
  within = omega arith;
  long = refl;
  state = (let e : c.from.result ≡ c.args.seed = search rules in e ∙ sym (first_state c.args.seed));
  offsets = λ host l. absurd (omega arith);
}

pub loop-host-preserved : goal.loop-host-preserved
loop-host-preserved c =
    let k = c.loop-host.host in
    let s : c.below.new.self.state ≡ state_after c.args.seed (k + 1) = c.below.ensures.state ∙ ap next_state c.loop-host.invariant.state ∙ sym (state_more c.args.seed k) in
    let drew : c.below.result ≡ offset c.args.seed k = c.below.ensures.number ∙ ap (λ x. drawn x 1000000000) s in
    let long : length c.loop-host.offsets ≡ 8 = c.loop-host.invariant.long in
    record {
      within = omega arith;
      long = length-set c.loop-host.offsets k c.below.result ∙ long;
      state = s;
      offsets = λ host l. elim (cases_eq host k) [
        | inl e ↦ ap (λ h. slice_index_or (set c.loop-host.offsets k c.below.result) h 0) e ∙ get_or-set_same c.loop-host.offsets k c.below.result 0 (omega arith) ∙ drew ∙ ap (offset c.args.seed) (sym e)
        | inr n ↦ get_or-set_other c.loop-host.offsets k host c.below.result 0 n ∙ c.loop-host.invariant.offsets host (omega arith)
      ];
    }

pub invariant_of-result : goal.invariant_of-result
invariant_of-result c =
    let e : c.loop-host.host ≡ 8 = omega (arith, c.loop-host.invariant.within) in
    (c.loop-host.invariant.state ∙ ap (state_after c.args.seed) e, sym (time_begins c.args.seed), λ host l. c.loop-host.invariant.offsets host (omega arith))
