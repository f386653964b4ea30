use Rattle.std.proofs.Common.{◌≡◌, ℕ, List, Bool, true, length, slice_get, Some, false, sym, subst, ap, arith}
use Rattle.std.proofs.lemmas.Grind.{common_steps}
use Rattle.thinning.specs.Keeping.{MayGo}
use Rattle.thinning.proofs.LeftOut.{one_mark, may_be_kept}
use Rattle.thinning.proofs.keeping.kept_messages.Goals as goal

pub loop-place-preserved : goal.loop-place-preserved
loop-place-preserved c =
    let p = c.args.p.now in
    let fixed = c.in_ok-proposal.proposal.fixed.items in
    let shared = c.in_ok-shared.shared.items in
    let asked = c.args.asked.now in
    let keeps = c.loop-place.keeps.items in
    let here : length keeps ≡ c.loop-place.place = c.loop-place.invariant.each in
    let goes = λ (yes : c.may_go.result ≡ true). subst (λ (marks : List Bool). MayGo p fixed marks asked c.loop-place.place) c.deref.ensures.value (c.may_go.ensures yes) in
    record {
      each = grind (arith, common_steps, c.in_ok-push.ensures.items, here);
      goes = subst (λ (marks : List Bool). (k : ℕ) → slice_get marks k ≡ Some false → MayGo p fixed shared asked k) (sym c.in_ok-push.ensures.items)
          (one_mark (λ (k : ℕ). MayGo p fixed shared asked k) keeps _ c.loop-place.invariant.goes
          (λ none. subst (λ (k : ℕ). MayGo p fixed shared asked k) (sym here) (goes (grind (arith, common_steps, none)))));
    }

pub returns : goal.returns
returns c =
    let p = c.args.p.now in
    let value = ap length c.messages.ensures.value in
    let every : length c.loop-place.keeps.items ≡ length p.messages = omega (arith, value, c.loop-place.invariant.each, c.loop-place-test.false) in
    may_be_kept p c.in_ok-proposal.proposal.fixed.items c.in_ok-shared.shared.items c.args.asked.now c.loop-place.keeps.items every c.in_ok-proposal.ensures c.in_ok-shared.ensures c.loop-place.invariant.goes
