use Rattle.std.proofs.Common.{Bool, List, subst}
use Rattle.problem_model.specs.Problem.{IsProblem}
use Rattle.thinning.specs.Thinned.{MayBeKept, marked, renumbered}
use Rattle.thinning.specs.Staying.{AreAsked, Stay}
use Rattle.thinning.specs.Small.{Shrinks}
use Rattle.std.specs.Prelude.{map}
use Rattle.thinning.proofs.Marked.{place_of}
use Rattle.thinning.proofs.Made.{shrinks, is_thinned, has_asked, small_lawful}
use Rattle.thinning.proofs.small.thin.Goals as goal

pub returns : goal.returns
returns c =
    let p = c.args.p.now in
    let places = c.args.asked.now in
    let marks = c.in_ok-marks.marks.items in
    let keeps = c.in_ok-keeps.keeps.items in
    let stays = c.in_ok-stays.stays.items in
    let kept = marked p.messages keeps in
    let events = marked p.events stays in
    let messages = map (renumbered stays) kept in
    let old = place_of stays in
    let lawful : IsProblem p = c.events.ensures.lawful in
    let are : AreAsked p places marks = c.in_ok-marks.ensures in
    let may : MayBeKept p marks keeps = subst (λ (ms : List Bool). MayBeKept p ms keeps) c.deref.ensures.value c.in_ok-keeps.ensures in
    let stay : Stay p marks keeps stays =
    subst (λ (ms : List Bool). Stay p ms keeps stays) c.deref-2.ensures.value (subst (λ (ks : List Bool). Stay p c.deref-2.result.now ks stays) c.deref-3.ensures.value c.in_ok-stays.ensures) in
    let is : Shrinks p 0 kept events messages old = shrinks p lawful places marks keeps stays are may stay in
    record {
      thinned = is_thinned p lawful places marks keeps stays are may stay
          (λ from to h. c.small_ends_are_the_same.ensures.greatest p kept events messages old from to h is)
          (λ from to. c.small_ends_are_the_same.ensures.unbounded p kept events messages old from to is)
          (λ x. c.small_problems_suffice.ensures.fewer p 0 kept events messages old x is)
          (λ x. c.small_problems_suffice.ensures.extended p kept events messages old x is);
      shrinks = (old, is);
      asked = has_asked p lawful places marks keeps stays are may stay;
      problem = small_lawful p lawful places marks keeps stays are may stay;
      fits = record { events = stay.each; messages = may.each; ends = stay.ends };
    }
