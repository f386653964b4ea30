use Rattle.std.proofs.Common.{◌≡◌, ◌<◌, ◌∙◌, length, get_or, false, true, sym, subst}
use Rattle.std.proofs.lemmas.List.{length-set, get_or_default}
use Rattle.problem_solver.specs.Turns.{Turns}
use Rattle.problem_solver.proofs.Counting.{same_turns, left_same}
use Rattle.problem_solver.proofs.queue.Queue.push.Goals as goal

pub returns : goal.returns
returns c =
    let i = c.self.inside in
    let event = c.args.event in
    let inside : event < length i.queued.items = subst (λ (t : Turns). event < t.all) (sym c.self.view_is) c.requires in
    let is : get_or i.queued.items event false ≡ false = get_or_default i.queued.items event false c.index.result.now inside ∙ sym c.index.ensures ∙ c.if-index.false in
    same_turns _ _ _ _ (length-set i.queued.items event true)
    (rw (c.put.ensures) (left_same i.times i.ready i.queued.items i.waiting.items c.self.invariant event _ inside is))
    ∙ c.self.view_is
