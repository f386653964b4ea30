use Rattle.std.proofs.Common.{◌≡◌, ◌<◌, ◌^◌, ◌++◌, ◌∷◌, [], ℕ, List, length, take, drop, ◌∙◌, ap, sym, subst, rules}
use Rattle.std.proofs.Math.Seq.{take-append_seam}
use Rattle.problem_model.specs.Problem.{ProblemLists}
use Rattle.problem_model.specs.ChainNumbers.{with_follow}
use Rattle.problem.specs.declared.chains.Link.{Link}
use Rattle.problem.specs.Inside.{AreLinks}
use Rattle.problem.proofs.Growing.{items_follow}
use Rattle.problem.proofs.items.Items.add_follow.Goals as goal

pub invariant_of-self-2 : goal.invariant_of-self-2
invariant_of-self-2 c =
    let i = c.self.inside in
    let p : ProblemLists = record { clocks = i.clocks.items; follows = i.follows.items; events = i.events.items; messages = i.messages.items } in
    let fits : c.args.f.gap < 2 ^ 62 = search rules in
    let new = rw (← c.self.view_is) at c.requires.new in
    let grown = c.push_reserved.ensures.items ∙ ap (λ xs. xs ++ c.args.f ∷ []) c.reserve.ensures.items in
    let before = subst (λ (ls : List Link). AreLinks p ls) (sym c.deref_mut.ensures.value) c.self.invariant.links_are in
    let links = c.join.ensures p c.self.invariant.lawful before new in
    let back : List Link = drop (length c.join.new.links) i.links.items in
    let count : i.links.len ≡ length c.join.new.links = search rules in
    let whole = ap (λ (n : ℕ). take n (c.join.new.links ++ back)) count ∙ take-append_seam c.join.new.links back in
    items_follow p _ _ _ _ _ _ c.args.f c.self.invariant fits new grown (subst (λ (ls : List Link). AreLinks (with_follow p c.args.f) ls) (sym whole) links)
