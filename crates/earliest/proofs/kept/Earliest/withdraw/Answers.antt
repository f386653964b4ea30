use Rattle.std.proofs.Common.{◌≡◌, ◌∙◌, ap, subst, slice_get, drop, length, List, ℕ, ℤ, rules}
use Rattle.problem_model.specs.Executions.{at}
use Rattle.earliest.specs.Values.{Values}
use Rattle.earliest.specs.Withdrawn.{IsAffectedBy}
use Rattle.earliest.proofs.Lent.{whole_again}
use Rattle.earliest.proofs.kept.Earliest.withdraw.Goals as goal

pub returns-clause-steps : goal.returns-clause-steps
returns-clause-steps g c = λ affected cover.
    c.withdraw_arcs.ensures.steps affected (λ k a. cover k (subst (λ (xs : List ℤ). IsAffectedBy c.args.g.now c.args.removed.now xs k)
    (c.deref_mut.ensures.value ∙ ap (λ (v : Values). v.values) c.self.view_is) a))

pub returns-clause-places : goal.returns-clause-places
returns-clause-places g c = λ affected cover i l.
    let len : c.self.inside.parents.len ≡ length c.withdraw_arcs.new.found = search rules in
    ap (λ (ls : List ℕ). slice_get ls i) (whole_again c.self.inside.parents.len c.withdraw_arcs.new.found (drop (length c.withdraw_arcs.new.found) c.self.inside.parents.items) len)
    ∙ c.withdraw_arcs.ensures.places affected (λ k a. cover k (subst (λ (xs : List ℤ). IsAffectedBy c.args.g.now c.args.removed.now xs k)
    (c.deref_mut.ensures.value ∙ ap (λ (v : Values). v.values) c.self.view_is) a)) i l
    ∙ ap (λ (ls : List ℕ). slice_get ls i) (c.deref_mut-2.ensures.value ∙ ap (λ (v : Values). v.workspace) c.self.view_is)

pub returns-clause-others : goal.returns-clause-others
returns-clause-others g c = λ affected cover k free.
    let len : c.self.inside.values.len ≡ length c.withdraw_arcs.new.values = search rules in
    ap (λ (xs : List ℤ). at xs k) (whole_again c.self.inside.values.len c.withdraw_arcs.new.values (drop (length c.withdraw_arcs.new.values) c.self.inside.values.items) len)
    ∙ c.withdraw_arcs.ensures.others affected (λ i a. cover i (subst (λ (xs : List ℤ). IsAffectedBy c.args.g.now c.args.removed.now xs i)
    (c.deref_mut.ensures.value ∙ ap (λ (v : Values). v.values) c.self.view_is) a)) k free
    ∙ ap (λ (xs : List ℤ). at xs k) (c.deref_mut.ensures.value ∙ ap (λ (v : Values). v.values) c.self.view_is)
