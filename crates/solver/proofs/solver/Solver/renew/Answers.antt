use Rattle.std.proofs.Common.{◌≡◌, true, refl, sym, ap, subst}
use Rattle.sync_graph.specs.InForce.{IsEarliestOf}
use Rattle.distances.specs.Searched.{Searched}
use Rattle.repair.specs.Slots.{KeptRows, AreNodes, AreRowsOf}
use Rattle.solver.specs.Solver.{SolverLists}
use Rattle.solver.specs.Changes.{KeepsSlots}
use Rattle.solver.specs.Current.{IsSetUp, IsCurrent}
use Rattle.solver.specs.contracts.solver.Solver.{the_view}
use Rattle.solver.proofs.Searching.{can_by, renewed}
use Rattle.solver.proofs.KeptSlots.{keeps_slots}
use Rattle.solver.proofs.solver.Solver.renew.Goals as goal

pub refresh-requires-clause-nodes : goal.refresh-requires-clause-nodes
refresh-requires-clause-nodes g c =
    let s : SolverLists = the_view c.self.inside in
    let set_up : IsSetUp s = subst IsSetUp (sym c.self.view_is) c.requires.set_up in
    subst (λ (r : Searched). AreNodes r.graph s.kept) (sym c.new-search.ensures) set_up.nodes

pub refresh-requires-clause-can : goal.refresh-requires-clause-can
refresh-requires-clause-can g c =
    let s : SolverLists = the_view c.self.inside in
    let set_up : IsSetUp s = subst IsSetUp (sym c.self.view_is) c.requires.set_up in
    can_by s c.new-search.result c.new-search.ensures set_up.room s.pool s.front refl refl

pub returns-clause-slots : goal.returns-clause-slots
returns-clause-slots g c =
    let s : SolverLists = the_view c.self.inside in
    let set_up : IsSetUp s = subst IsSetUp (sym c.self.view_is) c.requires.set_up in
    let solved : s.earliest.is_solved ≡ true = subst (λ (x : SolverLists). x.earliest.is_solved ≡ true) (sym c.self.view_is) c.requires.solved in
    let earliest : IsEarliestOf s.graph s.earliest.values = subst (λ (x : SolverLists). IsEarliestOf x.graph x.earliest.values) (sym c.self.view_is) c.requires.earliest in
    let new : SolverLists = record { graph = s.graph; earliest = s.earliest; contradiction = c.clear.new.self.items; pool = c.refresh.new.pool; kept = c.refresh.new.self; front = c.refresh.new.queue } in
    let current : IsCurrent new = renewed s set_up s.earliest c.clear.new.self.items c.refresh.new.pool c.refresh.new.self c.refresh.new.queue set_up.one_each solved earliest c.clear.ensures.items c.refresh.ensures.slots c.refresh.ensures.own
    (subst (λ (r : Searched). AreRowsOf r.graph c.refresh.new.self c.refresh.new.pool) c.new-search.ensures c.refresh.ensures.rows) c.refresh.ensures.others c.refresh.ensures.queue in
    subst (λ (x : SolverLists). KeepsSlots x new) c.self.view_is
    (keeps_slots s new
    (ap (λ (k : KeptRows). k.slots) c.refresh.ensures.slots) (ap (λ (k : KeptRows). k.source) c.refresh.ensures.slots) (ap (λ (k : KeptRows). k.room) c.refresh.ensures.slots)
    c.refresh.ensures.queue c.refresh.ensures.others current)
