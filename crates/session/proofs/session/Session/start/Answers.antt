use Rattle.std.proofs.Common.{◌≡◌, ◌∙◌, List, true, sym, ap, subst}
use Rattle.problem_model.specs.Problem.{ProblemLists}
use Rattle.problem.specs.Listing.{all_readings}
use Rattle.problem.proofs.OwnReadings.{own_readings}
use Rattle.decl.specs.Declaration.{Declaration}
use Rattle.mergecap.specs.Packets.{shift_of}
use Rattle.traces.specs.Seen.{Seen}
use Rattle.traces.specs.Held.{seen_in}
use Rattle.traces.specs.Messages.{problem_of_seen}
use Rattle.queries.specs.Consistent.{IsConsistent}
use Rattle.roster.specs.Roster.{listed}
use Rattle.session_answers.specs.Ready.{answers_problem, declared}
use Rattle.session.specs.Dates.{AreDatedBy}
use Rattle.session.specs.Stands.{Held, problem_held, seen_held}
use Rattle.session.proofs.Holding.{seen_accepted}
use Rattle.session.proofs.Settles.{none_held}
use Rattle.session.proofs.Standby.{ready_of}
use Rattle.session.proofs.session.Session.start.Goals as goal

pub start_of-requires-clause-current : goal.start_of-requires-clause-current
start_of-requires-clause-current c =
    let a = c.self.inside.answers in
    let ready : c.self.inside.ready ≡ true = ready_of c.args.self.now c.self.inside.ready a (ap (λ (h : Held). h.answers) c.self.view_is) c.requires.ready in
    (c.self.invariant.2 ready).graph.solution.current

pub start_of-requires-clause-none : goal.start_of-requires-clause-none
start_of-requires-clause-none c =
    let a = c.self.inside.answers in
    let p = answers_problem a (seen_in c.self.inside.accepted.items) in
    let same : problem_held c.args.self.now ≡ p = ap problem_held (sym c.self.view_is) ∙ ap (λ (x : List (List Seen)). problem_of_seen (declared a) x) (seen_accepted c.self.inside.accepted.items) in
    let ready : c.self.inside.ready ≡ true = ready_of c.args.self.now c.self.inside.ready a (ap (λ (h : Held). h.answers) c.self.view_is) c.requires.ready in
    let are = c.self.invariant.2 ready in
    none_held a.graph.solver.contradiction (listed a.graph.roster) p (subst (λ (q : ProblemLists). IsConsistent q true) same c.requires.consistent)
    (c.contradictions.ensures.held (listed a.graph.roster) p (all_readings p.events) a.graph.solver (own_readings p) are.graph.solution)

pub start_of-requires-clause-nodes : goal.start_of-requires-clause-nodes
start_of-requires-clause-nodes c =
    let a = c.self.inside.answers in
    let ready : c.self.inside.ready ≡ true = ready_of c.args.self.now c.self.inside.ready a (ap (λ (h : Held). h.answers) c.self.view_is) c.requires.ready in
    (c.self.invariant.2 ready).graph.grown.knows

pub start_of-requires-clause-asked : goal.start_of-requires-clause-asked
start_of-requires-clause-asked c =
    let a = c.self.inside.answers in
    let ready : c.self.inside.ready ≡ true = ready_of c.args.self.now c.self.inside.ready a (ap (λ (h : Held). h.answers) c.self.view_is) c.requires.ready in
    let are = c.self.invariant.2 ready in
    (seen_in c.self.inside.accepted.items, record { holds = are.graph.holds; solution = are.graph.solution; source = are.source_slot })

pub returns-clause-dated : goal.returns-clause-dated
returns-clause-dated c =
    let a = c.self.inside.answers in
    let seen = seen_in c.self.inside.accepted.items in
    let ready : c.self.inside.ready ≡ true = ready_of c.args.self.now c.self.inside.ready a (ap (λ (h : Held). h.answers) c.self.view_is) c.requires.ready in
    let are = c.self.invariant.2 ready in
    let held : seen_held c.args.self.now.under ≡ seen = ap (λ (h : Held). seen_held h.under) (sym c.self.view_is) ∙ seen_accepted c.self.inside.accepted.items in
    let shift = shift_of c.start_of.result in
    let done : AreDatedBy (declared a) seen shift = c.start_of.ensures.dated seen (record { holds = are.graph.holds; solution = are.graph.solution; source = are.source_slot }) in
    subst (λ (x : List (List Seen)). AreDatedBy c.args.self.now.declaration x shift) (sym held) (subst (λ (d : Declaration). AreDatedBy d seen shift) (ap (λ (h : Held). h.declaration) c.self.view_is) done)
