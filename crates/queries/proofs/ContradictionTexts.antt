-- The certificate of a contradiction that is held shows it.
use Rattle.std.proofs.Common.{◌≡◌, List, subst}
use Rattle.std.specs.Prelude.{All}
use Rattle.problem_model.specs.Problem.{ProblemLists}
use Rattle.problem_model.specs.Nodes.{nodes_of}
use Rattle.sync_graph.specs.declared.arc.Arc.{Arc}
use Rattle.cert.specs.declared.certificate.Cert.TheVariants.{Cycle}
use Rattle.cert.specs.CertificateText.{certificate_text}
use Rattle.cert.specs.Listed.{HasNames, listed_cycle}
use Rattle.problem.specs.Listing.{Listed, all_readings}
use Rattle.solver.specs.Solver.{SolverLists}
use Rattle.queries.specs.Contradiction.{weighed_steps, HasContradictionBy}
use Rattle.queries.specs.Replies.{IsContradictionText}
use Rattle.problem.proofs.OwnReadings.{own_readings}

module _ (l : Listed) (p : ProblemLists) (s : SolverLists) (cycle : List Arc) (is : s.contradiction ≡ cycle) (has : HasContradictionBy l p s.contradiction) where
  pub cycle_named : All (λ (a : Arc). HasNames l a.name) cycle
  cycle_named = subst (λ (arcs : List Arc). All (λ (a : Arc). HasNames l a.name) arcs) is has.named

  pub cycle_shows : listed_cycle l (weighed_steps s.contradiction) ≡ certificate_text p (nodes_of p (all_readings p.events)) (Cycle has.steps)
      → IsContradictionText p (listed_cycle l (weighed_steps cycle))
  cycle_shows written = subst (λ (arcs : List Arc). IsContradictionText p (listed_cycle l (weighed_steps arcs))) is (
    has.steps,
    all_readings p.events,
    has.no_execution,
    has.contradiction,
    own_readings p,
    has.short (all_readings p.events) (own_readings p),
    written,
  )
