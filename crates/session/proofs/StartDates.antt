-- The date of an event, by the source's reading or by its own stamp.
use Rattle.std.proofs.Common.{◌≡◌, inl, inr, ℕ, ◌*◌, [], Option, Some, None, ℤ, pos}
use Rattle.problem_model.specs.declared.items.Node.TheVariants as nodes
use Rattle.problem_model.specs.Problem.{ProblemLists}
use Rattle.problem.specs.Listing.{Listed}
use Rattle.problem_graph.specs.ListedStanding.{IsEventAt}
use Rattle.intervals.specs.declared.ends.End.{End}
use Rattle.intervals.specs.Executions.{IsLeastEnd, time_by}
use Rattle.solver.specs.Solver.{SolverLists}
use Rattle.solver.specs.Solution.{IsSolutionBy}
use Rattle.queries.specs.Asking.{IsAskedTime, IsSourceReading}
use Rattle.queries.proofs.Solutions.{reading_is}
use Rattle.session_answers.specs.Ready.{KeepsSource}
use Rattle.session.specs.Dates.{IsDateOf, end_or}

module _ (l : Listed) (s : SolverLists) where
  -- where the source has a reading, it may be asked
  pub asked_time : (p : ProblemLists) (declared : Option ℕ) (place stamp node : ℕ) → s.contradiction ≡ [] → IsSolutionBy l p s → KeepsSource l p declared (Some stamp) s → IsEventAt l place node → IsAskedTime l s stamp node
  asked_time p None place stamp node none solution keeps at = absurd (let no : Some stamp ≡ None = keeps.0 in cc)
  asked_time p (Some clock) place stamp node none solution keeps at = record { problem = p; solution = solution; none = none; clock = clock; source = keeps; place = place; at = at }

  module _ (p : ProblemLists) (declared : Option ℕ) (place : ℕ) where
    pub date_known : (stamp own : ℕ) (date : ℤ) → IsSolutionBy l p s → KeepsSource l p declared (Some stamp) s
        → ((clock : ℕ) → IsSourceReading l s clock stamp → (least : End) × IsLeastEnd p (time_by clock stamp (nodes.Event place)) least × (date ≡ end_or own least)) → IsDateOf p declared place own date
    date_known stamp own date solution keeps found = by declared keeps
      where
        by : (source : Option ℕ) → KeepsSource l p source (Some stamp) s → IsDateOf p source place own date
        by None none = absurd (let no : Some stamp ≡ None = none.0 in cc)
        by (Some clock) source = let f = found clock source in inl (stamp, f.0, reading_is l p s solution clock stamp source.0.node source.2, f.1, f.2)

    pub date_own : (own : ℕ) (date : ℤ) → KeepsSource l p declared None s → date ≡ pos (own * 1000000000) → IsDateOf p declared place own date
    date_own own date keeps is = by declared keeps
      where
        by : (source : Option ℕ) → KeepsSource l p source None s → IsDateOf p source place own date
        by None none = is
        by (Some clock) none = inr (none.0, is)
