-- All events have one text of their times.
use Rattle.std.proofs.Common.{◌≡◌, ℕ, List, [], ◌∷◌, ◌++◌, length, codes, sym, ◌∙◌, ap}
use Rattle.std.specs.Prelude.{ℤ}
use Rattle.atto.specs.Decimal.{decimal_of}
use Rattle.line_format.specs.Words.{line_of}
use Rattle.problem_model.specs.declared.items.Node.TheVariants as nodes
use Rattle.problem_model.specs.Problem.{ProblemLists}
use Rattle.problem_model.specs.Bounds.{Times}
use Rattle.intervals.specs.declared.ends.End.{End}
use Rattle.intervals.specs.declared.ends.Ends.{Ends}
use Rattle.intervals.specs.Executions.{time_difference, time_by, AreEndsOf}
use Rattle.intervals.proofs.Times.{one_greatest, one_least}
use Rattle.queries.specs.Replies.{HasReading}
use Rattle.replies.specs.AllTimes.{AreTimesBy, AreEndsSince, ends_lines, IsTimesText}
use Rattle.replies.proofs.Elements.{lists_same}

abbrev with_ends : End → End → Ends
with_ends least greatest = record { least = least; greatest = greatest }

-- a time has one pair of ends
one_pair : (p : ProblemLists) (time : Times → ℤ) (e f : Ends) → AreEndsOf p time e → AreEndsOf p time f → e ≡ f
one_pair p time e f are are' =
    ap (λ (end : End). with_ends end e.greatest) (one_least p time e.least f.least are.below are'.below)
    ∙ ap (with_ends f.least) (one_greatest p time e.greatest f.greatest are.above are'.above)

-- where each event has one pair of ends, all have one text
one_text : (p : ProblemLists) (AreEnds : ℕ → Ends → Type 0) → ((event : ℕ) (e f : Ends) → AreEnds event e → AreEnds event f → e ≡ f) → (a b : List ℕ) →
    IsTimesText p AreEnds a → IsTimesText p AreEnds b → a ≡ b
one_text p AreEnds one a b x y =
    let same : x.all ≡ y.all = lists_same x.all y.all (x.each ∙ sym y.each) (λ k e f at at'. one k e f (x.are k e at) (y.are k f at')) in
    x.is ∙ ap (λ (all : List Ends). line_of (codes "times" ∷ decimal_of (length p.events) ∷ []) ++ ends_lines p.events all) same ∙ sym y.is

pub one_by_clock : (p : ProblemLists) (clock : ℕ) (a b : List ℕ) → HasReading p clock → IsTimesText p (AreTimesBy p clock) a → IsTimesText p (AreTimesBy p clock) b → a ≡ b
one_by_clock p clock a b (stamp, reads) =
    one_text p (AreTimesBy p clock) (λ event e f are are'. one_pair p (time_by clock stamp (nodes.Event event)) e f (are stamp reads) (are' stamp reads)) a b

pub one_since : (p : ProblemLists) (first : ℕ) (a b : List ℕ) → IsTimesText p (AreEndsSince p first) a → IsTimesText p (AreEndsSince p first) b → a ≡ b
one_since p first = one_text p (AreEndsSince p first) (λ event. one_pair p (time_difference (nodes.Event first) (nodes.Event event)))
