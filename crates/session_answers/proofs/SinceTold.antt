-- The ends that rows tell of nodes are those of the real times to their events, and they are small.
use Rattle.std.proofs.Common.{◌≡◌, ℕ, ◌^◌, List, [], ◌∷◌, length, map, get_or, slice_get, Some, All, Result, refl, sym, ◌∙◌, ap, subst, arith}
use Rattle.std.specs.Prelude.{ℤ, pos, neg_ℤ, ◌<ℤ◌, IfOk}
use Rattle.std.proofs.lemmas.Int.{ints}
use Rattle.std.proofs.lemmas.List.{length-map}
use Rattle.std.proofs.lemmas.List.Elements.{All-map}
use Rattle.problem_model.specs.Problem.{ProblemLists}
use Rattle.problem.specs.Listing.{Listed}
use Rattle.problem_graph.specs.ListedStanding.{IsEventAt}
use Rattle.row_pool.specs.declared.cell.Cell.{Cell}
use Rattle.row_pool.specs.declared.cell.Reach.{Reach}
use Rattle.row_pool.specs.declared.cell.Reach.TheVariants as reaches
use Rattle.row_pool.specs.declared.cell.Pair.{Pair}
use Rattle.intervals.specs.declared.ends.Ends.{Ends}
use Rattle.intervals.specs.Ends.{FitsEnd, FitsEnds, FitsPair, FitsReach, ends_of, greatest_end, least_end}
use Rattle.solver.specs.Solver.{SolverLists}
use Rattle.solver.specs.Solution.{IsSolutionBy}
use Rattle.attain.specs.Ends.{AreRowsAt}
use Rattle.replies.specs.AllTimes.{AreEndsSince}
use Rattle.replies.proofs.Elements.{some_same}
use Rattle.session_answers.specs.Quantities.{TellsSince, pair_by}
use Rattle.session_answers.specs.SinceAsking.{AreSinceAt, AsksSince}
use Rattle.session_answers.proofs.TimesTold.{mapped_at, since_tells, since_told}

-- ---- sizes
turned : (n : ℕ) (h : ℤ) → neg_ℤ (pos n) <ℤ h → h <ℤ pos n → (neg_ℤ (pos n) <ℤ neg_ℤ h) × (neg_ℤ h <ℤ pos n)
turned n h low high = (omega (arith, ints, high), omega (arith, ints, low))

least_fits : (r : Reach) → FitsReach r → FitsEnd (least_end r)
least_fits (reaches.At h) fits = turned (2 ^ 120) h fits.0 fits.1
least_fits reaches.Never fits = tt

greatest_fits : (r : Reach) → FitsReach r → FitsEnd (greatest_end r)
greatest_fits (reaches.At h) fits = fits
greatest_fits reaches.Never fits = tt

ends_fit : (pair : Pair) → FitsPair pair → FitsEnds (ends_of pair)
ends_fit pair fits = (least_fits pair.down fits.1, greatest_fits pair.up fits.0)

-- ---- by rows
module _ (from to : List Cell) (nodes : List ℕ) where
  abbrev pub told : List Ends
  told = map (λ (node : ℕ). ends_of (pair_by from to node)) nodes

  pub all_small : All (TellsSince from to) nodes → All FitsEnds told
  all_small tell = All-map FitsEnds (λ (node : ℕ). ends_of (pair_by from to node)) nodes (λ k d inside. ends_fit (pair_by from to (get_or nodes k d)) (tell k d inside).fits)

  module _ (s : SolverLists) (none : s.contradiction ≡ []) (first : ℕ) (rows : AreRowsAt s.graph first from to) where
    pub all_tell : (l : Listed) (p : ProblemLists) (start : ℕ) → IsSolutionBy l p s → IsEventAt l start first → All (λ (node : ℕ). (place : ℕ) × IsEventAt l place node) nodes → All (TellsSince from to) nodes
    all_tell l p start solution at events k d inside = let e = events k d inside in since_tells l p s solution none first from to rows start at e.0 (get_or nodes k d) e.1

    pub all_since : AreSinceAt s first nodes told
    all_since = record {
      each = length-map nodes (λ (node : ℕ). ends_of (pair_by from to node));
      are = λ l p start solution at k node place ends here event there. (
          let f = λ (n : ℕ). ends_of (pair_by from to n) in
          let x = mapped_at f nodes k ends there in
          let same : x.0 ≡ node = some_same x.0 node (sym x.1 ∙ here) in
          subst (AreEndsSince p start place) (ap f (sym same) ∙ x.2) (since_told l p s solution none first from to rows start at place node event));
    }

-- what is so of the same problems before
pub since_before : (old s : SolverLists) (first : ℕ) (nodes : List ℕ) (all : List Ends) → ((l : Listed) (p : ProblemLists) → IsSolutionBy l p old → IsSolutionBy l p s) → AreSinceAt s first nodes all → AreSinceAt old first nodes all
since_before old s first nodes all goes is = record { each = is.each; are = λ l p start solution. is.are l p start (goes l p solution) }
