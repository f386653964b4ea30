-- The certificate of an interval that is written: the executions and cuts that show its ends.
use Rattle.std.specs.Prelude.{◌+◌, ◌≡◌, ℕ, ◌<◌, ◌^◌, ◌↔◌, List, length, map, Contains, ℤ, pos, neg_ℤ, ◌+ℤ◌, ◌-ℤ◌, ◌≤ℤ◌, ◌<ℤ◌, All}
use Rattle.problem_model.specs.declared.items.Node.{Node}
use Rattle.problem_model.specs.declared.items.Node.TheVariants as nodes
use Rattle.problem_model.specs.Problem.{ProblemLists}
use Rattle.problem_model.specs.Bounds.{Times}
use Rattle.problem_model.specs.Nodes.{Reading, nodes_of}
use Rattle.problem_model.specs.ProblemArcs.{IsGreatestOf, IsUnboundedOf}
use Rattle.problem_model.specs.Solutions.{IsNodeOf, IsEarliestExecution, WeighedBound, Leads}
use Rattle.problem_model.specs.Limits.{path_bits}
use Rattle.cert.specs.EndLists.{EndLists, Limited, Unlimited}
use Rattle.cert.specs.Listed.{certified}
use Rattle.cert.specs.CertificateText.{AreListsOf, ends_lines}
use Rattle.cert.specs.Shows.{IsOnClock, IsUpperEnd, IsLowerEnd}

-- ---- executions
-- K is the greatest of `greatest difference - earliest time` over the nodes that have a greatest difference from the first
pub record IsGreatestLeadOf (p : ProblemLists) (first : Node) (earliest : Times) (K : ℤ) : Type 0 where
  pub attained : (n : Node) × (h : ℤ) × IsNodeOf p n × IsGreatestOf p first n h × ((h -ℤ earliest n) ≡ K)
  pub most : (n : Node) (h : ℤ) → IsNodeOf p n → IsGreatestOf p first n h → (h -ℤ earliest n) ≤ℤ K

-- K is the least of `least difference - earliest time` over the nodes that have a least difference from the first; the least
-- difference is the negative of the greatest one back
pub record IsLeastLeadOf (p : ProblemLists) (first : Node) (earliest : Times) (K : ℤ) : Type 0 where
  pub attained : (n : Node) × (h : ℤ) × IsNodeOf p n × IsGreatestOf p n first h × ((neg_ℤ h -ℤ earliest n) ≡ K)
  pub least : (n : Node) (h : ℤ) → IsNodeOf p n → IsGreatestOf p n first h → K ≤ℤ (neg_ℤ h -ℤ earliest n)

-- each node has its greatest difference from the first, or where it has none its earliest time and K
pub record IsLatest (p : ProblemLists) (first : Node) (earliest : Times) (K : ℤ) (x : Times) : Type 0 where
  pub limited : (n : Node) (h : ℤ) → IsNodeOf p n → IsGreatestOf p first n h → x n ≡ h
  pub unlimited : (n : Node) → IsNodeOf p n → IsUnboundedOf p first n → x n ≡ earliest n +ℤ K

-- each node has its least difference from the first, or where it has none its earliest time and K
pub record IsSoonest (p : ProblemLists) (first : Node) (earliest : Times) (K : ℤ) (x : Times) : Type 0 where
  pub limited : (n : Node) (h : ℤ) → IsNodeOf p n → IsGreatestOf p n first h → x n ≡ neg_ℤ h
  pub unlimited : (n : Node) → IsNodeOf p n → IsUnboundedOf p n first → x n ≡ earliest n +ℤ K

-- ---- cuts
-- bounds lead from one node to the other
abbrev pub HasPath : ProblemLists → Node → Node → Type 0
HasPath p m n = (steps : List WeighedBound) × Leads p m steps n

-- just those clocks are inside that have a node which a path from the first reaches: where p on clock c sends to q on
-- clock d with no greatest delay, and nothing else joins them, c alone
abbrev pub IsUpperCut : ProblemLists → Node → List ℕ → Type 0
IsUpperCut p first inside = (clock : ℕ) → Contains inside clock ↔ ((n : Node) × IsNodeOf p n × IsOnClock p n clock × HasPath p first n)

-- just those clocks are inside that have a node with no path back to the first
abbrev pub IsLowerCut : ProblemLists → Node → List ℕ → Type 0
IsLowerCut p first inside = (clock : ℕ) → Contains inside clock ↔ ((n : Node) × IsNodeOf p n × IsOnClock p n clock × (HasPath p n first → ⊥))

-- ---- sizes
-- below a power of two in absolute value
abbrev pub IsUnder : ℕ → ℤ → Type 0
IsUnder bits x = (neg_ℤ (pos (2 ^ bits)) <ℤ x) × (x <ℤ pos (2 ^ bits))

-- the limit is below 2^119 in absolute value, the weights are below 2^93 and the real times below 2^120
abbrev pub IsSmallEnd : EndLists → Type 0
IsSmallEnd (Limited value path execution) = IsUnder (path_bits + 1) value × All (λ s. IsUnder 93 s.weight) path × All (IsUnder (path_bits + 2)) execution
IsSmallEnd (Unlimited inside execution) = All (IsUnder (path_bits + 2)) execution

-- ---- ends
-- how the upper end is shown: at a limit by the latest execution, with a path of fewer steps than there are nodes; else
-- by the earliest execution and the cut
abbrev pub IsUpperAs : ProblemLists → List Reading → ℕ → EndLists → Type 0
IsUpperAs p readings first (Limited value path execution) = (earliest : Times) × (K : ℤ) × (x : Times)
    × IsEarliestExecution p earliest × IsGreatestLeadOf p (nodes.Event first) earliest K × IsLatest p (nodes.Event first) earliest K x
    × (execution ≡ map x (nodes_of p readings)) × (length path < length (nodes_of p readings))
IsUpperAs p readings first (Unlimited inside execution) = (earliest : Times)
    × IsEarliestExecution p earliest × (execution ≡ map earliest (nodes_of p readings)) × IsUpperCut p (nodes.Event first) inside

-- how the lower end is shown: the same with the soonest execution
abbrev pub IsLowerAs : ProblemLists → List Reading → ℕ → EndLists → Type 0
IsLowerAs p readings first (Limited value path execution) = (earliest : Times) × (K : ℤ) × (x : Times)
    × IsEarliestExecution p earliest × IsLeastLeadOf p (nodes.Event first) earliest K × IsSoonest p (nodes.Event first) earliest K x
    × (execution ≡ map x (nodes_of p readings)) × (length path < length (nodes_of p readings))
IsLowerAs p readings first (Unlimited inside execution) = (earliest : Times)
    × IsEarliestExecution p earliest × (execution ≡ map earliest (nodes_of p readings)) × IsLowerCut p (nodes.Event first) inside

-- both ends of the interval from the first event to the second: lists of the problem that show them, in this way, with small numbers
pub record AreTight (p : ProblemLists) (readings : List Reading) (first second : ℕ) (upper lower : EndLists) : Type 0 where
  pub upper_of : AreListsOf p upper
  pub lower_of : AreListsOf p lower
  pub upper_shown : IsUpperEnd p first second upper
  pub lower_shown : IsLowerEnd p first second lower
  pub upper_as : IsUpperAs p readings first upper
  pub lower_as : IsLowerAs p readings first lower
  pub upper_small : IsSmallEnd upper
  pub lower_small : IsSmallEnd lower

-- the text is that of such a certificate
abbrev pub IsTightText : ProblemLists → List Reading → ℕ → ℕ → List ℕ → Type 0
IsTightText p readings first second text = (upper : EndLists) × (lower : EndLists) × AreTight p readings first second upper lower
    × (text ≡ certified (ends_lines p (nodes_of p readings) first second upper lower))
