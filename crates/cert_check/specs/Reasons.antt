-- Why a certificate does not show what it should: each reason, and which of them comes first.
use Rattle.std.specs.Prelude.{◌≡◌, ◌≢◌, ℕ, ◌+◌, ◌*◌, ◌<◌, ◌≤◌, ◌⊎◌, List, [], ◌∷◌, ◌++◌, length, slice_get, Some, All, ℤ, pos, neg_ℤ, ◌-ℤ◌, ◌≤ℤ◌}
use Rattle.std.specs.List.{flat_map}
use Rattle.problem_model.specs.declared.items.Node.{Node}
use Rattle.problem_model.specs.declared.items.Node.TheVariants as nodes
use Rattle.problem_model.specs.declared.items.Bound.{Bound}
use Rattle.problem_model.specs.Problem.{ProblemLists}
use Rattle.problem_model.specs.Bounds.{Constraint, Declares, Times}
use Rattle.problem_model.specs.Nodes as lists
use Rattle.problem_model.specs.Nodes.{Reading, AreReadings}
use Rattle.problem_model.specs.ShortList.{follow_bounds, message_bounds, IsFirstBroken}
use Rattle.problem_model.specs.Solutions.{weight_of}
use Rattle.cert.specs.declared.chain.Step.{Step}
use Rattle.cert.specs.declared.certificate.EndProof.{EndProof}
use Rattle.cert.specs.declared.certificate.EndProof.TheVariants.{At, Unbounded}
use Rattle.cert.specs.declared.certificate.Cert.{Cert}
use Rattle.cert.specs.declared.certificate.Cert.TheVariants as certs
use Rattle.cert.specs.Shows.{weighed_bounds, IsInside, Shows}
use Rattle.cert_check.specs.Walks.{entry_of, exit_of}
use Rattle.cert_check.specs.declared.answer.Part.{Part}
use Rattle.cert_check.specs.declared.answer.Part.TheVariants.{Cycle, Run, Upper, Lower}
use Rattle.cert_check.specs.declared.answer.Reason.{Reason}
use Rattle.cert_check.specs.declared.answer.Reason.TheVariants.{Empty, Weight, Join, Sum, Broken, Difference, Home, Away, Leaves}
use Rattle.cert_check.specs.declared.answer.Answer.{Answer}
use Rattle.cert_check.specs.declared.answer.Answer.TheVariants.{Yes, No}

-- ---- steps, which count from 1
-- the step with this number
abbrev pub IsStep : List Step → ℕ → Step → Type 0
IsStep steps k s = (j : ℕ) × (k ≡ j + 1) × (slice_get steps j ≡ Some s)

-- the step gives its bound another weight than the problem does
abbrev pub IsMisweighed : ProblemLists → Step → Type 0
IsMisweighed p s = (c : Constraint) × Declares p s.bound c × (c.weight ≢ s.weight)

-- such a step has this number
abbrev pub IsMisweighedAt : ProblemLists → List Step → ℕ → Type 0
IsMisweighedAt p steps k = (s : Step) × IsStep steps k s × IsMisweighed p s

-- ---- a cycle
-- the step behind the one with this number; behind the last one it is the first
abbrev pub IsNextStep : List Step → ℕ → Step → Type 0
IsNextStep steps k t = IsStep steps (k + 1) t ⊎ ((k ≡ length steps) × IsStep steps 1 t)

-- the step with this number leads elsewhere than where the next one comes from
abbrev pub IsLooseAt : ProblemLists → List Step → ℕ → Type 0
IsLooseAt p steps k = (s : Step) × (t : Step) × (c : Constraint) × (d : Constraint)
    × IsStep steps k s × IsNextStep steps k t × Declares p s.bound c × Declares p t.bound d × (c.to ≢ d.from)

-- what is wrong with a cycle, each reason by itself: `DelayMost 0 1` with 1004 ns and `DelayLeast 0 1` with -1000 ns of
-- the problem that docs/DEFINITIONS.md works have the sum 4 ns, a wrong one
abbrev pub CycleIs : ProblemLists → List Step → Reason → Type 0
CycleIs p steps Empty = steps ≡ []
CycleIs p steps (Weight k) = IsMisweighedAt p steps k
CycleIs p steps (Join k) = IsLooseAt p steps k
CycleIs p steps (Sum sum) = (sum ≡ weight_of (weighed_bounds steps)) × (pos 0 ≤ℤ sum)
CycleIs p steps _ = ⊥

-- ---- executions
-- the first bound that the values break
abbrev pub IsBrokenBy : ProblemLists → List ℤ → Reason → Type 0
IsBrokenBy p values (Broken b weight difference) = (x : Times) × lists.Lists p x values × IsFirstBroken p x b weight difference
IsBrokenBy p values _ = ⊥

-- by the values, the second event is so much later than the first
abbrev pub HasDifference : ProblemLists → ℕ → ℕ → List ℤ → ℤ → Type 0
HasDifference p from to values difference = (x : Times) × lists.Lists p x values × (difference ≡ x (nodes.Event to) -ℤ x (nodes.Event from))

-- ---- paths from the second event, against the bounds in the upper part and along them in the lower
-- the node that a path from q has come to after so many steps
abbrev pub HasComeTo : ProblemLists → Part → ℕ → List Step → ℕ → Node → Type 0
HasComeTo p part q steps k n = ((k ≡ 0) × (n ≡ nodes.Event q)) ⊎ ((s : Step) × (c : Constraint) × IsStep steps k s × Declares p s.bound c × (n ≡ exit_of part c))

-- the node where the path should be then: where the next step enters its bound, and in the end at the first event
abbrev pub ShouldBeAt : ProblemLists → Part → ℕ → List Step → ℕ → Node → Type 0
ShouldBeAt p part first steps k n = ((k ≡ length steps) × (n ≡ nodes.Event first)) ⊎ ((s : Step) × (c : Constraint) × IsStep steps (k + 1) s × Declares p s.bound c × (n ≡ entry_of part c))

-- it is elsewhere
abbrev pub IsAstrayAt : ProblemLists → Part → ℕ → ℕ → List Step → ℕ → Type 0
IsAstrayAt p part first second steps k = (j : ℕ) × (m : Node) × (n : Node)
    × (k ≡ j + 1) × HasComeTo p part second steps j m × ShouldBeAt p part first steps j n × (m ≢ n)

-- the sum that a path should have
abbrev pub sum_for : Part → ℤ → ℤ
sum_for Lower value = neg_ℤ value
sum_for _ value = value

-- ---- cuts
-- the event whose clock should be inside, and the one whose clock should not
abbrev pub home_of : Part → ℕ → ℕ → ℕ
home_of Lower first second = second
home_of _ first second = first

abbrev pub away_of : Part → ℕ → ℕ → ℕ
away_of Lower first second = first
away_of _ first second = second

-- the bound leads from a clock inside to one outside
abbrev pub IsLeaving : ProblemLists → List ℕ → Bound → Type 0
IsLeaving p inside b = (c : Constraint) × Declares p b c × IsInside p inside c.from × (IsInside p inside c.to → ⊥)

-- the first such bound of a list
pub record IsFirstLeavingOf (p : ProblemLists) (inside : List ℕ) (bounds : List Bound) (b : Bound) : Type 0 where
  pub front : List Bound
  pub back : List Bound
  pub place : bounds ≡ front ++ b ∷ back
  pub within : All (λ a. IsLeaving p inside a → ⊥) front
  pub leaves : IsLeaving p inside b

-- the bounds of the short list that join two clocks: its follows, then the delays of its messages
abbrev pub joining_bounds : ProblemLists → List Reading → List Bound
joining_bounds p readings = follow_bounds p.follows readings 0 p.clocks ++ flat_map message_bounds p.messages

-- the first such bound of follows or messages, in the order of the short list
abbrev pub IsFirstLeaving : ProblemLists → List ℕ → Bound → Type 0
IsFirstLeaving p inside b = (readings : List Reading) × AreReadings p readings × IsFirstLeavingOf p inside (joining_bounds p readings) b

-- ---- ends
-- what is wrong with the path that shows a value
abbrev pub PathIs : ProblemLists → Part → ℕ → ℕ → ℤ → List Step → Reason → Type 0
PathIs p part first second value path (Join k) = IsAstrayAt p part first second path k
PathIs p part first second value path (Weight k) = IsMisweighedAt p path k
PathIs p part first second value path (Sum sum) = (sum ≡ weight_of (weighed_bounds path)) × (sum ≢ sum_for part value)
PathIs p part first second value path _ = ⊥

-- the execution that should have the value as its difference has another
abbrev pub DifferenceIs : ProblemLists → ℕ → ℕ → ℤ → List ℤ → Reason → Type 0
DifferenceIs p first second value execution (Difference difference) = HasDifference p first second execution difference × (difference ≢ value)
DifferenceIs p first second value execution _ = ⊥

-- what is wrong with the cut of an end without limit
abbrev pub CutIs : ProblemLists → Part → ℕ → ℕ → List ℕ → Reason → Type 0
CutIs p part first second inside Home = IsInside p inside (nodes.Event (home_of part first second)) → ⊥
CutIs p part first second inside Away = IsInside p inside (nodes.Event (away_of part first second))
CutIs p part first second inside (Leaves b) = IsFirstLeaving p inside b
CutIs p part first second inside _ = ⊥

-- what is wrong with one end of the interval from the first event to the second
abbrev pub EndIs : ProblemLists → Part → ℕ → ℕ → EndProof → Reason → Type 0
EndIs p part first second (At value path execution) reason =
    PathIs p part first second value path reason ⊎ IsBrokenBy p execution reason ⊎ DifferenceIs p first second value execution reason
EndIs p part first second (Unbounded inside execution) reason = CutIs p part first second inside.items reason ⊎ IsBrokenBy p execution reason

-- ---- certificates
-- this is wrong with that part of the certificate
abbrev pub IsSo : ProblemLists → Cert → Part → Reason → Type 0
IsSo problem (certs.Cycle steps) Cycle reason = CycleIs problem steps reason
IsSo problem (certs.Run execution) Run reason = IsBrokenBy problem execution reason
IsSo problem (certs.Ends p q upper lower) Upper reason = EndIs problem Upper p q upper reason
IsSo problem (certs.Ends p q upper lower) Lower reason = EndIs problem Lower p q lower reason
IsSo problem _ _ _ = ⊥

-- when a reason has its turn: the upper part comes before the lower; in a part the kinds come in their order, and those of
-- steps step by step, for a cycle first the weight, for a path first the join
abbrev pub part_turn : Part → ℕ
part_turn Lower = 1
part_turn _ = 0

abbrev pub kind_turn : Reason → ℕ
kind_turn Empty = 0
kind_turn Home = 0
kind_turn (Weight k) = 1
kind_turn (Join k) = 1
kind_turn Away = 1
kind_turn (Sum sum) = 2
kind_turn (Leaves b) = 2
kind_turn (Broken b weight difference) = 3
kind_turn (Difference difference) = 4

abbrev pub step_turn : Part → Reason → ℕ
step_turn Cycle (Weight k) = 2 * k
step_turn Cycle (Join k) = 2 * k + 1
step_turn _ (Join k) = 2 * k
step_turn _ (Weight k) = 2 * k + 1
step_turn _ _ = 0

-- the first turn is no later than the second
abbrev pub IsNoLater : Part → Reason → Part → Reason → Type 0
IsNoLater part reason other_part other = (part_turn part < part_turn other_part) ⊎ ((part_turn part ≡ part_turn other_part)
    × ((kind_turn reason < kind_turn other) ⊎ ((kind_turn reason ≡ kind_turn other) × (step_turn part reason ≤ step_turn other_part other))))

-- this is wrong, and nothing that is wrong comes before it: with -1003 ns in the cycle of `CycleIs` the sum 1 ns is
-- wrong too, but `Weight 2` comes first
pub record IsFirstReason (p : ProblemLists) (c : Cert) (part : Part) (reason : Reason) : Type 0 where
  pub is_so : IsSo p c part reason
  pub first : (other_part : Part) (other : Reason) → IsSo p c other_part other → IsNoLater part reason other_part other

-- the certificate shows what it should, or this is the first reason why it does not
abbrev pub IsAnswer : ProblemLists → Cert → Answer → Type 0
IsAnswer p c Yes = Shows p c
IsAnswer p c (No part reason) = IsFirstReason p c part reason
