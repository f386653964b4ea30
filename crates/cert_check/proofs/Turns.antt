-- Reasons by their kinds, and when each has its turn.
use Rattle.std.proofs.Common.{◌≡◌, ◌≢◌, ◌<◌, ◌≤◌, ◌+◌, ◌*◌, ◌⊎◌, ℕ, List, [], refl, arith, inl, inr}
use Rattle.std.specs.Prelude.{ℤ, pos, ◌≤ℤ◌}
use Rattle.problem_model.specs.declared.items.Bound.{Bound}
use Rattle.problem_model.specs.declared.items.Node.TheVariants as nodes
use Rattle.problem_model.specs.Problem.{ProblemLists}
use Rattle.problem_model.specs.Solutions.{weight_of}
use Rattle.cert.specs.declared.chain.Step.{Step}
use Rattle.cert.specs.Shows.{weighed_bounds, IsInside}
use Rattle.cert_check.specs.declared.answer.Part.{Part}
use Rattle.cert_check.specs.declared.answer.Part.TheVariants.{Cycle, Run, Upper, Lower}
use Rattle.cert_check.specs.declared.answer.Reason.{Reason}
use Rattle.cert_check.specs.declared.answer.Reason.TheVariants.{Empty, Weight, Join, Sum, Broken, Difference, Home, Away, Leaves}
use Rattle.cert_check.specs.Faults.{IsFirstWrong}
use Rattle.cert_check.specs.Reasons.{IsMisweighedAt, IsLooseAt, CycleIs, IsBrokenBy, HasDifference, IsAstrayAt, sum_for, home_of, away_of, IsFirstLeaving, PathIs, DifferenceIs, CutIs, kind_turn, step_turn, IsNoLater}

-- ---- the kinds that may be so
pub path_cases : (p : ProblemLists) (part : Part) (first second : ℕ) (value : ℤ) (path : List Step) (P : Reason → Type 0) → ((k : ℕ) → IsAstrayAt p part first second path k → P (Join k)) → ((k : ℕ) → IsMisweighedAt p path k → P (Weight k))
    → ((sum : ℤ) → sum ≡ weight_of (weighed_bounds path) → sum ≢ sum_for part value → P (Sum sum)) → (r : Reason) → PathIs p part first second value path r → P r
path_cases p part first second value path P join weight sum (Join k) so = join k so
path_cases p part first second value path P join weight sum (Weight k) so = weight k so
path_cases p part first second value path P join weight sum (Sum s) so = sum s so.0 so.1
path_cases p part first second value path P join weight sum Empty so = absurd so
path_cases p part first second value path P join weight sum (Broken b w d) so = absurd so
path_cases p part first second value path P join weight sum (Difference d) so = absurd so
path_cases p part first second value path P join weight sum Home so = absurd so
path_cases p part first second value path P join weight sum Away so = absurd so
path_cases p part first second value path P join weight sum (Leaves b) so = absurd so

pub cycle_cases : (p : ProblemLists) (steps : List Step) (P : Reason → Type 0) → (steps ≡ [] → P Empty) → ((k : ℕ) → IsLooseAt p steps k → P (Join k)) → ((k : ℕ) → IsMisweighedAt p steps k → P (Weight k))
    → ((sum : ℤ) → sum ≡ weight_of (weighed_bounds steps) → pos 0 ≤ℤ sum → P (Sum sum)) → (r : Reason) → CycleIs p steps r → P r
cycle_cases p steps P empty join weight sum (Join k) so = join k so
cycle_cases p steps P empty join weight sum (Weight k) so = weight k so
cycle_cases p steps P empty join weight sum (Sum s) so = sum s so.0 so.1
cycle_cases p steps P empty join weight sum Empty so = empty so
cycle_cases p steps P empty join weight sum (Broken b w d) so = absurd so
cycle_cases p steps P empty join weight sum (Difference d) so = absurd so
cycle_cases p steps P empty join weight sum Home so = absurd so
cycle_cases p steps P empty join weight sum Away so = absurd so
cycle_cases p steps P empty join weight sum (Leaves b) so = absurd so

pub cut_cases : (p : ProblemLists) (part : Part) (first second : ℕ) (inside : List ℕ) (P : Reason → Type 0) → ((IsInside p inside (nodes.Event (home_of part first second)) → ⊥) → P Home)
    → (IsInside p inside (nodes.Event (away_of part first second)) → P Away) → ((b : Bound) → IsFirstLeaving p inside b → P (Leaves b)) → (r : Reason) → CutIs p part first second inside r → P r
cut_cases p part first second inside P home away leaves Home so = home so
cut_cases p part first second inside P home away leaves Away so = away so
cut_cases p part first second inside P home away leaves (Leaves b) so = leaves b so
cut_cases p part first second inside P home away leaves Empty so = absurd so
cut_cases p part first second inside P home away leaves (Join k) so = absurd so
cut_cases p part first second inside P home away leaves (Weight k) so = absurd so
cut_cases p part first second inside P home away leaves (Sum s) so = absurd so
cut_cases p part first second inside P home away leaves (Broken b w d) so = absurd so
cut_cases p part first second inside P home away leaves (Difference d) so = absurd so

pub broken_cases : (p : ProblemLists) (values : List ℤ) (P : Reason → Type 0) → ((b : Bound) (w d : ℤ) → IsBrokenBy p values (Broken b w d) → P (Broken b w d)) → (r : Reason) → IsBrokenBy p values r → P r
broken_cases p values P broken (Broken b w d) so = broken b w d so
broken_cases p values P broken Home so = absurd so
broken_cases p values P broken Away so = absurd so
broken_cases p values P broken (Leaves b) so = absurd so
broken_cases p values P broken Empty so = absurd so
broken_cases p values P broken (Join k) so = absurd so
broken_cases p values P broken (Weight k) so = absurd so
broken_cases p values P broken (Sum s) so = absurd so
broken_cases p values P broken (Difference d) so = absurd so

pub difference_cases : (p : ProblemLists) (first second : ℕ) (value : ℤ) (values : List ℤ) (P : Reason → Type 0) → ((d : ℤ) → HasDifference p first second values d → d ≢ value → P (Difference d)) → (r : Reason) → DifferenceIs p first second value values r → P r
difference_cases p first second value values P differs (Difference d) so = differs d so.0 so.1
difference_cases p first second value values P differs (Broken b w d) so = absurd so
difference_cases p first second value values P differs Home so = absurd so
difference_cases p first second value values P differs Away so = absurd so
difference_cases p first second value values P differs (Leaves b) so = absurd so
difference_cases p first second value values P differs Empty so = absurd so
difference_cases p first second value values P differs (Join k) so = absurd so
difference_cases p first second value values P differs (Weight k) so = absurd so
difference_cases p first second value values P differs (Sum s) so = absurd so

-- ---- which comes first
pub earlier_kind : (part : Part) (r o : Reason) → kind_turn r < kind_turn o → IsNoLater part r part o
earlier_kind part r o less = inr (refl, inl less)

pub same_kind : (part : Part) (r o : Reason) → kind_turn r ≡ kind_turn o → step_turn part r ≤ step_turn part o → IsNoLater part r part o
same_kind part r o same le = inr (refl, inr (same, le))

-- in a path joins come before weights
pub join_turn : (part : Part) (k : ℕ) → part ≢ Cycle → step_turn part (Join k) ≡ 2 * k
join_turn Cycle k other = absurd (other refl)
join_turn Run k other = refl
join_turn Upper k other = refl
join_turn Lower k other = refl

pub weight_turn : (part : Part) (k : ℕ) → part ≢ Cycle → step_turn part (Weight k) ≡ 2 * k + 1
weight_turn Cycle k other = absurd (other refl)
weight_turn Run k other = refl
weight_turn Upper k other = refl
weight_turn Lower k other = refl

pub sum_turn : (part : Part) (s : ℤ) → step_turn part (Sum s) ≡ 0
sum_turn Cycle s = refl
sum_turn Run s = refl
sum_turn Upper s = refl
sum_turn Lower s = refl

pub broken_turn : (part : Part) (b : Bound) (w d : ℤ) → step_turn part (Broken b w d) ≡ 0
broken_turn Cycle b w d = refl
broken_turn Run b w d = refl
broken_turn Upper b w d = refl
broken_turn Lower b w d = refl

pub difference_turn : (part : Part) (d : ℤ) → step_turn part (Difference d) ≡ 0
difference_turn Cycle d = refl
difference_turn Run d = refl
difference_turn Upper d = refl
difference_turn Lower d = refl

pub leaves_turn : (part : Part) (b : Bound) → step_turn part (Leaves b) ≡ 0
leaves_turn Cycle b = refl
leaves_turn Run b = refl
leaves_turn Upper b = refl
leaves_turn Lower b = refl

-- ---- one list of reasons behind another
module _ (part : Part) (A B : Reason → Type 0) (turn : ℕ) (early : (r : Reason) → A r → kind_turn r < turn) (late : (r : Reason) → B r → turn ≤ kind_turn r) where
  -- the first of the earlier ones is the first of all
  pub first_early : (r : Reason) → IsFirstWrong part A r → IsFirstWrong part (λ o. A o ⊎ B o) r
  first_early r found = record {
    is_so = inl found.is_so;
    first = before;
  }
    where
      before : (o : Reason) → A o ⊎ B o → IsNoLater part r part o
      before o (inl so) = found.first o so
      before o (inr so) = earlier_kind part r o (omega (arith, early r found.is_so, late o so))

-- where none of the earlier ones is so, the first of the later ones is
pub first_late : (part : Part) (A B : Reason → Type 0) → ((r : Reason) → A r → ⊥) → (r : Reason) → IsFirstWrong part B r → IsFirstWrong part (λ o. A o ⊎ B o) r
first_late part A B none r found = record {
  is_so = inr found.is_so;
  first = before;
}
  where
    before : (o : Reason) → A o ⊎ B o → IsNoLater part r part o
    before o (inl so) = absurd (none o so)
    before o (inr so) = found.first o so

pub path_early : (p : ProblemLists) (part : Part) (first second : ℕ) (value : ℤ) (path : List Step) (r : Reason) → PathIs p part first second value path r → kind_turn r < 3
path_early p part first second value path = path_cases p part first second value path (λ r. kind_turn r < 3) (λ k so. omega arith) (λ k so. omega arith) (λ s is so. omega arith)

pub cut_early : (p : ProblemLists) (part : Part) (first second : ℕ) (inside : List ℕ) (r : Reason) → CutIs p part first second inside r → kind_turn r < 3
cut_early p part first second inside = cut_cases p part first second inside (λ r. kind_turn r < 3) (λ so. omega arith) (λ so. omega arith) (λ b so. omega arith)

pub broken_late : (p : ProblemLists) (values : List ℤ) (r : Reason) → IsBrokenBy p values r → 3 ≤ kind_turn r
broken_late p values = broken_cases p values (λ r. 3 ≤ kind_turn r) (λ b w d so. omega arith)

pub broken_early : (p : ProblemLists) (values : List ℤ) (r : Reason) → IsBrokenBy p values r → kind_turn r < 4
broken_early p values = broken_cases p values (λ r. kind_turn r < 4) (λ b w d so. omega arith)

pub difference_late : (p : ProblemLists) (first second : ℕ) (value : ℤ) (values : List ℤ) (r : Reason) → DifferenceIs p first second value values r → 4 ≤ kind_turn r
difference_late p first second value values = difference_cases p first second value values (λ r. 4 ≤ kind_turn r) (λ d so differs. omega arith)

pub times_late : (p : ProblemLists) (first second : ℕ) (value : ℤ) (values : List ℤ) (r : Reason) → IsBrokenBy p values r ⊎ DifferenceIs p first second value values r → 3 ≤ kind_turn r
times_late p first second value values r (inl so) = broken_late p values r so
times_late p first second value values r (inr so) = let late = difference_late p first second value values r so in omega (arith, late)
