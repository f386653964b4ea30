-- Two events have one line of each kind.
use Rattle.std.proofs.Common.{◌≡◌, ◌∷◌, [], ◌∙◌, inl, inr, ℕ, List, refl, sym, ap, codes, arith}
use Rattle.std.specs.Prelude.{ℤ, ◌<ℤ◌}
use Rattle.std.proofs.lemmas.Int.{ints}
use Rattle.line_format.specs.Words.{line_of}
use Rattle.problem_model.specs.declared.items.Node.{Node}
use Rattle.problem_model.specs.declared.items.Node.TheVariants as nodes
use Rattle.problem_model.specs.Problem.{ProblemLists}
use Rattle.problem_model.specs.Bounds.{Times, IsExecution}
use Rattle.intervals.specs.declared.ends.End.{End}
use Rattle.intervals.specs.declared.ends.Ends.{Ends}
use Rattle.intervals.specs.declared.order.Order.{Order}
use Rattle.intervals.specs.declared.order.Order.TheVariants.{Before, After, Same, Undecided}
use Rattle.intervals.specs.Executions.{time_difference, time_by, AreEndsOf, IsOrderOf}
use Rattle.intervals.proofs.Times.{one_greatest, one_least}
use Rattle.queries.specs.Words.{end_word, order_word}
use Rattle.queries.specs.Replies.{HasReading, IsIntervalLine, IsOrderLine, IsTimeLine, Replies}

-- ---- real times
apart : (a b : ℤ) → a <ℤ b → b <ℤ a → ⊥
apart a b lt gt = omega (arith, ints)

not_same : (a b : ℤ) → a <ℤ b → a ≡ b → ⊥
not_same a b lt same = omega (arith, ints)

not_same_turned : (a b : ℤ) → b <ℤ a → a ≡ b → ⊥
not_same_turned a b gt same = omega (arith, ints)

-- ---- orders
pub one_order : (p : ProblemLists) (first second : Node) (x : Times) → IsExecution p x → (a b : Order) → IsOrderOf p first second a → IsOrderOf p first second b → a ≡ b
one_order p first second x e Before Before one two = refl
one_order p first second x e Before After one two = absurd (apart (x first) (x second) (one x e) (two x e))
one_order p first second x e Before Same one two = absurd (not_same (x first) (x second) (one x e) (two x e))
one_order p first second x e Before Undecided one two = absurd (two.0 one)
one_order p first second x e After Before one two = absurd (apart (x first) (x second) (two x e) (one x e))
one_order p first second x e After After one two = refl
one_order p first second x e After Same one two = absurd (not_same_turned (x first) (x second) (one x e) (two x e))
one_order p first second x e After Undecided one two = absurd (two.1 one)
one_order p first second x e Same Before one two = absurd (not_same (x first) (x second) (two x e) (one x e))
one_order p first second x e Same After one two = absurd (not_same_turned (x first) (x second) (two x e) (one x e))
one_order p first second x e Same Same one two = refl
one_order p first second x e Same Undecided one two = absurd (two.2 one)
one_order p first second x e Undecided Before one two = absurd (one.0 two)
one_order p first second x e Undecided After one two = absurd (one.1 two)
one_order p first second x e Undecided Same one two = absurd (one.2 two)
one_order p first second x e Undecided Undecided one two = refl

-- ---- lines
abbrev ends_words : List ℕ → End → End → List ℕ
ends_words first least greatest = line_of (first ∷ end_word (codes "-inf") least ∷ end_word (codes "+inf") greatest ∷ [])

-- the line of the ends of a time
one_line : (p : ProblemLists) (time : Times → ℤ) (first : List ℕ) (e f : Ends) → AreEndsOf p time e → AreEndsOf p time f → ends_words first e.least e.greatest ≡ ends_words first f.least f.greatest
one_line p time first e f are are' =
    let least : e.least ≡ f.least = one_least p time e.least f.least are.below are'.below in
    let greatest : e.greatest ≡ f.greatest = one_greatest p time e.greatest f.greatest are.above are'.above in
    ap (λ (end : End). ends_words first end e.greatest) least ∙ ap (ends_words first f.least) greatest

pub one_interval : (p : ProblemLists) (first second : ℕ) (a b : List ℕ) → IsIntervalLine p first second a → IsIntervalLine p first second b → a ≡ b
one_interval p first second a b (e, are, is) (f, are', is') =
    is ∙ one_line p (time_difference (nodes.Event first) (nodes.Event second)) (codes "interval") e f are are' ∙ sym is'

pub one_time_line : (p : ProblemLists) (clock event : ℕ) (a b : List ℕ) → HasReading p clock → IsTimeLine p clock event a → IsTimeLine p clock event b → a ≡ b
one_time_line p clock event a b (stamp, reads) (e, each, is) (f, each', is') =
    is ∙ one_line p (time_by clock stamp (nodes.Event event)) (codes "time") e f (each stamp reads) (each' stamp reads) ∙ sym is'

pub one_order_line : (p : ProblemLists) (first second : ℕ) (a b : List ℕ) → ((x : Times) × IsExecution p x) → IsOrderLine p first second a → IsOrderLine p first second b → a ≡ b
one_order_line p first second a b (x, execution) (o, one, is) (o', one', is') =
    is ∙ ap (λ (order : Order). line_of (codes "order" ∷ order_word order ∷ [])) (one_order p (nodes.Event first) (nodes.Event second) x execution o o' one one') ∙ sym is'

-- ---- replies
pub reply_says : (p : ProblemLists) (Says : List ℕ → Type 0) (text : List ℕ) → ((x : Times) × IsExecution p x) → Replies p Says text → Says text
reply_says p Says text some (inl said) = said.1
reply_says p Says text some (inr contradicts) = absurd (contradicts.2 some.0 some.1)
