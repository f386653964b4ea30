-- What the code holds of the lines of certificates: a number that is too large is held as None.
use Rattle.std.specs.Prelude.{◌≡◌, ℕ, ◌^◌, List, [], ◌∷◌, SomeIff, codes, ℤ}
use Rattle.atto.specs.Decimal.{decimal_of}
use Rattle.atto.specs.NsText.{ns_text}
use Rattle.atto.specs.Number.{Counts, FitsUnits}
use Rattle.line_format.specs.Words.{words}
use Rattle.problem_model.specs.Name.{IsEventName, IsClockName}
use Rattle.problem_model.specs.declared.items.Bound.{Bound}
use Rattle.problem_model.specs.Problem.{ProblemLists}
use Rattle.cert.specs.declared.steps.SpanWords.{SpanWords}
use Rattle.cert.specs.declared.steps.StampWords.{StampWords}
use Rattle.cert.specs.declared.steps.FollowWords.{FollowWords}
use Rattle.cert.specs.declared.steps.DelayWords.{DelayWords}
use Rattle.cert.specs.declared.steps.StepWords.{StepWords}
use Rattle.cert.specs.declared.steps.StepWords.TheVariants as steps
use Rattle.cert.specs.declared.heads.EndsWords.{EndsWords}
use Rattle.cert.specs.declared.kinds.Extreme.{Extreme}
use Rattle.cert.specs.Said.{SpellsValue, SpellsNumber}
use Rattle.cert.specs.CertificateFormat.{NamedBound, IsBoundSpelled, Names, IsDeclared, cert_words, span_word, stamp_word, delay_word}
use Rattle.cert.specs.CertificateFormat.CertLine.{EndsLine, StepLine, InsideLine}
use Rattle.cert.specs.CertificateFormat.NamedBound.{Span, Stamp, Follow, Delay}

-- ---- bounds over spans
-- what the words behind `step span-most` or `step span-least` say
pub record SpanParts (clock s t weight : List ℕ) (w : SpanWords) : Type 0 where
  pub clock_is : clock ≡ w.clock
  pub named : IsClockName w.clock
  pub s_is : SpellsNumber s w.s
  pub t_is : SpellsNumber t w.t
  pub weight_is : SpellsValue weight w.weight

-- these words
abbrev pub span_rest : List ℕ → ℕ → ℕ → ℤ → List ℕ
span_rest clock s t z = words (clock ∷ decimal_of s ∷ decimal_of t ∷ ns_text z ∷ [])

-- they are those of w
pub record SaysSpan (rest : List ℕ) (w : SpanWords) : Type 0 where
  pub x : ℕ
  pub y : ℕ
  pub z : ℤ
  pub named : IsClockName w.clock
  pub is : rest ≡ span_rest w.clock x y z
  pub s_held : Counts (2 ^ 64) x w.s
  pub t_held : Counts (2 ^ 64) y w.t
  pub held : SomeIff w.weight (FitsUnits z) z

-- they are no such words
abbrev pub NoSpan : List ℕ → Type 0
NoSpan rest = (clock : List ℕ) (x y : ℕ) (z : ℤ) → IsClockName clock → rest ≡ span_rest clock x y z → ⊥

-- ---- bounds on stamps
-- what the words behind `step late` or `step early` say
pub record StampParts (event weight : List ℕ) (w : StampWords) : Type 0 where
  pub event_is : event ≡ w.event
  pub named : IsEventName w.event
  pub weight_is : SpellsValue weight w.weight

-- these words
abbrev pub stamp_rest : List ℕ → ℤ → List ℕ
stamp_rest event z = words (event ∷ ns_text z ∷ [])

-- they are those of w
pub record SaysStamp (rest : List ℕ) (w : StampWords) : Type 0 where
  pub z : ℤ
  pub named : IsEventName w.event
  pub is : rest ≡ stamp_rest w.event z
  pub held : SomeIff w.weight (FitsUnits z) z

-- they are no such words
abbrev pub NoStamp : List ℕ → Type 0
NoStamp rest = (event : List ℕ) (z : ℤ) → IsEventName event → rest ≡ stamp_rest event z → ⊥

-- ---- bounds between clocks that follow each other
-- what the words behind `step follow` say
pub record FollowStepParts (earlier s later t weight : List ℕ) (w : FollowWords) : Type 0 where
  pub earlier_is : earlier ≡ w.earlier
  pub earlier_named : IsClockName w.earlier
  pub s_is : SpellsNumber s w.s
  pub later_is : later ≡ w.later
  pub later_named : IsClockName w.later
  pub t_is : SpellsNumber t w.t
  pub weight_is : SpellsValue weight w.weight

-- these words
abbrev pub follow_step_rest : List ℕ → ℕ → List ℕ → ℕ → ℤ → List ℕ
follow_step_rest earlier s later t z = words (earlier ∷ decimal_of s ∷ later ∷ decimal_of t ∷ ns_text z ∷ [])

-- they are those of w
pub record SaysFollow (rest : List ℕ) (w : FollowWords) : Type 0 where
  pub x : ℕ
  pub y : ℕ
  pub z : ℤ
  pub earlier_named : IsClockName w.earlier
  pub later_named : IsClockName w.later
  pub is : rest ≡ follow_step_rest w.earlier x w.later y z
  pub s_held : Counts (2 ^ 64) x w.s
  pub t_held : Counts (2 ^ 64) y w.t
  pub held : SomeIff w.weight (FitsUnits z) z

-- they are no such words
abbrev pub NoFollowStep : List ℕ → Type 0
NoFollowStep rest = (earlier later : List ℕ) (x y : ℕ) (z : ℤ) → IsClockName earlier → IsClockName later → rest ≡ follow_step_rest earlier x later y z → ⊥

-- ---- bounds on delays
-- what the words behind `step delay-most` or `step delay-least` say
pub record DelayParts (send receive weight : List ℕ) (w : DelayWords) : Type 0 where
  pub send_is : send ≡ w.send
  pub send_named : IsEventName w.send
  pub receive_is : receive ≡ w.receive
  pub receive_named : IsEventName w.receive
  pub weight_is : SpellsValue weight w.weight

-- these words
abbrev pub delay_rest : List ℕ → List ℕ → ℤ → List ℕ
delay_rest send receive z = words (send ∷ receive ∷ ns_text z ∷ [])

-- they are those of w
pub record SaysDelay (rest : List ℕ) (w : DelayWords) : Type 0 where
  pub z : ℤ
  pub send_named : IsEventName w.send
  pub receive_named : IsEventName w.receive
  pub is : rest ≡ delay_rest w.send w.receive z
  pub held : SomeIff w.weight (FitsUnits z) z

-- they are no such words
abbrev pub NoDelay : List ℕ → Type 0
NoDelay rest = (send receive : List ℕ) (z : ℤ) → IsEventName send → IsEventName receive → rest ≡ delay_rest send receive z → ⊥

-- ---- steps
-- the bound and the weight are held as w
abbrev pub HoldsStep : StepWords → NamedBound → ℤ → Type 0
HoldsStep (steps.Span extreme w) n z = (x : ℕ) × (y : ℕ) × Counts (2 ^ 64) x w.s × Counts (2 ^ 64) y w.t × SomeIff w.weight (FitsUnits z) z × (n ≡ Span extreme w.clock x y)
HoldsStep (steps.Stamp kind w) n z = SomeIff w.weight (FitsUnits z) z × (n ≡ Stamp kind w.event)
HoldsStep (steps.Follow w) n z = (x : ℕ) × (y : ℕ) × Counts (2 ^ 64) x w.s × Counts (2 ^ 64) y w.t × SomeIff w.weight (FitsUnits z) z × (n ≡ Follow w.earlier x w.later y)
HoldsStep (steps.Delay extreme w) n z = SomeIff w.weight (FitsUnits z) z × (n ≡ Delay extreme w.send w.receive)

-- the first word of a bound
abbrev pub bound_word : NamedBound → List ℕ
bound_word (Span extreme clock s t) = span_word extreme
bound_word (Stamp kind event) = stamp_word kind
bound_word (Follow earlier s later t) = codes "follow"
bound_word (Delay extreme send receive) = delay_word extreme

-- its other words, with a weight behind
abbrev pub kind_rest : NamedBound → ℤ → List ℕ
kind_rest (Span extreme clock s t) z = span_rest clock s t z
kind_rest (Stamp kind event) z = stamp_rest event z
kind_rest (Follow earlier s later t) z = follow_step_rest earlier s later t z
kind_rest (Delay extreme send receive) z = delay_rest send receive z

-- the words behind `step` are those of w
pub record SaysKind (kind rest : List ℕ) (w : StepWords) : Type 0 where
  pub n : NamedBound
  pub z : ℤ
  pub held : HoldsStep w n z
  pub spelled : IsBoundSpelled n
  pub kind_is : kind ≡ bound_word n
  pub rest_is : rest ≡ kind_rest n z

-- they are those of no step
abbrev pub NoKind : List ℕ → List ℕ → Type 0
NoKind kind rest = (n : NamedBound) (z : ℤ) → IsBoundSpelled n → kind ≡ bound_word n → rest ≡ kind_rest n z → ⊥

-- the body is the line of the step that is held as w
pub record SaysStep (body : List ℕ) (w : StepWords) : Type 0 where
  pub n : NamedBound
  pub z : ℤ
  pub held : HoldsStep w n z
  pub spelled : IsBoundSpelled n
  pub is : body ≡ words (cert_words (StepLine n z))

-- it is the line of no step
abbrev pub NoStep : List ℕ → Type 0
NoStep body = (n : NamedBound) (z : ℤ) → IsBoundSpelled n → body ≡ words (cert_words (StepLine n z)) → ⊥

-- ---- clocks inside
-- the body is the line of a clock inside
pub record SaysInside (body name : List ℕ) : Type 0 where
  pub named : IsClockName name
  pub is : body ≡ words (cert_words (InsideLine name))

-- it is the line of none
abbrev pub NoInside : List ℕ → Type 0
NoInside body = (name : List ℕ) → IsClockName name → body ≡ words (cert_words (InsideLine name)) → ⊥

-- ---- the events
-- what the words behind `ends` say
pub record EndsParts (p q : List ℕ) (w : EndsWords) : Type 0 where
  pub p_is : p ≡ w.p
  pub p_named : IsEventName w.p
  pub q_is : q ≡ w.q
  pub q_named : IsEventName w.q

-- the body is the line that names these events
pub record SaysEnds (body : List ℕ) (w : EndsWords) : Type 0 where
  pub p_named : IsEventName w.p
  pub q_named : IsEventName w.q
  pub is : body ≡ words (cert_words (EndsLine w.p w.q))

-- it names no events
abbrev pub NoEnds : List ℕ → Type 0
NoEnds body = (a b : List ℕ) → IsEventName a → IsEventName b → body ≡ words (cert_words (EndsLine a b)) → ⊥

-- ---- bounds of a problem
-- the problem declares b under these names
abbrev pub FindsNamed : ProblemLists → NamedBound → Bound → Type 0
FindsNamed p n b = Names p n b × IsDeclared p b

-- it declares no bound under these names
abbrev pub FindsNoNamed : ProblemLists → NamedBound → Type 0
FindsNoNamed p n = (b : Bound) → Names p n b → IsDeclared p b → ⊥

-- the same of a bound over a span that is held as w
abbrev pub FindsSpan : ProblemLists → Extreme → SpanWords → Bound → Type 0
FindsSpan p extreme w b = (x y : ℕ) → Counts (2 ^ 64) x w.s → Counts (2 ^ 64) y w.t → FindsNamed p (Span extreme w.clock x y) b

-- the problem declares no such bound over a span
abbrev pub FindsNoSpan : ProblemLists → Extreme → SpanWords → Type 0
FindsNoSpan p extreme w = (x y : ℕ) → Counts (2 ^ 64) x w.s → Counts (2 ^ 64) y w.t → FindsNoNamed p (Span extreme w.clock x y)

-- the same of a bound between clocks that follow each other
abbrev pub FindsFollow : ProblemLists → FollowWords → Bound → Type 0
FindsFollow p w b = (x y : ℕ) → Counts (2 ^ 64) x w.s → Counts (2 ^ 64) y w.t → FindsNamed p (Follow w.earlier x w.later y) b

-- it declares no such bound between clocks that follow each other
abbrev pub FindsNoFollow : ProblemLists → FollowWords → Type 0
FindsNoFollow p w = (x y : ℕ) → Counts (2 ^ 64) x w.s → Counts (2 ^ 64) y w.t → FindsNoNamed p (Follow w.earlier x w.later y)

-- the same of any bound
abbrev pub FindsBound : ProblemLists → StepWords → Bound → Type 0
FindsBound p w b = (n : NamedBound) (z : ℤ) → HoldsStep w n z → FindsNamed p n b

-- it declares no bound that is held as w
abbrev pub FindsNone : ProblemLists → StepWords → Type 0
FindsNone p w = (n : NamedBound) (z : ℤ) → HoldsStep w n z → FindsNoNamed p n
