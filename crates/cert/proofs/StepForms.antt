-- The words of a step's line.
use Rattle.std.proofs.Common.{◌≡◌, ℕ, List, [], ◌∷◌, get_or, Option, Some, None, codes, refl, sym, ◌∙◌, ap, subst, arith, ℤ}
use Rattle.atto.specs.Decimal.{decimal_of}
use Rattle.atto.specs.NsText.{ns_text}
use Rattle.line_format.specs.Words.{words}
use Rattle.line_format.specs.Cut.{cut, Lacks, fields}
use Rattle.line_format.proofs.Cutting.{cut_takes, cut_again}
use Rattle.line_format.proofs.Fields.{fields_again, fields_take}
use Rattle.line_format.proofs.Lacking.{lacks_test}
use Rattle.problem_model.specs.Name.{IsEventName, IsClockName}
use Rattle.cert.specs.declared.kinds.Extreme.{Extreme}
use Rattle.cert.specs.declared.kinds.StampBound.{StampBound}
use Rattle.cert.specs.declared.steps.SpanWords.{SpanWords}
use Rattle.cert.specs.declared.steps.StampWords.{StampWords}
use Rattle.cert.specs.declared.steps.FollowWords.{FollowWords}
use Rattle.cert.specs.declared.steps.DelayWords.{DelayWords}
use Rattle.cert.specs.declared.steps.StepWords.{StepWords}
use Rattle.cert.specs.declared.steps.StepWords.TheVariants as steps
use Rattle.cert.specs.CertificateFormat.{NamedBound, cert_words, span_word, stamp_word, delay_word}
use Rattle.cert.specs.CertificateFormat.CertLine.{StepLine}
use Rattle.cert.specs.CertificateFormat.NamedBound.{Span, Stamp, Follow, Delay}
use Rattle.cert.specs.SaidStep.{SpanParts, SaysSpan, NoSpan, span_rest, StampParts, SaysStamp, NoStamp, stamp_rest, FollowStepParts, SaysFollow, NoFollowStep, follow_step_rest, DelayParts, SaysDelay, NoDelay, delay_rest, SaysKind, NoKind, bound_word, kind_rest, SaysStep, NoStep}
use Rattle.cert.proofs.Lacking.{clock_name_lacks, event_name_lacks, decimal_lacks}
use Rattle.cert.proofs.CertLines.{span_lacks, stamp_lacks, follow_lacks, delay_lacks}

-- ---- spans
span_fields : (rest clock : List ℕ) (x y : ℕ) (z : ℤ) → IsClockName clock → rest ≡ span_rest clock x y z → fields 3 rest ≡ Some (clock ∷ decimal_of x ∷ decimal_of y ∷ ns_text z ∷ [])
span_fields rest clock x y z named is =
    rw is (fields_again 3 (clock ∷ decimal_of x ∷ decimal_of y ∷ ns_text z ∷ []) refl (clock_name_lacks 32 clock (omega arith) named, (decimal_lacks 32 x (omega arith), (decimal_lacks 32 y (omega arith), tt))))

pub span_not_four : (rest : List ℕ) → fields 3 rest ≡ None → NoSpan rest
span_not_four rest none clock x y z named is = let f = span_fields rest clock x y z named is in cc

pub span_not_parts : (rest a b c d : List ℕ) → fields 3 rest ≡ Some (a ∷ b ∷ c ∷ d ∷ []) → ((x : ℕ) (y : ℕ) (z : ℤ) → IsClockName a → b ≡ decimal_of x → c ≡ decimal_of y → d ≡ ns_text z → ⊥) → NoSpan rest
span_not_parts rest a b c d four none clock x y z named is =
    let f = span_fields rest clock x y z named is in
    let a-is : clock ≡ a = cc in
    none x y z (rw a-is at named) (cc) (cc) (cc)

pub span_says : (rest a b c d : List ℕ) (w : SpanWords) → fields 3 rest ≡ Some (a ∷ b ∷ c ∷ d ∷ []) → SpanParts a b c d w → SaysSpan rest w
span_says rest a b c d w four parts = record {
  x = parts.s_is.m;
  y = parts.t_is.m;
  z = parts.weight_is.z;
  named = parts.named;
  is = (fields_take 3 rest (a ∷ b ∷ c ∷ d ∷ []) four).0 ∙ rw (parts.clock_is, parts.s_is.is, parts.t_is.is, parts.weight_is.is) refl;
  s_held = parts.s_is.held;
  t_held = parts.t_is.held;
  held = parts.weight_is.held;
}

-- ---- stamps
stamp_cut : (rest event : List ℕ) (z : ℤ) → IsEventName event → rest ≡ stamp_rest event z → cut 32 rest ≡ Some (event, ns_text z)
stamp_cut rest event z named is = rw is (cut_again 32 event (ns_text z) (event_name_lacks 32 event (omega arith) named))

pub stamp_not_two : (rest : List ℕ) → cut 32 rest ≡ None → NoStamp rest
stamp_not_two rest none event z named is = let f = stamp_cut rest event z named is in cc

first_part : Option (List ℕ × List ℕ) → List ℕ
first_part None = []
first_part (Some p) = p.0

second_part : Option (List ℕ × List ℕ) → List ℕ
second_part None = []
second_part (Some p) = p.1

pub same_parts : (a b c d : List ℕ) (o : Option (List ℕ × List ℕ)) → o ≡ Some (a, b) → o ≡ Some (c, d) → (a ≡ c) × (b ≡ d)
unfolding first_part second_part
same_parts a b c d o x y = (ap first_part (sym x ∙ y), ap second_part (sym x ∙ y))

pub stamp_not_parts : (rest a b : List ℕ) → cut 32 rest ≡ Some (a, b) → ((z : ℤ) → IsEventName a → b ≡ ns_text z → ⊥) → NoStamp rest
stamp_not_parts rest a b two none event z named is =
    let same = same_parts a b event (ns_text z) (cut 32 rest) two (stamp_cut rest event z named is) in
    none z (subst IsEventName (sym same.0) named) same.1

pub stamp_says : (rest a b : List ℕ) (w : StampWords) → cut 32 rest ≡ Some (a, b) → StampParts a b w → SaysStamp rest w
stamp_says rest a b w two parts = record {
  z = parts.weight_is.z;
  named = parts.named;
  is = (cut_takes 32 rest (a, b) two).0 ∙ rw (parts.event_is, parts.weight_is.is) refl;
  held = parts.weight_is.held;
}

-- ---- follows
follow_fields : (rest earlier later : List ℕ) (x y : ℕ) (z : ℤ) → IsClockName earlier → IsClockName later → rest ≡ follow_step_rest earlier x later y z
    → fields 4 rest ≡ Some (earlier ∷ decimal_of x ∷ later ∷ decimal_of y ∷ ns_text z ∷ [])
follow_fields rest earlier later x y z named named' is =
    rw is (fields_again 4 (earlier ∷ decimal_of x ∷ later ∷ decimal_of y ∷ ns_text z ∷ []) refl
    (clock_name_lacks 32 earlier (omega arith) named, (decimal_lacks 32 x (omega arith), (clock_name_lacks 32 later (omega arith) named', (decimal_lacks 32 y (omega arith), tt)))))

pub follow_not_five : (rest : List ℕ) → fields 4 rest ≡ None → NoFollowStep rest
follow_not_five rest none earlier later x y z named named' is = let f = follow_fields rest earlier later x y z named named' is in cc

pub follow_not_parts : (rest a b c d e : List ℕ) → fields 4 rest ≡ Some (a ∷ b ∷ c ∷ d ∷ e ∷ [])
    → ((x : ℕ) (y : ℕ) (z : ℤ) → IsClockName a → b ≡ decimal_of x → IsClockName c → d ≡ decimal_of y → e ≡ ns_text z → ⊥) → NoFollowStep rest
follow_not_parts rest a b c d e five none earlier later x y z named named' is =
    let f = follow_fields rest earlier later x y z named named' is in
    let a-is : earlier ≡ a = cc in
    let c-is : later ≡ c = cc in
    none x y z (rw a-is at named) (cc) (rw c-is at named') (cc) (cc)

pub follow_says : (rest a b c d e : List ℕ) (w : FollowWords) → fields 4 rest ≡ Some (a ∷ b ∷ c ∷ d ∷ e ∷ []) → FollowStepParts a b c d e w → SaysFollow rest w
follow_says rest a b c d e w five parts = record {
  x = parts.s_is.m;
  y = parts.t_is.m;
  z = parts.weight_is.z;
  earlier_named = parts.earlier_named;
  later_named = parts.later_named;
  is = (fields_take 4 rest (a ∷ b ∷ c ∷ d ∷ e ∷ []) five).0 ∙ rw (parts.earlier_is, parts.s_is.is, parts.later_is, parts.t_is.is, parts.weight_is.is) refl;
  s_held = parts.s_is.held;
  t_held = parts.t_is.held;
  held = parts.weight_is.held;
}

-- ---- delays
delay_fields : (rest send receive : List ℕ) (z : ℤ) → IsEventName send → IsEventName receive → rest ≡ delay_rest send receive z → fields 2 rest ≡ Some (send ∷ receive ∷ ns_text z ∷ [])
delay_fields rest send receive z named named' is =
    rw is (fields_again 2 (send ∷ receive ∷ ns_text z ∷ []) refl (event_name_lacks 32 send (omega arith) named, (event_name_lacks 32 receive (omega arith) named', tt)))

pub delay_not_three : (rest : List ℕ) → fields 2 rest ≡ None → NoDelay rest
delay_not_three rest none send receive z named named' is = let f = delay_fields rest send receive z named named' is in cc

pub delay_not_parts : (rest a b c : List ℕ) → fields 2 rest ≡ Some (a ∷ b ∷ c ∷ []) → ((z : ℤ) → IsEventName a → IsEventName b → c ≡ ns_text z → ⊥) → NoDelay rest
delay_not_parts rest a b c three none send receive z named named' is =
    let f = delay_fields rest send receive z named named' is in
    let a-is : send ≡ a = cc in
    let b-is : receive ≡ b = cc in
    none z (rw a-is at named) (rw b-is at named') (cc)

pub delay_says : (rest a b c : List ℕ) (w : DelayWords) → fields 2 rest ≡ Some (a ∷ b ∷ c ∷ []) → DelayParts a b c w → SaysDelay rest w
delay_says rest a b c w three parts = record {
  z = parts.weight_is.z;
  send_named = parts.send_named;
  receive_named = parts.receive_named;
  is = (fields_take 2 rest (a ∷ b ∷ c ∷ []) three).0 ∙ rw (parts.send_is, parts.receive_is, parts.weight_is.is) refl;
  held = parts.weight_is.held;
}

-- ---- the first word of a bound tells its kind
first_byte : List ℕ → ℕ
first_byte word = get_or word 0 0

pub span_kind_says : (kind rest : List ℕ) (e : Extreme) (w : SpanWords) → kind ≡ span_word e → SaysSpan rest w → SaysKind kind rest (steps.Span e w)
span_kind_says kind rest e w is says = record {
  n = Span e w.clock says.x says.y;
  z = says.z;
  held = (says.x, says.y, says.s_held, says.t_held, says.held, refl);
  spelled = says.named;
  kind_is = is;
  rest_is = says.is;
}

pub follow_kind_says : (kind rest : List ℕ) (w : FollowWords) → kind ≡ codes "follow" → SaysFollow rest w → SaysKind kind rest (steps.Follow w)
follow_kind_says kind rest w is says = record {
  n = Follow w.earlier says.x w.later says.y;
  z = says.z;
  held = (says.x, says.y, says.s_held, says.t_held, says.held, refl);
  spelled = (says.earlier_named, says.later_named);
  kind_is = is;
  rest_is = says.is;
}

pub no_kind : (kind rest : List ℕ) → ((e : Extreme) → kind ≡ span_word e → ⊥) → ((k : StampBound) → kind ≡ stamp_word k → ⊥) → (kind ≡ codes "follow" → ⊥) → ((e : Extreme) → kind ≡ delay_word e → ⊥)
    → NoKind kind rest
no_kind kind rest a b c d (Span e v x y) z spelled kind_is rest_is = a e kind_is
no_kind kind rest a b c d (Stamp k v) z spelled kind_is rest_is = b k kind_is
no_kind kind rest a b c d (Follow v x w y) z spelled kind_is rest_is = c kind_is
no_kind kind rest a b c d (Delay e v w) z spelled kind_is rest_is = d e kind_is

-- ---- the whole line
step_body : (n : NamedBound) (z : ℤ) → words (codes "step" ∷ bound_word n ∷ kind_rest n z ∷ []) ≡ words (cert_words (StepLine n z))
step_body (Span e c x y) z = refl
step_body (Stamp k v) z = refl
step_body (Follow c x d y) z = refl
step_body (Delay e v w) z = refl

kind_lacks : (n : NamedBound) → Lacks 32 (bound_word n)
kind_lacks (Span e c x y) = span_lacks 32 e (omega arith)
kind_lacks (Stamp k v) = stamp_lacks 32 k (omega arith)
kind_lacks (Follow c x d y) = follow_lacks 32 (omega arith)
kind_lacks (Delay e v w) = delay_lacks 32 e (omega arith)

step_fields : (body : List ℕ) (n : NamedBound) (z : ℤ) → body ≡ words (cert_words (StepLine n z)) → fields 2 body ≡ Some (codes "step" ∷ bound_word n ∷ kind_rest n z ∷ [])
step_fields body n z is = rw (is ∙ sym (step_body n z)) (fields_again 2 (codes "step" ∷ bound_word n ∷ kind_rest n z ∷ []) refl (lacks_test 32 (codes "step") refl, (kind_lacks n, tt)))

pub step_not_three : (body : List ℕ) → fields 2 body ≡ None → NoStep body
step_not_three body none n z spelled is = let f = step_fields body n z is in cc

word_one : List (List ℕ) → List ℕ
word_one ws = get_or ws 0 []

pub step_other : (body a b c : List ℕ) → fields 2 body ≡ Some (a ∷ b ∷ c ∷ []) → (a ≡ codes "step" → ⊥) → NoStep body
step_other body a b c three other n z spelled is = let f = step_fields body n z is in other (cc)

pub step_not_kind : (body a b c : List ℕ) → fields 2 body ≡ Some (a ∷ b ∷ c ∷ []) → NoKind b c → NoStep body
step_not_kind body a b c three none n z spelled is = let f = step_fields body n z is in none n z spelled (cc) (cc)

pub step_says : (body a b c : List ℕ) (w : StepWords) → fields 2 body ≡ Some (a ∷ b ∷ c ∷ []) → a ≡ codes "step" → SaysKind b c w → SaysStep body w
step_says body a b c w three is says = record {
  n = says.n;
  z = says.z;
  held = says.held;
  spelled = says.spelled;
  is = (fields_take 2 body (a ∷ b ∷ c ∷ []) three).0 ∙ rw (is, says.kind_is, says.rest_is) (step_body says.n says.z);
}
