-- A text has one answer.
use Rattle.std.proofs.Common.{◌≡◌, ◌<◌, ◌+◌, ℕ, List, [], ◌++◌, refl, sym, ◌∙◌, ap, subst, arith, append_assoc, inl, inr}
use Rattle.std.proofs.lemmas.List.{append_cancel_left, append-nil}
use Rattle.std.proofs.lemmas.Bool.{cases_lt}
use Rattle.line_format.specs.Format.{Format, Begins, FaultBehind, FaultAt, IsFront, Answers, Answer, Front, front_text, front_lines, head_line, end_line, whole_text}
use Rattle.line_format.specs.Format.Front.{Nothing, Open, Closed}
use Rattle.line_format.specs.Format.Answer.{Found, Faulty, Long}
use Rattle.line_format.specs.declared.fault.FaultKind.{FaultKind}
use Rattle.line_format.proofs.Readable.{IsReadable}
use Rattle.line_format.proofs.OneLine.{begins_one, no_fault, fault_one}
use Rattle.line_format.proofs.Reaching.{Reaches, Leads, lead_begins, reach_one, went_on, reaches, headed}

module _ {State Line : Type 0} (f : Format State Line) (Adds : State → Line → State → Type 0) (start : State) (size : State → ℕ) (readable : IsReadable f Adds start size) where
  abbrev Stuck : State → List ℕ → Type 0
  Stuck s rest = (t : State) (more : List ℕ) → Leads f Adds start size readable s rest t more → ⊥

  abbrev Arrives : ℕ → List ℕ → State → List ℕ → Type 0
  Arrives n text s rest = Reaches f Adds start size readable n text s rest

  ends : (s : State) (more : List ℕ) → f.MayStand s f.end → Begins f s (end_line f ++ more) f.end
  ends s more may = record { may = may; spelled = readable.end_spelled; more = more; is = refl }

  end_stuck : (s : State) (more : List ℕ) → f.MayStand s f.end → Stuck s (end_line f ++ more)
  end_stuck s more may t after leads =
      let begins = lead_begins f Adds start size readable s (end_line f ++ more) t after leads in
      let one = begins_one f readable.lacks readable.one_line s (end_line f ++ more) leads.line f.end begins (ends s more may) in
      readable.end_adds s t (subst (λ (l : Line). Adds s l t) one.0 leads.step.adds)

  fault_stuck : (s : State) (rest : List ℕ) (kind : FaultKind) → FaultBehind f s rest kind → Stuck s rest
  fault_stuck s rest kind fault t more leads =
      no_fault f readable.lacks readable.one_line s rest kind leads.line fault (lead_begins f Adds start size readable s rest t more leads) leads.step.names leads.step.numbers leads.step.room

  end_no_fault : (s : State) (more : List ℕ) (kind : FaultKind) → f.MayStand s f.end → FaultBehind f s (end_line f ++ more) kind → ⊥
  end_no_fault s more kind may fault =
      let fits = readable.end_fits s in
      no_fault f readable.lacks readable.one_line s (end_line f ++ more) kind f.end fault (ends s more may) fits.0 fits.1 fits.2

  arrives : (s : State) (text rest : List ℕ) → f.IsSound s → text ≡ f.text_of s ++ rest → Arrives (size s) text s rest
  arrives s text rest sound is = reaches f Adds start size readable (size s) text rest s sound refl is

  not_before : (m n : ℕ) (text rest rest' : List ℕ) (s t : State) → m < n → Arrives m text s rest → Stuck s rest → Arrives n text t rest' → ⊥
  not_before m n text rest rest' s t below here stuck further =
      let on = went_on f Adds start size readable n m text rest' t below further in
      let same = reach_one f Adds start size readable m text rest on.1 s on.0 here on.4 in
      stuck on.2 on.3 (subst (λ (r : List ℕ). Leads f Adds start size readable s r on.2 on.3) (sym same.1) (subst (λ (r : State). Leads f Adds start size readable r on.1 on.2 on.3) (sym same.0) on.5))

  stuck_one : (text rest rest' : List ℕ) (s t : State) → f.IsSound s → f.IsSound t → text ≡ f.text_of s ++ rest → text ≡ f.text_of t ++ rest' → Stuck s rest → Stuck t rest' → (s ≡ t) × (rest ≡ rest')
  stuck_one text rest rest' s t sound sound' is is' stuck stuck' =
      let x = arrives s text rest sound is in
      let y = arrives t text rest' sound' is' in
      elim (cases_lt (size s) (size t)) [
        | inl lt ↦ absurd (not_before (size s) (size t) text rest rest' s t lt x stuck y)
        | inr le ↦ elim (cases_lt (size t) (size s)) [
          | inl lt ↦ absurd (not_before (size t) (size s) text rest' rest t s lt y stuck' x)
          | inr le' ↦
              let same : size t ≡ size s = omega (arith, le, le') in
              reach_one f Adds start size readable (size s) text rest rest' s t x (subst (λ (k : ℕ). Arrives k text t rest') same y)
        ]
      ]

  closed : (s : State) (text rest : List ℕ) → text ≡ whole_text f s ++ rest → text ≡ f.text_of s ++ (end_line f ++ rest)
  closed s text rest is = is ∙ append_assoc (f.text_of s) (end_line f) rest

  whole : (s : State) (text : List ℕ) → text ≡ whole_text f s → text ≡ f.text_of s ++ (end_line f ++ [])
  whole s text is = closed s text [] (is ∙ sym (append-nil (whole_text f s)))

  not_headed : (text rest rest' : List ℕ) (s : State) → f.IsSound s → text ≡ f.text_of s ++ rest → text ≡ rest' → ((more : List ℕ) → rest' ≡ head_line f ++ more → ⊥) → ⊥
  not_headed text rest rest' s sound is is' none = let h = headed f Adds start size readable (size s) text rest s (arrives s text rest sound is) in none h.0 (sym is' ∙ h.1)

  found_faulty : (text rest : List ℕ) (s : State) (at : Front State) (kind : FaultKind) → f.IsSound s → f.MayStand s f.end → text ≡ whole_text f s → IsFront f at → text ≡ front_text f at ++ rest → FaultAt f at rest kind → ⊥
  found_faulty text rest s Nothing kind sound may is front is' fault = not_headed text (end_line f ++ []) rest s sound (whole s text is) is' fault.1
  found_faulty text rest s (Open t) kind sound may is front is' fault =
      let one = stuck_one text (end_line f ++ []) rest s t sound front (whole s text is) is' (end_stuck s [] may) (fault_stuck t rest kind fault) in
      end_no_fault t [] kind (subst (λ (r : State). f.MayStand r f.end) one.0 may) (subst (λ (r : List ℕ). FaultBehind f t r kind) (sym one.1) fault)
  found_faulty text rest s (Closed t) kind sound may is front is' fault =
      let one = stuck_one text (end_line f ++ []) (end_line f ++ rest) s t sound front.0 (whole s text is) (closed t text rest is') (end_stuck s [] may) (end_stuck t rest front.1) in
      fault.1 (append_cancel_left (end_line f) rest [] (sym one.1))

  open_closed : (text rest rest' : List ℕ) (s t : State) (kind : FaultKind) → f.IsSound s → f.IsSound t → f.MayStand t f.end → text ≡ f.text_of s ++ rest → text ≡ whole_text f t ++ rest' → FaultBehind f s rest kind → ⊥
  open_closed text rest rest' s t kind x y may is is' fault =
      let one = stuck_one text rest (end_line f ++ rest') s t x y is (closed t text rest' is') (fault_stuck s rest kind fault) (end_stuck t rest' may) in
      end_no_fault s rest' kind (subst (λ (r : State). f.MayStand r f.end) (sym one.0) may) (subst (λ (r : List ℕ). FaultBehind f s r kind) one.1 fault)

  faulty_faulty : (text rest rest' : List ℕ) (at at' : Front State) (a b : FaultKind) → IsFront f at → IsFront f at' → text ≡ front_text f at ++ rest → text ≡ front_text f at' ++ rest' → FaultAt f at rest a → FaultAt f at' rest' b →
      (a ≡ b) × (front_lines f at ≡ front_lines f at')
  faulty_faulty text rest rest' Nothing Nothing a b x y is is' p q = (p.0 ∙ sym q.0, refl)
  faulty_faulty text rest rest' Nothing (Open t) a b x y is is' p q = absurd (not_headed text rest' rest t y is' is p.1)
  faulty_faulty text rest rest' Nothing (Closed t) a b x y is is' p q = absurd (not_headed text (end_line f ++ rest') rest t y.0 (closed t text rest' is') is p.1)
  faulty_faulty text rest rest' (Open s) Nothing a b x y is is' p q = absurd (not_headed text rest rest' s x is is' q.1)
  faulty_faulty text rest rest' (Closed s) Nothing a b x y is is' p q = absurd (not_headed text (end_line f ++ rest) rest' s x.0 (closed s text rest is) is' q.1)
  faulty_faulty text rest rest' (Open s) (Open t) a b x y is is' p q =
      let one = stuck_one text rest rest' s t x y is is' (fault_stuck s rest a p) (fault_stuck t rest' b q) in
      (fault_one f readable.lacks readable.one_line s rest a b p (subst (λ (r : List ℕ). FaultBehind f s r b) (sym one.1) (subst (λ (u : State). FaultBehind f u rest' b) (sym one.0) q)), ap f.lines_of one.0)
  faulty_faulty text rest rest' (Open s) (Closed t) a b x y is is' p q = absurd (open_closed text rest rest' s t a x y.0 y.1 is is' p)
  faulty_faulty text rest rest' (Closed s) (Open t) a b x y is is' p q = absurd (open_closed text rest' rest t s b y x.0 x.1 is' is q)
  faulty_faulty text rest rest' (Closed s) (Closed t) a b x y is is' p q =
      let one = stuck_one text (end_line f ++ rest) (end_line f ++ rest') s t x.0 y.0 (closed s text rest is) (closed t text rest' is') (end_stuck s rest x.1) (end_stuck t rest' y.1) in
      (p.0 ∙ sym q.0, ap (λ (u : State). f.lines_of u + 1) one.0)

  pub answers_one : (text : List ℕ) (a b : Answer State) → Answers f text a → Answers f text b → a ≡ b
  answers_one text Long Long x y = refl
  answers_one text Long (Found t) x y = absurd (omega (arith, x, y.0))
  answers_one text Long (Faulty k n) x y = absurd (omega (arith, x, y.0))
  answers_one text (Found s) Long x y = absurd (omega (arith, y, x.0))
  answers_one text (Faulty k n) Long x y = absurd (omega (arith, y, x.0))
  answers_one text (Found s) (Found t) x y =
      ap Found (stuck_one text (end_line f ++ []) (end_line f ++ []) s t x.1 y.1 (whole s text x.3) (whole t text y.3) (end_stuck s [] x.2) (end_stuck t [] y.2)).0
  answers_one text (Found s) (Faulty k n) x y = absurd (found_faulty text y.1.rest s y.1.front k x.1 x.2 x.3 y.1.sound y.1.is y.1.fault)
  answers_one text (Faulty k n) (Found t) x y = absurd (found_faulty text x.1.rest t x.1.front k y.1 y.2 y.3 x.1.sound x.1.is x.1.fault)
  answers_one text (Faulty k n) (Faulty j m) x y =
      let one = faulty_faulty text x.1.rest y.1.rest x.1.front y.1.front k j x.1.sound y.1.sound x.1.is y.1.is x.1.fault y.1.fault in
      let lines : n ≡ m = x.1.number ∙ ap (λ i. i + 1) one.1 ∙ sym y.1.number in
      rw (one.0, lines) refl
