-- The lines of a text, taken one by one, lead to one state.
use Rattle.std.proofs.Common.{◌≡◌, ◌<◌, ℕ, zero, suc, List, ◌++◌, sym, refl, ◌∙◌, ap, subst, arith, append_assoc, inl, inr}
use Rattle.std.proofs.lemmas.List.{append_cancel_left}
use Rattle.std.proofs.lemmas.Bool.{cases_lt}
use Rattle.line_format.specs.Words.{line_of}
use Rattle.line_format.specs.Format.{Format, Begins, head_line}
use Rattle.line_format.proofs.Readable.{IsStep, IsReadable}
use Rattle.line_format.proofs.OneLine.{line_one}

module _ {State Line : Type 0} (f : Format State Line) (Adds : State → Line → State → Type 0) (start : State) (size : State → ℕ) (readable : IsReadable f Adds start size) where
  -- a line at the front of mid leads from s to t, and the rest is left
  pub record Leads (s : State) (mid : List ℕ) (t : State) (rest : List ℕ) : Type 0 where
    pub line : Line
    pub step : IsStep f Adds s line t
    pub is : mid ≡ line_of (f.line_words line) ++ rest

  pub lead_begins : (s : State) (mid : List ℕ) (t : State) (rest : List ℕ) (leads : Leads s mid t rest) → Begins f s mid leads.line
  lead_begins s mid t rest leads = record { may = leads.step.may; spelled = leads.step.spelled; more = rest; is = leads.is }

  leads_one : (s : State) (mid rest rest' : List ℕ) (t u : State) → Leads s mid t rest → Leads s mid u rest' → (t ≡ u) × (rest ≡ rest')
  leads_one s mid rest rest' t u a b =
      let one = line_one f readable.lacks readable.one_line a.line b.line rest rest' a.step.spelled b.step.spelled (sym a.is ∙ b.is) in
      (readable.one_next s b.line t u b.step.sound (subst (λ (l : Line). Adds s l t) one.0 a.step.adds) b.step.adds, one.1)

  -- n lines behind the head of the text lead to s, and the rest is left
  abbrev pub Reaches : ℕ → List ℕ → State → List ℕ → Type 0
  Reaches zero text s rest = (s ≡ start) × (text ≡ head_line f ++ rest)
  Reaches (suc n) text t rest = (s : State) × (mid : List ℕ) × Reaches n text s mid × Leads s mid t rest

  pub reach_one : (n : ℕ) (text rest rest' : List ℕ) (s t : State) → Reaches n text s rest → Reaches n text t rest' → (s ≡ t) × (rest ≡ rest')
  reach_one zero text rest rest' s t a b = (a.0 ∙ sym b.0, append_cancel_left (head_line f) rest rest' (sym a.1 ∙ b.1))
  reach_one (suc n) text rest rest' s t a b =
      let back = reach_one n text a.1 b.1 a.0 b.0 a.2 b.2 in
      leads_one b.0 b.1 rest rest' s t (subst (λ (m : List ℕ). Leads b.0 m s rest) back.1 (subst (λ (r : State). Leads r a.1 s rest) back.0 a.3)) b.3

  -- a text that leads further could go on there
  pub went_on : (m n : ℕ) (text rest : List ℕ) (t : State) → n < m → Reaches m text t rest → (s : State) × (mid : List ℕ) × (u : State) × (more : List ℕ) × Reaches n text s mid × Leads s mid u more
  went_on zero n text rest t below r = absurd (omega (arith, below))
  went_on (suc m) n text rest t below r =
      elim (cases_lt n m) [
        | inl lt ↦ went_on m n text r.1 r.0 lt r.2
        | inr le ↦ let same : m ≡ n = omega (arith, below, le) in (r.0, r.1, t, rest, subst (λ (k : ℕ). Reaches k text r.0 r.1) same r.2, r.3)
      ]

  -- each sound state is reached by its own lines
  pub reaches : (n : ℕ) (text rest : List ℕ) (s : State) → f.IsSound s → size s ≡ n → text ≡ f.text_of s ++ rest → Reaches n text s rest
  reaches zero text rest s sound len is =
      let first = readable.start_size s sound len in
      (first, is ∙ ap (λ (t : State). f.text_of t ++ rest) first ∙ ap (λ (t : List ℕ). t ++ rest) readable.start_text)
  reaches (suc n) text rest s sound len is =
      let last = readable.last_line s n sound len in
      let line = line_of (f.line_words last.1) in
      let split = is ∙ ap (λ (t : List ℕ). t ++ rest) last.3.grows.text ∙ append_assoc (f.text_of last.0) line rest in
      (last.0, line ++ rest, reaches n text (line ++ rest) last.0 last.3.sound last.2 split, record { line = last.1; step = last.3; is = refl })

  pub headed : (n : ℕ) (text rest : List ℕ) (s : State) → Reaches n text s rest → (more : List ℕ) × (text ≡ head_line f ++ more)
  headed zero text rest s r = (rest, r.1)
  headed (suc n) text rest s r = headed n text r.1 r.0 r.2
