-- A text begins with at most one line, and behind the same lines there is one fault.
use Rattle.std.proofs.Common.{◌≡◌, ℕ, List, [], ◌∷◌, ◌++◌, Option, Some, None, refl, sym, ◌∙◌, ap, append_assoc}
use Rattle.line_format.specs.Words.{words, line_of}
use Rattle.line_format.specs.Cut.{cut, Lacks}
use Rattle.line_format.specs.Format.{Format, Begins, FaultBehind}
use Rattle.line_format.specs.declared.fault.FaultKind.{FaultKind}
use Rattle.line_format.specs.declared.fault.FaultKind.TheVariants as kinds
use Rattle.line_format.proofs.Cutting.{cut_again}

first_part : Option (List ℕ × List ℕ) → List ℕ
first_part None = []
first_part (Some p) = p.0

second_part : Option (List ℕ × List ℕ) → List ℕ
second_part None = []
second_part (Some p) = p.1

some_parts : (a b m n : List ℕ) → (let x : Option (List ℕ × List ℕ) = Some (a, m) in x) ≡ Some (b, n) → (a ≡ b) × (m ≡ n)
unfolding first_part second_part
some_parts a b m n e = (ap first_part e, ap second_part e)

-- what stands before and after the first line feed is known
pub lines_cut : (a b m n : List ℕ) → Lacks 10 a → Lacks 10 b → (a ++ 10 ∷ []) ++ m ≡ (b ++ 10 ∷ []) ++ n → (a ≡ b) × (m ≡ n)
lines_cut a b m n x y is =
    let flat = sym (append_assoc a (10 ∷ []) m) ∙ is ∙ append_assoc b (10 ∷ []) n in
    some_parts _ _ _ _ (sym (cut_again 10 a m x) ∙ ap (cut 10) flat ∙ cut_again 10 b n y)

module _ {State Line : Type 0} (f : Format State Line) (lacks : (line : Line) → f.IsSpelled line → Lacks 10 (words (f.line_words line)))
    (one_line : (a b : Line) → f.IsSpelled a → f.IsSpelled b → words (f.line_words a) ≡ words (f.line_words b) → a ≡ b) where
  pub line_one : (a b : Line) (m n : List ℕ) → f.IsSpelled a → f.IsSpelled b → line_of (f.line_words a) ++ m ≡ line_of (f.line_words b) ++ n → (a ≡ b) × (m ≡ n)
  line_one a b m n x y is =
      let parts = lines_cut (words (f.line_words a)) (words (f.line_words b)) m n (lacks a x) (lacks b y) is in
      (one_line a b x y parts.0, parts.1)

  pub begins_one : (s : State) (rest : List ℕ) (a b : Line) (x : Begins f s rest a) (y : Begins f s rest b) → (a ≡ b) × (x.more ≡ y.more)
  begins_one s rest a b x y = line_one a b x.more y.more x.spelled y.spelled (sym x.is ∙ y.is)

  pub fault_one : (s : State) (rest : List ℕ) (a b : FaultKind) → FaultBehind f s rest a → FaultBehind f s rest b → a ≡ b
  fault_one s rest kinds.Syntax kinds.Syntax x y = refl
  fault_one s rest kinds.Name kinds.Name x y = refl
  fault_one s rest kinds.Range kinds.Range x y = refl
  fault_one s rest kinds.Limit kinds.Limit x y = refl
  fault_one s rest kinds.Syntax kinds.Name x y = absurd (x y.0 y.1)
  fault_one s rest kinds.Syntax kinds.Range x y = absurd (x y.0 y.1)
  fault_one s rest kinds.Syntax kinds.Limit x y = absurd (x y.0 y.1)
  fault_one s rest kinds.Name kinds.Syntax x y = absurd (y x.0 x.1)
  fault_one s rest kinds.Range kinds.Syntax x y = absurd (y x.0 x.1)
  fault_one s rest kinds.Limit kinds.Syntax x y = absurd (y x.0 x.1)
  fault_one s rest kinds.Name kinds.Range x y = absurd (x.2 (rw (begins_one s rest x.0 y.0 x.1 y.1).0 y.2))
  fault_one s rest kinds.Name kinds.Limit x y = absurd (x.2 (rw (begins_one s rest x.0 y.0 x.1 y.1).0 y.2))
  fault_one s rest kinds.Range kinds.Name x y = absurd (y.2 (rw (begins_one s rest y.0 x.0 y.1 x.1).0 x.2))
  fault_one s rest kinds.Limit kinds.Name x y = absurd (y.2 (rw (begins_one s rest y.0 x.0 y.1 x.1).0 x.2))
  fault_one s rest kinds.Range kinds.Limit x y = absurd (x.3 (rw (begins_one s rest x.0 y.0 x.1 y.1).0 y.3))
  fault_one s rest kinds.Limit kinds.Range x y = absurd (y.3 (rw (begins_one s rest y.0 x.0 y.1 x.1).0 x.3))

  -- a line that may be taken is no fault
  pub no_fault : (s : State) (rest : List ℕ) (kind : FaultKind) (line : Line) → FaultBehind f s rest kind → Begins f s rest line → f.NamesFit s line → f.NumbersFit line → f.HasRoom s line → ⊥
  no_fault s rest kinds.Syntax line x b n r h = x line b
  no_fault s rest kinds.Name line x b n r h = x.2 (rw (begins_one s rest x.0 line x.1 b).0 n)
  no_fault s rest kinds.Range line x b n r h = x.3 (rw (begins_one s rest x.0 line x.1 b).0 r)
  no_fault s rest kinds.Limit line x b n r h = x.4 (rw (begins_one s rest x.0 line x.1 b).0 h)
