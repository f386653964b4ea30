-- What a walk over the first steps says of each of them.
use Rattle.std.proofs.Common.{◌≡◌, ◌<◌, ◌≤◌, ℕ, zero, suc, List, [], ◌∷◌, length, take, get_or, slice_get, Some, refl, sym, ◌∙◌, ap, subst, arith, inl, inr}
use Rattle.std.specs.Prelude.{All}
use Rattle.std.proofs.lemmas.Option.{slice_get_within, slice_get-get_or}
use Rattle.problem_model.specs.declared.items.Node.{Node}
use Rattle.problem_model.specs.declared.items.Node.TheVariants as nodes
use Rattle.problem_model.specs.Problem.{ProblemLists, IsWellFormed}
use Rattle.problem_model.specs.Bounds.{Constraint, Declares}
use Rattle.problem_model.proofs.OneName.{declared_one}
use Rattle.cert.specs.declared.chain.Step.{Step}
use Rattle.cert.specs.CertificateText.{IsStepOf}
use Rattle.cert.specs.Shows.{weighed_bounds}
use Rattle.cert_check.specs.declared.answer.Part.{Part}
use Rattle.cert_check.specs.Walks.{entry_of, exit_of, Goes}
use Rattle.cert_check.specs.Reasons.{IsMisweighed, HasComeTo, ShouldBeAt}

some_same : {X : Type 0} (a b : X) → Some a ≡ Some b → a ≡ b
some_same a b e = cc

-- ---- the first steps have the same places
pub take_at : {X : Type 0} (xs : List X) (j k : ℕ) (x : X) → k < j → slice_get xs k ≡ Some x → slice_get (take j xs) k ≡ Some x
take_at [] j k x below at = absurd cc
take_at (y ∷ xs) zero k x below at = absurd (omega (arith, below))
take_at (y ∷ xs) (suc j) zero x below at = at
take_at (y ∷ xs) (suc j) (suc k) x below at = take_at xs j k x (omega (arith, below)) at

pub take_long : {X : Type 0} (xs : List X) (j : ℕ) → j ≤ length xs → length (take j xs) ≡ j
take_long [] zero short = refl
take_long [] (suc j) short = absurd (omega (arith, short))
take_long (x ∷ xs) zero short = refl
take_long (x ∷ xs) (suc j) short = ap suc (take_long xs j (omega (arith, short)))

module _ (p : ProblemLists) (lawful : IsWellFormed p) (part : Part) where
  same_bound : (s t : Step) (c d : Constraint) → s ≡ t → Declares p s.bound c → Declares p t.bound d → c ≡ d
  same_bound s t c d same declares declares' = declared_one p lawful t.bound c d (subst (λ (u : Step). Declares p u.bound c) same declares) declares'

  -- ---- each step of a walk
  pub goes_first : (m n : Node) (steps : List Step) (s : Step) (c : Constraint) → Goes p part m (weighed_bounds steps) n → slice_get steps 0 ≡ Some s → Declares p s.bound c → entry_of part c ≡ m
  goes_first m n [] s c goes at declares = absurd cc
  goes_first m n (t ∷ steps) s c goes at declares = ap (entry_of part) (same_bound s t c goes.0 (sym (some_same t s at)) declares goes.1) ∙ goes.3

  pub goes_weight : (m n : Node) (steps : List Step) (j : ℕ) (s : Step) (c : Constraint) → Goes p part m (weighed_bounds steps) n → slice_get steps j ≡ Some s → Declares p s.bound c → c.weight ≡ s.weight
  goes_weight m n [] j s c goes at declares = absurd cc
  goes_weight m n (t ∷ steps) zero s c goes at declares =
      let same : t ≡ s = some_same t s at in
      ap (λ (d : Constraint). d.weight) (same_bound s t c goes.0 (sym same) declares goes.1) ∙ goes.2 ∙ ap (λ (u : Step). u.weight) same
  goes_weight m n (t ∷ steps) (suc j) s c goes at declares = goes_weight (exit_of part goes.0) n steps j s c goes.4 at declares

  pub goes_join : (m n : Node) (steps : List Step) (j : ℕ) (s t : Step) (c d : Constraint) → Goes p part m (weighed_bounds steps) n → slice_get steps j ≡ Some s → slice_get steps (suc j) ≡ Some t
      → Declares p s.bound c → Declares p t.bound d → exit_of part c ≡ entry_of part d
  goes_join m n [] j s t c d goes at at' declares declares' = absurd cc
  goes_join m n (u ∷ steps) zero s t c d goes at at' declares declares' =
      ap (exit_of part) (same_bound s u c goes.0 (sym (some_same u s at)) declares goes.1) ∙ sym (goes_first (exit_of part goes.0) n steps t d goes.4 at' declares')
  goes_join m n (u ∷ steps) (suc j) s t c d goes at at' declares declares' = goes_join (exit_of part goes.0) n steps j s t c d goes.4 at at' declares declares'

  pub goes_last : (m n : Node) (steps : List Step) (j : ℕ) (s : Step) (c : Constraint) → Goes p part m (weighed_bounds steps) n → slice_get steps j ≡ Some s → suc j ≡ length steps → Declares p s.bound c → exit_of part c ≡ n
  goes_last m n [] j s c goes at last declares = absurd cc
  goes_last m n (t ∷ []) zero s c goes at last declares = ap (exit_of part) (same_bound s t c goes.0 (sym (some_same t s at)) declares goes.1) ∙ goes.4
  goes_last m n (t ∷ u ∷ steps) zero s c goes at last declares = absurd (omega (arith, last))
  goes_last m n (t ∷ steps) (suc j) s c goes at last declares = goes_last (exit_of part goes.0) n steps j s c goes.4 at (omega (arith, last)) declares

  -- ---- the steps before a place
  module _ (m n : Node) (steps : List Step) (j : ℕ) (goes : Goes p part m (weighed_bounds (take j steps)) n) where
    pub weighs_before : (i : ℕ) (s : Step) → i < j → slice_get steps i ≡ Some s → IsMisweighed p s → ⊥
    weighs_before i s below at (c, declares, differs) = differs (goes_weight m n (take j steps) i s c goes (take_at steps j i s below at) declares)

    pub joins_before : (i : ℕ) (s t : Step) (c d : Constraint) → suc i < j → slice_get steps i ≡ Some s → slice_get steps (suc i) ≡ Some t → Declares p s.bound c → Declares p t.bound d → exit_of part c ≡ entry_of part d
    joins_before i s t c d below at at' declares declares' =
        goes_join m n (take j steps) i s t c d goes (take_at steps j i s (omega (arith, below)) at) (take_at steps j (suc i) t below at') declares declares'

    pub begins_before : (s : Step) (c : Constraint) → 0 < j → slice_get steps 0 ≡ Some s → Declares p s.bound c → entry_of part c ≡ m
    begins_before s c below at declares = goes_first m n (take j steps) s c goes (take_at steps j 0 s below at) declares

    pub comes_there : (i : ℕ) (s : Step) (c : Constraint) → suc i ≡ j → slice_get steps i ≡ Some s → Declares p s.bound c → exit_of part c ≡ n
    comes_there i s c next at declares =
        let inside = slice_get_within steps i s at in
        let long : length (take j steps) ≡ j = take_long steps j (omega (arith, next, inside)) in
        goes_last m n (take j steps) i s c goes (take_at steps j i s (omega (arith, next)) at) (omega (arith, next, long)) declares

    pub stays_there : j ≡ 0 → m ≡ n
    stays_there none = subst (λ (k : ℕ). Goes p part m (weighed_bounds (take k steps)) n) none goes

-- a step that is there is declared
pub step_there : (p : ProblemLists) (steps : List Step) (k : ℕ) → All (IsStepOf p) steps → k < length steps → (s : Step) × (slice_get steps k ≡ Some s) × IsStepOf p s
step_there p [] k each inside = absurd (omega (arith, inside))
step_there p (t ∷ steps) k each inside =
    let s = get_or (t ∷ steps) k t in
    (s, slice_get-get_or (t ∷ steps) k t inside, each k t inside)

-- ---- paths, which begin at an event
module _ (p : ProblemLists) (lawful : IsWellFormed p) (part : Part) (first q : ℕ) (n : Node) (steps : List Step) (j : ℕ) (goes : Goes p part (nodes.Event q) (weighed_bounds (take j steps)) n) where
  pub come_one : (m : Node) → HasComeTo p part q steps j m → m ≡ n
  come_one m (inl (none, is)) = is ∙ stays_there p lawful part (nodes.Event q) n steps j goes none
  come_one m (inr (s, c, (i, next, at), declares, is)) = is ∙ comes_there p lawful part (nodes.Event q) n steps j goes i s c (omega (arith, next)) at declares

  pub come_some : j ≤ length steps → All (IsStepOf p) steps → HasComeTo p part q steps j n
  come_some short each = some j refl
    where
      some : (k : ℕ) → k ≡ j → HasComeTo p part q steps j n
      some zero is = inl (sym is, sym (stays_there p lawful part (nodes.Event q) n steps j goes (sym is)))
      some (suc i) is =
          let found = step_there p steps i each (omega (arith, short, is)) in
          inr (found.0, found.2.0, (i, omega (arith, is), found.1), found.2.1, sym (comes_there p lawful part (nodes.Event q) n steps j goes i found.0 found.2.0 is found.1 found.2.1))

  pub joined_before : j ≤ length steps → (i : ℕ) (m o : Node) → i < j → HasComeTo p part q steps i m → ShouldBeAt p part first steps i o → m ≡ o
  joined_before short i m o below come (inl (end, is)) = absurd (omega (arith, short, below, end))
  joined_before short i m o below (inl (none, from)) (inr (t, d, (k, next, at'), declares', is)) =
      let here : k ≡ 0 = omega (arith, next, none) in
      from ∙ sym (is ∙ begins_before p lawful part (nodes.Event q) n steps j goes t d (omega (arith, below)) (subst (λ (l : ℕ). slice_get steps l ≡ Some t) here at') declares')
  joined_before short i m o below (inr (s, c, (l, after, at), declares, from)) (inr (t, d, (k, next, at'), declares', is)) =
      let here : k ≡ suc l = omega (arith, next, after) in
      from ∙ joins_before p lawful part (nodes.Event q) n steps j goes l s t c d (omega (arith, below, after)) at (subst (λ (i' : ℕ). slice_get steps i' ≡ Some t) here at') declares declares' ∙ sym is
