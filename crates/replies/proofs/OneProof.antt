-- Two certificates of one interval have the same ends, with the same executions and cuts: they differ in their paths alone.
use Rattle.std.proofs.Common.{◌≡◌, ◌⊎◌, inl, inr, ◌<◌, ◌≤◌, ℕ, suc, List, [], ◌∷◌, length, map, get_or, slice_get, Some, AllPairs, Contains, refl, sym, ◌∙◌, ap, subst, arith}
use Rattle.std.specs.Prelude.{ℤ, neg_ℤ, ◌+ℤ◌, ◌-ℤ◌, ◌≤ℤ◌, ◌↔◌}
use Rattle.std.proofs.lemmas.Int.{ints, by_lt_z}
use Rattle.problem_model.specs.declared.items.Node.{Node}
use Rattle.problem_model.specs.declared.items.Node.TheVariants as nodes
use Rattle.problem_model.specs.Problem.{ProblemLists, IsProblem}
use Rattle.problem_model.specs.Bounds.{Times, IsExecution}
use Rattle.problem_model.specs.Nodes.{Reading, AreReadings, nodes_of}
use Rattle.problem_model.proofs.Chains.{Among, among}
use Rattle.problem_model.proofs.OneList.{contained, readings_one}
use Rattle.problem_model.proofs.Places.{stands_there}
use Rattle.problem_model.specs.ProblemArcs.{IsGreatestOf, IsUnboundedOf}
use Rattle.problem_model.specs.Solutions.{IsNodeOf, IsEarliestExecution, WeighedBound, Leads, weight_of}
use Rattle.cert.specs.EndLists.{EndLists, Limited, Unlimited}
use Rattle.cert.specs.CertificateText.{AreListsOf}
use Rattle.cert.specs.Shows.{IsCutOf, IsInside, IsLowerEnd, IsUpperEnd, LeadsAgainst, weighed_bounds}
use Rattle.attain.specs.Tight.{IsGreatestLeadOf, IsLatest, IsLeastLeadOf, IsLowerAs, IsSoonest, IsTightText, IsUpperAs}
use Rattle.queries.specs.Replies.{IsProofText}
use Rattle.replies.specs.OneProof.{AreOneEnd, AreOneProof}
use Rattle.replies.proofs.GreatestOrNone.{HasGreatest, Not, greatest_or_none, path_bounds}

-- ---- numbers and lists
same_number : (a b : ℤ) → a ≤ℤ b → b ≤ℤ a → a ≡ b
same_number a b less more = omega (arith, ints, less, more)

-- two integers that cannot differ are the same
stable : (a b : ℤ) → Not (Not (a ≡ b)) → a ≡ b
stable a b same = by_lt_z {P = a ≡ b} a b (λ less. absurd (same (λ is. omega (arith, ints)))) (λ fits. by_lt_z {P = a ≡ b} b a (λ less. absurd (same (λ is. omega (arith, ints)))) (λ other. same_number a b other fits))

-- each number comes before all later ones
Rises : List ℕ → Type 0
Rises [] = Unit {0}
Rises (x ∷ xs) = ((k : ℕ) → Among xs k → x < k) × Rises xs

rises : (xs : List ℕ) → AllPairs (λ j k. j < k) xs → Rises xs
unfolding Rises
rises [] pairs = tt
rises (x ∷ xs) pairs = (
  λ k at. let there = contained xs k at in
      let less : x < get_or xs there.0 k = pairs 0 (suc there.0) k (omega arith) (omega (arith, there.1)) in
      subst (λ (n : ℕ). x < n) there.2 less,
  rises xs (λ i j d less within. pairs (suc i) (suc j) d (omega (arith, less)) (omega (arith, within))),
)

least : (x : ℕ) (xs : List ℕ) (k : ℕ) → Rises (x ∷ xs) → Among (x ∷ xs) k → x ≤ k
unfolding Rises
least x xs k rising (inl is) = omega (arith, is)
least x xs k rising (inr at) = let less : x < k = rising.0 k at in omega (arith, less)

within_rest : (x y k : ℕ) (xs ys : List ℕ) → x ≡ y → Rises (x ∷ xs) → Among xs k → Among (y ∷ ys) k → Among ys k
unfolding Rises
within_rest x y k xs ys same rising at (inl is) = let less : x < k = rising.0 k at in absurd (omega (arith, less, same, is))
within_rest x y k xs ys same rising at (inr there) = there

same_list : (xs ys : List ℕ) → Rises xs → Rises ys → ((k : ℕ) → Among xs k → Among ys k) → ((k : ℕ) → Among ys k → Among xs k) → xs ≡ ys
unfolding Rises
same_list [] [] a b f g = refl
same_list [] (y ∷ ys) a b f g = absurd (g y (inl refl))
same_list (x ∷ xs) [] a b f g = absurd (f x (inl refl))
same_list (x ∷ xs) (y ∷ ys) a b f g =
    let low : y ≤ x = least y ys x b (f x (inl refl)) in
    let high : x ≤ y = least x xs y a (g y (inl refl)) in
    let same : x ≡ y = omega (arith, low, high) in
    let rest : xs ≡ ys = same_list xs ys a.1 b.1 (λ k at. within_rest x y k xs ys same a at (f k (inr at))) (λ k at. within_rest y x k ys xs (sym same) b at (g k (inr at))) in
    ap (λ (k : ℕ). k ∷ xs) same ∙ ap (λ (l : List ℕ). y ∷ l) rest

-- two lists that rise, of the same numbers, are one
one_list : (P : ℕ → Type 0) (xs ys : List ℕ) → AllPairs (λ j k. j < k) xs → AllPairs (λ j k. j < k) ys → ((k : ℕ) → Contains xs k ↔ P k) → ((k : ℕ) → Contains ys k ↔ P k) → xs ≡ ys
one_list P xs ys a b of_x of_y =
    same_list xs ys (rises xs a) (rises ys b) (λ k at. among ys k ((of_y k).1 ((of_x k).0 (contained xs k at)))) (λ k at. among xs k ((of_x k).1 ((of_y k).0 (contained ys k at))))

-- ---- paths against an execution and a cut
back_bounds : (p : ProblemLists) (m : Node) (steps : List WeighedBound) (n : Node) → LeadsAgainst p m steps n → (x : Times) → IsExecution p x → (x m -ℤ x n) ≤ℤ weight_of steps
back_bounds p m [] n leads x runs = let same : x m ≡ x n = ap x leads in omega (arith, ints)
back_bounds p m (s ∷ steps) n (c, declared, weighs, ends, leads) x runs =
    let rest : (x c.from -ℤ x n) ≤ℤ weight_of steps = back_bounds p c.from steps n leads x runs in
    let obeyed : (x c.to -ℤ x c.from) ≤ℤ c.weight = runs s.0 c declared in
    let same : x c.to ≡ x m = ap x ends in
    let weight : c.weight ≡ s.1 = weighs in
    omega (arith, ints)

stays_inside : (p : ProblemLists) (inside : List ℕ) (m : Node) (steps : List WeighedBound) (n : Node) → IsCutOf p inside → Leads p m steps n → IsInside p inside m → IsInside p inside n
stays_inside p inside m [] n cut leads home = subst (IsInside p inside) leads home
stays_inside p inside m (s ∷ steps) n cut (c, declared, weighs, begins, leads) home =
    stays_inside p inside c.to steps n cut leads (cut s.0 c declared (subst (IsInside p inside) (sym begins) home))

came_inside : (p : ProblemLists) (inside : List ℕ) (m : Node) (steps : List WeighedBound) (n : Node) → IsCutOf p inside → LeadsAgainst p m steps n → IsInside p inside n → IsInside p inside m
came_inside p inside m [] n cut leads home = subst (IsInside p inside) (sym leads) home
came_inside p inside m (s ∷ steps) n cut (c, declared, weighs, ends, leads) home =
    subst (IsInside p inside) ends (cut s.0 c declared (came_inside p inside c.from steps n cut leads home))

-- ---- executions
module _ (p : ProblemLists) (readings : List Reading) (lawful : IsProblem p) (are : AreReadings p readings) where
  is_node : (k : ℕ) (n : Node) → slice_get (nodes_of p readings) k ≡ Some n → IsNodeOf p n
  is_node k n there = elim (stands_there p readings k n are there) [
    | inl e ↦ subst (IsNodeOf p) e.2 e.1
    | inr r ↦ subst (IsNodeOf p) r.3 r.2
  ]

  map_one : (x y : Times) (all : List Node) → ((k : ℕ) (n : Node) → slice_get all k ≡ Some n → x n ≡ y n) → map x all ≡ map y all
  map_one x y [] same = refl
  map_one x y (n ∷ all) same = ap (λ (v : ℤ). v ∷ map x all) (same 0 n refl) ∙ ap (λ (l : List ℤ). y n ∷ l) (map_one x y all (λ k m at. same (suc k) m at))

  -- real times that are the same at each node have one list
  one_listing : (x y : Times) (a b : List ℤ) → a ≡ map x (nodes_of p readings) → b ≡ map y (nodes_of p readings) → ((n : Node) → IsNodeOf p n → x n ≡ y n) → a ≡ b
  one_listing x y a b lists_x lists_y same = lists_x ∙ map_one x y (nodes_of p readings) (λ k n at. same n (is_node k n at)) ∙ sym lists_y

  module _ (x y : Times) (e : IsEarliestExecution p x) (e' : IsEarliestExecution p y) where
    one_earliest : (n : Node) → IsNodeOf p n → x n ≡ y n
    one_earliest n is = same_number (x n) (y n) (e.least y e'.execution e'.from_zero n is) (e'.least x e.execution e.from_zero n is)

    -- a greatest difference, or none, decides what a real time is
    decides : (from to : Node) (a b : ℤ) → IsNodeOf p from → IsNodeOf p to → ((h : ℤ) → IsGreatestOf p from to h → a ≡ b) → (IsUnboundedOf p from to → a ≡ b) → a ≡ b
    decides from to a b is is' limited unlimited = stable a b (λ differ. greatest_or_none p readings lawful are x e.execution from to is is' (by differ))
      where
        by : Not (a ≡ b) → HasGreatest p from to ⊎ IsUnboundedOf p from to → ⊥
        by differ (inl (h, greatest)) = differ (limited h greatest)
        by differ (inr none) = differ (unlimited none)

    module _ (first : Node) (first_is : IsNodeOf p first) (K L : ℤ) (u v : Times) where
      upper_lead : IsGreatestLeadOf p first x K → IsGreatestLeadOf p first y L → K ≤ℤ L
      upper_lead lead other =
          let at = lead.attained in
          let same : x at.0 ≡ y at.0 = one_earliest at.0 at.2 in
          let is : (at.1 -ℤ x at.0) ≡ K = at.4 in
          let most : (at.1 -ℤ y at.0) ≤ℤ L = other.most at.0 at.1 at.2 at.3 in
          omega (arith, ints)

      lower_lead : IsLeastLeadOf p first x K → IsLeastLeadOf p first y L → L ≤ℤ K
      lower_lead lead other =
          let at = lead.attained in
          let same : x at.0 ≡ y at.0 = one_earliest at.0 at.2 in
          let is : (neg_ℤ at.1 -ℤ x at.0) ≡ K = at.4 in
          let fewest : L ≤ℤ (neg_ℤ at.1 -ℤ y at.0) = other.least at.0 at.1 at.2 at.3 in
          omega (arith, ints)

      one_latest : K ≡ L → IsLatest p first x K u → IsLatest p first y L v → (n : Node) → IsNodeOf p n → u n ≡ v n
      one_latest lead a b n is = decides first n (u n) (v n) first_is is
          (λ h greatest. a.limited n h is greatest ∙ sym (b.limited n h is greatest))
          (λ none. let one : u n ≡ x n +ℤ K = a.unlimited n is none in let other : v n ≡ y n +ℤ L = b.unlimited n is none in let same : x n ≡ y n = one_earliest n is in omega (arith, ints))

      one_soonest : K ≡ L → IsSoonest p first x K u → IsSoonest p first y L v → (n : Node) → IsNodeOf p n → u n ≡ v n
      one_soonest lead a b n is = decides n first (u n) (v n) is first_is
          (λ h greatest. a.limited n h is greatest ∙ sym (b.limited n h is greatest))
          (λ none. let one : u n ≡ x n +ℤ K = a.unlimited n is none in let other : v n ≡ y n +ℤ L = b.unlimited n is none in let same : x n ≡ y n = one_earliest n is in omega (arith, ints))

  -- ---- ends
  module _ (first second : ℕ) (first_is : IsNodeOf p (nodes.Event first)) where
    one_upper : (a b : EndLists) → AreListsOf p a → AreListsOf p b → IsUpperEnd p first second a → IsUpperEnd p first second b → IsUpperAs p readings first a → IsUpperAs p readings first b → AreOneEnd a b
    one_upper (Limited value path execution) (Limited other way run) lists lists' (leads, sum, (t, listed, runs, is)) (leads', sum', (t', listed', runs', is')) (x, K, u, e, lead, latest, told, short) (y, L, v, e', lead', latest', told', short') =
        let bound : (t' (nodes.Event second) -ℤ t' (nodes.Event first)) ≤ℤ weight_of (weighed_bounds path) = back_bounds p (nodes.Event second) (weighed_bounds path) (nodes.Event first) leads t' runs' in
        let bound' : (t (nodes.Event second) -ℤ t (nodes.Event first)) ≤ℤ weight_of (weighed_bounds way) = back_bounds p (nodes.Event second) (weighed_bounds way) (nodes.Event first) leads' t runs in
        let K_is : K ≡ L = same_number K L (upper_lead x y e e' (nodes.Event first) first_is K L u v lead lead') (upper_lead y x e' e (nodes.Event first) first_is L K v u lead' lead) in (
          same_number value other (omega (arith, ints, sum, sum', is, is', bound, bound')) (omega (arith, ints, sum, sum', is, is', bound, bound')),
          one_listing u v execution run told told' (one_latest x y e e' (nodes.Event first) first_is K L u v K_is latest latest'),
        )
    one_upper (Limited value path execution) (Unlimited inside run) lists lists' (leads, sum, attains) (parts, runs) kind kind' =
        absurd (parts.away (came_inside p inside (nodes.Event second) (weighed_bounds path) (nodes.Event first) parts.cut leads parts.home))
    one_upper (Unlimited inside execution) (Limited other way run) lists lists' (parts, runs) (leads, sum, attains) kind kind' =
        absurd (parts.away (came_inside p inside (nodes.Event second) (weighed_bounds way) (nodes.Event first) parts.cut leads parts.home))
    one_upper (Unlimited inside execution) (Unlimited within run) lists lists' shown shown' (x, e, told, cut) (y, e', told', cut') = (
      one_list _ inside within lists.1 lists'.1 cut cut',
      one_listing x y execution run told told' (one_earliest x y e e'),
    )

    one_lower : (a b : EndLists) → AreListsOf p a → AreListsOf p b → IsLowerEnd p first second a → IsLowerEnd p first second b → IsLowerAs p readings first a → IsLowerAs p readings first b → AreOneEnd a b
    one_lower (Limited value path execution) (Limited other way run) lists lists' (leads, sum, (t, listed, runs, is)) (leads', sum', (t', listed', runs', is')) (x, K, u, e, lead, soonest, told, short) (y, L, v, e', lead', soonest', told', short') =
        let bound : (t' (nodes.Event first) -ℤ t' (nodes.Event second)) ≤ℤ weight_of (weighed_bounds path) = path_bounds p (nodes.Event second) (weighed_bounds path) (nodes.Event first) leads t' runs' in
        let bound' : (t (nodes.Event first) -ℤ t (nodes.Event second)) ≤ℤ weight_of (weighed_bounds way) = path_bounds p (nodes.Event second) (weighed_bounds way) (nodes.Event first) leads' t runs in
        let K_is : K ≡ L = same_number K L (lower_lead y x e' e (nodes.Event first) first_is L K v u lead' lead) (lower_lead x y e e' (nodes.Event first) first_is K L u v lead lead') in (
          same_number value other (omega (arith, ints, sum, sum', is, is', bound, bound')) (omega (arith, ints, sum, sum', is, is', bound, bound')),
          one_listing u v execution run told told' (one_soonest x y e e' (nodes.Event first) first_is K L u v K_is soonest soonest'),
        )
    one_lower (Limited value path execution) (Unlimited inside run) lists lists' (leads, sum, attains) (parts, runs) kind kind' =
        absurd (parts.away (stays_inside p inside (nodes.Event second) (weighed_bounds path) (nodes.Event first) parts.cut leads parts.home))
    one_lower (Unlimited inside execution) (Limited other way run) lists lists' (parts, runs) (leads, sum, attains) kind kind' =
        absurd (parts.away (stays_inside p inside (nodes.Event second) (weighed_bounds way) (nodes.Event first) parts.cut leads parts.home))
    one_lower (Unlimited inside execution) (Unlimited within run) lists lists' shown shown' (x, e, told, cut) (y, e', told', cut') = (
      one_list _ inside within lists.1 lists'.1 cut cut',
      one_listing x y execution run told told' (one_earliest x y e e'),
    )

pub proofs_one : (p : ProblemLists) (first second : ℕ) (a b : List ℕ) → IsProblem p → first < length p.events → IsProofText p first second a → IsProofText p first second b → AreOneProof p first second a b
proofs_one p first second a b lawful is (readings, are, (upper, lower, tight, says)) (others, are', text') =
    let same : others ≡ readings = readings_one p others readings are' are in
    let text : IsTightText p readings first second b = subst (λ (rs : List Reading). IsTightText p rs first second b) same text' in
    let t = text.2 in
    record {
      readings = readings;
      upper = upper;
      lower = lower;
      other_upper = text.0;
      other_lower = text.1;
      are = are;
      tight = tight;
      other_tight = text.2;
      says = says;
      other_says = text.3;
      one_upper = one_upper p readings lawful are first second is upper text.0 tight.upper_of t.upper_of tight.upper_shown t.upper_shown tight.upper_as t.upper_as;
      one_lower = one_lower p readings lawful are first second is lower text.1 tight.lower_of t.lower_of tight.lower_shown t.lower_shown tight.lower_as t.lower_as;
    }
