-- The lists of all nodes have as many entries as arcs are in force.
use Rattle.std.proofs.Common.{◌≡◌, ℕ, zero, suc, ◌+◌, ◌<◌, ◌⊎◌, inl, inr, Bool, true, false, cond, List, [], ◌∷◌, length, get_or, refl, ap, sym, ◌∙◌, subst, arith}
use Rattle.std.specs.Prelude.{◌≢◌, count_by}
use Rattle.std.proofs.lemmas.Bool.{cases_eq}
use Rattle.std.proofs.lemmas.List.Sums.{sum_by-cons}
use Rattle.problem_model.specs.Sums.{sum_to}
use Rattle.problem_model.specs.Tables.{ArcTable, reversed_table}
use Rattle.problem_model.proofs.Sums.{sum-same, sum-more, sum_zero}
use Rattle.sync_graph.specs.Lists.{list_at, entry_at, AreListed}
use Rattle.sync_graph.specs.Graph.{GraphLists, IsGraph, table_of, departing, reaching, arcs_in_force}
use Rattle.sync_graph.proofs.InForce.{in_force_below, no_arc}

abbrev pub one_if : Bool → ℕ
one_if b = cond b 1 0

-- what is kept where two numbers are one, and where they are not
abbrev pub at_one : {A B : Type 0} → A ⊎ B → Bool → Bool
at_one (inl e) b = b
at_one (inr e) b = false

abbrev pub at_others : {A B : Type 0} → A ⊎ B → Bool → Bool
at_others (inl e) b = false
at_others (inr e) b = b

same_one : (i j : ℕ) (s : (i ≡ j) ⊎ (i ≢ j)) (b : Bool) → i ≡ j → at_one s b ≡ b
same_one i j (inl e) b q = refl
same_one i j (inr n) b q = absurd (n q)

differ_one : (i j : ℕ) (s : (i ≡ j) ⊎ (i ≢ j)) (b : Bool) → i ≢ j → at_one s b ≡ false
differ_one i j (inl e) b n = absurd (n e)
differ_one i j (inr m) b n = refl

true_one : (i j : ℕ) (s : (i ≡ j) ⊎ (i ≢ j)) (b : Bool) → at_one s b ≡ true → (i ≡ j) × (b ≡ true)
true_one i j (inl e) b t = (e, t)
true_one i j (inr n) b t = absurd (let z : false ≡ true = t in let w : ⊥ = cc in w)

none_one : (i j : ℕ) (s : (i ≡ j) ⊎ (i ≢ j)) → at_one s false ≡ false
none_one i j (inl e) = refl
none_one i j (inr n) = refl

same_others : (i j : ℕ) (s : (i ≡ j) ⊎ (i ≢ j)) (b : Bool) → i ≡ j → at_others s b ≡ false
same_others i j (inl e) b q = refl
same_others i j (inr n) b q = absurd (n q)

differ_others : (i j : ℕ) (s : (i ≡ j) ⊎ (i ≢ j)) (b : Bool) → i ≢ j → at_others s b ≡ b
differ_others i j (inl e) b n = absurd (n e)
differ_others i j (inr m) b n = refl

true_others : (i j : ℕ) (s : (i ≡ j) ⊎ (i ≢ j)) (b : Bool) → at_others s b ≡ true → (i ≢ j) × (b ≡ true)
true_others i j (inl e) b t = absurd (let z : false ≡ true = t in let n : ⊥ = cc in n)
true_others i j (inr n) b t = (n, t)

-- ---- sums
sum_front : (n : ℕ) (f : ℕ → ℕ) → sum_to (suc n) f ≡ f 0 + sum_to n (λ k. f (suc k))
sum_front zero f = omega arith
sum_front (suc n) f = let r : sum_to (suc n) f ≡ f 0 + sum_to n (λ k. f (suc k)) = sum_front n f in omega (arith, r)

sum_plus : (n : ℕ) (f g : ℕ → ℕ) → sum_to n (λ k. f k + g k) ≡ sum_to n f + sum_to n g
sum_plus zero f g = refl
sum_plus (suc n) f g = let r : sum_to n (λ k. f k + g k) ≡ sum_to n f + sum_to n g = sum_plus n f g in omega (arith, r)

-- rows first or columns first
sum_swap : (n m : ℕ) (f : ℕ → ℕ → ℕ) → sum_to n (λ k. sum_to m (f k)) ≡ sum_to m (λ j. sum_to n (λ k. f k j))
sum_swap zero m f = sym (sum_zero m (λ j. 0) (λ j. refl))
sum_swap (suc n) m f =
    let r : sum_to n (λ k. sum_to m (f k)) ≡ sum_to m (λ j. sum_to n (λ k. f k j)) = sum_swap n m f in
    ap (λ v. v + sum_to m (f n)) r ∙ sym (sum_plus m (λ j. sum_to n (λ k. f k j)) (f n))

count_is : (flags : List Bool) → count_by (λ flag. flag) flags ≡ sum_to (length flags) (λ j. one_if (get_or flags j false))
count_is [] = refl
count_is (b ∷ flags) =
    let r : count_by (λ flag. flag) flags ≡ sum_to (length flags) (λ j. one_if (get_or flags j false)) = count_is flags in
    let c : count_by (λ flag. flag) (b ∷ flags) ≡ one_if b + count_by (λ flag. flag) flags = sum_by-cons (λ flag. one_if flag) b flags in
    let e : sum_to (suc (length flags)) (λ j. one_if (get_or (b ∷ flags) j false)) ≡ one_if b + sum_to (length flags) (λ j. one_if (get_or flags j false)) = sum_front (length flags) (λ j. one_if (get_or (b ∷ flags) j false)) in
    c ∙ ap (λ n. one_if b + n) r ∙ sym e

-- a list of all numbers that pass, each once, is as long as their count
length_counted : (n : ℕ) (xs : List ℕ) (passes : ℕ → Bool)
    → ((k : ℕ) → k < length xs → (get_or xs k 0 < n) × (passes (get_or xs k 0) ≡ true))
    → ((j : ℕ) → passes j ≡ true → (k : ℕ) × (k < length xs) × (get_or xs k 0 ≡ j))
    → ((k l : ℕ) → k < length xs → l < length xs → get_or xs k 0 ≡ get_or xs l 0 → k ≡ l)
    → length xs ≡ sum_to n (λ j. one_if (passes j))
length_counted n [] passes only all once =
    let none : (j : ℕ) → passes j ≡ false = λ j. no j (passes j) refl in
    sym (sum_zero n (λ j. one_if (passes j)) (λ j. ap one_if (none j)))
  where
    no : (j : ℕ) (b : Bool) → passes j ≡ b → passes j ≡ false
    no j true t = (let r : (k : ℕ) × (k < 0) × (get_or [] k 0 ≡ j) = all j t in let l : r.0 < 0 = r.1 in absurd (omega (arith, l)))
    no j false t = t
length_counted n (x ∷ xs) passes only all once =
    let rest : ℕ → Bool = λ j. at_others (cases_eq j x) (passes j) in
    let first : (x < n) × (passes x ≡ true) = only 0 (omega arith) in
    let r : length xs ≡ sum_to n (λ j. one_if (rest j)) = length_counted n xs rest
    (λ k l.
    let here : (get_or xs k 0 < n) × (passes (get_or xs k 0) ≡ true) = only (suc k) (omega (arith, l)) in
    let other : get_or xs k 0 ≢ x = (λ e. (let z : suc k ≡ 0 = once (suc k) 0 (omega (arith, l)) (omega arith) e in omega (arith, z))) in
    (here.0, differ_others (get_or xs k 0) x (cases_eq (get_or xs k 0) x) (passes (get_or xs k 0)) other ∙ here.1))
    (λ j t.
    let at : (j ≢ x) × (passes j ≡ true) = true_others j x (cases_eq j x) (passes j) t in
    behind j (all j at.1) at.0)
    (λ k l lk ll e. (let q : suc k ≡ suc l = once (suc k) (suc l) (omega (arith, lk)) (omega (arith, ll)) e in omega (arith, q))) in
    let here : one_if (passes x) ≡ one_if (rest x) + 1 = ap one_if first.1 ∙ sym (ap (λ b. one_if b + 1) (same_others x x (cases_eq x x) (passes x) refl)) in
    let more : sum_to n (λ j. one_if (passes j)) ≡ sum_to n (λ j. one_if (rest j)) + 1 =
    sum-more n x 1 (λ j. one_if (rest j)) (λ j. one_if (passes j)) first.0 here (λ j w. ap one_if (sym (differ_others j x (cases_eq j x) (passes j) w))) in
    omega (arith, r, more)
  where
    behind : (j : ℕ) → (k : ℕ) × (k < length (x ∷ xs)) × (get_or (x ∷ xs) k 0 ≡ j) → j ≢ x → (k : ℕ) × (k < length xs) × (get_or xs k 0 ≡ j)
    behind j (zero, l, e) w = absurd (w (sym e))
    behind j (suc k, l, e) w = (k, omega (arith, l), e)

-- ---- the lists of a table
module _ (table : ArcTable) (nodes arcs : ℕ) (lists : List (List ℕ)) (is : AreListed table nodes lists)
    (below : (j : ℕ) → table.in_force j ≡ true → j < arcs) (tails : (j : ℕ) → table.in_force j ≡ true → (table.arc j).from < nodes)
  where
    -- whether an arc is in force and begins at a node
    abbrev pub begins : ℕ → ℕ → Bool
    begins node j = at_one (cases_eq (table.arc j).from node) (table.in_force j)

    listed_at : (node : ℕ) → length (list_at lists node) ≡ sum_to arcs (λ j. one_if (begins node j))
    listed_at node = length_counted arcs (list_at lists node) (begins node)
        (λ k l.
        let j : ℕ = entry_at lists node k in
        let here : (table.in_force j ≡ true) × ((table.arc j).from ≡ node) = is.only node k l in
        (below j here.0, same_one (table.arc j).from node (cases_eq (table.arc j).from node) (table.in_force j) here.1 ∙ here.0))
        (λ j t.
        let here : ((table.arc j).from ≡ node) × (table.in_force j ≡ true) = true_one (table.arc j).from node (cases_eq (table.arc j).from node) (table.in_force j) t in
        subst (λ n. (k : ℕ) × (k < length (list_at lists n)) × (get_or (list_at lists n) k 0 ≡ j)) here.0 (is.all j here.1))
        (λ k l lk ll e. is.once node k l lk ll e)

    -- an arc in force begins at one node
    begins_once : (j : ℕ) (b : Bool) → table.in_force j ≡ b → sum_to nodes (λ k. one_if (begins k j)) ≡ one_if b
    begins_once j true t =
        let here : one_if (begins (table.arc j).from j) ≡ 0 + 1 = ap one_if (same_one (table.arc j).from (table.arc j).from (cases_eq (table.arc j).from (table.arc j).from) (table.in_force j) refl ∙ t) in
        let none : sum_to nodes (λ k. 0) ≡ 0 = sum_zero nodes (λ k. 0) (λ k. refl) in
        let one : sum_to nodes (λ k. one_if (begins k j)) ≡ sum_to nodes (λ k. 0) + 1 =
        sum-more nodes (table.arc j).from 1 (λ k. 0) (λ k. one_if (begins k j)) (tails j t) here
        (λ k w. ap one_if (differ_one (table.arc j).from k (cases_eq (table.arc j).from k) (table.in_force j) (λ e. w (sym e)))) in
        omega (arith, none, one)
    begins_once j false t = sum_zero nodes (λ k. one_if (begins k j)) (λ k.
        ap one_if (ap (at_one (cases_eq (table.arc j).from k)) t ∙ none_one (table.arc j).from k (cases_eq (table.arc j).from k)))

    pub degrees_are : sum_to nodes (λ k. length (list_at lists k)) ≡ sum_to arcs (λ j. one_if (table.in_force j))
    degrees_are =
        sym (sum-same nodes (λ k. length (list_at lists k)) (λ k. sum_to arcs (λ j. one_if (begins k j))) (λ k l. sym (listed_at k)))
        ∙ sum_swap nodes arcs (λ k j. one_if (begins k j))
        ∙ sum-same arcs (λ j. one_if (table.in_force j)) (λ j. sum_to nodes (λ k. one_if (begins k j))) (λ j l. begins_once j (table.in_force j) refl)

-- ---- the lists of a graph
module _ (g : GraphLists) (is : IsGraph g) where
  counted : sum_to (length g.arcs) (λ j. one_if ((table_of g).in_force j)) ≡ arcs_in_force g
  counted = ap (λ n. sum_to n (λ j. one_if (get_or g.in_force j false))) (sym is.flags) ∙ sym (count_is g.in_force)

  pub departing_all : sum_to (length g.nodes) (departing g) ≡ arcs_in_force g
  departing_all = degrees_are (table_of g) (length g.nodes) (length g.arcs) g.leaving is.out (in_force_below g is)
      (λ j f. (is.sound j no_arc (in_force_below g is j f)).from) ∙ counted

  pub reaching_all : sum_to (length g.nodes) (reaching g) ≡ arcs_in_force g
  reaching_all = degrees_are (reversed_table (table_of g)) (length g.nodes) (length g.arcs) g.arriving is.into (in_force_below g is)
      (λ j f. (is.sound j no_arc (in_force_below g is j f)).to) ∙ counted
