-- The list of the arcs in force, and executions of tables.
use Rattle.std.proofs.Common.{◌≡◌, ℕ, zero, suc, ◌<◌, true, false, List, [], ◌∷◌, ◌++◌, length, get_or, ap, sym, ◌∙◌, subst, arith, inl, inr}
use Rattle.std.specs.Prelude.{ℤ, ◌≤ℤ◌, ◌≢◌, ◌==◌, if◌then◌else◌, All, Contains}
use Rattle.std.proofs.lemmas.Bool.{cases_Bool, cases_eq, eq-eqb, ne_eqb, cond-true, cond-false}
use Rattle.std.proofs.lemmas.List.Elements.{All-contains, Contains-get_or, Contains-append_left, Contains-append_right, Contains-append_cases, Contains-push, Contains-push_cases, All-map}
use Rattle.problem_model.specs.Executions.{Arc, at, Obeys, IsExecution, AreWithin}
use Rattle.problem_model.specs.Earliest.{IsNonNegative, IsEarliest}
use Rattle.problem_model.specs.Reversal.{reversed, all_reversed}
use Rattle.problem_model.specs.Tables.{ArcTable, Lists, arcs_among, ObeysAll, without, reversed_table}
use Rattle.problem_model.proofs.Earliest.{earliest_least}

nothing_in : {X : Type 0} (x : X) → Contains [] x → ⊥
nothing_in x c = let l : c.0 < 0 = c.1 in omega arith

listed-one : (table : ArcTable) (n : ℕ) → table.in_force n ≡ true → arcs_among table (suc n) ≡ arcs_among table n ++ table.arc n ∷ []
listed-one table n h = ap (λ r. arcs_among table n ++ r) (cond-true (table.in_force n) (table.arc n ∷ []) [] h)

listed-none : (table : ArcTable) (n : ℕ) → table.in_force n ≡ false → arcs_among table (suc n) ≡ arcs_among table n ++ []
listed-none table n h = ap (λ r. arcs_among table n ++ r) (cond-false (table.in_force n) (table.arc n ∷ []) [] h)

listed_all : (table : ArcTable) (n j : ℕ) → j < n → table.in_force j ≡ true → Contains (arcs_among table n) (table.arc j)
listed_all table zero j l h = absurd (omega arith)
listed_all table (suc n) j l h = elim (cases_eq j n) [
  | inl e ↦ subst (λ r. Contains r (table.arc j)) (sym (listed-one table n (ap table.in_force (sym e) ∙ h))) (subst (λ i. Contains
      (arcs_among table n ++ table.arc i ∷ []) (table.arc j)) e (Contains-push (arcs_among table n) (table.arc j)))
  | inr w ↦ Contains-append_left (arcs_among table n) (if table.in_force n then table.arc n ∷ [] else []) (table.arc j) (listed_all table n j (omega arith) h)
]

listed_only : (table : ArcTable) (n : ℕ) (a : Arc) → Contains (arcs_among table n) a → (j : ℕ) × (table.in_force j ≡ true) × (table.arc j ≡ a)
listed_only table zero a c = absurd (nothing_in a c)
listed_only table (suc n) a c = elim (cases_Bool (table.in_force n)) [
  | inl t ↦ elim (Contains-push_cases (arcs_among table n) (table.arc n) a (subst (λ r. Contains r a) (listed-one table n t) c)) [
    | inl d ↦ listed_only table n a d
    | inr e ↦ (n, t, e)
  ]
  | inr f ↦ elim (Contains-append_cases (arcs_among table n) [] a (subst (λ r. Contains r a) (listed-none table n f) c)) [
    | inl d ↦ listed_only table n a d
    | inr d ↦ absurd (nothing_in a d)
  ]
]

-- where only the first so many numbers are in force, their list has the arcs in force
pub lists_listed : (table : ArcTable) (n : ℕ) → ((j : ℕ) → table.in_force j ≡ true → j < n) → Lists table (arcs_among table n)
lists_listed table n few = record { all = λ j h. listed_all table n j (few j h) h; only = listed_only table n }

-- the list of the reversed table
pub lists_reversed : (table : ArcTable) (arcs : List Arc) → Lists table arcs → Lists (reversed_table table) (all_reversed arcs)
lists_reversed table arcs l = record {
  all = λ j h. contains_map arcs (table.arc j) (l.all j h);
  only = λ a c. All-contains (λ b. (j : ℕ) × (table.in_force j ≡ true) × (reversed (table.arc j) ≡ b)) (all_reversed arcs) a
      (All-map (λ b. (j : ℕ) × (table.in_force j ≡ true) × (reversed (table.arc j) ≡ b)) reversed arcs
      (λ k d lk. let r : (j : ℕ) × (table.in_force j ≡ true) × (table.arc j ≡ get_or arcs k d) = l.only (get_or arcs k d) (Contains-get_or arcs k d lk) in (r.0, r.1, ap reversed r.2))) c;
}
  where
    contains_map : (arcs : List Arc) (a : Arc) → Contains arcs a → Contains (all_reversed arcs) (reversed a)
    contains_map arcs a c = All-contains (λ b. Contains (all_reversed arcs) (reversed b)) arcs a (all_of arcs) c
      where
        all_of : (arcs : List Arc) → All (λ b. Contains (all_reversed arcs) (reversed b)) arcs
        all_of arcs k d l = Contains-map_at arcs k d l
          where
            Contains-map_at : (arcs : List Arc) (k : ℕ) (d : Arc) → k < length arcs → Contains (all_reversed arcs) (reversed (get_or arcs k d))
            Contains-map_at [] k d l = absurd (omega arith)
            Contains-map_at (b ∷ arcs) zero d l = Contains-append_left (reversed b ∷ []) (all_reversed arcs) (reversed b) (Contains-push [] (reversed b))
            Contains-map_at (b ∷ arcs) (suc k) d l = Contains-append_right (reversed b ∷ []) (all_reversed arcs) (reversed (get_or arcs k d)) (Contains-map_at arcs k d (omega arith))

-- an execution of the list obeys the table
pub obeys_all : (nodes : ℕ) (table : ArcTable) (arcs : List Arc) (xs : List ℤ) → Lists table arcs → IsExecution nodes arcs xs → ObeysAll table (at xs)
obeys_all nodes table arcs xs l x j h = All-contains (Obeys (at xs)) arcs (table.arc j) x.obeys (l.all j h)

-- what obeys the table is obeyed by each arc of the list
obeyed_list : (table : ArcTable) (arcs : List Arc) (x : ℕ → ℤ) → Lists table arcs → ObeysAll table x → All (Obeys x) arcs
obeyed_list table arcs x l o k d lk =
    let r : (j : ℕ) × (table.in_force j ≡ true) × (table.arc j ≡ get_or arcs k d) = l.only (get_or arcs k d) (Contains-get_or arcs k d lk) in
    subst (λ a. Obeys x a) r.2 (o r.0 r.1)

-- and a list of one value per node that obeys the table is an execution
pub execution_of_table : (nodes : ℕ) (table : ArcTable) (arcs : List Arc) (xs : List ℤ)
    → Lists table arcs → length xs ≡ nodes → ObeysAll table (at xs)
    → IsExecution nodes arcs xs
execution_of_table nodes table arcs xs l one o = record { one_each = one; obeys = obeyed_list table arcs (at xs) l o }

-- a function without a value below 0 that obeys the table is nowhere below the earliest execution
pub earliest_below : (nodes : ℕ) (table : ArcTable) (arcs : List Arc) (xs : List ℤ) → Lists table arcs → AreWithin nodes arcs → IsEarliest nodes arcs xs
    → (y : ℕ → ℤ) → ObeysAll table y → IsNonNegative y → (k : ℕ) → at xs k ≤ℤ y k
earliest_below nodes table arcs xs l within e y o low k = earliest_least nodes arcs xs within e y (obeyed_list table arcs y l o) low k

-- a withdrawn arc is not in force, the others are as before
pub without-same : (table : ArcTable) (arc j : ℕ) → j ≡ arc → (without table arc).in_force j ≡ false
without-same table arc j e = cond-true (j == arc) false (table.in_force j) (eq-eqb j arc e)

pub without-other : (table : ArcTable) (arc j : ℕ) → j ≢ arc → (without table arc).in_force j ≡ table.in_force j
without-other table arc j n = cond-false (j == arc) false (table.in_force j) (ne_eqb j arc n)

pub without_force : (table : ArcTable) (arc j : ℕ) → (without table arc).in_force j ≡ true → table.in_force j ≡ true
without_force table arc j f = elim (cases_eq j arc) [
  | inl e ↦ absurd (let g : (without table arc).in_force j ≡ false = without-same table arc j e in let h : ⊥ = cc in h)
  | inr n ↦ sym (without-other table arc j n) ∙ f
]

pub obeys_without : (table : ArcTable) (arc : ℕ) (x : ℕ → ℤ) → ObeysAll table x → ObeysAll (without table arc) x
obeys_without table arc x o j f = o j (without_force table arc j f)
