-- Raises that wait, and one arc that asks for one.
use Rattle.std.proofs.Common.{◌≡◌, ℕ, zero, suc, ◌+◌, ◌<◌, ◌≤◌, true, false, List, [], ◌∷◌, length, set, get_or, refl, ap, sym, ◌∙◌, subst, arith, inl, inr, ◌⊎◌}
use Rattle.std.specs.Prelude.{ℤ, pos, neg_ℤ, ◌+ℤ◌, ◌-ℤ◌, ◌≤ℤ◌, ◌<ℤ◌, ◌≢◌, Option, Some, None, slice_get, replicate}
use Rattle.std.proofs.lemmas.Int.{ints}
use Rattle.std.proofs.lemmas.Bool.{cases_lt}
use Rattle.std.proofs.lemmas.List.{get_or-set_same, get_or-set_other, get_or_past}
use Rattle.problem_model.specs.Executions.{at}
use Rattle.problem_model.specs.Tables.{ArcTable}
use Rattle.problem_model.specs.Insertions.{Raises, IsAsking, IsRaiseStep, IsRaisedTo}
use Rattle.problem_model.proofs.Asking.{asking_start, asking_kept, asking_raised, asking_done}
use Rattle.problem_model.proofs.SimplePaths.{pigeons}
use Rattle.frontier.specs.Keys.{Waits, IsFreeNode, IsEmpty}
use Rattle.sync_graph.specs.Graph.{GraphLists, IsGraph, table_of}
use Rattle.sync_graph.specs.Lists.{list_at, entry_at}
use Rattle.earliest.specs.UnderWay.{raise_of, raise_at, raises_of, AreRaises, IsAskedBy}

pub raise_cases : (front : List (Option ℤ)) (k : ℕ) → (raise_at front k ≡ pos 0) ⊎ ((key : ℤ) × Waits front k key × (raise_at front k ≡ neg_ℤ key))
raise_cases [] k = inl refl
raise_cases (None ∷ front) zero = inl refl
raise_cases (Some key ∷ front) zero = inr (key, refl, refl)
raise_cases (x ∷ front) (suc k) = raise_cases front k

pub raise_waits : (front : List (Option ℤ)) (k : ℕ) (key : ℤ) → Waits front k key → raise_at front k ≡ neg_ℤ key
raise_waits [] k key w = absurd (let e : None ≡ Some (Some key) = w in let z : ⊥ = cc in z)
raise_waits (x ∷ front) zero key w = (let e : Some x ≡ Some (Some key) = w in let q : x ≡ Some key = cc in ap raise_of q)
raise_waits (x ∷ front) (suc k) key w = raise_waits front k key w

pub raise_low : (nodes : ℕ) (front : List (Option ℤ)) → AreRaises nodes front → (k : ℕ) → pos 0 ≤ℤ raise_at front k
raise_low nodes front a k = elim (raise_cases front k) [
  | inl e ↦ omega (arith, ints)
  | inr q ↦ (let l : q.0 <ℤ pos 0 = (a k q.0 q.1).1 in let e : raise_at front k ≡ neg_ℤ q.0 = q.2 in omega (arith, ints))
]

pub raise_none : (front : List (Option ℤ)) → IsEmpty front → (k : ℕ) → raise_at front k ≡ pos 0
raise_none front n k = elim (raise_cases front k) [ inl e ↦ e | inr q ↦ absurd (n k q.0 q.1) ]

pub raise-set_same : (front : List (Option ℤ)) (node : ℕ) (v : Option ℤ) → node < length front → raise_at (set front node v) node ≡ raise_of v
raise-set_same front node v l = ap raise_of (get_or-set_same front node v None l)

pub raise-set_other : (front : List (Option ℤ)) (node k : ℕ) (v : Option ℤ) → k ≢ node → raise_at (set front node v) k ≡ raise_at front k
raise-set_other front node k v n = ap raise_of (get_or-set_other front node k v None n)

-- what waits after a change at one node
waits_set : (front : List (Option ℤ)) (node : ℕ) (v : Option ℤ) (k : ℕ) (key : ℤ) → Waits (set front node v) k key → (v ≡ Some key) × (k ≡ node) ⊎ Waits front k key
waits_set [] node v k key w = inr w
waits_set (x ∷ front) zero v zero key w = inl ((let e : Some v ≡ Some (Some key) = w in let q : v ≡ Some key = cc in q), refl)
waits_set (x ∷ front) zero v (suc k) key w = inr w
waits_set (x ∷ front) (suc node) v zero key w = inr w
waits_set (x ∷ front) (suc node) v (suc k) key w = elim (waits_set front node v k key w) [ inl q ↦ inl (q.0, ap (λ n. suc n) q.1) | inr q ↦ inr q ]

pub raises_out : (nodes : ℕ) (front : List (Option ℤ)) (node : ℕ) → AreRaises nodes front → AreRaises nodes (set front node None)
raises_out nodes front node a k key w = elim (waits_set front node None k key w) [
  | inl q ↦ absurd (let e : None ≡ Some key = q.0 in let z : ⊥ = cc in z)
  | inr q ↦ a k key q
]

pub raises_in : (nodes : ℕ) (front : List (Option ℤ)) (node : ℕ) (r : ℤ) → node < nodes → pos 0 <ℤ r → AreRaises nodes front → AreRaises nodes (set front node (Some (neg_ℤ r)))
raises_in nodes front node r l p a k key w = elim (waits_set front node (Some (neg_ℤ r)) k key w) [
  | inl q ↦ (let e : Some (neg_ℤ r) ≡ Some key = q.0 in let e2 : neg_ℤ r ≡ key = cc in (let q1 : k ≡ node = q.1 in omega arith, omega (arith, ints)))
  | inr q ↦ a k key q
]

pub raises_none : (nodes : ℕ) (front : List (Option ℤ)) → IsEmpty front → AreRaises nodes front
raises_none nodes front n k key w = absurd (n k key w)

pub neg_neg : (r : ℤ) → neg_ℤ (neg_ℤ r) ≡ r
neg_neg r = omega (arith, ints)

-- a node waits for a new raise
pub raised_to : (values : List ℤ) (front : List (Option ℤ)) (parents : List ℕ) (node : ℕ) (r : ℤ) (j : ℕ) → node < length front → node < length parents
    → IsRaisedTo (raises_of values front parents) (raises_of values (set front node (Some (neg_ℤ r))) (set parents node j)) node r j
raised_to values front parents node r j lf lp = record {
  value = λ k. refl;
  raise = raise-set_same front node (Some (neg_ℤ r)) lf ∙ neg_neg r;
  parent_is = get_or-set_same parents node j 0 lp;
  others = λ k n. (raise-set_other front node k (Some (neg_ℤ r)) n, get_or-set_other parents node k j 0 n);
}

-- the arc asks its tail, which waits for less
pub asked_more : (table : ArcTable) (j : ℕ) (values : List ℤ) (front front' : List (Option ℤ)) (parents parents' : List ℕ) (r : ℤ)
    → (table.arc j).from < length front → (table.arc j).from < length parents
    → r ≡ at values (table.arc j).to -ℤ (table.arc j).weight -ℤ at values (table.arc j).from
    → raise_at front (table.arc j).from <ℤ r
    → front' ≡ set front (table.arc j).from (Some (neg_ℤ r)) → parents' ≡ set parents (table.arc j).from j
    → IsAskedBy table j (raises_of values front parents) (raises_of values front' parents')
asked_more table j values front front' parents parents' r lf lp e g ef ep =
    subst (λ f. IsAskedBy table j (raises_of values front parents) (raises_of values f parents')) (sym ef)
    (subst (λ p. IsAskedBy table j (raises_of values front parents) (raises_of values (set front (table.arc j).from (Some (neg_ℤ r))) p)) (sym ep)
    (inr (record {
      raise = r;
      equal = omega (arith, ints);
      greater = g;
      put = raised_to values front parents (table.arc j).from r j lf lp;
    })))

-- the arc is met already
pub asked_enough : (table : ArcTable) (j : ℕ) (values : List ℤ) (front front' : List (Option ℤ)) (parents : List ℕ) (r : ℤ)
    → r ≡ at values (table.arc j).to -ℤ (table.arc j).weight -ℤ at values (table.arc j).from
    → r ≤ℤ raise_at front (table.arc j).from
    → front' ≡ front
    → IsAskedBy table j (raises_of values front parents) (raises_of values front' parents)
asked_enough table j values front front' parents r e g ef = inl (ap (λ f. raises_of values f parents) ef, omega (arith, ints))

-- one more arc that arrives at the popped node
pub asking_more : (table : ArcTable) (node : ℕ) (entries : List ℕ) (count : ℕ) (s s1 s2 : Raises) (j : ℕ)
    → IsAsking table node entries count s s1 → get_or entries count 0 ≡ j → table.in_force j ≡ true → (table.arc j).to ≡ node
    → pos 0 ≤ℤ s1.raise (table.arc j).from → IsAskedBy table j s1 s2
    → IsAsking table node entries (count + 1) s s2
asking_more table node entries count s s1 s2 j a e f t low (inl q) =
    subst (λ x. IsAsking table node entries (count + 1) s x) (sym q.0) (asking_kept table node entries count s s1 j a e q.1)
asking_more table node entries count s s1 s2 j a e f t low (inr q) =
    let g : s1.raise (table.arc j).from <ℤ q.raise = q.greater in
    asking_raised table node entries count s s1 s2 j q.raise a e f t
    (let v : s1.value (table.arc j).to ≡ s1.value node = ap s1.value t in let eq : s1.value (table.arc j).from +ℤ q.raise ≡ s1.value (table.arc j).to -ℤ (table.arc j).weight = q.equal in omega (arith, ints))
    g (omega (arith, ints)) q.put

-- the popped node has its raise, and waits no more
pub popped_asking : (table : ArcTable) (node : ℕ) (entries : List ℕ) (values values' : List ℤ) (front front' : List (Option ℤ)) (parents : List ℕ) (key : ℤ)
    → node < length values → node < length front → Waits front node key
    → values' ≡ set values node (at values node -ℤ key) → front' ≡ set front node None
    → IsAsking table node entries 0 (raises_of values front parents) (raises_of values' front' parents)
popped_asking table node entries values values' front front' parents key lv lf w ev ef =
    subst (λ v. IsAsking table node entries 0 (raises_of values front parents) (raises_of v front' parents)) (sym ev)
    (subst (λ f. IsAsking table node entries 0 (raises_of values front parents) (raises_of (set values node (at values node -ℤ key)) f parents)) (sym ef)
    (asking_start table node entries (raises_of values front parents) (raises_of (set values node (at values node -ℤ key)) (set front node None) parents)
    (let r : raise_at front node ≡ neg_ℤ key = raise_waits front node key w in
    let v : at (set values node (at values node -ℤ key)) node ≡ at values node -ℤ key = get_or-set_same values node (at values node -ℤ key) (pos 0) lv in
    omega (arith, ints))
    (raise-set_same front node None lf)
    refl
    (λ k n. (get_or-set_other values node k (at values node -ℤ key) (pos 0) n, raise-set_other front node k None n, refl))))

-- an arc in force has a number
pub in_force_below : (g : GraphLists) → IsGraph g → (j : ℕ) → (table_of g).in_force j ≡ true → j < length g.arcs
in_force_below g is j f = elim (cases_lt j (length g.in_force)) [
  | inl l ↦ omega (arith, is.flags)
  | inr l ↦ absurd (let e : get_or g.in_force j false ≡ false = get_or_past g.in_force j false l in let z : ⊥ = cc in z)
]

-- a node's list is no longer than there are arcs
pub list_short : (g : GraphLists) → IsGraph g → (node : ℕ) → length (list_at g.arriving node) ≤ length g.arcs
list_short g is node = elim (cases_lt (length g.arcs) (length (list_at g.arriving node))) [
  | inr l ↦ l
  | inl l ↦
      let n : length g.arcs < length g.arcs = pigeons (length g.arcs) (length g.arcs) (λ i. entry_at g.arriving node i)
      (λ i li. in_force_below g is (entry_at g.arriving node i) (is.into.only node i (omega arith)).0)
      (λ i j li lj e. is.into.once node i j (omega arith) (omega arith) e) in
      absurd (omega arith)
]

-- all arcs that arrive have asked
pub asked_all : (g : GraphLists) → IsGraph g → (node count : ℕ) (s s' : Raises) → IsAsking (table_of g) node (list_at g.arriving node) count s s' → length (list_at g.arriving node) ≤ count
    → IsRaiseStep (table_of g) node s s'
asked_all g is node count s s' a l = asking_done (table_of g) node (list_at g.arriving node) count s s' a l
    (λ j f t. subst (λ n. (m : ℕ) × (m < length (list_at g.arriving n)) × (get_or (list_at g.arriving n) m 0 ≡ j)) t (is.into.all j f))

pub entry_is : (xs : List ℕ) (k x : ℕ) → slice_get xs k ≡ Some x → (k < length xs) × (get_or xs k 0 ≡ x)
entry_is [] k x w = absurd (let e : None ≡ Some x = w in let z : ⊥ = cc in z)
entry_is (y ∷ xs) zero x w = (omega arith, (let e : Some y ≡ Some x = w in let q : y ≡ x = cc in q))
entry_is (y ∷ xs) (suc k) x w = (let r : (k < length xs) × (get_or xs k 0 ≡ x) = entry_is xs k x w in (omega (arith, r.0), r.1))

-- so far there are entries
pub entry_seen : (xs : List ℕ) (k x : ℕ) → slice_get xs k ≡ Some x → k + 1 ≤ length xs
entry_seen xs k x w = omega (arith, (entry_is xs k x w).0)

pub past_end : (xs : List ℕ) (k : ℕ) → ((x : ℕ) → slice_get xs k ≡ Some x → ⊥) → length xs ≤ k
past_end [] k n = omega arith
past_end (x ∷ xs) zero n = absurd (n x refl)
past_end (x ∷ xs) (suc k) n = let h : length xs ≤ k = past_end xs k n in omega arith

-- an arc of a node's list is in force and arrives there
pub arriving_arc : (g : GraphLists) → IsGraph g → (node k arc : ℕ) → slice_get (list_at g.arriving node) k ≡ Some arc
    → (get_or (list_at g.arriving node) k 0 ≡ arc) × ((table_of g).in_force arc ≡ true) × (((table_of g).arc arc).to ≡ node)
arriving_arc g is node k arc w =
    let r : (k < length (list_at g.arriving node)) × (get_or (list_at g.arriving node) k 0 ≡ arc) = entry_is (list_at g.arriving node) k arc w in
    let q : ((table_of g).in_force arc ≡ true) × (((table_of g).arc arc).to ≡ node) =
    subst (λ j. ((table_of g).in_force j ≡ true) × (((table_of g).arc j).to ≡ node)) r.1 (is.into.only node k r.0) in
    (r.1, q.0, q.1)

-- where none waits each node is free
pub free_where_empty : (front : List (Option ℤ)) (node : ℕ) → IsEmpty front → node < length front → IsFreeNode front node
free_where_empty [] node e l = absurd (omega arith)
free_where_empty (None ∷ front) zero e l = refl
free_where_empty (Some key ∷ front) zero e l = absurd (e 0 key refl)
free_where_empty (x ∷ front) (suc node) e l = free_where_empty front node (λ k key w. e (suc k) key w) (omega arith)

-- a cleared map is empty
pub cleared_empty : (n : ℕ) → IsEmpty (replicate n None)
cleared_empty zero k key w = let e : None ≡ Some (Some key) = w in let z : ⊥ = cc in z
cleared_empty (suc n) zero key w = let e : Some None ≡ Some (Some key) = w in let z : ⊥ = cc in z
cleared_empty (suc n) (suc k) key w = cleared_empty n k key w
