-- Nodes that are known and do not wait, and what a wiped cell leaves of them.
use Rattle.std.proofs.Common.{◌≡◌, ℕ, zero, suc, ◌<◌, Bool, true, false, not, ◌&&◌, List, [], ◌∷◌, ◌++◌, length, set, get_or, refl, ap, sym, ◌∙◌, subst, arith, inl, inr, All, Contains}
use Rattle.std.specs.Prelude.{ℤ, ◌+ℤ◌, ◌-ℤ◌, ◌≤ℤ◌, ◌≢◌, Option, Some, None}
use Rattle.std.proofs.lemmas.Int.{ints}
use Rattle.std.proofs.lemmas.Bool.{cases_eq}
use Rattle.std.proofs.lemmas.List.{get_or-set_same, get_or-set_other}
use Rattle.std.proofs.lemmas.List.Elements.{All-push, Contains-push, Contains-append_left}
use Rattle.problem_model.specs.Tables.{ArcTable, ObeysAll}
use Rattle.problem_model.specs.RowPops.{IsRowStep}
use Rattle.frontier.specs.Keys.{Waits}
use Rattle.row_pool.specs.declared.cell.Cell.{Cell}
use Rattle.row_pool.specs.Row.{unknown, cell_at, cells_of}
use Rattle.distances.specs.Guides.{told, IsFence}
use Rattle.distances.specs.Relaxed.{waits_of, IsOffered}
use Rattle.distances.specs.Wiping.{IsWiped, rests, AreListed}
use Rattle.distances.proofs.Puts.{taken_others, waits_true}

pub not_both : (a b : Bool) → a && not b ≡ true → (a ≡ true) × (b ≡ false)
not_both true false e = (refl, refl)
not_both true true e = absurd (let z : ⊥ = cc in z)
not_both false b e = absurd (let z : ⊥ = cc in z)

both_not : (a b : Bool) → a ≡ true → b ≡ false → a && not b ≡ true
both_not true false ea eb = refl
both_not true true ea eb = absurd (let z : ⊥ = cc in z)
both_not false b ea eb = absurd (let z : ⊥ = cc in z)

waiting_not : (a b : Bool) → b ≡ true → false ≡ a && not b
waiting_not true true e = refl
waiting_not false true e = refl
waiting_not a false e = absurd (let z : ⊥ = cc in z)

resting_known : (a : Bool) → a && not false ≡ a
resting_known true = refl
resting_known false = refl

pub rests_known : (row : List Cell) (front : List (Option ℤ)) (k : ℕ) → rests row front k ≡ true → ((cell_at row k).known ≡ true) × (waits_of front k ≡ false)
rests_known row front k = not_both (cell_at row k).known (waits_of front k)

-- where none waits what is known rests
pub rests_where_none : (row : List Cell) (front : List (Option ℤ)) (k : ℕ) → waits_of front k ≡ false → rests row front k ≡ (cell_at row k).known
rests_where_none row front k f = ap (λ b. (cell_at row k).known && not b) f ∙ resting_known (cell_at row k).known

-- ---- a waiting node is taken out and its cell wiped

module _ (row row' : List Cell) (front front' : List (Option ℤ)) (node : ℕ) (key : ℤ)
    (was : Waits front node key)
    (within : node < length row)
    (er : row' ≡ set row node unknown)
    (ef : front' ≡ set front node None)
  where
    wiped_here : cell_at row' node ≡ unknown
    wiped_here = ap (λ r. get_or r node unknown) er ∙ get_or-set_same row node unknown unknown within

    pub wiped_other : (k : ℕ) → k ≢ node → cell_at row' k ≡ cell_at row k
    wiped_other k n = ap (λ r. get_or r k unknown) er ∙ get_or-set_other row node k unknown unknown n

    waits_other : (k : ℕ) → k ≢ node → waits_of front' k ≡ waits_of front k
    waits_other k n = taken_others front front' node key was ef k n

    pub wiped_rests : (k : ℕ) → rests row' front' k ≡ rests row front k
    wiped_rests k = elim (cases_eq k node) [
      | inl e ↦
          let here : (cell_at row' k).known ≡ false = ap (λ n. (cell_at row' n).known) e ∙ ap (λ (c : Cell). c.known) wiped_here in
          ap (λ b. b && not (waits_of front' k)) here ∙ waiting_not (cell_at row k).known (waits_of front k) (ap (waits_of front) e ∙ waits_true front node key was)
      | inr n ↦ ap (λ (c : Cell). c.known && not (waits_of front' k)) (wiped_other k n) ∙ ap (λ b. (cell_at row k).known && not b) (waits_other k n)
    ]

    pub wiped_value : (k : ℕ) → rests row front k ≡ true → (cell_at row' k).value ≡ (cell_at row k).value
    wiped_value k r = elim (cases_eq k node) [
      | inl e ↦ absurd (let f : waits_of front k ≡ false = (rests_known row front k r).1 in let t : waits_of front k ≡ true = ap (waits_of front) e ∙ waits_true front node key was in let z : ⊥ = cc in z)
      | inr n ↦ ap (λ (c : Cell). c.value) (wiped_other k n)
    ]

    -- what waits waited before
    pub waits_before : (k : ℕ) → waits_of front' k ≡ true → waits_of front k ≡ true
    waits_before k w = elim (cases_eq k node) [
      | inl e ↦ ap (waits_of front) e ∙ waits_true front node key was
      | inr n ↦ sym (waits_other k n) ∙ w
    ]

-- ---- how many wait

pub waiting_count : List (Option ℤ) → ℕ
waiting_count [] = 0
waiting_count (None ∷ front) = waiting_count front
waiting_count (Some key ∷ front) = suc (waiting_count front)

pub fewer_wait : (front : List (Option ℤ)) (node : ℕ) (key : ℤ) → Waits front node key → waiting_count (set front node None) < waiting_count front
unfolding waiting_count
fewer_wait [] node key w = absurd (let e : None ≡ Some (Some key) = w in let z : ⊥ = cc in z)
fewer_wait (None ∷ front) zero key w = absurd (let e : Some None ≡ Some (Some key) = w in let z : ⊥ = cc in z)
fewer_wait (Some x ∷ front) zero key w = omega arith
fewer_wait (None ∷ front) (suc node) key w = fewer_wait front node key w
fewer_wait (Some x ∷ front) (suc node) key w = let l : waiting_count (set front node None) < waiting_count front = fewer_wait front node key w in omega (arith, l)

-- ---- listed nodes

-- a wiped row has no node that rests, and after the first offer neither
pub none_rests : (p : ℕ) (distance : ℤ) (parent nodes : ℕ) (row row' : List Cell) (front front' : List (Option ℤ)) (seen : List ℕ)
    → IsWiped row → IsOffered p distance parent row row' front front' → seen ≡ [] → AreListed nodes row' front' seen
none_rests p distance parent nodes row row' front front' seen wiped offered unlisted = record {
  all = λ k r. (let known : ((cell_at row' k).known ≡ true) × (waits_of front' k ≡ false) = rests_known row' front' k r in
      elim offered [
        | inl q ↦ absurd (let f : (cell_at row' k).known ≡ false = ap (λ r. (cell_at r k).known) q.0 ∙ wiped k in let t : (cell_at row' k).known ≡ true = known.0 in let z : ⊥ = cc in z)
        | inr q ↦ elim (cases_eq k p) [
          | inl e ↦ absurd (let w : waits_of front' k ≡ true = ap (waits_of front') e ∙ q.1.waiting in let f : waits_of front' k ≡ false = known.1 in let z : ⊥ = cc in z)
          | inr n ↦ absurd (let f : (cell_at row' k).known ≡ false = (q.1.others k n).0 ∙ wiped k in let t : (cell_at row' k).known ≡ true = known.0 in let z : ⊥ = cc in z)
        ]
      ]);
  within = subst (All (λ k. k < nodes)) (sym unlisted) (λ k d l. absurd (omega arith));
}

-- a node is taken out and listed, and its arcs are relaxed
pub step_listed : (table : ArcTable) (node nodes : ℕ) (key : ℤ) (row row' : List Cell) (front front1 front' : List (Option ℤ)) (seen seen' : List ℕ)
    → Waits front node key → front1 ≡ set front node None → node < nodes → seen' ≡ seen ++ node ∷ []
    → IsRowStep table node (cells_of row) (cells_of row') (waits_of front1) (waits_of front') → AreListed nodes row front seen → AreListed nodes row' front' seen'
step_listed table node nodes key row row' front front1 front' seen seen' was ef l es step listed = record {
  all = λ k r. (let known : ((cell_at row' k).known ≡ true) × (waits_of front' k ≡ false) = rests_known row' front' k r in
      subst (λ xs. Contains xs k) (sym es) (elim (cases_eq k node) [
        | inl e ↦ subst (λ n. Contains (seen ++ node ∷ []) n) (sym e) (Contains-push seen node)
        | inr n ↦ elim (step.each k) [
          | inl s ↦ elim s.waiting [
            | inl b ↦ absurd (n b.0)
            | inr b ↦ Contains-append_left seen (node ∷ []) k (listed.all k (both_not (cell_at row k).known (waits_of front k) (sym s.known ∙ known.0) (sym (taken_others front front1 node key was ef k n) ∙ sym b.1 ∙ known.1)))
          ]
          | inr s ↦ absurd (let w : waits_of front' k ≡ true = s.waiting in let f : waits_of front' k ≡ false = known.1 in let z : ⊥ = cc in z)
        ]
      ]));
  within = subst (All (λ k. k < nodes)) (sym es) (All-push (λ k. k < nodes) seen node listed.within l);
}

-- the list stands for each row with the same resting nodes
pub listed_so : (nodes : ℕ) (row row' : List Cell) (front front' : List (Option ℤ)) (seen : List ℕ) → ((k : ℕ) → rests row' front' k ≡ rests row front k) → AreListed nodes row front seen → AreListed nodes row' front' seen
listed_so nodes row row' front front' seen same listed = record { all = λ k r. listed.all k (sym (same k) ∙ r); within = listed.within }

-- ---- the same fence

fence_told : (a b : Bool) (v w o : ℤ) → a ≡ b → (b ≡ true → v ≡ w) → told a v o ≡ told b w o
fence_told true true v w o e h = h refl
fence_told false false v w o e h = refl
fence_told true false v w o e h = absurd (let z : ⊥ = cc in z)
fence_told false true v w o e h = absurd (let z : ⊥ = cc in z)

pub obeys_so : (table : ArcTable) (x y : ℕ → ℤ) → ((k : ℕ) → y k ≡ x k) → ObeysAll table x → ObeysAll table y
obeys_so table x y same o j f =
    let a : (x (table.arc j).to -ℤ x (table.arc j).from) ≤ℤ (table.arc j).weight = o j f in
    let et : y (table.arc j).to ≡ x (table.arc j).to = same (table.arc j).to in
    let ef : y (table.arc j).from ≡ x (table.arc j).from = same (table.arc j).from in
    omega (arith, ints)

pub fence_so : (table : ArcTable) (p : ℕ) (e : ℕ → ℤ) (beyond : ℤ) (known known' : ℕ → Bool) (value value' : ℕ → ℤ)
    → ((k : ℕ) → known' k ≡ known k) → ((k : ℕ) → known k ≡ true → value' k ≡ value k)
    → IsFence table p e beyond known value → IsFence table p e beyond known' value'
fence_so table p e beyond known known' value value' same values fence = record {
  obeyed = obeys_so table (λ k. told (known k) (value k) (e k +ℤ beyond)) (λ k. told (known' k) (value' k) (e k +ℤ beyond))
      (λ k. fence_told (known' k) (known k) (value' k) (value k) (e k +ℤ beyond) (same k) (values k)) fence.obeyed;
  low = λ k h. subst (λ v. (e k -ℤ e p) ≤ℤ v) (sym (values k (sym (same k) ∙ h))) (fence.low k (sym (same k) ∙ h));
  high = λ k h. subst (λ v. v ≤ℤ (e k +ℤ beyond)) (sym (values k (sym (same k) ∙ h))) (fence.high k (sym (same k) ∙ h));
}
