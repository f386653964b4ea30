-- Items that are brought in one after another.
use Rattle.std.proofs.Common.{◌≡◌, ◌<◌, ◌≤◌, ◌+◌, ℕ, zero, suc, List, [], ◌∷◌, ◌++◌, length, take, get_or, refl, sym, ◌∙◌, ap, subst, arith, append-nil}
use Rattle.std.specs.Prelude.{All}
use Rattle.std.specs.List.{flat_map}
use Rattle.std.proofs.lemmas.List.{length-map, get_or-map, map-append, take_more}
use Rattle.std.proofs.lemmas.List.Concat.{flat_map-append}
use Rattle.problem_model.specs.declared.items.Bound.{Bound}
use Rattle.problem_model.specs.Problem.{ProblemLists}
use Rattle.problem_model.specs.Nodes.{Reading}
use Rattle.solver.specs.Solver.{SolverLists}
use Rattle.problem_solver.specs.declared.items.Ranked.{Ranked}
use Rattle.problem_solver.specs.Items.{IsItem, bounds_of, items_of}
use Rattle.problem_solver.specs.Pushing.{AddsBounds}
use Rattle.problem_solver.proofs.Covering.{two_each}
use Rattle.problem_solver.proofs.Bringing.{adds_then}

length_front : {X : Type 0} (k : ℕ) (xs : List X) → k ≤ length xs → length (take k xs) ≡ k
length_front zero xs inside = refl
length_front (suc k) [] inside = absurd (omega (arith, inside))
length_front (suc k) (x ∷ xs) inside = ap suc (length_front k xs (omega (arith, inside)))

pub whole : {X : Type 0} (k : ℕ) (xs : List X) → length xs ≤ k → take k xs ≡ xs
whole zero [] past = refl
whole (suc k) [] past = refl
whole zero (x ∷ xs) past = absurd (omega (arith, past))
whole (suc k) (x ∷ xs) past = ap (λ rest. x ∷ rest) (whole k xs (omega (arith, past)))

module _ (p : ProblemLists) (readings : List Reading) (items : List Ranked) (k : ℕ) where
  abbrev before : List Bound
  before = flat_map (bounds_of p readings) (items_of (take k items))

  module _ (inside : k < length items) where
    pub item_at : (r : Ranked) → All (IsItem p readings) (items_of items) → r ≡ get_or items k r → IsItem p readings r.item
    item_at r all is =
        let there : get_or (items_of items) k r.item ≡ r.item = get_or-map (λ (v : Ranked). v.item) items k r r.item inside ∙ ap (λ (v : Ranked). v.item) (sym is) in
        subst (IsItem p readings) there (all k r.item (let same = length-map items (λ (v : Ranked). v.item) in omega (arith, same, inside)))

    pub room_there : (start s : SolverLists) (most : ℕ) → AddsBounds p before start s → start.graph.arcs ≡ [] → length items + length items ≤ most → length s.graph.arcs + 2 ≤ most
    room_there start s most adds none few =
        let zero_arcs : length start.graph.arcs ≡ 0 = ap length none in
        let long : length (items_of (take k items)) ≡ k = length-map (take k items) (λ (v : Ranked). v.item) ∙ length_front k items (omega (arith, inside)) in
        omega (arith, adds.count, zero_arcs, long, two_each p readings (items_of (take k items)), inside, few)

    pub one_more_item : (r : Ranked) (start s new : SolverLists) → r ≡ get_or items k r → AddsBounds p before start s → AddsBounds p (bounds_of p readings r.item) s new
        → AddsBounds p (flat_map (bounds_of p readings) (items_of (take (k + 1) items))) start new
    one_more_item r start s new is adds more =
        let front : take (k + 1) items ≡ take k items ++ r ∷ [] = take_more items k r inside ∙ ap (λ (v : Ranked). take k items ++ v ∷ []) (sym is) in
        let all : flat_map (bounds_of p readings) (items_of (take (k + 1) items)) ≡ before ++ bounds_of p readings r.item =
        ap (λ (xs : List Ranked). flat_map (bounds_of p readings) (items_of xs)) front
        ∙ ap (flat_map (bounds_of p readings)) (map-append (λ (v : Ranked). v.item) (take k items) (r ∷ []))
        ∙ flat_map-append (bounds_of p readings) (items_of (take k items)) (r.item ∷ [])
        ∙ ap (λ (bs : List Bound). before ++ bs) (append-nil (bounds_of p readings r.item)) in
        subst (λ (bs : List Bound). AddsBounds p bs start new) (sym all) (adds_then p before (bounds_of p readings r.item) start s new adds more)

  pub all_items : (start s : SolverLists) → length items ≤ k → AddsBounds p before start s → AddsBounds p (flat_map (bounds_of p readings) (items_of items)) start s
  all_items start s past adds = subst (λ (xs : List Ranked). AddsBounds p (flat_map (bounds_of p readings) (items_of xs)) start s) (whole k items past) adds
