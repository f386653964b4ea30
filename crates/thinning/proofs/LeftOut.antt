-- What was tested of each message that is left out makes the kept ones such as may be kept.
use Rattle.std.proofs.Common.{◌≡◌, ◌⊎◌, ◌<◌, ℕ, zero, suc, List, [], ◌∷◌, ◌++◌, length, slice_get, get_or, Bool, true, false, Some, refl, arith, inl, inr, sym, subst, ◌∙◌, ap}
use Rattle.std.specs.Prelude.{Contains}
use Rattle.std.proofs.lemmas.Bool.{cases_order, cases_Bool}
use Rattle.std.proofs.lemmas.Option.{slice_get-get_or, slice_get_within, get_or_from_slice_get}
use Rattle.problem_model.specs.declared.items.Message.{Message}
use Rattle.problem_model.specs.Problem.{ProblemLists}
use Rattle.problem_model.proofs.Chains.{Among, among}
use Rattle.problem_model.proofs.OneList.{contained}
use Rattle.thinning.specs.Thinning.{IsCovered, IsLeftOut, IsMessageEnd}
use Rattle.thinning.specs.Thinned.{marked, MayBeKept}
use Rattle.thinning.specs.Keeping.{IsFixed, IsCoveredBy, IsUnmarked, MarksShared, MayGo}

-- ---- what is marked
placed : {X : Type 0} (xs : List X) (x : X) → Contains xs x → (k : ℕ) × (slice_get xs k ≡ Some x)
placed xs x (k, within, is) = (k, slice_get-get_or xs k x within ∙ ap (λ (y : _). Some y) is)

there : {X : Type 0} (xs : List X) (k : ℕ) (x : X) → slice_get xs k ≡ Some x → Contains xs x
there xs k x at = (k, slice_get_within xs k x at, get_or_from_slice_get xs k x x at)

among_marked : {X : Type 0} (xs : List X) (marks : List Bool) (x : X) → Among (marked xs marks) x → Among xs x
among_marked [] marks x at = at
among_marked (y ∷ ys) [] x at = absurd at
among_marked (y ∷ ys) (true ∷ marks) x (inl is) = inl is
among_marked (y ∷ ys) (true ∷ marks) x (inr at) = inr (among_marked ys marks x at)
among_marked (y ∷ ys) (false ∷ marks) x at = inr (among_marked ys marks x at)

-- what is marked is of the whole
pub of_marked : {X : Type 0} (xs : List X) (marks : List Bool) (x : X) → Contains (marked xs marks) x → Contains xs x
of_marked xs marks x at = contained xs x (among_marked xs marks x (among (marked xs marks) x at))

marked_among : {X : Type 0} (xs : List X) (marks : List Bool) (k : ℕ) (x : X) → slice_get xs k ≡ Some x → slice_get marks k ≡ Some true → Among (marked xs marks) x
marked_among [] marks k x at mark = absurd cc
marked_among (y ∷ ys) [] k x at mark = absurd cc
marked_among (y ∷ ys) (true ∷ marks) zero x at mark = inl cc
marked_among (y ∷ ys) (false ∷ marks) zero x at mark = absurd cc
marked_among (y ∷ ys) (true ∷ marks) (suc k) x at mark = inr (marked_among ys marks k x at mark)
marked_among (y ∷ ys) (false ∷ marks) (suc k) x at mark = marked_among ys marks k x at mark

-- what stands at a place with a mark is marked
pub is_marked : {X : Type 0} (xs : List X) (marks : List Bool) (k : ℕ) (x : X) → slice_get xs k ≡ Some x → slice_get marks k ≡ Some true → Contains (marked xs marks) x
is_marked xs marks k x at mark = contained (marked xs marks) x (marked_among xs marks k x at mark)

-- ---- one mark more
slice_push : {X : Type 0} (xs : List X) (x : X) (k : ℕ) (y : X) → slice_get (xs ++ x ∷ []) k ≡ Some y → (slice_get xs k ≡ Some y) ⊎ ((k ≡ length xs) × (x ≡ y))
slice_push [] x zero y e = inr (refl, cc)
slice_push [] x (suc k) y e = absurd cc
slice_push (z ∷ zs) x zero y e = inl e
slice_push (z ∷ zs) x (suc k) y e = elim (slice_push zs x k y e) [
  | inl at ↦ inl at
  | inr more ↦ inr (let is = more.0 in omega (arith, is), more.1)
]

-- what is so of each place without a mark, and of the next one if it gets none
pub one_mark : (P : ℕ → Type 0) (keeps : List Bool) (b : Bool) → ((k : ℕ) → slice_get keeps k ≡ Some false → P k) → (b ≡ false → P (length keeps)) → (k : ℕ) → slice_get (keeps ++ b ∷ []) k ≡ Some false → P k
one_mark P keeps b before here k at = elim (slice_push keeps b k false at) [
  | inl there ↦ before k there
  | inr last ↦ subst P (sym last.0) (here last.1)
]

-- ---- what is left out
module _ (p : ProblemLists) (fixed shared asked keeps : List Bool) (each : length keeps ≡ length p.messages) (fixed_each : length fixed ≡ length p.messages) (sharing : MarksShared p shared)
    (goes : (k : ℕ) → slice_get keeps k ≡ Some false → MayGo p fixed shared asked k) where
  mark_at : (k : ℕ) → k < length p.messages → (slice_get keeps k ≡ Some true) ⊎ (slice_get keeps k ≡ Some false)
  mark_at k within =
      let at : slice_get keeps k ≡ Some (get_or keeps k false) = slice_get-get_or keeps k false (omega (arith, each, within)) in
      elim (cases_Bool (get_or keeps k false)) [
        | inl is ↦ inl (at ∙ ap (λ (b : Bool). Some b) is)
        | inr is ↦ inr (at ∙ ap (λ (b : Bool). Some b) is)
      ]

  -- a fixed message is kept
  fixed_kept : (k : Message) → IsFixed p fixed k → Contains (marked p.messages keeps) k
  fixed_kept k (place, at, mark) = elim (mark_at place (slice_get_within p.messages place k at)) [
    | inl kept ↦ is_marked p.messages keeps place k at kept
    | inr gone ↦ absurd (let not = (goes place gone).not_fixed in cc)
  ]

  -- a message that is left out may go
  left : (m : Message) → IsLeftOut p (marked p.messages keeps) m → (k : ℕ) × (slice_get p.messages k ≡ Some m) × MayGo p fixed shared asked k
  left m (at, never) = let (k, here) = placed p.messages m at in elim (mark_at k (slice_get_within p.messages k m here)) [
    | inl kept ↦ absurd (never (is_marked p.messages keeps k m here kept))
    | inr gone ↦ (k, here, goes k gone)
  ]

  covered_by : (m : Message) → IsCoveredBy p fixed m → IsCovered p 0 (marked p.messages keeps) m
  covered_by m by = record {
    fast = let (k, is, same, near, fast) = by.fast in (k, fixed_kept k is, same, near, fast);
    slow = λ most is_most. let (k, is, same, near, fast) = by.slow most is_most in (k, fixed_kept k is, same, near, fast);
  }

  -- of the same place
  module _ (m : Message) (k : ℕ) (here : slice_get p.messages k ≡ Some m) (go : MayGo p fixed shared asked k) where
    same : go.message ≡ m
    same = let there = go.there in cc

    covers : IsCovered p 0 (marked p.messages keeps) m
    covers = covered_by m (subst (λ (n : Message). IsCoveredBy p fixed n) same go.covered)

    no_mark : (marks : List Bool) → IsUnmarked marks go.message → (e : ℕ) → IsMessageEnd e m → slice_get marks e ≡ Some false
    no_mark marks none e end = by (subst (λ (n : Message). IsUnmarked marks n) same none) end
      where
        by : IsUnmarked marks m → IsMessageEnd e m → slice_get marks e ≡ Some false
        by (send, receive) (inl is) = subst (λ (d : ℕ). slice_get marks d ≡ Some false) (sym is) send
        by (send, receive) (inr is) = subst (λ (d : ℕ). slice_get marks d ≡ Some false) (sym is) receive

    alone_at : (n : Message) (j : ℕ) (e : ℕ) → slice_get p.messages j ≡ Some n → IsMessageEnd e m → IsMessageEnd e n → m ≡ n
    alone_at n j e at end end' = let none = no_mark shared go.alone e end in elim (cases_order k j) [
      | inl is ↦ (let at' : slice_get p.messages k ≡ Some n = subst (λ (i : ℕ). slice_get p.messages i ≡ Some n) (sym is) at in cc)
      | inr (inl less) ↦ absurd (let shared_here = sharing.marks k j m n e less here at end end' in cc)
      | inr (inr less) ↦ absurd (let shared_here = sharing.marks j k n m e less at here end' end in cc)
    ]

  alone : (m n : Message) (e : ℕ) → IsLeftOut p (marked p.messages keeps) m → Contains p.messages n → IsMessageEnd e m → IsMessageEnd e n → m ≡ n
  alone m n e out at end end' = let (k, here, go) = left m out in let (j, at') = placed p.messages n at in alone_at m k here go n j e at' end end'

  pub may_be_kept : MayBeKept p asked keeps
  may_be_kept = record {
    each = each;
    thins = record {
      among = λ m at. of_marked p.messages keeps m at;
      covered = λ m out. let (k, here, go) = left m out in covers m k here go;
      alone = alone;
    };
    remain = λ e is m out end. let (k, here, go) = left m out in absurd (let none = no_mark m k here go asked go.unasked e end in cc);
  }
