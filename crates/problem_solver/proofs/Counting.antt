-- Events that are queued and taken out, each once.
use Rattle.std.proofs.Common.{◌≡◌, ◌<◌, ◌+◌, ℕ, zero, suc, Bool, true, false, List, [], ◌∷◌, length, get_or, set, replicate, Option, Some, None, refl, sym, ◌∙◌, ap, arith}
use Rattle.std.specs.Prelude.{ℤ}
use Rattle.std.proofs.lemmas.List.{length-replicate}
use Rattle.std.proofs.lemmas.List.Sums.{sum_by-set}
use Rattle.std.proofs.lemmas.List.Folds.{sum_by-replicate}
use Rattle.std.proofs.lemmas.Option.{slice_get_within, slice_get-get_or, get_or_from_slice_get}
use Rattle.frontier.specs.Keys.{Waits, IsFreeNode, IsEmpty}
use Rattle.problem_solver.specs.Offsets.{unset, count_unset}
use Rattle.problem_solver.specs.Turns.{Turns}
use Rattle.problem_solver.specs.Queues.{one_ready, are_ready, not_queued, IsQueue}

-- one more flag is set
count_set : (flags : List Bool) (k : ℕ) → k < length flags → get_or flags k false ≡ false → count_unset (set flags k true) + 1 ≡ count_unset flags
count_set flags k inside is =
    let sums = sum_by-set unset flags k true false inside in
    let one : unset (get_or flags k false) ≡ 1 = ap unset is in
    omega (arith, sums, one)

count_none : (n : ℕ) → count_unset (replicate n false) ≡ n
count_none n = let all = sum_by-replicate unset n false in omega (arith, all)

none_ready : (ready : List (Option ℤ)) → IsEmpty ready → are_ready ready ≡ 0
none_ready [] empty = refl
none_ready (None ∷ ready) empty = none_ready ready (λ node key waits. empty (suc node) key waits)
none_ready (Some time ∷ ready) empty = absurd (empty 0 time refl)

-- nothing has been queued
pub all_left : (n : ℕ) (ready : List (Option ℤ)) → IsEmpty ready → not_queued (replicate n false) + are_ready ready ≡ n
all_left n ready empty = omega (arith, count_none n, none_ready ready empty)

free_where_none_waits : (ready : List (Option ℤ)) → IsEmpty ready → (event : ℕ) → event < length ready → IsFreeNode ready event
free_where_none_waits [] empty event inside = absurd (omega (arith, inside))
free_where_none_waits (None ∷ ready) empty zero inside = refl
free_where_none_waits (Some time ∷ ready) empty zero inside = absurd (empty 0 time refl)
free_where_none_waits (key ∷ ready) empty (suc event) inside =
    free_where_none_waits ready (λ node waits. empty (suc node) waits) event (omega (arith, inside))

-- a queue in which nothing has been queued
pub starts : (n : ℕ) (ready : List (Option ℤ)) (waiting : List ℕ) → IsEmpty ready → length ready ≡ n → length waiting ≡ n → IsQueue n ready (replicate n false) waiting
starts n ready waiting empty room counts =
    let long = length-replicate n false in
    record {
      times_each = sym long;
      waiting_each = counts ∙ sym long;
      room = room ∙ sym long;
      free = λ event is. (
          let inside = slice_get_within (replicate n false) event false is in
          free_where_none_waits ready empty event (omega (arith, inside, long, room)));
    }

pub same_turns : (a b k l : ℕ) → a ≡ b → k ≡ l → ◌≡◌ {A = Turns} (record { all = a; left = k }) (record { all = b; left = l })
same_turns a b k l same left = rw (same, left) refl

module _ (times : ℕ) (ready : List (Option ℤ)) (flags : List Bool) (waiting : List ℕ) (are : IsQueue times ready flags waiting) (event : ℕ) where
  module _ (time : ℤ) (inside : event < length flags) (is : get_or flags event false ≡ false) where
    pub free_yet : IsFreeNode ready event
    free_yet = are.free event (slice_get-get_or flags event false inside ∙ ap Some is)

    -- it is queued
    pub left_same : not_queued (set flags event true) + are_ready (set ready event (Some time)) ≡ not_queued flags + are_ready ready
    left_same =
        let sums = sum_by-set one_ready ready event (Some time) None (let room = are.room in omega (arith, inside, room)) in
        let none : one_ready (get_or ready event None) ≡ 0 = ap one_ready (get_or_from_slice_get ready event None None free_yet) in
        omega (arith, sums, none, count_set flags event inside is)

  -- it is taken out
  module _ (time : ℤ) (waits : Waits ready event time) where
    within : event < length ready
    within = slice_get_within ready event (Some time) waits

    pub left_less : (not_queued flags + are_ready (set ready event None)) + 1 ≡ not_queued flags + are_ready ready
    left_less =
        let sums = sum_by-set one_ready ready event None None within in
        let one : one_ready (get_or ready event None) ≡ 1 = ap one_ready (get_or_from_slice_get ready event (Some time) None waits) in
        omega (arith, sums, one)
