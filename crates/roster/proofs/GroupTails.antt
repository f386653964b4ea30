-- Elements behind those of a group, and what is left when they are taken off again.
use Rattle.std.proofs.Common.{◌≡◌, ℕ, ◌+◌, ◌<◌, zero, suc, List, [], ◌∷◌, ◌++◌, length, take, set, slice_get, Some, sym, ◌∙◌, ap, arith, length-append}
use Rattle.std.proofs.Math.Seq.{take-length}
use Rattle.std.proofs.lemmas.List.{take-append-le}
use Rattle.std.proofs.lemmas.Option.{none-some, same_Some, get_or_from_slice_get}
use Rattle.roster.specs.Groups.{total, sizes_of, group_at, with_tail}

-- a tail from the end on stands behind all
pub tail_behind : {T : Type 0} (groups : List (List T)) (g : ℕ) (group tail : List T) → slice_get groups g ≡ Some group → with_tail groups g (length group) tail ≡ set groups g (group_at groups g ++ tail)
tail_behind {T} groups g group tail at =
    let here : group_at groups g ≡ group = get_or_from_slice_get groups g group [] at in
    ap (λ (l : List T). set groups g (take (length l) (group_at groups g) ++ tail)) (sym here) ∙ ap (λ (l : List T). set groups g (l ++ tail)) (take-length (group_at groups g))

tail_adds : {T : Type 0} (groups : List (List T)) (g : ℕ) (tail : List T) → g < length groups → total (sizes_of (set groups g (group_at groups g ++ tail))) ≡ total (sizes_of groups) + length tail
tail_adds [] g tail inside = absurd (omega (arith, inside))
tail_adds (x ∷ groups) zero tail inside = omega (arith, length-append x tail)
tail_adds (x ∷ groups) (suc g) tail inside = let more = tail_adds groups g tail (omega (arith, inside)) in omega (arith, more)

pub tail_total : {T : Type 0} (groups : List (List T)) (g : ℕ) (group tail : List T) → g < length groups → slice_get groups g ≡ Some group → total (sizes_of (with_tail groups g (length group) tail)) ≡ total (sizes_of groups) + length tail
tail_total {T} groups g group tail inside at = ap (λ (gs : List (List T)). total (sizes_of gs)) (tail_behind groups g group tail at) ∙ tail_adds groups g tail inside

cut_off : {T : Type 0} (groups : List (List T)) (g : ℕ) (group tail : List T) → slice_get groups g ≡ Some group →
    set (set groups g (group_at groups g ++ tail)) g (take (length group) (group_at (set groups g (group_at groups g ++ tail)) g)) ≡ groups
cut_off [] g group tail at = absurd (none-some group at)
cut_off {T} (x ∷ groups) zero group tail at =
    let here : x ≡ group = same_Some x group at in
    ap (λ (l : List T). l ∷ groups) (ap (λ (l : List T). take (length l) (x ++ tail)) (sym here) ∙ take-append-le (length x) x tail (omega arith) ∙ take-length x)
cut_off {T} (x ∷ groups) (suc g) group tail at = ap (λ (gs : List (List T)). x ∷ gs) (cut_off groups g group tail at)

-- what was put behind is taken off again
pub tail_taken : {T : Type 0} (groups : List (List T)) (g : ℕ) (group tail : List T) → g < length groups → slice_get groups g ≡ Some group →
    set (with_tail groups g (length group) tail) g (take (length group) (group_at (with_tail groups g (length group) tail) g)) ≡ groups
tail_taken {T} groups g group tail inside at =
    ap (λ (gs : List (List T)). set gs g (take (length group) (group_at gs g))) (tail_behind groups g group tail at) ∙ cut_off groups g group tail at
