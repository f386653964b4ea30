-- The room for affected nodes.
use Rattle.std.proofs.Common.{◌≡◌, ℕ, ◌-◌, ◌<◌, ◌≤◌, List, ◌++◌, length, take, max, replicate, sym, ap, ◌∙◌, arith}
use Rattle.std.proofs.Math.Nat.{max-eq_left, max-eq_right}
use Rattle.std.proofs.lemmas.List.{append-nil, take_all}
use Rattle.repair.specs.Slots.{KeptRows, with_room, with_found}

-- it is large enough
pub room_stays : (kept : KeptRows) (nodes : ℕ) → kept.room ≡ length kept.found → nodes ≤ kept.room → with_found kept kept.found ≡ with_room kept (max kept.room nodes)
room_stays kept nodes is few =
    let most : max kept.room nodes ≡ kept.room = max-eq_left few in
    let none : kept.room - length kept.found ≡ 0 = omega (arith, is) in
    let list : kept.found ++ replicate (kept.room - length kept.found) 0 ≡ kept.found = ap (λ (n : ℕ). kept.found ++ replicate n 0) none ∙ append-nil kept.found in
    sym (ap (λ (n : ℕ). with_room kept n) most ∙ ap (λ (ls : List ℕ). with_found (with_room kept kept.room) ls) list)

-- it is made larger
pub room_grows : (kept : KeptRows) (nodes len : ℕ) (found : List ℕ) → kept.room ≡ length kept.found → len ≡ length kept.found → kept.room < nodes
    → found ≡ take nodes kept.found ++ replicate (nodes - len) 0 → with_found (with_room kept nodes) found ≡ with_room kept (max kept.room nodes)
room_grows kept nodes len found is same more listed =
    let most : max kept.room nodes ≡ nodes = max-eq_right (omega (arith, more)) in
    let whole : take nodes kept.found ≡ kept.found = take_all nodes kept.found (omega (arith, is, more)) in
    let list : found ≡ kept.found ++ replicate (nodes - length kept.found) 0 =
    listed ∙ ap (λ (ls : List ℕ). ls ++ replicate (nodes - len) 0) whole ∙ ap (λ (n : ℕ). kept.found ++ replicate (nodes - n) 0) same in
    ap (λ (ls : List ℕ). with_found (with_room kept nodes) ls) list ∙ ap (λ (n : ℕ). with_room kept n) (sym most)
