-- Pieces of a block.
use Rattle.std.proofs.Common.{◌≡◌, ℕ, zero, suc, ◌+◌, ◌-◌, ◌<◌, ◌≤◌, List, [], ◌∷◌, ◌++◌, length, take, drop, position, slice_range, ◌==◌, Bool, true, false, Option, Some, None, refl, sym, ◌∙◌, ap, arith, append_assoc}
use Rattle.std.proofs.lemmas.List.{take-take, drop-drop, length-take-le, length-drop, take_all}
use Rattle.std.proofs.lemmas.Grind.{common_steps}
use Rattle.std.specs.Prelude.{IfSome}
use Rattle.ports.specs.Content.{SourceTold, TakesBytes}
use Rattle.ports.specs.declared.line.Line.{Line}
use Rattle.ports.specs.Lines.{NoFeed}
use Rattle.ports.specs.Reader.{Came, NoneLeft}
use Rattle.ports.specs.Block.{IsKeptFront, IsTold, found_as}
use Rattle.ports.proofs.Feeds.{feed_found}

pub told_as : (whole line : List ℕ) (long : Bool) → IsKeptFront whole line long → IsTold whole line (found_as long)
told_as whole line true kept = kept
told_as whole line false kept = kept

drop_take : (n m : ℕ) (xs : List ℕ) → n ≤ m → drop n (take m xs) ≡ take (m - n) (drop n xs)
drop_take zero m xs le = let all : m - 0 ≡ m = omega arith in rw all refl
drop_take (suc n) zero xs le = absurd (omega (arith, le))
drop_take (suc n) (suc m) [] le = sym (take_all (suc m - suc n) [] (omega arith))
drop_take (suc n) (suc m) (x ∷ xs) le =
    let less : suc m - suc n ≡ m - n = omega arith in
    rw less (drop_take n m xs (omega (arith, le)))

front_range : (block : List ℕ) (start end k : ℕ) → start + k ≤ end → take k (slice_range block start end) ≡ slice_range block start (start + k)
front_range block start end k le =
    let most : k ≤ end - start = omega (arith, le) in
    let e : start + k - start ≡ k = omega arith in
    rw (e, take-take k (end - start) (drop start block) most) refl

back_range : (block : List ℕ) (start end k : ℕ) → start + k + 1 ≤ end → drop (k + 1) (slice_range block start end) ≡ slice_range block (start + k + 1) end
back_range block start end k le =
    let most : k + 1 ≤ end - start = omega (arith, le) in
    let e : end - start - (k + 1) ≡ end - (start + k + 1) = omega arith in
    let f : start + (k + 1) ≡ start + k + 1 = omega arith in
    drop_take (k + 1) (end - start) (drop start block) most ∙ rw (e, drop-drop (k + 1) start block, f) refl

range_size : (block : List ℕ) (start end : ℕ) → start ≤ end → end ≤ length block → length (slice_range block start end) ≡ end - start
range_size block start end le fits = length-take-le (end - start) (drop start block) (omega (arith, length-drop start block, fits, le))

-- the bytes held up to a line feed
pub piece_whole : (block front line : List ℕ) (start end k : ℕ) (long : Bool) (found : Line) → start ≤ end → end ≤ length block →
    position (λ b. b == 10) (slice_range block start end) ≡ Some k → IsKeptFront (front ++ slice_range block start (start + k)) line long → found ≡ found_as long →
    (piece : List ℕ) × NoFeed piece × (slice_range block start end ≡ piece ++ 10 ∷ slice_range block (start + k + 1) end) × IsTold (front ++ piece) line found
piece_whole block front line start end k long found le fits is kept told =
    let feed = feed_found (slice_range block start end) k is in
    let size = range_size block start end le fits in
    let near : start + k + 1 ≤ end = omega (arith, feed.0, size, le) in
    let head = front_range block start end k (omega (arith, near)) in
    let tail = back_range block start end k near in
    (slice_range block start (start + k), rw head at feed.1, rw (head, tail) at feed.2, rw told (told_as _ line long kept))

-- no range is no bytes
pub no_range : (block : List ℕ) (at : ℕ) → slice_range block at at ≡ []
no_range block at = let e : at - at ≡ 0 = omega arith in rw e refl

-- ---- what a source has left, where it tells
-- bytes that came, and that nothing is left, by what a source has left alone
abbrev CameOff : Option (List ℕ) → Option (List ℕ) → List ℕ → Type 0
CameOff left after bytes = IfSome left (λ left. (rest : List ℕ) × (left ≡ bytes ++ rest) × (after ≡ Some rest))

abbrev NoneOff : Option (List ℕ) → Option (List ℕ) → Type 0
NoneOff left after = IfSome left (λ left. after ≡ Some [])

in_front : (left after : Option (List ℕ)) (block : List ℕ) (n : ℕ) → TakesBytes left after block n → CameOff left after (take n block)
in_front None after block n takes = tt
in_front (Some left) after block n takes = (drop n left, cut, takes.2)
  where
    cut : left ≡ take n block ++ drop n left
    cut = rw takes.1 (grind (arith, common_steps))

no_front : (left after : Option (List ℕ)) (block : List ℕ) → 0 < length block → TakesBytes left after block 0 → NoneOff left after
no_front None after block some takes = tt
no_front (Some left) after block some takes = let e = takes.3 refl some in takes.2 ∙ ap Some e

none_off : (left : Option (List ℕ)) → CameOff left left []
none_off None = tt
none_off (Some left) = (left, refl, refl)

more_off : (left mid after : Option (List ℕ)) (a b : List ℕ) → CameOff left mid a → CameOff mid after b → CameOff left after (a ++ b)
more_off None mid after a b first next = tt
more_off (Some left) mid after a b first next =
    let rest : CameOff (Some first.0) after b = rw first.2 at next in
    (rest.0, first.1 ∙ ap (λ (l : List ℕ). a ++ l) rest.1 ∙ sym (append_assoc a b rest.0), rest.2)

later_off : (left mid after : Option (List ℕ)) (a : List ℕ) → CameOff left mid a → NoneOff mid after → NoneOff left after
later_off None mid after a came none = tt
later_off (Some left) mid after a came none = rw came.2 at none

one_off : (left after : Option (List ℕ)) (block : List ℕ) (n : ℕ) → n ≡ 1 → 0 < length block → TakesBytes left after block n → (another : ℕ) × CameOff left after (another ∷ [])
one_off left after [] n one some takes = absurd (omega (arith, some))
one_off left after (b ∷ bs) n one some takes = (b, let came : TakesBytes left after (b ∷ bs) 1 = rw one at takes in in_front left after (b ∷ bs) 1 came)

end_off : (left after : Option (List ℕ)) (all : List ℕ) → left ≡ Some all → NoneOff left after → after ≡ Some []
end_off left after all is none = rw is at none

told_off : (left after : Option (List ℕ)) (all bytes : List ℕ) → left ≡ Some all → CameOff left after bytes → CameOff (Some all) after bytes
told_off left after all bytes is came = rw is at came

-- what came into the front of a block
pub came_in : (before after : SourceTold) (block : List ℕ) (n : ℕ) → TakesBytes before.left after.left block n → Came before after (take n block)
came_in before after = in_front before.left after.left

-- no byte is the end
pub none_in : (before after : SourceTold) (block : List ℕ) → 0 < length block → TakesBytes before.left after.left block 0 → NoneLeft before after
none_in before after = no_front before.left after.left

pub nothing_came : (now : SourceTold) → Came now now []
nothing_came now = none_off now.left

pub came_more : (begun before after : SourceTold) (a b : List ℕ) → Came begun before a → Came before after b → Came begun after (a ++ b)
came_more begun before after = more_off begun.left before.left after.left

pub none_later : (begun before after : SourceTold) (a : List ℕ) → Came begun before a → NoneLeft before after → NoneLeft begun after
none_later begun before after = later_off begun.left before.left after.left

-- one byte came
pub one_came : (before after : SourceTold) (block : List ℕ) (n : ℕ) → n ≡ 1 → 0 < length block → TakesBytes before.left after.left block n → (another : ℕ) × Came before after (another ∷ [])
one_came before after = one_off before.left after.left

-- the bytes that came off a source that tells what it has left, and the rest
pub came_off : (before after : SourceTold) (left bytes : List ℕ) → before.left ≡ Some left → Came before after bytes → (rest : List ℕ) × (left ≡ bytes ++ rest) × (after.left ≡ Some rest)
came_off before after left bytes is came = told_off before.left after.left left bytes is came

-- such a source has nothing left
pub nothing_left : (before after : SourceTold) (left : List ℕ) → before.left ≡ Some left → NoneLeft before after → after.left ≡ Some []
nothing_left before after left is none = end_off before.left after.left left is none
