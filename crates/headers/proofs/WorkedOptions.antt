-- Lists of options as hosts send them.
use Rattle.std.proofs.Common.{◌≡◌, [], ◌∷◌, Some, None, refl}
use Rattle.headers.specs.Options.{telling}

-- of a SYN: the greatest segment, SACK is permitted, timestamps, a byte that fills, a window's scale
syn : telling 40 (2 ∷ 4 ∷ 5 ∷ 180 ∷ 4 ∷ 2 ∷ 8 ∷ 10 ∷ 13 ∷ 109 ∷ 77 ∷ 5 ∷ 0 ∷ 0 ∷ 0 ∷ 0 ∷ 1 ∷ 3 ∷ 3 ∷ 7 ∷ []) ≡ Some (8 ∷ 10 ∷ 13 ∷ 109 ∷ 77 ∷ 5 ∷ 0 ∷ 0 ∷ 0 ∷ 0 ∷ [])
unfolding telling
syn = refl

-- of an acknowledgment behind a gap: two bytes that fill, timestamps, two more, and one block that was received
acknowledgment : telling 40 (1 ∷ 1 ∷ 8 ∷ 10 ∷ 13 ∷ 109 ∷ 77 ∷ 9 ∷ 201 ∷ 4 ∷ 0 ∷ 17 ∷ 1 ∷ 1 ∷ 5 ∷ 10 ∷ 90 ∷ 1 ∷ 2 ∷ 3 ∷ 90 ∷ 1 ∷ 7 ∷ 139 ∷ [])
    ≡ Some (8 ∷ 10 ∷ 13 ∷ 109 ∷ 77 ∷ 9 ∷ 201 ∷ 4 ∷ 0 ∷ 17 ∷ 5 ∷ 10 ∷ 90 ∷ 1 ∷ 2 ∷ 3 ∷ 90 ∷ 1 ∷ 7 ∷ 139 ∷ [])
unfolding telling
acknowledgment = refl

-- behind the end nothing counts
ended : telling 40 (0 ∷ 8 ∷ 10 ∷ 1 ∷ []) ≡ Some []
unfolding telling
ended = refl

-- an option without a second byte, one shorter than its kind and size, one longer than the list
without_size : telling 40 (1 ∷ 8 ∷ []) ≡ None
unfolding telling
without_size = refl

too_short : telling 40 (8 ∷ 1 ∷ 1 ∷ []) ≡ None
unfolding telling
too_short = refl

too_long : telling 40 (2 ∷ 4 ∷ 5 ∷ []) ≡ None
unfolding telling
too_long = refl
