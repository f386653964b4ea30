-- Pieces that are written one after another.
use Rattle.std.proofs.Common.{◌≡◌, inl, inr, ℕ, ◌+◌, ◌-◌, ◌≤◌, List, ◌++◌, length, take, drop, Option, Some, None, arith, append_assoc, take-add}
use Rattle.std.proofs.lemmas.Grind.{common_steps}
use Rattle.ports.specs.Content.{Rose, Appends}

pub rose_later : (a b c : ℕ) → a ≤ b → Rose b c → Rose a c
rose_later a b c le (inl lt) = inl (omega (arith, le, lt))
rose_later a b c le (inr last) = inr last

drop_whole : (d : ℕ) (piece : List ℕ) → take (length piece - d) (drop d piece) ≡ drop d piece
drop_whole d piece = grind (arith, common_steps)

pub appends_more : (old mid new : Option (List ℕ)) (piece : List ℕ) (d n : ℕ) →
    Appends old mid (take d piece) → Appends mid new (take n (take (length piece - d) (drop d piece))) → Appends old new (take (d + n) piece)
appends_more None mid new piece d n a b = tt
appends_more (Some old) mid new piece d n a b =
    let c : Appends (Some (old ++ take d piece)) new (take n (drop d piece)) = rw (a, drop_whole d piece) at b in
    rw (take-add d n piece, ← append_assoc old (take d piece) (take n (drop d piece))) c
