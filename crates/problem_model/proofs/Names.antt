-- A name that is made of a text.
use Rattle.std.proofs.Common.{◌≡◌, ℕ, ◌≤◌, List, ◌++◌, length, take, drop, replicate, refl}
use Rattle.std.proofs.lemmas.List.{drop-replicate}
use Rattle.std.proofs.Math.Seq.{take-append_seam}
use Rattle.problem_model.specs.Name.{IsEventName, padded_name}

-- the fields of a name that is made of this text over zeros
pub name_made : (text front : List ℕ) → front ≡ text → IsEventName text →
    (length text ≤ 48) × IsEventName (take (length text) (front ++ drop (length text) (replicate 48 0)))
    × (front ++ drop (length text) (replicate 48 0) ≡ padded_name (take (length text) (front ++ drop (length text) (replicate 48 0))))
name_made text front is named =
    rw (is, take-append_seam text (drop (length text) (replicate 48 0)), drop-replicate {X = ℕ} (length text) 48 0) (named.short, named, refl)
