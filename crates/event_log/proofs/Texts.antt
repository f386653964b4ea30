-- A key that is made of a text.
use Rattle.std.proofs.Common.{◌≡◌, ℕ, ◌≤◌, List, ◌++◌, length, take, drop, replicate, refl}
use Rattle.std.proofs.lemmas.List.{drop-replicate}
use Rattle.std.proofs.Math.Seq.{take-append_seam}
use Rattle.event_log.specs.Texts.{IsWordKey, padded_text}

-- the fields of a key that is made of this text over zeros
pub key_made : (text front : List ℕ) → front ≡ text → IsWordKey text →
    (length text ≤ 64) × IsWordKey (take (length text) (front ++ drop (length text) (replicate 64 0)))
    × (front ++ drop (length text) (replicate 64 0) ≡ padded_text (take (length text) (front ++ drop (length text) (replicate 64 0))))
key_made text front is key =
    rw (is, take-append_seam text (drop (length text) (replicate 64 0)), drop-replicate {X = ℕ} (length text) 64 0) (key.message.short, key, refl)
