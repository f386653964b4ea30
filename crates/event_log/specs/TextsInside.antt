-- A key gives its fields back.
use Rattle.std.specs.Prelude.{◌≡◌, ℕ, ◌-◌, ◌≤◌, List, length, take, replicate, refl}
use Rattle.std.proofs.Common.{arith, length-append, ap, sym}
use Rattle.std.proofs.lemmas.List.{length-take, length-replicate}
use Rattle.event_log.specs.Texts.{IsWordKey, padded_text}
use Rattle.event_log.specs.declared.word_key.WordKey.TheInside.{Inside}

taken : (n : ℕ) (bytes : List ℕ) → n ≤ 64 → bytes ≡ padded_text (take n bytes) → length (take n bytes) ≤ 64 → length (take n bytes) ≡ n
taken n bytes short is fits =
    omega (
      arith,
      length-take n bytes,
      ap length is,
      length-append (take n bytes) (replicate (64 - length (take n bytes)) 0),
      length-replicate {A = ℕ} (64 - length (take n bytes)) 0,
      fits,
      short,
    )

same : (bytes bytes' : List ℕ) (len len' : ℕ) → bytes ≡ bytes' → len ≡ len' → (let a : Inside = record { bytes = bytes; len = len } in a) ≡ (let a : Inside = record { bytes = bytes'; len = len' } in a)
same bytes bytes' len len' e f = rw (e, f) refl

pub key_back : (a : Inside) → a.len ≤ 64 → IsWordKey (take a.len a.bytes) → a.bytes ≡ padded_text (take a.len a.bytes) →
    (let b : Inside = record { bytes = padded_text (take a.len a.bytes); len = length (take a.len a.bytes) } in b) ≡ a
key_back a short key is = same _ _ _ _ (sym is) (taken a.len a.bytes short is key.message.short)
