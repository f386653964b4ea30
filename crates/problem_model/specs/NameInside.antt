-- A name that is made of its text gives its fields back.
use Rattle.std.specs.Prelude.{◌≡◌, ℕ, ◌-◌, ◌≤◌, List, length, take, replicate, refl}
use Rattle.std.proofs.Common.{arith, length-append, ap, sym}
use Rattle.std.proofs.lemmas.List.{length-take, length-replicate}
use Rattle.problem_model.specs.Name.{IsEventName, padded_name}
use Rattle.problem_model.specs.declared.name.Name.TheInside.{Inside}

taken : (n : ℕ) (bytes : List ℕ) → n ≤ 48 → bytes ≡ padded_name (take n bytes) → length (take n bytes) ≤ 48 → length (take n bytes) ≡ n
taken n bytes short is fits =
    omega (
      arith,
      length-take n bytes,
      ap length is,
      length-append (take n bytes) (replicate (48 - length (take n bytes)) 0),
      length-replicate {A = ℕ} (48 - length (take n bytes)) 0,
      fits,
      short,
    )

same : (bytes bytes' : List ℕ) (len len' : ℕ) → bytes ≡ bytes' → len ≡ len' → (let a : Inside = record { bytes = bytes; len = len } in a) ≡ (let a : Inside = record { bytes = bytes'; len = len' } in a)
same bytes bytes' len len' e f = rw (e, f) refl

-- made of its own text a name has the same bytes and the same length again
pub name_back : (a : Inside) → a.len ≤ 48 → IsEventName (take a.len a.bytes) → a.bytes ≡ padded_name (take a.len a.bytes) →
    (let b : Inside = record { bytes = padded_name (take a.len a.bytes); len = length (take a.len a.bytes) } in b) ≡ a
name_back a short named is = same _ _ _ _ (sym is) (taken a.len a.bytes short is named.short)
