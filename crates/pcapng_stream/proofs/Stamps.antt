-- Times in ns.
use Rattle.std.proofs.Common.{◌≡◌, ◌≤◌, ◌<◌, ◌*◌, ◌/◌, ◌%◌, ◌^◌, ℕ, true, nat_lt, sym, refl, arith}
use Rattle.std.proofs.Math.Nat.{div-eq_of_lt, mod-eq_of_lt, one-le-pow, pow-le-pow_right}
use Rattle.std.proofs.lemmas.Bool.{lt-ltb}
use Rattle.pcapng_stream.specs.Blocks.{nanos, parts_of_second}

-- a power of ten that fits 128 bits
pub ten_fits : (n : ℕ) → n < 29 → 10 ^ n < 2 ^ 128
ten_fits n few =
    let most : 10 ^ n ≤ 10 ^ 28 = pow-le-pow_right {n = 10} (omega arith) {i = n} {j = 28} (omega (arith, few)) in
    omega (arith, most)

pub ten_positive : (n : ℕ) → 0 < 10 ^ n
ten_positive n =
    let one : 1 ≤ 10 ^ n = one-le-pow n 10 (omega arith) in
    omega (arith, one)

-- no time of 64 bits comes to so small a part
pub vanishes : (n time : ℕ) → 29 ≤ n → time < 2 ^ 64 → time * 1000000000 / 10 ^ n ≡ 0
vanishes n time many fits =
    let least : 10 ^ 29 ≤ 10 ^ n = pow-le-pow_right {n = 10} (omega arith) {i = 29} {j = n} many in
    let below : time * 1000000000 < 10 ^ n = omega (arith, least, fits) in
    div-eq_of_lt below

parts_small : (resolution : ℕ) → resolution < 128 → parts_of_second resolution ≡ 10 ^ resolution
parts_small resolution small =
    let below : nat_lt resolution 128 ≡ true = lt-ltb resolution 128 small in
    let same : resolution % 128 ≡ resolution = mod-eq_of_lt small in
    rw (below, same) refl

pub vanished : (resolution time : ℕ) → resolution < 128 → 29 ≤ resolution → time < 2 ^ 64 → 0 ≡ nanos resolution time
vanished resolution time small many fits = rw (parts_small resolution small) (sym (vanishes resolution time many fits))
