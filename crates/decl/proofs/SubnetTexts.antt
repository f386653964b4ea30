-- The text of a subnet: how many bits count, and which addresses it has.
use Rattle.std.proofs.Common.{◌≡◌, ℕ, zero, suc, ◌+◌, ◌-◌, ◌%◌, ◌^◌, ◌<◌, ◌≤◌, ◌==◌, Bool, true, false, List, length, take, drop, inl, inr, Option, Some, None, refl, sym, ap, ◌∙◌, subst, arith}
use native.Mathlib.Nat.{mod-eq_of_lt}
use Rattle.std.specs.Prelude.{find, position, option_map, option_and_then, ⊤}
use Rattle.std.specs.List.{range_with_len}
use Rattle.std.specs.Str.{bytes_eq}
use Rattle.std.proofs.lemmas.Bool.{cases_eq, false≢true}
use Rattle.std.proofs.lemmas.Grind.{common_steps}
use Rattle.std.proofs.lemmas.Nat.{pow_pos}
use Rattle.std.proofs.lemmas.Option.{none-some, same_Some}
use Rattle.std.proofs.lemmas.Slice.Eq.{bytes_eq-Decides}
use Rattle.atto.specs.Decimal.{decimal_of}
use Rattle.atto.specs.Number.{IsFault}
use Rattle.atto.specs.declared.text.NumFault.{NumFault}
use Rattle.atto.specs.declared.text.NumFault.TheVariants.{Spelling, Range}
use Rattle.decl.specs.Addresses.{read_as}
use Rattle.decl.specs.Subnets.{bits_in, bits_of, prefix_by, prefix_in, size_of, subnet_by}
use Rattle.decl.specs.declared.items.IpVersion.{IpVersion}
use Rattle.decl.specs.declared.items.IpVersion.TheVariants.{V4, V6}
use Rattle.decl.specs.declared.items.Subnet.{Subnet}

-- ---- the first number of a range that passes a test

module _ (t : ℕ → Bool) where
  -- only this one does
  found_in : (n start len : ℕ) → t n ≡ true → ((m : ℕ) → t m ≡ true → m ≡ n) → start ≤ n → n < start + len → Some n ≡ find t (range_with_len start len)
  found_in n start zero here only from below = absurd (omega (arith, from, below))
  found_in n start (suc len) here only from below = go (t start) refl (λ after. found_in n (start + 1) len here only after (omega (arith, below)))
    where
      go : (b : Bool) → t start ≡ b → (start + 1 ≤ n → Some n ≡ find t (range_with_len (start + 1) len)) → Some n ≡ find t (range_with_len start (suc len))
      go true is more = rw is (ap Some (sym (only start is)))
      go false is more = rw is (elim (cases_eq start n) [
        | inl same ↦ absurd (false≢true (sym is ∙ ap t same ∙ here))
        | inr other ↦ more (omega (arith, from, other))
      ])

  -- none does
  none_in : (start len : ℕ) → ((m : ℕ) → m < start + len → t m ≡ false) → None ≡ find t (range_with_len start len)
  none_in start zero none = refl
  none_in start (suc len) none = rw (none start (omega arith)) (none_in (start + 1) len (λ m below. none m (omega (arith, below))))

  -- one that does is in it
  in_range : (n start len : ℕ) → find t (range_with_len start len) ≡ Some n → n < start + len
  in_range n start zero e = absurd (none-some n e)
  in_range n start (suc len) e = go (t start) refl (in_range n (start + 1) len)
    where
      go : (b : Bool) → t start ≡ b → (find t (range_with_len (start + 1) len) ≡ Some n → n < start + 1 + len) → n < start + suc len
      go true is more = let same : start ≡ n = same_Some start n (rw is at e) in omega (arith, same)
      go false is more = omega (arith, more (rw is at e))

-- ---- bits

abbrev says : List ℕ → ℕ → Bool
says text n = bytes_eq (decimal_of n) text

not_said : (text : List ℕ) (n : ℕ) (b : Bool) → says text n ≡ b → (text ≡ decimal_of n → ⊥) → says text n ≡ false
not_said text n true is other = absurd (other (sym ((bytes_eq-Decides (decimal_of n) text).0 is)))
not_said text n false is other = is

module _ (version : IpVersion) (text : List ℕ) where
  pub bits_none : ((n : ℕ) → text ≡ decimal_of n → n ≤ bits_of version → ⊥) → None ≡ bits_in version text
  bits_none none = none_in (says text) 0 (bits_of version + 1) (λ n below. not_said text n (says text n) refl (λ is. none n is (omega (arith, below))))

  module _ (one : (m n : ℕ) → decimal_of m ≡ decimal_of n → m ≡ n) where
    pub bits_found : (n : ℕ) → text ≡ decimal_of n → n ≤ bits_of version → Some n ≡ bits_in version text
    bits_found n is fits =
        found_in (says text) n 0 (bits_of version + 1) ((bytes_eq-Decides (decimal_of n) text).1 (sym is)) (λ m said. one m n ((bytes_eq-Decides (decimal_of m) text).0 said ∙ is)) (omega arith) (omega (arith, fits))

    pub bits_many : (n : ℕ) → text ≡ decimal_of n → bits_of version < n → None ≡ bits_in version text
    bits_many n is many = bits_none (λ m said fits. let same : m ≡ n = one m n (sym said ∙ is) in absurd (omega (arith, same, fits, many)))

    bits_small : (v : IpVersion) → bits_of v < 2 ^ 64
    bits_small V4 = omega arith
    bits_small V6 = omega arith

    pub bits_fault : (fault : NumFault) → IsFault decimal_of (λ n. n < 2 ^ 64) text fault → None ≡ bits_in version text
    bits_fault Spelling none = bits_none (λ n said fits. none n said)
    bits_fault Range (v, is, unfit) = bits_none (λ n said fits. unfit (below n v (one n v (sym said ∙ is)) fits (bits_small version)))
      where
        below : (n v : ℕ) → n ≡ v → n ≤ bits_of version → bits_of version < 2 ^ 64 → v < 2 ^ 64
        below n v same fits small = subst (λ (k : ℕ). k < 2 ^ 64) same (trans n (bits_of version) (2 ^ 64) fits small)
          where
            trans : (a b c : ℕ) → a ≤ b → b < c → a < c
            trans a b c p q = omega (arith, p, q)

-- ---- an address with its bits

pub drop_whole : (k : ℕ) (text : List ℕ) → take (length text - k) (drop k text) ≡ drop k text
drop_whole k text = grind (arith, common_steps)

pub prefix_slashed : (version : IpVersion) (text : List ℕ) (slash : ℕ) → Some slash ≡ position (λ c. c == 47) text → prefix_by version (take slash text) (drop (slash + 1) text) ≡ prefix_in version text
prefix_slashed version text slash e =
    subst (λ (o : Option ℕ). prefix_by version (take slash text) (drop (slash + 1) text) ≡ elim o [ None ↦ option_map {U = ℕ × ℕ} (λ a. (a, bits_of version)) (read_as version text) | Some k ↦ prefix_by version (take k text) (drop (k + 1) text) ]) e refl

pub prefix_whole : (version : IpVersion) (text : List ℕ) → None ≡ position (λ c. c == 47) text → option_map {U = ℕ × ℕ} (λ a. (a, bits_of version)) (read_as version text) ≡ prefix_in version text
prefix_whole version text e =
    subst (λ (o : Option ℕ). option_map {U = ℕ × ℕ} (λ a. (a, bits_of version)) (read_as version text) ≡ elim o [ None ↦ option_map {U = ℕ × ℕ} (λ a. (a, bits_of version)) (read_as version text) | Some k ↦ prefix_by version (take k text) (drop (k + 1) text) ]) e refl

-- no more bits count than there are
module _ (version : IpVersion) where
  abbrev Fits : Option (ℕ × ℕ) → Type 0
  Fits None = ⊤
  Fits (Some p) = p.1 ≤ bits_of version

  fits_by : (address bits : List ℕ) → Fits (prefix_by version address bits)
  fits_by address bits = by_address (read_as version address) (bits_in version bits) refl
    where
      by_bits : (a : ℕ) (o : Option ℕ) → bits_in version bits ≡ o → Fits (option_map (λ n. (a, n)) o)
      by_bits a None is = tt
      by_bits a (Some n) is = omega (arith, in_range (says bits) n 0 (bits_of version + 1) is)

      by_address : (o : Option ℕ) (b : Option ℕ) → bits_in version bits ≡ b → Fits (option_and_then (λ a. option_map (λ n. (a, n)) b) o)
      by_address None b is = tt
      by_address (Some a) b is = by_bits a b is

  fits_whole : (o : Option ℕ) → Fits (option_map {U = ℕ × ℕ} (λ a. (a, bits_of version)) o)
  fits_whole None = tt
  fits_whole (Some a) = omega arith

  fits_in : (text : List ℕ) → Fits (prefix_in version text)
  fits_in text = go (position (λ c. c == 47) text)
    where
      go : (o : Option ℕ) → Fits (elim o [ None ↦ option_map {U = ℕ × ℕ} (λ a. (a, bits_of version)) (read_as version text) | Some k ↦ prefix_by version (take k text) (drop (k + 1) text) ])
      go None = fits_whole (read_as version text)
      go (Some k) = fits_by (take k text) (drop (k + 1) text)

  pub bits_fit : (text : List ℕ) (first bits : ℕ) → ◌≡◌ {A = Option (ℕ × ℕ)} (Some (first, bits)) (prefix_in version text) → bits ≤ bits_of version
  bits_fit text first bits e = subst Fits (sym e) (fits_in text)

-- ---- a subnet

-- an address below so many is the first of them where it is 0
pub first_below : (address many : ℕ) → address < many → (address == 0) ≡ (address % many == 0)
first_below address many below = ap (λ (n : ℕ). n == 0) (sym (mod-eq_of_lt below))

module _ (version : IpVersion) (beyond : Bool) (text : List ℕ) (first bits spread : ℕ) (written : ◌≡◌ {A = Option (ℕ × ℕ)} (Some (first, bits)) (prefix_in version text)) (spread_is : spread ≡ size_of version bits - 1) where
  whole_size : spread + 1 ≡ size_of version bits
  whole_size = omega (arith, spread_is, pow_pos (bits_of version - bits))

  pub subnet_there : true ≡ (first % (spread + 1) == 0) → Some (let s : Subnet = record { version = version; beyond = beyond; first = first; spread = spread } in s) ≡ option_and_then (subnet_by version beyond) (prefix_in version text)
  subnet_there is =
      let whole : true ≡ (first % size_of version bits == 0) = rw whole_size at is in
      let by : Some (let s : Subnet = record { version = version; beyond = beyond; first = first; spread = spread } in s) ≡ subnet_by version beyond (first, bits) = rw (← whole, spread_is) refl in
      by ∙ ap (option_and_then (subnet_by version beyond)) written

  pub subnet_none : false ≡ (first % (spread + 1) == 0) → None ≡ option_and_then (subnet_by version beyond) (prefix_in version text)
  subnet_none is =
      let whole : false ≡ (first % size_of version bits == 0) = rw whole_size at is in
      let by : None ≡ subnet_by version beyond (first, bits) = rw (← whole) refl in
      by ∙ ap (option_and_then (subnet_by version beyond)) written
