-- Numbers, fillers and options of blocks that are written.
use Rattle.std.proofs.Common.{◌≡◌, ◌<◌, ◌≤◌, ◌+◌, ◌-◌, ◌%◌, ◌^◌, ℕ, suc, Bool, false, if◌then◌else◌, List, [], ◌∷◌, ◌++◌, length, take, drop, Option, Some, None, refl, ap, ◌∙◌, arith, append_assoc, length-append}
use Rattle.std.specs.Prelude.{option_map}
use Rattle.std.proofs.lemmas.Bool.{le-ltb, ne_eqb, or_from, and_right}
use Rattle.std.proofs.lemmas.List.{drop_at, length-replicate, take_at}
use Rattle.byteorder.specs.Endian.{little_number}
use Rattle.byteorder.specs.Numbers.{little_number-reads_back}
use Rattle.pcapng_stream.specs.declared.order.Order.TheVariants.{Little}
use Rattle.pcapng_stream.specs.Numbers.{padded}
use Rattle.pcapng_stream.specs.Options.{Opt, first_option, has_ended, is_cut, more_options, option_code, option_length, options_among}
use Rattle.pcapng_blocks.specs.Bytes.{comment_options, end_of_options, filled, filler, four_bytes, option_bytes, two_bytes}

-- ---- numbers
pub read_four : (n : ℕ) (rest : List ℕ) → n < 2 ^ 32 → little_number 4 (four_bytes n ++ rest) ≡ n
read_four n rest small = little_number-reads_back 4 n rest (omega (arith, small))

pub read_two : (n : ℕ) (rest : List ℕ) → n < 65536 → little_number 2 (two_bytes n ++ rest) ≡ n
read_two n rest small = little_number-reads_back 2 n rest (omega (arith, small))

-- ---- fillers
pub padded_least : (n : ℕ) → n ≤ padded n
padded_least n = omega arith

pub padded_most : (n : ℕ) → padded n ≤ n + 3
padded_most n = omega arith

pub padded_whole : (n : ℕ) → padded n % 4 ≡ 0
padded_whole n = omega arith

pub filled_length : (bytes : List ℕ) → length (filled bytes) ≡ padded (length bytes)
filled_length bytes =
    let zeros : length (filler (length bytes)) ≡ padded (length bytes) - length bytes = length-replicate (padded (length bytes) - length bytes) 0 in
    omega (arith, length-append bytes (filler (length bytes)), zeros, padded_least (length bytes))

-- ---- options
pub option_size : (code : ℕ) (value : List ℕ) → length (option_bytes code value) ≡ 4 + padded (length value)
option_size code value =
    let four : length (two_bytes code ++ two_bytes (length value)) ≡ 4 = refl in
    omega (arith, four, length-append (two_bytes code ++ two_bytes (length value)) (filled value), filled_length value)

abbrev chosen_by : Bool → Bool → Opt → Option (List Opt) → Option (List Opt)
chosen_by ended cut o more = if ended then Some [] else if cut then None else option_map (λ (m : List Opt). o ∷ m) more

chosen : (ended cut : Bool) (o : Opt) (found : Option (List Opt)) (more : List Opt) → ended ≡ false → cut ≡ false → found ≡ Some more → chosen_by ended cut o found ≡ Some (o ∷ more)
chosen ended cut o found more e f g = rw (e, f, g) refl

opt_same : (c code : ℕ) (v value : List ℕ) → c ≡ code → v ≡ value → ◌≡◌ {A = Opt} (record { code = c; value = v }) (record { code = code; value = value })
opt_same c code v value e f = cc

module _ (code : ℕ) (value rest : List ℕ) (some : 0 < code) (small : code < 65536) (short : length value < 65536) where
  abbrev bytes : List ℕ
  bytes = option_bytes code value ++ rest

  long : length bytes ≡ 4 + padded (length value) + length rest
  long = omega (arith, length-append (option_bytes code value) rest, option_size code value)

  code_said : option_code Little bytes ≡ code
  code_said = read_two code (two_bytes (length value) ++ (filled value ++ rest)) small

  length_said : option_length Little bytes ≡ length value
  length_said = read_two (length value) (filled value ++ rest) short

  not_ended : has_ended Little bytes ≡ false
  not_ended =
      or_from _ _ (ne_eqb (length bytes) 0 (λ e. omega (arith, e, long)))
      (and_right _ _ (ne_eqb (option_code Little bytes) 0 (λ e. omega (arith, e, code_said, some))))

  not_cut : is_cut Little bytes ≡ false
  not_cut =
      or_from _ _ (le-ltb (length bytes) 4 (omega (arith, long)))
      (le-ltb (length bytes) (4 + option_length Little bytes) (omega (arith, long, length_said, padded_least (length value))))

  value_said : take (option_length Little bytes) (drop 4 bytes) ≡ value
  value_said =
      ap (λ (n : ℕ). take n (filled value ++ rest)) length_said
      ∙ ap (take (length value)) (append_assoc value (filler (length value)) rest)
      ∙ take_at value (filler (length value) ++ rest) (length value) refl

  rest_said : more_options Little bytes ≡ rest
  rest_said =
      ap (λ (n : ℕ). drop (4 + padded n) bytes) length_said
      ∙ drop_at (option_bytes code value) rest (4 + padded (length value)) (option_size code value)

  pub one_option : (n : ℕ) (more : List Opt) → options_among n Little rest ≡ Some more → options_among (suc n) Little (option_bytes code value ++ rest) ≡ Some (record { code = code; value = value } ∷ more)
  one_option n more found =
      chosen (has_ended Little bytes) (is_cut Little bytes) (first_option Little bytes) (options_among n Little (more_options Little bytes)) more
      not_ended not_cut (ap (options_among n Little) rest_said ∙ found)
      ∙ ap (λ (o : Opt). Some (o ∷ more)) (opt_same _ code _ value code_said value_said)

pub no_option : (n : ℕ) → options_among (suc n) Little end_of_options ≡ Some []
no_option n = refl

pub comment_size : (c : ℕ) (more : List ℕ) → length (comment_options (c ∷ more)) ≡ 8 + padded (length (c ∷ more))
comment_size c more = omega (arith, length-append (option_bytes 1 (c ∷ more)) end_of_options, option_size 1 (c ∷ more))

pub comment_whole : (comment : List ℕ) → length (comment_options comment) % 4 ≡ 0
comment_whole [] = refl
comment_whole (c ∷ more) = omega (arith, comment_size c more, padded_whole (length (c ∷ more)))

pub comment_short : (comment : List ℕ) → length comment < 65536 → length (comment_options comment) ≤ 65544
comment_short [] short = omega arith
comment_short (c ∷ more) short = omega (arith, short, comment_size c more)
