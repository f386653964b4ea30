-- The options of a block: each is a code and a length of two bytes, and a value that is filled up to a multiple of four.
use Rattle.std.specs.Prelude.{ℕ, zero, suc, ◌+◌, ◌-◌, ◌^◌, Bool, not, ◌&&◌, ◌||◌, ◌==◌, if◌then◌else◌, nat_lt, List, [], ◌∷◌, length, take, drop, slice_index, Option, Some, None, option_map}
use Rattle.std.specs.Option.{option_or}
use Rattle.pcapng_stream.specs.declared.order.Order.{Order}
use Rattle.pcapng_stream.specs.declared.statistics.Told.{Told}
use Rattle.pcapng_stream.specs.Numbers.{half_at, double_at, padded}

-- ---- the list of options
-- an option: its code, and the bytes of its value
pub record Opt : Type 0 where
  pub code : ℕ
  pub value : List ℕ

-- the code of the first option
abbrev pub option_code : Order → List ℕ → ℕ
option_code order bytes = half_at order 0 bytes

-- how many bytes the value of the first option has
abbrev pub option_length : Order → List ℕ → ℕ
option_length order bytes = half_at order 2 bytes

-- the first option
abbrev pub first_option : Order → List ℕ → Opt
first_option order bytes = record { code = option_code order bytes; value = take (option_length order bytes) (drop 4 bytes) }

-- the bytes behind the first option
abbrev pub more_options : Order → List ℕ → List ℕ
more_options order bytes = drop (4 + padded (option_length order bytes)) bytes

-- the options end here: no byte is left, or the code is 0
abbrev pub has_ended : Order → List ℕ → Bool
has_ended order bytes = length bytes == 0 || not (nat_lt (length bytes) 4) && option_code order bytes == 0

-- the first option is cut: fewer than four bytes are left for it, or its value passes their end
abbrev pub is_cut : Order → List ℕ → Bool
is_cut order bytes = nat_lt (length bytes) 4 || nat_lt (length bytes) (4 + option_length order bytes)

-- the options in these bytes, if none of them is cut; there are at most so many
abbrev pub options_among : ℕ → Order → List ℕ → Option (List Opt)
options_among zero order bytes = Some []
options_among (suc n) order bytes =
    if has_ended order bytes then Some []
    else if is_cut order bytes then None
    else option_map (λ more. first_option order bytes ∷ more) (options_among n order (more_options order bytes))

-- the options in these bytes, if none of them is cut; there are no more of them than bytes
abbrev pub options_in : Order → List ℕ → Option (List Opt)
options_in order bytes = options_among (length bytes) order bytes

-- ---- options of an interface
-- the byte of a resolution of stamps (if_tsresol), if it has one
abbrev pub resolution_of : Opt → Option ℕ
resolution_of o = if o.code == 9 && nat_lt 0 (length o.value) then Some (slice_index o.value 0) else None

-- the seconds of an offset of stamps (if_tsoffset), as a number without a sign
abbrev pub offset_of : Order → Opt → Option ℕ
offset_of order o = if o.code == 14 then Some (double_at order 0 o.value) else None

-- an offset of stamps that has not eight bytes
abbrev pub is_wrong_offset : Opt → Bool
is_wrong_offset o = o.code == 14 && not (length o.value == 8)

-- the byte of the first resolution that has one
abbrev pub resolution_in : List Opt → Option ℕ
resolution_in [] = None
resolution_in (o ∷ more) = option_or (resolution_of o) (resolution_in more)

-- the seconds of the first offset
abbrev pub offset_in : Order → List Opt → Option ℕ
offset_in order [] = None
offset_in order (o ∷ more) = option_or (offset_of order o) (offset_in order more)

-- ---- options of statistics
-- a count, if it is known: one whose bits are all ones is not
abbrev pub known : ℕ → Option ℕ
known n = if n == 2 ^ 64 - 1 then None else Some n

-- the count in the value of an option, if it has eight bytes
abbrev pub count_of : Order → List ℕ → Option ℕ
count_of order value = if length value == 8 then known (double_at order 0 value) else None

-- the count of an option of this code
abbrev pub count_by_code : Order → ℕ → Opt → Option ℕ
count_by_code order code o = if o.code == code then count_of order o.value else None

-- the count of the first option of this code that has one
abbrev pub count_in : Order → ℕ → List Opt → Option ℕ
count_in order code [] = None
count_in order code (o ∷ more) = option_or (count_by_code order code o) (count_in order code more)

-- how many packets these options say were dropped, by the interface (isb_ifdrop) and by the system (isb_osdrop)
abbrev pub told_by : Order → List Opt → Told
told_by order options = record { interface = count_in order 5 options; system = count_in order 7 options }
