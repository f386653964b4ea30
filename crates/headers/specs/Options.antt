-- The options of a TCP header (RFC 9293): those of timestamps (RFC 7323) and of selective acknowledgments (RFC 2018) tell
-- a segment from one that is sent again, and no router changes them.
use Rattle.std.specs.Prelude.{ℕ, zero, suc, Bool, false, ◌&&◌, ◌||◌, ◌==◌, if◌then◌else◌, nat_lt, is_none, List, [], ◌∷◌, ◌++◌, length, take, drop, Option, Some, None, option_map, unwrap_or}
use Rattle.headers.specs.declared.key.Reason.TheVariants.{Header}
use Rattle.headers.specs.Bytes.{byte_at}
use Rattle.headers.specs.Checks.{Check, refuse}

-- ---- one option: the first of a list
-- none follows: the list ends here, or an option of kind 0 says so
abbrev pub is_over : List ℕ → Bool
is_over list = length list == 0 || byte_at 0 list == 0

-- its kind is one that tells segments apart: 8 for timestamps, 5 for selective acknowledgments
abbrev pub is_telling : List ℕ → Bool
is_telling list = byte_at 0 list == 8 || byte_at 0 list == 5

-- its bytes: one of kind 1 fills a byte, any other says in its second byte how many it has
abbrev pub option_size : List ℕ → ℕ
option_size list = if byte_at 0 list == 1 then 1 else byte_at 1 list

-- it is cut: it has no second byte, or is shorter than two bytes, or longer than what is left
abbrev pub is_cut_option : List ℕ → Bool
is_cut_option list = if byte_at 0 list == 1 then false else nat_lt (length list) 2 || nat_lt (byte_at 1 list) 2 || nat_lt (length list) (byte_at 1 list)

-- what it gives to a key: itself, or nothing
abbrev pub told_by : List ℕ → List ℕ
told_by list = if is_telling list then take (option_size list) list else []

-- ---- all options
-- what at most so many options give to a key, in their order; None where one is cut
unfoldable pub telling : ℕ → List ℕ → Option (List ℕ)
telling zero list = if is_over list then Some [] else None
telling (suc n) list =
    if is_over list then Some []
    else if is_cut_option list then None
    else option_map (λ (more : List ℕ). told_by list ++ more) (telling n (drop (option_size list) list))

-- why a list of options is no part of a key; a header has room for 40 bytes of options, and so for 40 options
abbrev pub option_checks : Bool → List ℕ → List Check
option_checks wanted list = refuse (wanted && is_none (telling 40 list)) Header ∷ []

-- what the options give to a key, where they are wanted
abbrev pub chosen_options : Bool → List ℕ → List ℕ
chosen_options wanted list = if wanted then unwrap_or (telling 40 list) [] else []
