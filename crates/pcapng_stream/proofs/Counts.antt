-- A walk over the options of statistics, what is told of interfaces, and the sums of it.
use Rattle.std.proofs.Common.{◌≡◌, ◌≤◌, ◌<◌, ◌+◌, ℕ, zero, suc, true, false, List, [], ◌∷◌, length, take, get_or, Option, Some, None, option_map, slice_set, refl, sym, ap, ◌∙◌, arith}
use Rattle.std.specs.Prelude.{slice_index_or, sum_by, unwrap_or}
use Rattle.std.proofs.lemmas.List.{length-drop}
use Rattle.std.proofs.lemmas.List.Sums.{sum_by_more}
use Rattle.packets.specs.declared.dropped.Dropped.{Dropped}
use Rattle.packets.specs.Dropped.{dropped_with, saturated}
use Rattle.pcapng_stream.specs.declared.order.Order.{Order}
use Rattle.pcapng_stream.specs.declared.section.Interface.{Interface}
use Rattle.pcapng_stream.specs.declared.statistics.Told.{Told}
use Rattle.pcapng_stream.specs.Numbers.{padded}
use Rattle.pcapng_stream.specs.Options.{Opt, first_option, has_ended, is_cut, more_options, option_length, options_among, told_by}
use Rattle.pcapng_stream.specs.Blocks.{dropped_in, interface_told, interfaces_told}
use Rattle.pcapng_stream.specs.Inside.{told_first, told_in, told_one}
use Rattle.pcapng_stream.proofs.Walking.{first_of, has_byte, has_head, or_joined, or_none}

-- ---- what is told
abbrev told : Option ℕ → Option ℕ → Told
told interface system = record { interface = interface; system = system }

same_told : (a b c d : Option ℕ) → a ≡ b → c ≡ d → told a c ≡ told b d
same_told a b c d e f = cc

abbrev pub untold : Told
untold = record { interface = None; system = None }

first_only : (a : Told) → told_first a untold ≡ a
first_only a = same_told _ _ _ _ (or_none a.interface) (or_none a.system)

first_joined : (a b c : Told) → told_first a (told_first b c) ≡ told_first (told_first a b) c
first_joined a b c = same_told _ _ _ _ (or_joined a.interface b.interface c.interface) (or_joined a.system b.system c.system)

-- what is told behind this, if something is
abbrev pub behind_told : Told → Option Told → Option Told
behind_told first more = option_map (λ (t : Told). told_first first t) more

behind_untold : (x : Option Told) → behind_told untold x ≡ x
behind_untold None = refl
behind_untold (Some t) = refl

-- one option more
one_more : (order : Order) (first : Told) (o : Opt) (x : Option (List Opt)) →
    behind_told first (option_map (told_by order) (option_map (λ (l : List Opt). o ∷ l) x)) ≡ behind_told (told_first first (told_one order o)) (option_map (told_by order) x)
one_more order first o None = refl
one_more order first o (Some l) = ap (λ (t : Told). Some t) (first_joined first (told_one order o) (told_by order l))

-- ---- the walk
-- so many options are no fewer than these, and what they tell behind this is that
abbrev pub Tells : Order → Told → List ℕ → Option Told → Type 0
Tells order first bytes all = (n : ℕ) × (length bytes ≤ n) × (behind_told first (option_map (told_by order) (options_among n order bytes)) ≡ all)

-- where the options end, all is told
pub all_told : (order : Order) (first : Told) (bytes : List ℕ) (all : Option Told) → has_ended order bytes ≡ true → Tells order first bytes all → Some first ≡ all
all_told order first bytes all over (n, enough, same) = ap (λ (t : Told). Some t) (sym (first_only first)) ∙ ends n order first bytes over ∙ same
  where
    ends : (n : ℕ) (order : Order) (first : Told) (bytes : List ℕ) → has_ended order bytes ≡ true → Some (told_first first untold) ≡ behind_told first (option_map (told_by order) (options_among n order bytes))
    ends zero order first bytes over = refl
    ends (suc n) order first bytes over = rw over refl

-- where one is cut, nothing is told
pub cut_untold : (order : Order) (first : Told) (bytes : List ℕ) (all : Option Told) → has_ended order bytes ≡ false → is_cut order bytes ≡ true → Tells order first bytes all → None ≡ all
cut_untold order first bytes all goes cut (zero, short, same) = absurd (omega (arith, short, has_byte order bytes goes))
cut_untold order first bytes all goes cut (suc n, enough, same) = none n order first bytes goes cut ∙ same
  where
    none : (n : ℕ) (order : Order) (first : Told) (bytes : List ℕ) → has_ended order bytes ≡ false → is_cut order bytes ≡ true →
        None ≡ behind_told first (option_map (told_by order) (options_among (suc n) order bytes))
    none n order first bytes goes cut = rw (goes, cut) refl

-- an option is left behind
pub told_behind : (order : Order) (first : Told) (bytes : List ℕ) (all : Option Told) → has_ended order bytes ≡ false → is_cut order bytes ≡ false → Tells order first bytes all →
    Tells order (told_first first (told_one order (first_option order bytes))) (more_options order bytes) all
told_behind order first bytes all goes whole (zero, short, same) = absurd (omega (arith, short, has_byte order bytes goes))
told_behind order first bytes all goes whole (suc n, enough, same) =
    let o = first_option order bytes in
    let fewer : length (more_options order bytes) ≤ n = omega (arith, enough, has_head order bytes whole, length-drop (4 + padded (option_length order bytes)) bytes) in (
      n,
      fewer,
      sym (one_more order first o (options_among n order (more_options order bytes)))
          ∙ ap (λ (x : Option (List Opt)). behind_told first (option_map (told_by order) x)) (sym (first_of n order bytes goes whole)) ∙ same,
    )

pub tells : (order : Order) (bytes : List ℕ) → Tells order untold bytes (told_in order bytes)
tells order bytes = (length bytes, omega arith, behind_untold (told_in order bytes))

-- what is told where an option may be cut
pub told_or : (order : Order) (x : Option (List Opt)) → unwrap_or (option_map (told_by order) x) untold ≡ told_by order (unwrap_or x [])
told_or order None = refl
told_or order (Some l) = refl

-- ---- interfaces
pub told_at : (n : ℕ) (t : Told) (xs : List Interface) (other : Interface) → n < length xs → slice_set xs n (interface_told t (slice_index_or xs n other)) ≡ interfaces_told n t xs
told_at n t [] other inside = absurd (omega (arith, inside))
told_at zero t (i ∷ more) other inside = refl
told_at (suc n) t (i ∷ more) other inside = let within : n < length more = omega (arith, inside) in ap (λ (l : List Interface). i ∷ l) (told_at n t more other within)

pub told_beyond : (n : ℕ) (t : Told) (xs : List Interface) → length xs ≤ n → interfaces_told n t xs ≡ xs
told_beyond n t [] outside = refl
told_beyond zero t (i ∷ more) outside = absurd (omega (arith, outside))
told_beyond (suc n) t (i ∷ more) outside = let beyond : length more ≤ n = omega (arith, outside) in ap (λ (l : List Interface). i ∷ l) (told_beyond n t more beyond)

-- the interface of this number was told of, and no other
pub told_there : (xs : List Interface) (n m : ℕ) (t u : Told) (i j : Interface) → n < length xs → i ≡ slice_index_or xs n i → j ≡ interface_told t i → n ≡ m → t ≡ u → slice_set xs n j ≡ interfaces_told m u xs
told_there xs n m t u i j inside at is number same =
    ap (λ (k : Interface). slice_set xs n k) (is ∙ ap (λ (k : Interface). interface_told t k) at) ∙ told_at n t xs i inside
    ∙ ap (λ (k : ℕ). interfaces_told k t xs) number ∙ ap (λ (v : Told). interfaces_told m v xs) same

-- ---- sums of what was dropped
-- those over the first interfaces
abbrev pub first_dropped : ℕ → List Interface → Dropped
first_dropped n interfaces = record {
  interface = saturated (sum_by (λ (i : Interface). i.dropped.interface) (take n interfaces));
  system = saturated (sum_by (λ (i : Interface). i.dropped.system) (take n interfaces));
}

saturated_more : (a b : ℕ) → saturated (saturated a + b) ≡ saturated (a + b)
saturated_more a b = grind arith

saturated_last : (a b : ℕ) → saturated (saturated a + b) ≡ saturated (b + a)
saturated_last a b = grind arith

same_dropped : (a b c d : ℕ) → a ≡ b → c ≡ d → ◌≡◌ {A = Dropped} (record { interface = a; system = c }) (record { interface = b; system = d })
same_dropped a b c d e f = cc

module _ (interfaces : List Interface) (i : ℕ) (other : Interface) (inside : i < length interfaces) where
  count_more : (f : Interface → ℕ) → saturated (saturated (sum_by f (take i interfaces)) + f (get_or interfaces i other)) ≡ saturated (sum_by f (take (i + 1) interfaces))
  count_more f = saturated_more (sum_by f (take i interfaces)) (f (get_or interfaces i other)) ∙ ap saturated (sym (sum_by_more f interfaces i other inside))

  one_dropped : dropped_with (first_dropped i interfaces) (get_or interfaces i other).dropped ≡ first_dropped (i + 1) interfaces
  one_dropped = same_dropped _ _ _ _ (count_more (λ (y : Interface). y.dropped.interface)) (count_more (λ (y : Interface). y.dropped.system))

-- those with one interface more
pub more_dropped : (d e : Dropped) (xs ys : List Interface) (i : ℕ) (other : Interface) → e ≡ dropped_with d (get_or xs i other).dropped → d ≡ first_dropped i ys → xs ≡ ys → i < length xs → e ≡ first_dropped (i + 1) ys
more_dropped d e xs ys i other more so same inside =
    more ∙ ap (λ (k : Dropped). dropped_with k (get_or xs i other).dropped) (so ∙ ap (λ (l : List Interface). first_dropped i l) (sym same))
    ∙ one_dropped xs i other inside ∙ ap (λ (l : List Interface). first_dropped (i + 1) l) same

-- those over all interfaces, and of the sections before
pub all_dropped : (order : Option Order) (earlier : Dropped) (interfaces : List Interface) (n : ℕ) → take n interfaces ≡ interfaces →
    dropped_with (first_dropped n interfaces) earlier ≡ dropped_in (record { order = order; interfaces = interfaces; earlier = earlier })
all_dropped order earlier interfaces n all = same_dropped _ _ _ _ (last earlier.interface (λ (i : Interface). i.dropped.interface)) (last earlier.system (λ (i : Interface). i.dropped.system))
  where
    last : (k : ℕ) (f : Interface → ℕ) → saturated (saturated (sum_by f (take n interfaces)) + k) ≡ saturated (k + sum_by f interfaces)
    last k f = saturated_last (sum_by f (take n interfaces)) k ∙ ap (λ (l : List Interface). saturated (k + sum_by f l)) all
