-- A walk over options.
use Rattle.std.proofs.Common.{◌≡◌, ◌≤◌, ◌+◌, ℕ, zero, suc, true, false, List, ◌∷◌, length, Option, Some, None, option_map, refl, sym, ap, inl, inr, ◌∙◌, arith}
use Rattle.std.specs.Option.{option_or}
use Rattle.std.specs.List.{list_any}
use Rattle.std.proofs.lemmas.Bool.{cases_Bool, eqb-false, ltb-false, or_parts}
use Rattle.std.proofs.lemmas.List.{length-drop}
use Rattle.pcapng_stream.specs.declared.order.Order.{Order}
use Rattle.pcapng_stream.specs.declared.options.Stamping.{Stamping}
use Rattle.pcapng_stream.specs.Numbers.{padded}
use Rattle.pcapng_stream.specs.Options.{Opt, first_option, has_ended, is_cut, is_wrong_offset, more_options, option_length, options_among}
use Rattle.pcapng_stream.specs.Inside.{said_of, said_by, said_first, said_with, stamping_by, stamping_in}

-- ---- what is said
pub or_none : (a : Option ℕ) → option_or a None ≡ a
or_none None = refl
or_none (Some x) = refl

pub or_joined : (a b c : Option ℕ) → option_or a (option_or b c) ≡ option_or (option_or a b) c
or_joined None b c = refl
or_joined (Some x) b c = refl

abbrev stamping : Option ℕ → Option ℕ → Stamping
stamping resolution offset = record { resolution = resolution; offset = offset }

same_stamping : (a b c d : Option ℕ) → a ≡ b → c ≡ d → stamping a c ≡ stamping b d
same_stamping a b c d e f = cc

abbrev pub nothing : Stamping
nothing = record { resolution = None; offset = None }

first_only : (a : Stamping) → said_first a nothing ≡ a
first_only a = same_stamping _ _ _ _ (or_none a.resolution) (or_none a.offset)

first_joined : (a b c : Stamping) → said_first a (said_first b c) ≡ said_first (said_first a b) c
first_joined a b c = same_stamping _ _ _ _ (or_joined a.resolution b.resolution c.resolution) (or_joined a.offset b.offset c.offset)

-- what is said behind this, if something is
abbrev pub behind_this : Stamping → Option Stamping → Option Stamping
behind_this said more = option_map (λ (s : Stamping). said_first said s) more

pub behind_nothing : (x : Option Stamping) → behind_this nothing x ≡ x
behind_nothing None = refl
behind_nothing (Some s) = refl

-- one option more
one_more : (order : Order) (said : Stamping) (o : Opt) (x : Option (List Opt)) → is_wrong_offset o ≡ false →
    behind_this said (stamping_by order (option_map (λ (l : List Opt). o ∷ l) x)) ≡ behind_this (said_first said (said_of order o)) (stamping_by order x)
one_more order said o None e = refl
one_more order said o (Some l) e =
    elim (cases_Bool (list_any is_wrong_offset l)) [
      | inl some ↦ rw (e, some) refl
      | inr none ↦ rw (e, none) (ap (λ (s : Stamping). Some s) (first_joined said (said_of order o) (said_by order l)))
    ]

-- a wrong one
one_wrong : (order : Order) (said : Stamping) (o : Opt) (x : Option (List Opt)) → is_wrong_offset o ≡ true → behind_this said (stamping_by order (option_map (λ (l : List Opt). o ∷ l) x)) ≡ None
one_wrong order said o None e = refl
one_wrong order said o (Some l) e = rw e refl

pub with_more : (order : Order) (said more : Stamping) (o : Opt) → said_with order said o ≡ Some more → (is_wrong_offset o ≡ false) × (more ≡ said_first said (said_of order o))
with_more order said more o e =
    elim (cases_Bool (is_wrong_offset o)) [
      | inl wrong ↦ absurd (none_some (sym (ended_so wrong) ∙ e))
      | inr sound ↦ (sound, some_one (sym e ∙ going_so sound))
    ]
  where
    none_some : ◌≡◌ {A = Option Stamping} None (Some more) → ⊥
    none_some f = absurd (cc (f))

    some_one : {a b : Stamping} → ◌≡◌ {A = Option Stamping} (Some a) (Some b) → a ≡ b
    some_one f = cc

    ended_so : is_wrong_offset o ≡ true → said_with order said o ≡ None
    ended_so w = rw w refl

    going_so : is_wrong_offset o ≡ false → said_with order said o ≡ Some (said_first said (said_of order o))
    going_so w = rw w refl

pub with_none : (order : Order) (said : Stamping) (o : Opt) → said_with order said o ≡ None → is_wrong_offset o ≡ true
with_none order said o e =
    elim (cases_Bool (is_wrong_offset o)) [
      | inl wrong ↦ wrong
      | inr sound ↦ absurd (none_some (sym e ∙ going_so sound))
    ]
  where
    none_some : {s : Stamping} → ◌≡◌ {A = Option Stamping} None (Some s) → ⊥
    none_some f = absurd (cc (f))

    going_so : is_wrong_offset o ≡ false → said_with order said o ≡ Some (said_first said (said_of order o))
    going_so w = rw w refl

-- ---- the walk
-- so many options are no fewer than these, and what they say behind this is that
abbrev pub Says : Order → Stamping → List ℕ → Option Stamping → Type 0
Says order said bytes all = (n : ℕ) × (length bytes ≤ n) × (behind_this said (stamping_by order (options_among n order bytes)) ≡ all)

pub has_byte : (order : Order) (bytes : List ℕ) → has_ended order bytes ≡ false → 1 ≤ length bytes
has_byte order bytes e = positive (length bytes) (eqb-false (length bytes) 0 (or_parts _ _ e).0)
  where
    positive : (n : ℕ) → (n ≡ 0 → ⊥) → 1 ≤ n
    positive zero none = absurd (none refl)
    positive (suc n) none = omega arith

pub has_head : (order : Order) (bytes : List ℕ) → is_cut order bytes ≡ false → 4 ≤ length bytes
has_head order bytes e = ltb-false (length bytes) 4 ((or_parts _ _ e).0)

-- where the options end, all is said
pub all_said : (order : Order) (said : Stamping) (bytes : List ℕ) (all : Option Stamping) → has_ended order bytes ≡ true → Says order said bytes all → Some said ≡ all
all_said order said bytes all over (n, enough, same) = ap (λ (s : Stamping). Some s) (sym (first_only said)) ∙ ends n order said bytes over ∙ same
  where
    ends : (n : ℕ) (order : Order) (said : Stamping) (bytes : List ℕ) → has_ended order bytes ≡ true → Some (said_first said nothing) ≡ behind_this said (stamping_by order (options_among n order bytes))
    ends zero order said bytes over = refl
    ends (suc n) order said bytes over = rw over refl

-- where one is cut, or is wrong, nothing is said
pub cut_none : (order : Order) (said : Stamping) (bytes : List ℕ) (all : Option Stamping) → has_ended order bytes ≡ false → is_cut order bytes ≡ true → Says order said bytes all → None ≡ all
cut_none order said bytes all goes cut (zero, short, same) = absurd (omega (arith, short, has_byte order bytes goes))
cut_none order said bytes all goes cut (suc n, enough, same) = none n order said bytes goes cut ∙ same
  where
    none : (n : ℕ) (order : Order) (said : Stamping) (bytes : List ℕ) → has_ended order bytes ≡ false → is_cut order bytes ≡ true →
        None ≡ behind_this said (stamping_by order (options_among (suc n) order bytes))
    none n order said bytes goes cut = rw (goes, cut) refl

pub first_of : (n : ℕ) (order : Order) (bytes : List ℕ) → has_ended order bytes ≡ false → is_cut order bytes ≡ false →
    options_among (suc n) order bytes ≡ option_map (λ (l : List Opt). first_option order bytes ∷ l) (options_among n order (more_options order bytes))
first_of n order bytes goes whole = rw (goes, whole) refl

pub wrong_none : (order : Order) (said : Stamping) (bytes : List ℕ) (all : Option Stamping) → has_ended order bytes ≡ false → is_cut order bytes ≡ false → said_with order said (first_option order bytes) ≡ None →
    Says order said bytes all → None ≡ all
wrong_none order said bytes all goes whole wrong (zero, short, same) = absurd (omega (arith, short, has_byte order bytes goes))
wrong_none order said bytes all goes whole wrong (suc n, enough, same) =
    sym (one_wrong order said (first_option order bytes) (options_among n order (more_options order bytes)) (with_none order said (first_option order bytes) wrong))
    ∙ ap (λ (x : Option (List Opt)). behind_this said (stamping_by order x)) (sym (first_of n order bytes goes whole)) ∙ same

-- an option is left behind
pub left_behind : (order : Order) (said more : Stamping) (bytes : List ℕ) (all : Option Stamping) → has_ended order bytes ≡ false → is_cut order bytes ≡ false → said_with order said (first_option order bytes) ≡ Some more →
    Says order said bytes all → Says order more (more_options order bytes) all
left_behind order said more bytes all goes whole kept (zero, short, same) = absurd (omega (arith, short, has_byte order bytes goes))
left_behind order said more bytes all goes whole kept (suc n, enough, same) =
    let o = first_option order bytes in
    let fewer : length (more_options order bytes) ≤ n = omega (arith, enough, has_head order bytes whole, length-drop (4 + padded (option_length order bytes)) bytes) in
    let is = with_more order said more o kept in (
      n,
      fewer,
      ap (λ (s : Stamping). behind_this s (stamping_by order (options_among n order (more_options order bytes)))) is.1
          ∙ sym (one_more order said o (options_among n order (more_options order bytes)) is.0)
          ∙ ap (λ (x : Option (List Opt)). behind_this said (stamping_by order x)) (sym (first_of n order bytes goes whole)) ∙ same,
    )

pub begins : (order : Order) (bytes : List ℕ) → Says order nothing bytes (stamping_in order bytes)
begins order bytes = (length bytes, omega arith, behind_nothing (stamping_in order bytes))
