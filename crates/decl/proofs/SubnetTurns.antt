-- Subnets one by one, as the code reads them and looks at them.
use Rattle.std.proofs.Common.{◌≡◌, ℕ, suc, ◌+◌, ◌<◌, ◌≤◌, min, Bool, true, false, nat_lt, codes, List, [], ◌∷◌, ◌++◌, length, drop, drop_of_length-le, length-append, Option, Some, None, refl, sym, ap, ◌∙◌, subst, arith, append_assoc, append-nil}
use Rattle.std.specs.Prelude.{option_to_list}
use Rattle.std.proofs.lemmas.Grind.{flat_map-append}
use Rattle.std.proofs.lemmas.Option.{none-some}
use Rattle.std.proofs.lemmas.List.{drop-append-le, length-map}
use Rattle.toml.specs.Data.{Items, Members}
use Rattle.toml.specs.View.{items_view}
use Rattle.toml.specs.declared.value.Value.{Value}
use Rattle.decl.specs.Addresses.{texts_of}
use Rattle.decl.specs.Causes.{first}
use Rattle.decl.specs.Subnets.{GivenSubnet, causes_by, given_at, given_by, given_in, has_many_subnets, narrower, subnet_causes, subnet_of, subnets_by, text_causes, twin_cause}
use Rattle.decl.specs.declared.cause.Cause.{Cause}
use Rattle.decl.specs.Values.{items_or_none}
use Rattle.decl.specs.declared.items.IpVersion.{IpVersion}
use Rattle.decl.specs.declared.items.IpVersion.TheVariants.{V4, V6}
use Rattle.decl.specs.declared.items.Subnet.{Subnet}
use Rattle.decl.proofs.Faults.{first_front}

-- ---- what is wrong with one

pub twin_found : (s twin : Subnet) (o : Option Subnet) → Some twin ≡ o → Some (twin_cause twin.beyond s.beyond) ≡ first (causes_by s o)
twin_found s twin o e = subst (λ (v : Option Subnet). Some (twin_cause twin.beyond s.beyond) ≡ first (causes_by s v)) e refl

pub twin_none : (s : Subnet) (o : Option Subnet) → None ≡ o → None ≡ first (causes_by s o)
twin_none s o e = subst (λ (v : Option Subnet). None ≡ first (causes_by s v)) e refl

-- ---- where an address is

-- what was found, and what is found behind it
abbrev pub joined : Option Subnet → Option Subnet → Option Subnet
joined None o = o
joined (Some s) o = Some (narrower s o)

-- ---- one behind the other

pub first_none : {A : Type 0} (xs : List A) → None ≡ first xs → xs ≡ []
first_none [] e = refl
first_none (x ∷ xs) e = absurd (none-some x e)

causes_append : (before : List Subnet) (xs ys : List GivenSubnet) → subnet_causes before (xs ++ ys) ≡ subnet_causes before xs ++ subnet_causes (before ++ subnets_by xs) ys
causes_append before [] ys = ap (λ (b : List Subnet). subnet_causes b ys) (sym (append-nil before))
causes_append before (g ∷ xs) ys =
    ap (λ (cs : List Cause). text_causes before (subnet_of g) ++ cs) (causes_append (before ++ option_to_list (subnet_of g)) xs ys)
    ∙ ap (λ (b : List Subnet). text_causes before (subnet_of g) ++ (subnet_causes (before ++ option_to_list (subnet_of g)) xs ++ subnet_causes b ys)) (append_assoc before (option_to_list (subnet_of g)) (subnets_by xs))
    ∙ sym (append_assoc (text_causes before (subnet_of g)) (subnet_causes (before ++ option_to_list (subnet_of g)) xs) (subnet_causes (before ++ (option_to_list (subnet_of g) ++ subnets_by xs)) ys))

-- something is wrong with one of the first texts
pub cause_early : (before : List Subnet) (xs ys : List GivenSubnet) (cause : Cause) → Some cause ≡ first (subnet_causes before xs) → Some cause ≡ first (subnet_causes before (xs ++ ys))
cause_early before xs ys cause e = sym (ap first (causes_append before xs ys) ∙ first_front (subnet_causes before xs) _ cause (sym e))

-- nothing is, so the first cause is that of the others
pub cause_late : (from : ℕ) (old middle : List Subnet) (xs ys : List GivenSubnet) (cause : Option Cause) → from ≤ length old → None ≡ first (subnet_causes (drop from old) xs) → middle ≡ old ++ subnets_by xs
    → cause ≡ first (subnet_causes (drop from middle) ys) → cause ≡ first (subnet_causes (drop from old) (xs ++ ys))
cause_late from old middle xs ys cause within none added e =
    e ∙ ap (λ (b : List Subnet). first (subnet_causes b ys)) (ap (drop from) added ∙ drop-append-le from old (subnets_by xs) within)
    ∙ sym (ap first (causes_append (drop from old) xs ys) ∙ ap (λ (cs : List Cause). first (cs ++ subnet_causes (drop from old ++ subnets_by xs) ys)) (first_none _ none))

pub added_late : (old middle new : List Subnet) (xs ys : List GivenSubnet) → middle ≡ old ++ subnets_by xs → new ≡ middle ++ subnets_by ys → new ≡ old ++ subnets_by (xs ++ ys)
added_late old middle new xs ys e f =
    f ∙ ap (λ (l : List Subnet). l ++ subnets_by ys) e ∙ append_assoc old (subnets_by xs) (subnets_by ys)
    ∙ ap (λ (l : List Subnet). old ++ l) (sym (flat_map-append (λ (g : GivenSubnet). option_to_list (subnet_of g)) xs ys))

abbrev given : IpVersion → Bool → List ℕ → GivenSubnet
given version beyond text = record { version = version; beyond = beyond; text = text }

-- ---- how many there are

pub texts_many : (items : List Value) → length (texts_of (items_view items)) ≡ length items
texts_many [] = refl
texts_many (v ∷ items) = ap suc (texts_many items)

pub given_many : (version : IpVersion) (beyond : Bool) (items : List Value) → length (given_by version beyond (items_view items)) ≡ length items
given_many version beyond items = length-map (texts_of (items_view items)) (given version beyond) ∙ texts_many items

-- a sum that stops at a number above the limit passes it where the sum does
pub sum_passes : (most limit a b c d : ℕ) → limit < most → nat_lt limit (min (min (min (a + b) most + c) most + d) most) ≡ nat_lt limit ((a + b) + (c + d))
sum_passes most limit a b c d above = grind (arith, above)

pub one_at_most : (o : Option Subnet) → length (option_to_list o) ≤ 1
one_at_most None = omega arith
one_at_most (Some s) = omega arith

-- no more subnets than texts
pub subnets_few : (given : List GivenSubnet) → length (subnets_by given) ≤ length given
subnets_few [] = omega arith
subnets_few (g ∷ given) = omega (arith, length-append (option_to_list (subnet_of g)) (subnets_by given), one_at_most (subnet_of g), subnets_few given)

pub given_total : (ms : Members) (near near6 beyond beyond6 : List Value) → items_view near ≡ items_or_none (codes "addresses") ms → items_view near6 ≡ items_or_none (codes "addresses6") ms → items_view beyond ≡ items_or_none (codes "beyond") ms
    → items_view beyond6 ≡ items_or_none (codes "beyond6") ms → length (given_in ms) ≡ (length near + length near6) + (length beyond + length beyond6)
given_total ms near near6 beyond beyond6 p q r s =
    let a : length (given_at V4 false (codes "addresses") ms) ≡ length near = ap (λ (items : Items). length (given_by V4 false items)) (sym p) ∙ given_many V4 false near in
    let b : length (given_at V6 false (codes "addresses6") ms) ≡ length near6 = ap (λ (items : Items). length (given_by V6 false items)) (sym q) ∙ given_many V6 false near6 in
    let c : length (given_at V4 true (codes "beyond") ms) ≡ length beyond = ap (λ (items : Items). length (given_by V4 true items)) (sym r) ∙ given_many V4 true beyond in
    let d : length (given_at V6 true (codes "beyond6") ms) ≡ length beyond6 = ap (λ (items : Items). length (given_by V6 true items)) (sym s) ∙ given_many V6 true beyond6 in
    length-append (given_at V4 false (codes "addresses") ms ++ given_at V6 false (codes "addresses6") ms) (given_at V4 true (codes "beyond") ms ++ given_at V6 true (codes "beyond6") ms)
    ∙ joined_lengths _ _ _ _ (length-append (given_at V4 false (codes "addresses") ms) (given_at V6 false (codes "addresses6") ms)) (length-append (given_at V4 true (codes "beyond") ms) (given_at V6 true (codes "beyond6") ms))
    ∙ rw (a, b, c, d) refl
  where
    joined_lengths : (x y x' y' : ℕ) → x ≡ x' → y ≡ y' → x + y ≡ x' + y'
    joined_lengths x y x' y' e f = rw (e, f) refl

pub many_given : (most : ℕ) (ms : Members) (near near6 beyond beyond6 : List Value) (x y z : ℕ) → 256 < most → items_view near ≡ items_or_none (codes "addresses") ms → items_view near6 ≡ items_or_none (codes "addresses6") ms
    → items_view beyond ≡ items_or_none (codes "beyond") ms → items_view beyond6 ≡ items_or_none (codes "beyond6") ms
    → x ≡ min (length near + length near6) most → y ≡ min (x + length beyond) most → z ≡ min (y + length beyond6) most → nat_lt 256 z ≡ has_many_subnets ms
many_given most ms near near6 beyond beyond6 x y z above p q r s e f g =
    ap (nat_lt 256) (g ∙ ap (λ (n : ℕ). min (n + length beyond6) most) (f ∙ ap (λ (n : ℕ). min (n + length beyond) most) e))
    ∙ sum_passes most 256 (length near) (length near6) (length beyond) (length beyond6) above
    ∙ sym (ap (nat_lt 256) (given_total ms near near6 beyond beyond6 p q r s))

-- ---- one side, and then the other

module _ (ms : Members) (old : List Subnet) (from : ℕ) (near near6 : Items) (from_is : from ≡ length old) (near_is : near ≡ items_or_none (codes "addresses") ms) (near6_is : near6 ≡ items_or_none (codes "addresses6") ms) where
  none_behind : drop from old ≡ []
  none_behind = ap (λ (k : ℕ). drop k old) from_is ∙ drop_of_length-le old (omega arith)

  here_are : given_by V4 false near ++ given_by V6 false near6 ≡ given_at V4 false (codes "addresses") ms ++ given_at V6 false (codes "addresses6") ms
  here_are = ap (λ (items : Items). given_by V4 false items ++ given_by V6 false near6) near_is ∙ ap (λ (items : Items). given_at V4 false (codes "addresses") ms ++ given_by V6 false items) near6_is

  pub side_early : (cause : Cause) → Some cause ≡ first (subnet_causes (drop from old) (given_by V4 false near ++ given_by V6 false near6)) → Some cause ≡ first (subnet_causes [] (given_in ms))
  side_early cause e =
      cause_early [] (given_at V4 false (codes "addresses") ms ++ given_at V6 false (codes "addresses6") ms) (given_at V4 true (codes "beyond") ms ++ given_at V6 true (codes "beyond6") ms) cause
      (e ∙ ap (λ (before : List Subnet). first (subnet_causes before (given_by V4 false near ++ given_by V6 false near6))) none_behind ∙ ap (λ (g : List GivenSubnet). first (subnet_causes [] g)) here_are)

  pub side_late : (beyond beyond6 : Items) (middle : List Subnet) (cause : Option Cause) → beyond ≡ items_or_none (codes "beyond") ms → beyond6 ≡ items_or_none (codes "beyond6") ms
      → None ≡ first (subnet_causes (drop from old) (given_by V4 false near ++ given_by V6 false near6)) → middle ≡ old ++ subnets_by (given_by V4 false near ++ given_by V6 false near6)
      → cause ≡ first (subnet_causes (drop from middle) (given_by V4 true beyond ++ given_by V6 true beyond6)) → cause ≡ first (subnet_causes [] (given_in ms))
  side_late beyond beyond6 middle cause p q none added e =
      cause_late from old middle (given_by V4 false near ++ given_by V6 false near6) (given_by V4 true beyond ++ given_by V6 true beyond6) cause (omega (arith, from_is)) none added e
      ∙ ap (λ (before : List Subnet). first (subnet_causes before ((given_by V4 false near ++ given_by V6 false near6) ++ (given_by V4 true beyond ++ given_by V6 true beyond6)))) none_behind
      ∙ ap (λ (g : List GivenSubnet). first (subnet_causes [] (g ++ (given_by V4 true beyond ++ given_by V6 true beyond6)))) here_are
      ∙ ap (λ (items : Items). first (subnet_causes [] ((given_at V4 false (codes "addresses") ms ++ given_at V6 false (codes "addresses6") ms) ++ (given_by V4 true items ++ given_by V6 true beyond6)))) p
      ∙ ap (λ (items : Items). first (subnet_causes [] ((given_at V4 false (codes "addresses") ms ++ given_at V6 false (codes "addresses6") ms) ++ (given_at V4 true (codes "beyond") ms ++ given_by V6 true items)))) q
