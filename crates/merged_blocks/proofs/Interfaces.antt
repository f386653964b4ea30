-- Interfaces of taps can be described.
use Rattle.std.proofs.Common.{◌≡◌, ◌<◌, ◌≤◌, ◌+◌, ◌^◌, ◌∷◌, [], ℕ, zero, suc, List, length, slice_get, Option, Some, None, option_map, unwrap_or, IfSome, codes, All, refl, sym, ap, ◌∙◌, arith, length-append}
use Rattle.std.specs.Prelude.{slice_index_or}
use Rattle.std.proofs.lemmas.List.Elements.{All-head, All-tail}
use Rattle.std.proofs.lemmas.Option.{get_or_from_slice_get, slice_get_within}
use Rattle.atto.specs.Decimal.{decimal_of}
use Rattle.atto.proofs.DecimalLemmas.{length-decimal_of-le}
use Rattle.line_format.specs.Words.{words}
use Rattle.line_format.proofs.Lengths.{line_size, sized}
use Rattle.problem_model.specs.Name.{IsClockName}
use Rattle.problem_model.specs.Problem.{ClockFits}
use Rattle.problem_model.specs.declared.items.Clock.{Clock}
use Rattle.decl.specs.declared.items.Label.{Label}
use Rattle.decl.specs.Declaration.{Declaration, IsClockOf, IsDeclaration, LabelFits}
use Rattle.pcapng_blocks.specs.Bytes.{interface_bytes}
use Rattle.pcapng_blocks.specs.File.{IsInterface}
use Rattle.merged_blocks.specs.declared.taps.Tap.{Tap}
use Rattle.merged_blocks.specs.Descriptions.{clock_as, clock_words, description_by, interface_by, tap_interface}

-- ---- lengths
pub number_short : (n : ℕ) → n < 2 ^ 62 → length (decimal_of n) ≤ 19
number_short n small = length-decimal_of-le 19 n (omega arith) (let below : 2 ^ 62 ≤ 10 ^ 19 = omega arith in omega (arith, small, below))

sum_short : (whole host clock short long early late : ℕ) → whole + 1 ≡ host + 1 + (5 + 1 + (clock + 1 + (5 + 1 + (short + 1 + (3 + 1 + (4 + 1 + (long + 1 + (3 + 1 + (5 + 1 + (early + 1 + (2 + 1 + (4 + 1 + (late + 1 + (2 + 1 + 0)))))))))))))) →
    host ≤ 32 → clock ≤ 32 → short ≤ 19 → long ≤ 19 → early ≤ 19 → late ≤ 19 → whole < 65536
sum_short whole host clock short long early late is a b p q r s = omega (arith, is, a, b, p, q, r, s)

pub words_short : (host : List ℕ) (c : Clock) → length host ≤ 32 → IsClockName c.name → ClockFits c → length (clock_words host c) < 65536
words_short host c few named fits =
    let more : List (List ℕ) = codes "clock" ∷ c.name ∷ codes "short" ∷ decimal_of c.rate.short ∷ codes "ppb" ∷ codes "long" ∷ decimal_of c.rate.long
    ∷ codes "ppb" ∷ codes "early" ∷ decimal_of c.early ∷ codes "ns" ∷ codes "late" ∷ decimal_of c.late ∷ codes "ns" ∷ [] in
    let all : length (words (host ∷ more)) + 1 ≡ sized (host ∷ more) = sym (length-append (words (host ∷ more)) (10 ∷ [])) ∙ line_size host more in
    let short : c.rate.short < 2 ^ 62 = let f = fits.0 in omega (arith, f) in
    let long : c.rate.long < 2 ^ 62 = let f = fits.1 in omega (arith, f) in
    sum_short (length (clock_words host c)) (length host) (length c.name) _ _ _ _ all few named.short (number_short c.rate.short short) (number_short c.rate.long long) (number_short c.early fits.2) (number_short c.late fits.3)

-- ---- names
host_short : (hosts : List (List ℕ)) (k : ℕ) → All IsClockName hosts → length (slice_index_or hosts k []) ≤ 32
host_short [] k all = omega arith
host_short (h ∷ hosts) zero all = (All-head IsClockName h hosts all).short
host_short (h ∷ hosts) (suc k) all = host_short hosts k (All-tail IsClockName h hosts all)

pub all_at : {X : Type 0} (P : X → Type 0) (xs : List X) (k : ℕ) (x : X) → All P xs → slice_get xs k ≡ Some x → P x
all_at P [] k x all at = absurd cc
all_at P (y ∷ xs) zero x all at = let same : y ≡ x = cc in rw (← same) (All-head P y xs all)
all_at P (y ∷ xs) (suc k) x all at = all_at P xs k x (All-tail P y xs all) at

-- ---- bounds
own_or_clock : (o : Option ℕ) (n : ℕ) → IfSome o (λ m. m < 2 ^ 62) → n < 2 ^ 62 → unwrap_or o n < 2 ^ 62
own_or_clock None n own low = low
own_or_clock (Some m) n own low = own

as_fits : (l : Label) (c : Clock) → LabelFits l → ClockFits c → ClockFits (clock_as l c)
as_fits l c own fits = (fits.0, fits.1, own_or_clock l.early c.early own.0 fits.2, own_or_clock l.late c.late own.1 fits.3)

-- ---- interfaces
module _ (d : Declaration) (declared : IsDeclaration d) where
  description_short : (l : Label) (c : Option Clock) → LabelFits l → slice_get d.clocks l.clock ≡ c → length (description_by (slice_index_or d.hosts l.host []) (option_map (clock_as l) c)) < 65536
  description_short l None own at = omega arith
  description_short l (Some c) own at =
      words_short (slice_index_or d.hosts l.host []) (clock_as l c) (host_short d.hosts l.host declared.hosts.host_names)
      (all_at (λ (k : Clock). IsClockName k.name) d.clocks l.clock c declared.clocks.clock_names at) (as_fits l c own (all_at ClockFits d.clocks l.clock c declared.clocks.clocks_fit at))

  by_label : (link : ℕ) → link < 65536 → (place : ℕ) (l : Option Label) → slice_get d.labels place ≡ l → IsInterface (interface_by d link l)
  by_label link small place None at = record { link = small; name = omega arith; description = omega arith }
  by_label link small place (Some l) at = record {
    link = small;
    name = let few = (all_at (λ (x : Label). IsClockName x.name) d.labels place l declared.labels.label_names at).short in omega (arith, few);
    description = description_short l (slice_get d.clocks l.clock) (all_at LabelFits d.labels place l declared.labels.labels_fit at) refl;
  }

  pub is_interface : (tap : Tap) → tap.link < 65536 → IsInterface (tap_interface d tap)
  is_interface tap small = by_label tap.link small tap.place (slice_get d.labels tap.place) refl

link_by : (d : Declaration) (link : ℕ) (l : Option Label) → (interface_by d link l).link ≡ link
link_by d link None = refl
link_by d link (Some l) = refl

pub link_is : (d : Declaration) (tap : Tap) → (tap_interface d tap).link ≡ tap.link
link_is d tap = link_by d tap.link (slice_get d.labels tap.place)

-- ---- what is said of a label
pub described : (d : Declaration) (l : Label) (host : List ℕ) (c : Clock) → slice_get d.hosts l.host ≡ Some host → slice_get d.clocks l.clock ≡ Some c → clock_words host (clock_as l c) ≡ description_by (slice_index_or d.hosts l.host []) (option_map (clock_as l) (slice_get d.clocks l.clock))
described d l host c at_host at_clock =
    ap (λ (h : List ℕ). clock_words h (clock_as l c)) (sym (get_or_from_slice_get d.hosts l.host host [] at_host)) ∙ ap (λ (o : Option Clock). description_by (slice_index_or d.hosts l.host []) (option_map (clock_as l) o)) (sym at_clock)

-- an interface by its parts
pub interface_as : (d : Declaration) (link : ℕ) (l : Label) (name description : List ℕ) → name ≡ l.name → description ≡ description_by (slice_index_or d.hosts l.host []) (option_map (clock_as l) (slice_get d.clocks l.clock)) →
    interface_bytes (record { link = link; name = name; description = description }) ≡ interface_bytes (interface_by d link (Some l))
interface_as d link l name description named said =
    ap (λ (n : List ℕ). interface_bytes (record { link = link; name = n; description = description })) named ∙ ap (λ (t : List ℕ). interface_bytes (record { link = link; name = l.name; description = t })) said

-- the host and the clock of a label are there
pub label_inside : (d : Declaration) → IsDeclaration d → (k : ℕ) (l : Label) → slice_get d.labels k ≡ Some l → (l.host < length d.hosts) × (l.clock < length d.clocks)
label_inside d declared k l at =
    let host = all_at (λ (x : Label). x.host < length d.hosts) d.labels k l declared.labels.label_hosts at in
    let clock = all_at (λ (x : Label). IsClockOf d.owners x.host x.clock) d.labels k l declared.labels.label_clocks at in
    let inside = slice_get_within d.owners l.clock clock.0 clock.1 in
    let owned = declared.clocks.clocks_owned in
    (host, omega (arith, inside, owned))
