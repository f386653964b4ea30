-- The numbers of a line, held and in their ranges.
use Rattle.std.proofs.Common.{◌≡◌, ◌<◌, ◌^◌, ℕ, List, Option, Some, None, ap, refl}
use Rattle.std.specs.Prelude.{SomeIff, IfSome}
use Rattle.atto.specs.Span.{RateParts}
use Rattle.atto.specs.Number.{Counts}
use Rattle.problem.specs.Written.{joined, joined_own, MostCounts}

pub joined_some : (name : List ℕ) (s l e t : ℕ) (R S E T : Type 0) (rate : Option RateParts) (early late : Option ℕ) →
    SomeIff rate (R × S) (record { short = s; long = l }) → SomeIff early E e → SomeIff late T t →
    SomeIff (joined name rate early late) (R × S × E × T) (record { name = name; rate = record { short = s; long = l }; early = e; late = t })
joined_some name s l e t R S E T None early late r a b = λ h. r (h.0, h.1)
joined_some name s l e t R S E T (Some x) None late r a b = λ h. a h.2
joined_some name s l e t R S E T (Some x) (Some y) None r a b = λ h. b h.3
joined_some name s l e t R S E T (Some x) (Some y) (Some z) r a b = ((r.0.0, r.0.1, a.0, b.0), rw (r.1, a.1, b.1) refl)

pub own_some : (s e t : ℕ) (S E T : Type 0) (stamp early late : Option ℕ) → SomeIff stamp S s → SomeIff early E e → SomeIff late T t →
    SomeIff (joined_own stamp early late) (S × E × T) (record { stamp = s; bounds = record { early = e; late = t } })
own_some s e t S E T None early late a b d = λ h. a h.0
own_some s e t S E T (Some x) None late a b d = λ h. b h.1
own_some s e t S E T (Some x) (Some y) None a b d = λ h. d h.2
own_some s e t S E T (Some x) (Some y) (Some z) a b d = ((a.0, b.0, d.0), rw (a.1, b.1, d.1) refl)

pub some_most : (n o : Option ℕ) (oo : Option (Option ℕ)) (x : ℕ) → oo ≡ Some o → ((m : ℕ) → Counts (2 ^ 64) m o → SomeIff (Some x) (m < 2 ^ 62) m) → (m : Option ℕ) → MostCounts m oo → IfSome m (λ k. k < 2 ^ 62) × (Some x ≡ m)
some_most n o oo x is made None counts = absurd cc
some_most n o oo x is made (Some m) counts =
    let same : counts.0 ≡ o = let e = counts.1 in cc in
    let r = made m (rw same at counts.2) in
    (r.0, ap Some r.1)
