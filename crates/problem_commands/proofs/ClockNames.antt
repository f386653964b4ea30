-- Words that are spelled as no name name no clock.
use Rattle.std.proofs.Common.{◌≡◌, ℕ, List, [], ◌∷◌, Bool, true, false, ◌||◌, IsTrue, All, refl, sym, ap, subst, arith}
use Rattle.std.specs.List.{AllByRecursion}
use Rattle.std.proofs.lemmas.List.Elements.{All-weaker}
use Rattle.problem_model.specs.Name.{IsEventName, IsClockName, is_event_byte, is_clock_byte}
use Rattle.problem_model.specs.Problem.{ProblemLists, IsProblem}
use Rattle.cert_check.specs.declared.what.What.{What}
use Rattle.cert_check.specs.declared.what.Clocks.TheVariants as clocks
use Rattle.cert_check.specs.declared.what.Links.TheVariants as links
use Rattle.cert_check.specs.declared.what.What.TheVariants.{Delays, Least, Stamps, Rates, Gaps}
use Rattle.widen.specs.Named.{NamesWhat, what_words}
use Rattle.widen.proofs.Naming.{clock_spelled}
use Rattle.problem_commands.specs.WhatWords.{SaysNothing}

-- a clock's name is spelled as an event's
or_left : (a b : Bool) → a ≡ true → (a || b) ≡ true
or_left true b h = refl
or_left false b h = absurd cc

event_byte : (c : ℕ) → IsTrue (is_clock_byte c) → IsTrue (is_event_byte c)
event_byte c clock = or_left _ _ clock

wider_name : (name : List ℕ) → IsClockName name → IsEventName name
wider_name name is = record {
  some = is.some;
  short = let short = is.short in omega (arith, short);
  bytes = All-weaker (λ c. IsTrue (is_clock_byte c)) (λ c. IsTrue (is_event_byte c)) event_byte name is.bytes;
}

behind_kind : List (List ℕ) → List (List ℕ)
behind_kind [] = []
behind_kind (w ∷ ws) = ws

module _ (p : ProblemLists) (lawful : IsProblem p) where
  names_spelled : (what : What) → NamesWhat p what → AllByRecursion IsClockName (behind_kind (what_words p what))
  unfolding behind_kind
  names_spelled (Delays links.All) named = tt
  names_spelled (Delays (links.Between f t)) named = (clock_spelled p lawful f named.0, (clock_spelled p lawful t named.1, tt))
  names_spelled (Least links.All) named = tt
  names_spelled (Least (links.Between f t)) named = (clock_spelled p lawful f named.0, (clock_spelled p lawful t named.1, tt))
  names_spelled (Stamps clocks.All) named = tt
  names_spelled (Stamps (clocks.One k)) named = (clock_spelled p lawful k named, tt)
  names_spelled (Rates clocks.All) named = tt
  names_spelled (Rates (clocks.One k)) named = (clock_spelled p lawful k named, tt)
  names_spelled Gaps named = tt

  all_names : (kind : List ℕ) (names : List (List ℕ)) (what : What) → kind ∷ names ≡ what_words p what → AllByRecursion IsClockName (behind_kind (what_words p what)) → AllByRecursion IsClockName names
  unfolding behind_kind
  all_names kind names what is all = subst (λ (ws : List (List ℕ)). AllByRecursion IsClockName (behind_kind ws)) (sym is) all

  pub nothing_at_first : (kind first : List ℕ) (more : List (List ℕ)) → (IsEventName first → ⊥) → SaysNothing p (kind ∷ first ∷ more)
  nothing_at_first kind first more none what says =
      let all = all_names kind (first ∷ more) what says.1 (names_spelled what says.0) in
      none (wider_name first all.0)

  pub nothing_at_second : (kind first second : List ℕ) → (IsEventName second → ⊥) → SaysNothing p (kind ∷ first ∷ second ∷ [])
  nothing_at_second kind first second none what says =
      let all = all_names kind (first ∷ second ∷ []) what says.1 (names_spelled what says.0) in
      none (wider_name second all.1.0)
