-- A roster without events.
use Rattle.std.proofs.Common.{◌≡◌, ℕ, ◌<◌, zero, suc, List, [], length, replicate, slice_get, Some, Contains, refl, sym, ◌∙◌, subst, arith}
use Rattle.std.proofs.lemmas.List.{length-replicate}
use Rattle.std.proofs.lemmas.Option.{none-some}
use Rattle.decl.specs.Declaration.{Declaration, IsDeclaration}
use Rattle.traces.proofs.Members.{none_in, no_pairs}
use Rattle.roster.specs.declared.came.Came.{Came}
use Rattle.roster.specs.Groups.{total, sizes_of, group_at}
use Rattle.roster.specs.Readings.{Stamped, Rise}
use Rattle.roster.specs.Roster.{RosterLists, IsRoster}

group_of_none : {T : Type 0} (n g : ℕ) → group_at (replicate {A = List T} n []) g ≡ []
group_of_none zero zero = refl
group_of_none zero (suc g) = refl
group_of_none (suc n) zero = refl
group_of_none (suc n) (suc g) = group_of_none n g

total_of_none : (T : Type 0) (n : ℕ) → total (sizes_of (replicate {A = List T} n [])) ≡ 0
total_of_none T zero = refl
total_of_none T (suc n) = let rest = total_of_none T n in omega (arith, rest)

-- the roster of a declaration, with so many labels and clocks
abbrev pub no_roster : Declaration → ℕ → ℕ → RosterLists
no_roster d labels clocks = record { declaration = d; came = []; under = replicate labels []; readings = replicate clocks [] }

pub no_roster_is : (d : Declaration) (labels clocks : ℕ) → IsDeclaration d → labels ≡ length d.labels → clocks ≡ length d.clocks → IsRoster (no_roster d labels clocks)
no_roster_is d labels clocks lawful own_labels own_clocks = record {
  declared = lawful;
  labels = length-replicate labels [] ∙ own_labels;
  clocks = length-replicate clocks [] ∙ own_clocks;
  numbered = λ label k v at. absurd (none-some v (subst (λ (vs : List ℕ). slice_get vs k ≡ Some v) (group_of_none labels label) at));
  every = λ v e at. absurd (none-some e at);
  count = total_of_none ℕ labels;
  few = omega arith;
  on_clocks = record {
    rise = λ c. subst Rise (sym (group_of_none clocks c)) (no_pairs (λ (a b : Stamped). a.0 < b.0));
    each = λ c s (node, among). absurd (none_in {X = Stamped} (s, node) (subst (λ (rs : List Stamped). Contains {X = Stamped} rs (s, node)) (group_of_none clocks c) among));
    every = λ c s (e, among, on, is). absurd (none_in e among);
    few = let e = total_of_none Stamped clocks in omega (arith, e);
  };
}

pub none_as : (d : Declaration) (labels clocks : ℕ) (came : List Came) (under : List (List ℕ)) (readings : List (List Stamped)) → IsDeclaration d → labels ≡ length d.labels → clocks ≡ length d.clocks →
    came ≡ [] → under ≡ replicate labels [] → readings ≡ replicate clocks [] → IsRoster (record { declaration = d; came = came; under = under; readings = readings })
none_as d labels clocks came under readings lawful own_labels own_clocks no_came no_under no_readings = rw (no_came, no_under, no_readings) (no_roster_is d labels clocks lawful own_labels own_clocks)
