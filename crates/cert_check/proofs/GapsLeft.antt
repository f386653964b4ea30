-- The follows of a widened problem join the clocks that those of the problem do.
use Rattle.std.proofs.Common.{◌≡◌, ℕ, zero, suc, ◌+◌, Bool, true, false, List, [], ◌∷◌, ◌++◌, length, map, Option, Some, None, refl, sym, ◌∙◌, ap, arith}
use Rattle.std.specs.Prelude.{◌==◌, if◌then◌else◌}
use Rattle.problem_model.specs.declared.items.Bound.{Bound}
use Rattle.problem_model.specs.declared.items.Clock.{Clock}
use Rattle.problem_model.specs.declared.items.Follow.{Follow}
use Rattle.problem_model.specs.Nodes.{Reading}
use Rattle.problem_model.specs.ShortList.{follow_to, clocks_before, first_reading, nearest_reading, follow_bound, follow_bounds}
use Rattle.cert_check.specs.declared.what.What.{What}
use Rattle.cert_check.specs.declared.what.What.TheVariants.{Delays, Least, Stamps, Rates, Gaps}
use Rattle.cert_check.specs.Widened.{gap_left, widened_follows}

-- the follow, widened by e
abbrev pub widened_follow : What → ℕ → Follow → Follow
widened_follow what e f = record { earlier = f.earlier; later = f.later; gap = gap_left what e f.gap }

-- ---- each follow is widened
all_stay : (f : Follow → Follow) → ((g : Follow) → f g ≡ g) → (fs : List Follow) → map f fs ≡ fs
all_stay f same [] = refl
all_stay f same (g ∷ fs) = rw (same g, all_stay f same fs) refl

pub follows_are : (what : What) (e : ℕ) (fs : List Follow) → widened_follows what e fs ≡ map (widened_follow what e) fs
follows_are (Delays which) e fs = sym (all_stay (widened_follow (Delays which) e) (λ g. refl) fs)
follows_are (Least which) e fs = sym (all_stay (widened_follow (Least which) e) (λ g. refl) fs)
follows_are (Stamps which) e fs = sym (all_stay (widened_follow (Stamps which) e) (λ g. refl) fs)
follows_are (Rates which) e fs = sym (all_stay (widened_follow (Rates which) e) (λ g. refl) fs)
follows_are Gaps e fs = refl

-- ---- the clocks before a clock are the same
module _ (what : What) (e : ℕ) where
  abbrev grow : Follow → Follow
  grow = widened_follow what e

  abbrev grown : Option Follow → Option Follow
  grown None = None
  grown (Some f) = Some (grow f)

  either : (b : Bool) (f : Follow) (o q : Option Follow) → q ≡ grown o → (if b then Some (grow f) else q) ≡ grown (if b then Some f else o)
  either true f o q same = refl
  either false f o q same = same

  found : (fs : List Follow) (d : ℕ) → follow_to (map grow fs) d ≡ grown (follow_to fs d)
  found [] d = refl
  found (f ∷ fs) d = either (f.later == d) f (follow_to fs d) (follow_to (map grow fs) d) (found fs d)

  before : (fs : List Follow) (n d : ℕ) → clocks_before (map grow fs) n d ≡ clocks_before fs n d
  before fs zero d = refl
  before fs (suc n) d =
      ap (λ (o : Option Follow). elim o [ None ↦ [] | Some f ↦ f.earlier ∷ clocks_before (map grow fs) n f.earlier ]) (found fs d) ∙ further (follow_to fs d) (before fs n)
    where
      further : (o : Option Follow) → ((k : ℕ) → clocks_before (map grow fs) n k ≡ clocks_before fs n k)
          → ◌≡◌ {A = List ℕ} (elim (grown o) [ None ↦ [] | Some f ↦ f.earlier ∷ clocks_before (map grow fs) n f.earlier ]) (elim o [ None ↦ [] | Some f ↦ f.earlier ∷ clocks_before fs n f.earlier ])
      further None same = refl
      further (Some f) same = ap (λ (ks : List ℕ). f.earlier ∷ ks) (same f.earlier)

  -- ---- so the follows of the short list are
  listed : (fs : List Follow) (readings : List Reading) (k : ℕ) (cs ds : List Clock) → length cs ≡ length ds → follow_bounds (map grow fs) readings k cs ≡ follow_bounds fs readings k ds
  listed fs readings k [] [] same = refl
  listed fs readings k [] (d ∷ ds) same = absurd (omega (arith, same))
  listed fs readings k (c ∷ cs) [] same = absurd (omega (arith, same))
  listed fs readings k (c ∷ cs) (d ∷ ds) same =
      ap (λ (ks : List ℕ). follow_bound (nearest_reading readings ks) (first_reading readings k) ++ follow_bounds (map grow fs) readings (k + 1) cs) (before fs k k)
      ∙ ap (λ (rest : List Bound). follow_bound (nearest_reading readings (clocks_before fs k k)) (first_reading readings k) ++ rest) (listed fs readings (k + 1) cs ds (omega (arith, same)))

  pub listed_same : (fs : List Follow) (readings : List Reading) (cs ds : List Clock) → length cs ≡ length ds → follow_bounds (widened_follows what e fs) readings 0 cs ≡ follow_bounds fs readings 0 ds
  listed_same fs readings cs ds same = ap (λ (gs : List Follow). follow_bounds gs readings 0 cs) (follows_are what e fs) ∙ listed fs readings 0 cs ds same
