-- The numbers of chains stay right when a follow is added.
use Rattle.std.proofs.Common.{◌≡◌, ◌≢◌, ◌⊎◌, ◌<◌, ◌≤◌, ℕ, zero, suc, List, [], ◌∷◌, ◌++◌, length, refl, sym, ◌∙◌, ap, subst, arith, inl, inr}
use Rattle.std.specs.Prelude.{Contains, All}
use Rattle.std.proofs.lemmas.Bool.{cases_lt}
use Rattle.std.proofs.lemmas.List.Elements.{All-contains}
use Rattle.problem_model.specs.declared.items.Follow.{Follow}
use Rattle.problem_model.specs.Problem.{ProblemLists, IsChained, LeadsOn}
use Rattle.problem_model.specs.Bounds.{LinesLead, ComesAfter}
use Rattle.problem_model.specs.ChainNumbers.{AreChainNumbers, with_follow, IsFrom, JoinsChains}
use Rattle.problem_model.proofs.Chains.{Among, among}
use Rattle.problem_model.proofs.OneList.{contained}
use Rattle.problem_model.proofs.Following.{by_last, follow_one, ends_rise}
use Rattle.problem_model.proofs.NearestFollows.{rises_after}

-- ---- ways of no or more lines
abbrev Way : ProblemLists → ℕ → ℕ → Type 0
Way p c d = (lines : List Follow) × LinesLead p c lines d

way_of : (p : ProblemLists) (c d : ℕ) → ComesAfter p c d → Way p c d
way_of p c d after = (after.0 ∷ after.1, after.2)

way_from : (p : ProblemLists) (c d : ℕ) → IsFrom p c d → Way p c d
way_from p c d (inl is) = ([], is)
way_from p c d (inr after) = way_of p c d after

is_from : (p : ProblemLists) (c d : ℕ) → Way p c d → IsFrom p c d
is_from p c d ([], is) = inl is
is_from p c d (f ∷ lines, leads) = inr (f, lines, leads)

joined : (p : ProblemLists) (c : ℕ) (lines : List Follow) (d : ℕ) (more : List Follow) (e : ℕ) → LinesLead p c lines d → LinesLead p d more e → LinesLead p c (lines ++ more) e
joined p c [] d more e leads on = subst (λ (k : ℕ). LinesLead p k more e) (sym leads) on
joined p c (f ∷ lines) d more e leads on = (leads.0, leads.1, joined p f.later lines d more e leads.2 on)

on_from : (p : ProblemLists) (c d e : ℕ) → ComesAfter p c d → Way p d e → ComesAfter p c e
on_from p c d e after way = (after.0, after.1 ++ way.0, joined p c (after.0 ∷ after.1) d way.0 e after.2 way.1)

ahead_of : (p : ProblemLists) (c d e : ℕ) → Way p c d → ComesAfter p d e → ComesAfter p c e
ahead_of p c d e ([], is) after = subst (λ (k : ℕ). ComesAfter p k e) (sym is) after
ahead_of p c d e (f ∷ lines, leads) after = (f, lines ++ after.0 ∷ after.1, joined p c (f ∷ lines) d (after.0 ∷ after.1) e leads after.2)

-- ---- two clocks before one
one_before : (p : ProblemLists) → IsChained p → (k a b d : ℕ) → d < k → ComesAfter p a d → ComesAfter p b d → (a ≡ b) ⊎ ComesAfter p a b ⊎ ComesAfter p b a
one_before p chained zero a b d below after after' = absurd (omega (arith, below))
one_before p chained (suc k) a b d below after after' =
    let f = by_last p a d after in
    let g = by_last p b d after' in
    let same : f.0 ≡ g.0 = follow_one p chained f.0 g.0 f.1.0 g.1.0 (f.1.1 ∙ sym g.1.1) in
    let rise = (ends_rise p chained [] tt f.0 f.1.0).0 in
    let later = f.1.1 in
    by f.0.earlier f.1.2 (subst (λ (v : Follow). (b ≡ v.earlier) ⊎ ComesAfter p b v.earlier) (sym same) g.1.2)
    (λ x y. one_before p chained k a b f.0.earlier (omega (arith, rise, later, below)) x y)
  where
    by : (e : ℕ) → (a ≡ e) ⊎ ComesAfter p a e → (b ≡ e) ⊎ ComesAfter p b e → (ComesAfter p a e → ComesAfter p b e → (a ≡ b) ⊎ ComesAfter p a b ⊎ ComesAfter p b a)
        → (a ≡ b) ⊎ ComesAfter p a b ⊎ ComesAfter p b a
    by e (inl x) (inl y) further = inl (x ∙ sym y)
    by e (inl x) (inr y) further = inr (inr (subst (λ (v : ℕ). ComesAfter p b v) (sym x) y))
    by e (inr x) (inl y) further = inr (inl (subst (λ (v : ℕ). ComesAfter p a v) (sym y) x))
    by e (inr x) (inr y) further = further x y

-- ---- one follow more
module _ (p : ProblemLists) (chained : IsChained p) (f : Follow) (leads_on : LeadsOn p.clocks f)
    (no_earlier : All (λ g. g.earlier ≢ f.earlier) p.follows) (no_later : All (λ g. g.later ≢ f.later) p.follows) where
  nothing_after : (d : ℕ) → ComesAfter p f.earlier d → ⊥
  nothing_after d after = All-contains (λ (g : Follow). g.earlier ≢ f.earlier) p.follows after.0 no_earlier after.2.0 after.2.1

  nothing_before : (c : ℕ) → ComesAfter p c f.later → ⊥
  nothing_before c after =
      let last = by_last p c f.later after in All-contains (λ (g : Follow). g.later ≢ f.later) p.follows last.0 no_later last.1.0 last.1.1

  kept_among : (gs : List Follow) (g : Follow) → Among gs g → Among (gs ++ f ∷ []) g
  kept_among [] g at = absurd at
  kept_among (h ∷ gs) g (inl is) = inl is
  kept_among (h ∷ gs) g (inr at) = inr (kept_among gs g at)

  new_among : (gs : List Follow) → Among (gs ++ f ∷ []) f
  new_among [] = inl refl
  new_among (h ∷ gs) = inr (new_among gs)

  which_among : (gs : List Follow) (g : Follow) → Among (gs ++ f ∷ []) g → Among gs g ⊎ (f ≡ g)
  which_among [] g (inl is) = inr is
  which_among [] g (inr at) = absurd at
  which_among (h ∷ gs) g (inl is) = inl (inl is)
  which_among (h ∷ gs) g (inr at) = elim (which_among gs g at) [ inl here ↦ inl (inr here) | inr is ↦ inr is ]

  kept : (g : Follow) → Contains p.follows g → Contains (with_follow p f).follows g
  kept g at = contained (p.follows ++ f ∷ []) g (kept_among p.follows g (among p.follows g at))

  lines_kept : (c : ℕ) (lines : List Follow) (d : ℕ) → LinesLead p c lines d → LinesLead (with_follow p f) c lines d
  lines_kept c [] d leads = leads
  lines_kept c (g ∷ lines) d leads = (kept g leads.0, leads.1, lines_kept g.later lines d leads.2)

  after_kept : (c d : ℕ) → ComesAfter p c d → ComesAfter (with_follow p f) c d
  after_kept c d after = (after.0, after.1, lines_kept c (after.0 ∷ after.1) d after.2)

  way_kept : (c d : ℕ) → Way p c d → Way (with_follow p f) c d
  way_kept c d way = (way.0, lines_kept c way.0 d way.1)

  over : (c d : ℕ) → Way p c f.earlier → Way p f.later d → ComesAfter (with_follow p f) c d
  over c d before behind =
      let at : Contains (with_follow p f).follows f = contained (p.follows ++ f ∷ []) f (new_among p.follows) in
      ahead_of (with_follow p f) c f.earlier d (way_kept c f.earlier before) (f, behind.0, (at, refl, lines_kept f.later behind.0 d behind.1))

  not_back : Way p f.later f.earlier → ⊥
  not_back way = elim (is_from p f.later f.earlier way) [
    | inl is ↦ (let less = leads_on.0 in omega (arith, less, is))
    | inr after ↦ (let less = leads_on.0 in let rise = rises_after p chained f.later f.earlier after in omega (arith, less, rise))
  ]

  -- a way of the new lines is one of the old, or leads over the new one
  parts : (c : ℕ) (lines : List Follow) (d : ℕ) → LinesLead (with_follow p f) c lines d → Way p c d ⊎ (Way p c f.earlier × Way p f.later d)
  parts c [] d leads = inl ([], leads)
  parts c (g ∷ lines) d leads = by_line (which_among p.follows g (among (p.follows ++ f ∷ []) g leads.0)) (parts g.later lines d leads.2)
    where
      by_line : Among p.follows g ⊎ (f ≡ g) → Way p g.later d ⊎ (Way p g.later f.earlier × Way p f.later d) → Way p c d ⊎ (Way p c f.earlier × Way p f.later d)
      by_line (inl at) (inl way) = inl (g ∷ way.0, (contained p.follows g at, leads.1, way.1))
      by_line (inl at) (inr both) = inr ((g ∷ both.0.0, (contained p.follows g at, leads.1, both.0.1)), both.1)
      by_line (inr is) (inl way) = inr (([], sym leads.1 ∙ sym (ap (λ (v : Follow). v.earlier) is)), subst (λ (v : Follow). Way p v.later d) (sym is) way)
      by_line (inr is) (inr both) = absurd (not_back (subst (λ (v : Follow). Way p v.later f.earlier) (sym is) both.0))

  module _ (old new : ℕ → ℕ) (numbers : AreChainNumbers p old) (joins : JoinsChains p f old new) where
    inside_earlier : f.earlier < length p.clocks
    inside_earlier = let a = leads_on.0 in let b = leads_on.1 in omega (arith, a, b)

    from_later : (k : ℕ) → IsFrom p f.later k → f.later ≤ k
    from_later k (inl is) = omega (arith, is)
    from_later k (inr after) = let rise = rises_after p chained f.later k after in omega (arith, rise)

    -- one number, so the later comes after the earlier
    same_number : (c d : ℕ) → c < d → d < length p.clocks → new c ≡ new d → ComesAfter (with_follow p f) c d
    same_number c d below inside same = by (joins c (omega (arith, below, inside))) (joins d inside)
      where
        old_one : (m n : ℕ) → m < n → n < length p.clocks → IsFrom p f.later m → IsFrom p f.later n → old m ≡ old n
        old_one m n less within from from' = sym (first m (omega (arith, less, within)) from) ∙ first n within from'
          where
            first : (n : ℕ) → n < length p.clocks → IsFrom p f.later n → old f.later ≡ old n
            first n within (inl is) = ap old is
            first n within (inr after) = (numbers f.later n (rises_after p chained f.later n after) within).1 after

        to_earlier : old c ≡ old f.earlier → Way p c f.earlier
        to_earlier is = elim (cases_lt c f.earlier) [
          | inl less ↦ way_of p c f.earlier ((numbers c f.earlier less inside_earlier).0 is)
          | inr most ↦ elim (cases_lt f.earlier c) [
            | inl less ↦ absurd (nothing_after c ((numbers f.earlier c less (omega (arith, below, inside))).0 (sym is)))
            | inr least ↦ ([], (let one : c ≡ f.earlier = omega (arith, most, least) in one))
          ]
        ]

        by : (IsFrom p f.later c × (new c ≡ old f.earlier)) ⊎ ((IsFrom p f.later c → ⊥) × (new c ≡ old c))
            → (IsFrom p f.later d × (new d ≡ old f.earlier)) ⊎ ((IsFrom p f.later d → ⊥) × (new d ≡ old d)) → ComesAfter (with_follow p f) c d
        by (inl from) (inl to) = after_kept c d ((numbers c d below inside).0 (old_one c d below inside from.0 to.0))
        by (inr from) (inr to) = after_kept c d ((numbers c d below inside).0 (sym from.1 ∙ same ∙ to.1))
        by (inr from) (inl to) = over c d (to_earlier (sym from.1 ∙ same ∙ to.1)) (way_from p f.later d to.0)
        by (inl from) (inr to) =
            let low = from_later c from.0 in
            let rise = leads_on.0 in
            let less : f.earlier < d = omega (arith, low, rise, below) in
            absurd (nothing_after d ((numbers f.earlier d less inside).0 (sym from.1 ∙ same ∙ to.1)))

    -- and the other way round
    after_number : (c d : ℕ) → c < d → d < length p.clocks → ComesAfter (with_follow p f) c d → new c ≡ new d
    after_number c d below inside after = by (parts c (after.0 ∷ after.1) d after.2) (joins c (omega (arith, below, inside))) (joins d inside)
      where
        not_after : IsFrom p f.later d → (IsFrom p f.later c → ⊥) → ComesAfter p c d → ⊥
        not_after (inl is) apart there = nothing_before c (subst (λ (k : ℕ). ComesAfter p c k) (sym is) there)
        not_after (inr behind) apart there = elim (one_before p chained (suc d) c f.later d (omega arith) there behind) [
          | inl is ↦ apart (inl (sym is))
          | inr other ↦ elim other [ inl before ↦ nothing_before c before | inr from ↦ apart (inr from) ]
        ]

        old_way : (there : Way p c d) → ComesAfter p c d
        old_way there = elim (is_from p c d there) [ inl is ↦ absurd (omega (arith, below, is)) | inr behind ↦ behind ]

        to_earlier : Way p c f.earlier → old c ≡ old f.earlier
        to_earlier way = elim (is_from p c f.earlier way) [ inl is ↦ ap old is | inr behind ↦ (numbers c f.earlier (rises_after p chained c f.earlier behind) inside_earlier).1 behind ]

        low_enough : Way p c f.earlier → IsFrom p f.later c → ⊥
        low_enough way from =
            let high = from_later c from in
            let rise = leads_on.0 in
            elim (is_from p c f.earlier way) [
              | inl is ↦ omega (arith, high, rise, is)
              | inr behind ↦ (let less = rises_after p chained c f.earlier behind in omega (arith, high, rise, less))
            ]

        by : Way p c d ⊎ (Way p c f.earlier × Way p f.later d) → (IsFrom p f.later c × (new c ≡ old f.earlier)) ⊎ ((IsFrom p f.later c → ⊥) × (new c ≡ old c))
            → (IsFrom p f.later d × (new d ≡ old f.earlier)) ⊎ ((IsFrom p f.later d → ⊥) × (new d ≡ old d)) → new c ≡ new d
        by way (inl from) (inl to) = from.1 ∙ sym to.1
        by (inl way) (inr from) (inr to) = from.1 ∙ (numbers c d below inside).1 (old_way way) ∙ sym to.1
        by (inl way) (inr from) (inl to) = absurd (not_after to.0 from.0 (old_way way))
        by (inl way) (inl from) (inr to) = absurd (to.0 (is_from p f.later d (on_way from.0)))
          where
            on_way : IsFrom p f.later c → Way p f.later d
            on_way (inl is) = subst (λ (k : ℕ). Way p k d) (sym is) way
            on_way (inr behind) = way_of p f.later d (on_from p f.later c d behind way)
        by (inr both) (inl from) (inr to) = absurd (low_enough both.0 from.0)
        by (inr both) (inr from) (inl to) = from.1 ∙ to_earlier both.0 ∙ sym to.1
        by (inr both) (inr from) (inr to) = absurd (to.0 (is_from p f.later d both.1))

    pub numbers_joined : AreChainNumbers (with_follow p f) new
    numbers_joined c d below inside = (same_number c d below inside, after_number c d below inside)
