-- The follows of a declaration, and which clocks they join.
use Rattle.std.proofs.Common.{◌≡◌, ◌≢◌, ◌<◌, ◌≤◌, ◌+◌, ◌-◌, ◌^◌, ◌==◌, ◌↔◌, ℕ, zero, suc, Bool, true, false, if◌then◌else◌, List, [], ◌∷◌, ◌++◌, length, get_or, slice_get, option_to_list, Option, Some, None, eqb-true, eq-eqb, refl, sym, ◌∙◌, ap, subst, arith, inl, inr}
use Rattle.std.specs.Prelude.{All, AllPairs, Contains}
use Rattle.std.specs.List.{flat_map, range_with_len}
use Rattle.std.proofs.lemmas.List.Elements.{All-append, All-cons, All-nil, All-contains, Contains-append_left, Contains-append_right}
use Rattle.std.proofs.lemmas.Bool.{cases_lt}
use Rattle.std.proofs.lemmas.List.Kept.{AllPairs-cons}
use Rattle.std.proofs.lemmas.Option.{none-some, same_Some, slice_get-get_or, slice_get_within, get_or_from_slice_get}
use Rattle.problem_model.specs.declared.items.Follow.{Follow}
use Rattle.problem_model.specs.Problem.{ProblemLists, LeadsOn}
use Rattle.problem_model.specs.Bounds.{LinesLead, ComesAfter}
use Rattle.problem_model.proofs.Following.{one_line, line_more}
use Rattle.decl.specs.Declaration.{Declaration, IsDeclaration, IsClockOf, AreOfOneHost, follow_between, follow_from, follows_of}
use Rattle.decl.specs.Limits.{nano_limit}
use Rattle.decl.specs.declared.items.Owner.{Owner}

-- ---- one follow
-- the follow from the clock at place k: it leads to the next clock, which is of the same host and has its gap
pub record IsFollowFrom (d : Declaration) (k : ℕ) (f : Follow) : Type 0 where
  pub here : Owner
  pub next : Owner
  pub at_here : slice_get d.owners k ≡ Some here
  pub at_next : slice_get d.owners (k + 1) ≡ Some next
  pub same_host : here.host ≡ next.host
  pub is : f ≡ record { earlier = k; later = k + 1; gap = next.gap }

pub is_follow : (d : Declaration) (k : ℕ) (f : Follow) → follow_from d k ≡ Some f → IsFollowFrom d k f
is_follow d k f e = go (slice_get d.owners k) (slice_get d.owners (k + 1)) refl refl e
  where
    by_test : (a b : Owner) → slice_get d.owners k ≡ Some a → slice_get d.owners (k + 1) ≡ Some b → (t : Bool) → (a.host == b.host) ≡ t
        → (if t then Some (let g : Follow = record { earlier = k; later = k + 1; gap = b.gap } in g) else None) ≡ Some f → IsFollowFrom d k f
    by_test a b p q true t h = record { here = a; next = b; at_here = p; at_next = q; same_host = eqb-true a.host b.host t; is = sym (same_Some _ _ h) }
    by_test a b p q false t h = absurd (none-some f h)

    go : (o n : Option Owner) → slice_get d.owners k ≡ o → slice_get d.owners (k + 1) ≡ n → follow_between k o n ≡ Some f → IsFollowFrom d k f
    go None n p q h = absurd (none-some f h)
    go (Some a) None p q h = absurd (none-some f h)
    go (Some a) (Some b) p q h = by_test a b p q (a.host == b.host) refl h

-- two neighbours of one host have a follow
pub follow_there : (d : Declaration) (k : ℕ) (a b : Owner) → slice_get d.owners k ≡ Some a → slice_get d.owners (k + 1) ≡ Some b → a.host ≡ b.host
    → follow_from d k ≡ Some (record { earlier = k; later = k + 1; gap = b.gap })
follow_there d k a b p q same = rw (p, q, eq-eqb a.host b.host same) refl

-- ---- all follows
-- those from the clocks at these places
abbrev follows_at : Declaration → List ℕ → List Follow
follows_at d places = flat_map (λ k. option_to_list (follow_from d k)) places

all_one : (P : Follow → Type 0) (o : Option Follow) → ((f : Follow) → o ≡ Some f → P f) → All P (option_to_list o)
all_one P None each = All-nil P
all_one P (Some f) each = All-cons P f [] (each f refl) (All-nil P)

-- what holds of each follow from a clock on holds of all
follows_from : (d : Declaration) (P : Follow → Type 0) (k n : ℕ) → ((j : ℕ) (f : Follow) → k ≤ j → IsFollowFrom d j f → P f) → All P (follows_at d (range_with_len k n))
follows_from d P k zero each = All-nil P
follows_from d P k (suc n) each =
    All-append P (option_to_list (follow_from d k)) (follows_at d (range_with_len (k + 1) n))
    (all_one P (follow_from d k) (λ f is. each k f (omega arith) (is_follow d k f is)))
    (follows_from d P (k + 1) n (λ j f above is. each j f (omega (arith, above)) is))

pub each_follow : (d : Declaration) (P : Follow → Type 0) → ((k : ℕ) (f : Follow) → IsFollowFrom d k f → P f) → All P (follows_of d)
each_follow d P each = follows_from d P 0 (length d.owners) (λ k f above is. each k f is)

listed : (d : Declaration) (k j n : ℕ) (f : Follow) → k ≤ j → j < k + n → follow_from d j ≡ Some f → Contains (follows_at d (range_with_len k n)) f
listed d k j zero f low high is = absurd (omega (arith, low, high))
listed d k j (suc n) f low high is = elim (cases_lt k j) [
  | inl below ↦ Contains-append_right (option_to_list (follow_from d k)) (follows_at d (range_with_len (k + 1) n)) f (listed d (k + 1) j n f (omega (arith, below)) (omega (arith, high)) is)
  | inr past ↦
      let same : k ≡ j = omega (arith, low, past) in
      Contains-append_left (option_to_list (follow_from d k)) (follows_at d (range_with_len (k + 1) n)) f
      (rw (ap (follow_from d) same ∙ is) (0, omega arith, refl))
]

-- each follow is in the list
pub follow_listed : (d : Declaration) (k : ℕ) (f : Follow) → follow_from d k ≡ Some f → Contains (follows_of d) f
follow_listed d k f is =
    let inside = slice_get_within d.owners k (is_follow d k f is).here (is_follow d k f is).at_here in
    listed d 0 k (length d.owners) f (omega arith) (omega (arith, inside)) is

-- ---- what a problem asks of follows
pub follows_lead : (d : Declaration) → IsDeclaration d → All (LeadsOn d.clocks) (follows_of d)
follows_lead d lawful = each_follow d (LeadsOn d.clocks) (λ k f is.
    let inside = slice_get_within d.owners (k + 1) is.next is.at_next in
    subst (LeadsOn d.clocks) (sym is.is) (omega arith, omega (arith, inside, lawful.clocks.clocks_owned)))

pub gaps_fit : (d : Declaration) → IsDeclaration d → All (λ (f : Follow). f.gap < 2 ^ 62) (follows_of d)
gaps_fit d lawful = each_follow d (λ (f : Follow). f.gap < 2 ^ 62) (λ k f is.
    let inside = slice_get_within d.owners (k + 1) is.next is.at_next in
    let fits : (get_or d.owners (k + 1) is.next).gap < nano_limit = lawful.owners.gaps_fit (k + 1) is.next inside in
    let same : (get_or d.owners (k + 1) is.next).gap ≡ f.gap = ap (λ (o : Owner). o.gap) (get_or_from_slice_get d.owners (k + 1) is.next is.next is.at_next) ∙ sym (ap (λ (g : Follow). g.gap) is.is) in
    subst (λ (n : ℕ). n < 2 ^ 62) same fits)

-- follows rise by a number that rises with the place
module _ (d : Declaration) (end : Follow → ℕ) (step : ℕ) (ends : (k : ℕ) (f : Follow) → IsFollowFrom d k f → end f ≡ k + step) where
  differ_from : (k n : ℕ) → AllPairs (λ (a b : Follow). end a ≢ end b) (follows_at d (range_with_len k n))
  differ_from k zero = λ i j e below inside. absurd (omega (arith, inside))
  differ_from k (suc n) = go (follow_from d k) refl (differ_from (k + 1) n)
    where
      go : (o : Option Follow) → follow_from d k ≡ o → AllPairs (λ (a b : Follow). end a ≢ end b) (follows_at d (range_with_len (k + 1) n))
          → AllPairs (λ (a b : Follow). end a ≢ end b) (option_to_list o ++ follows_at d (range_with_len (k + 1) n))
      go None e more = more
      go (Some f) e more =
          AllPairs-cons (λ (a b : Follow). end a ≢ end b) f (follows_at d (range_with_len (k + 1) n))
          (follows_from d (λ (g : Follow). end f ≢ end g) (k + 1) n (λ j g above is same. absurd (omega (arith, above, same, ends k f (is_follow d k f e), ends j g is))))
          more

pub earliers_differ : (d : Declaration) → AllPairs (λ (a b : Follow). a.earlier ≢ b.earlier) (follows_of d)
earliers_differ d = differ_from d (λ (f : Follow). f.earlier) 0 (λ k f is. let e = ap (λ (g : Follow). g.earlier) is.is in omega (arith, e)) 0 (length d.owners)

pub laters_differ : (d : Declaration) → AllPairs (λ (a b : Follow). a.later ≢ b.later) (follows_of d)
laters_differ d = differ_from d (λ (f : Follow). f.later) 1 (λ k f is. ap (λ (g : Follow). g.later) is.is) 0 (length d.owners)

-- ---- which clocks come after which
module _ (d : Declaration) (p : ProblemLists) (lawful : IsDeclaration d) (follows_are : p.follows ≡ follows_of d) where
  -- a follow of the problem goes on by one clock, of the same host
  steps : (f : Follow) → Contains p.follows f → (f.later ≡ f.earlier + 1) × AreOfOneHost d f.earlier f.later
  steps f at =
      All-contains (λ (g : Follow). (g.later ≡ g.earlier + 1) × AreOfOneHost d g.earlier g.later) (follows_of d) f
      (each_follow d (λ (g : Follow). (g.later ≡ g.earlier + 1) × AreOfOneHost d g.earlier g.later) (λ k g is.
      subst (λ (v : Follow). (v.later ≡ v.earlier + 1) × AreOfOneHost d v.earlier v.later) (sym is.is)
      (refl, (is.next.host, (is.here, is.at_here, is.same_host), (is.next, is.at_next, refl)))))
      (subst (λ (fs : List Follow). Contains fs f) follows_are at)

  host_one : (b h i : ℕ) → IsClockOf d.owners h b → IsClockOf d.owners i b → h ≡ i
  host_one b h i one other = sym one.2 ∙ ap (λ (o : Owner). o.host) (same_Some one.0 other.0 (sym one.1 ∙ other.1)) ∙ other.2

  joined : (a b c : ℕ) → AreOfOneHost d a b → AreOfOneHost d b c → AreOfOneHost d a c
  joined a b c first second = (second.0, subst (λ (h : ℕ). IsClockOf d.owners h a) (host_one b first.0 second.0 first.2 second.1) first.1, second.2)

  lines_join : (b c : ℕ) (f : Follow) (lines : List Follow) → LinesLead p b (f ∷ lines) c → (b < c) × AreOfOneHost d b c
  lines_join b c f [] leads =
      let step = steps f leads.0 in
      let less : f.earlier < f.later = omega (arith, step.0) in
      subst (λ (k : ℕ). (k < c) × AreOfOneHost d k c) leads.1 (subst (λ (k : ℕ). (f.earlier < k) × AreOfOneHost d f.earlier k) leads.2 (less, step.1))
  lines_join b c f (g ∷ lines) leads =
      let step = steps f leads.0 in
      let rest = lines_join f.later c g lines leads.2 in
      let less : f.earlier < c = omega (arith, step.0, rest.0) in
      subst (λ (k : ℕ). (k < c) × AreOfOneHost d k c) leads.1 (less, joined f.earlier f.later c step.1 rest.1)

  -- between two clocks of a host there are clocks of this host alone
  between : (h b k c : ℕ) → b ≤ k → k ≤ c → IsClockOf d.owners h b → IsClockOf d.owners h c → IsClockOf d.owners h k
  between h b k c low high at_b at_c =
      let inside = slice_get_within d.owners c at_c.0 at_c.1 in
      let first : (get_or d.owners b at_b.0).host ≡ h = ap (λ (o : Owner). o.host) (get_or_from_slice_get d.owners b at_b.0 at_b.0 at_b.1) ∙ at_b.2 in
      let last : (get_or d.owners c at_b.0).host ≡ h = ap (λ (o : Owner). o.host) (get_or_from_slice_get d.owners c at_c.0 at_b.0 at_c.1) ∙ at_c.2 in
      let above = ordered b k at_b.0 low (omega (arith, high, inside)) in
      let below = ordered k c at_b.0 high inside in
      (get_or d.owners k at_b.0, slice_get-get_or d.owners k at_b.0 (omega (arith, high, inside)), omega (arith, first, last, above, below))
    where
      ordered : (i j : ℕ) (o : Owner) → i ≤ j → j < length d.owners → (get_or d.owners i o).host ≤ (get_or d.owners j o).host
      ordered i j o le inside = elim (cases_lt i j) [
        | inl less ↦ lawful.owners.owners_rise i j o less inside
        | inr past ↦ let same : i ≡ j = omega (arith, le, past) in subst (λ (k : ℕ). (get_or d.owners i o).host ≤ (get_or d.owners k o).host) same (omega arith)
      ]

  -- a clock and the next one of its host
  next_follow : (h k : ℕ) → IsClockOf d.owners h k → IsClockOf d.owners h (k + 1) → (f : Follow) × Contains p.follows f × (f.earlier ≡ k) × (f.later ≡ k + 1)
  next_follow h k here next =
      let f : Follow = record { earlier = k; later = k + 1; gap = next.0.gap } in
      (f, subst (λ (fs : List Follow). Contains fs f) (sym follows_are) (follow_listed d k f (follow_there d k here.0 next.0 here.1 next.1 (here.2 ∙ sym next.2))), refl, refl)

  reaches : (h b n : ℕ) → IsClockOf d.owners h b → IsClockOf d.owners h (b + suc n) → ComesAfter p b (b + suc n)
  reaches h b zero at_b at_c =
      let step = next_follow h b at_b at_c in
      subst (λ (k : ℕ). ComesAfter p b k) step.3 (subst (λ (k : ℕ). ComesAfter p k step.0.later) step.2 (one_line p step.0 step.1))
  reaches h b (suc n) at_b at_c =
      let before = between h b (b + suc n) (b + suc (suc n)) (omega arith) (omega arith) at_b at_c in
      let on : b + suc (suc n) ≡ b + suc n + 1 = omega arith in
      let step = next_follow h (b + suc n) before (subst (λ (k : ℕ). IsClockOf d.owners h k) on at_c) in
      subst (λ (k : ℕ). ComesAfter p b k) (step.3 ∙ sym on) (line_more p b step.0 step.1 (subst (λ (k : ℕ). ComesAfter p b k) (sym step.2) (reaches h b n at_b before)))

  come_after : (b c : ℕ) → b < c → AreOfOneHost d b c → ComesAfter p b c
  come_after b c less same =
      let apart : b + suc (c - (b + 1)) ≡ c = omega (arith, less) in
      subst (λ (k : ℕ). ComesAfter p b k) apart (reaches same.0 b (c - (b + 1)) same.1 (subst (λ (k : ℕ). IsClockOf d.owners same.0 k) (sym apart) same.2))

-- one clock comes after another exactly where both are of one host and it stands behind
pub comes_exactly : (d : Declaration) (p : ProblemLists) (b c : ℕ) → IsDeclaration d → p.follows ≡ follows_of d → (ComesAfter p b c ↔ ((b < c) × AreOfOneHost d b c))
comes_exactly d p b c lawful follows_are = (
  λ after. lines_join d p lawful follows_are b c after.0 after.1 after.2,
  λ both. come_after d p lawful follows_are b c both.0 both.1,
)
