-- One end of an interval, as it is written.
use Rattle.std.proofs.Common.{◌≡◌, ◌<◌, ◌≤◌, ◌+◌, ◌++◌, ◌∷◌, [], ℕ, zero, suc, true, false, List, length, None, inl, inr, ◌⊎◌, refl, subst, arith}
use Rattle.std.specs.Prelude.{ℤ, pos, neg_ℤ, ◌-ℤ◌, All, AllPairs, map}
use Rattle.std.specs.List.{flat_map}
use Rattle.std.proofs.lemmas.Int.{ints, by_lt_z}
use Rattle.std.proofs.lemmas.Bool.{cases_Bool}
use borrow.Author.Count.{below_more}
use Rattle.atto.specs.NsText.{ns_text}
use Rattle.line_format.specs.Words.{line_of}
use Rattle.problem_model.specs.declared.items.Bound.{Bound}
use Rattle.problem_model.specs.Executions.{at}
use Rattle.problem_model.specs.Parents.{Cells, IsRow}
use Rattle.problem_model.specs.Rows.{attaining}
use Rattle.sync_graph.specs.Graph.{GraphLists}
use Rattle.problem.specs.Listing.{Listed, listed_nodes}
use Rattle.cert.specs.Listed.{listed_step, listed_values}
use Rattle.attain.specs.declared.side.Side.{Side}
use Rattle.attain.specs.declared.side.Side.TheVariants.{Upper, Lower}
use Rattle.attain.specs.Written.{Limit, NoLimit, NamesParents, AreClocksOf, written_end}
use Rattle.attain.specs.Sides.{is_upper, part, unlimited, facing, differences, lead, IsAsFar, IsLeadOf, IsEndWritten}
use Rattle.attain.specs.Intervals.{IsEndText}
use Rattle.attain.proofs.Cutting.{clocks_behind, clocks_of, all_tail, all_cons}
use Rattle.attain.proofs.Leads.{as_far_self, as_far_then, lead_is}
use Rattle.attain.proofs.Paths.{chain, chain_follows, chain_length, known_within}

-- ---- the texts of both kinds of ends
signed_is : (v : ℤ) → pos 0 -ℤ v ≡ neg_ℤ v
signed_is v = omega (arith, ints)

module _ (l : Listed) (g : GraphLists) (values : List ℤ) (c : Cells) (p q : ℕ) where
  pub limit_is : (side : Side) (K : ℤ) (steps : List (Bound × ℤ)) → c.known q ≡ true → IsLeadOf side (length g.nodes) c values K → NamesParents (is_upper side) g c p q steps → length steps < length g.nodes
      → IsEndWritten side l g values c p q (Limit (differences side c q) steps (attaining c.known (differences side c) values K))
  limit_is Upper K steps known is_lead follows short = (K, known, refl, is_lead, follows, short, (λ k within. refl))
  limit_is Lower K steps known is_lead follows short = (K, known, signed_is (c.value q), is_lead, follows, short, (λ k within. refl))

  pub no_limit_is : (side : Side) (inside : List ℕ) → c.known q ≡ false → AreClocksOf l c (is_upper side) inside → IsEndWritten side l g values c p q (NoLimit inside (at values))
  no_limit_is Upper inside unknown clocks = (unknown, clocks, refl)
  no_limit_is Lower inside unknown clocks = (unknown, clocks, refl)

  -- the lines of such an end, one behind another
  pub limit_text : (side : Side) (K : ℤ) (steps : List (Bound × ℤ)) → c.known q ≡ true → IsLeadOf side (length g.nodes) c values K → NamesParents (is_upper side) g c p q steps → length steps < length g.nodes
      → IsEndText side l g values c p q (line_of (part side ∷ ns_text (differences side c q) ∷ []) ++ flat_map (listed_step l) steps ++ listed_values l (attaining c.known (differences side c) values K))
  limit_text side K steps known is_lead follows short = (Limit (differences side c q) steps (attaining c.known (differences side c) values K), limit_is side K steps known is_lead follows short, refl)

-- ---- some node is the farthest
as_far_cases : (side : Side) (a b : ℤ) → IsAsFar side a b ⊎ IsAsFar side b a
as_far_cases Upper a b = by_lt_z a b (λ below. inr (omega (arith, ints, below))) (λ not_below. inl not_below)
as_far_cases Lower a b = by_lt_z a b (λ below. inl (omega (arith, ints, below))) (λ not_below. inr not_below)

record IsFarthest (side : Side) (nodes : ℕ) (c : Cells) (values : List ℤ) (count k : ℕ) : Type 0 where
  pub within : k < nodes
  pub known : c.known k ≡ true
  pub so_far : (j : ℕ) → j < count → c.known j ≡ true → IsAsFar side (lead side c values k) (lead side c values j)

module _ (side : Side) (nodes : ℕ) (c : Cells) (values : List ℤ) where
  abbrev Far : ℕ → ℕ → Type 0
  Far i j = c.known j ≡ true → IsAsFar side (lead side c values i) (lead side c values j)

  farther : (count k : ℕ) → count < nodes → IsFarthest side nodes c values count k → (j : ℕ) × IsFarthest side nodes c values (count + 1) j
  farther count k below farthest = elim (cases_Bool (c.known count)) [
    | inl known ↦ farther_known known (as_far_cases side (lead side c values k) (lead side c values count))
    | inr unknown ↦ (k, record { within = farthest.within; known = farthest.known; so_far = below_more (Far k) count farthest.so_far (λ is. absurd (let z : ⊥ = cc in z)) })
  ]
    where
      farther_known : c.known count ≡ true → IsAsFar side (lead side c values k) (lead side c values count) ⊎ IsAsFar side (lead side c values count) (lead side c values k)
          → (j : ℕ) × IsFarthest side nodes c values (count + 1) j
      farther_known known (inl far) = (k, record { within = farthest.within; known = farthest.known; so_far = below_more (Far k) count farthest.so_far (λ is. far) })
      farther_known known (inr near) = (
        count,
        record {
          within = below;
          known = known;
          so_far = below_more (Far count) count (λ j under is. as_far_then side (lead side c values count) (lead side c values k) (lead side c values j) near (farthest.so_far j under is)) (λ is. as_far_self side (lead side c values count));
        },
      )

  farthest : (count p : ℕ) → count ≤ nodes → p < nodes → c.known p ≡ true → (k : ℕ) × IsFarthest side nodes c values count k
  farthest zero p few within known = (p, record { within = within; known = known; so_far = λ j below is. absurd (omega (arith, below)) })
  farthest (suc count) p few within known =
      let before = farthest count p (omega (arith, few)) within known in
      let next = farther count before.0 (omega (arith, few)) before.1 in
      let same : count + 1 ≡ suc count = omega arith in
      (next.0, subst (λ (n : ℕ). IsFarthest side nodes c values n next.0) same next.1)

  lead_there : (p : ℕ) → p < nodes → c.known p ≡ true → (K : ℤ) × IsLeadOf side nodes c values K
  lead_there p within known =
      let far = farthest nodes p (omega arith) within known in
      (lead side c values far.0, lead_is side nodes c values far.0 far.1.within far.1.known far.1.so_far)

-- ---- each end can be written
pub end_there : (side : Side) (l : Listed) (g : GraphLists) (values : List ℤ) (c : Cells) (p q : ℕ) → IsRow (length g.nodes) (facing side g) p c → AllPairs (λ (r s : ℕ × ℕ × ℕ). r.0 ≤ s.0) l.readings
    → (text : List ℕ) × IsEndText side l g values c p q text
end_there side l g values c p q row rising = elim (cases_Bool (c.known q)) [ inl known ↦ there known | inr unknown ↦ nowhere unknown ]
  where
    there : c.known q ≡ true → (text : List ℕ) × IsEndText side l g values c p q text
    there known =
        let back = row.back q known in
        let far = lead_there side (length g.nodes) c values p (known_within side g p c p row row.own.0) row.own.0 in
        let steps = chain (is_upper side) g c back.0 q in
        let end = Limit (differences side c q) steps (attaining c.known (differences side c) values far.0) in
        let same = chain_length side g p c back.0 q in
        let few = back.1 in
        let short : length steps < length g.nodes = omega (arith, same, few) in
        (written_end l (part side) (unlimited side) end, (end, limit_is l g values c p q side far.0 steps known far.1 (chain_follows side g p c back.0 q back.2) short, refl))

    nowhere : c.known q ≡ false → (text : List ℕ) × IsEndText side l g values c p q text
    nowhere unknown =
        let inside = clocks_behind (is_upper side) c None l.readings in
        let end = NoLimit inside (at values) in
        (written_end l (part side) (unlimited side) end, (end, no_limit_is l g values c p q side inside unknown (clocks_of l c (is_upper side) rising), refl))

-- ---- nodes of readings
all_behind : (P : ℕ → Type 0) (xs ys : List ℕ) → All P (xs ++ ys) → All P ys
all_behind P [] ys all = all
all_behind P (x ∷ xs) ys all = all_behind P xs ys (all_tail P x (xs ++ ys) all)

all_mapped : {X : Type 0} (P : ℕ → Type 0) (f : X → ℕ) (xs : List X) → All P (map f xs) → All (λ (x : X). P (f x)) xs
all_mapped P f [] all = λ k d inside. absurd (omega (arith, inside))
all_mapped {X = X} P f (x ∷ xs) all = all_cons (λ (y : X). P (f y)) x xs (all 0 (f x) (omega arith)) (all_mapped P f xs (all_tail P (f x) (map f xs) all))

pub readings_within : (l : Listed) (n m : ℕ) → All (λ (k : ℕ). k < n) (listed_nodes l) → n ≤ m → All (λ (r : ℕ × ℕ × ℕ). r.2 < m) l.readings
readings_within l n m all few =
    let readings = all_mapped (λ (k : ℕ). k < n) (λ (r : ℕ × ℕ × ℕ). r.2) l.readings (all_behind (λ (k : ℕ). k < n) (map (λ (e : ℕ × ℕ). e.1) l.events) (map (λ (r : ℕ × ℕ × ℕ). r.2) l.readings) all) in
    λ k d inside. omega (arith, readings k d inside, few)
