-- Times are of one group exactly where other times lead from one to the other, each just behind the one before.
use Rattle.std.proofs.Common.{◌≡◌, ℕ, zero, suc, List, [], ◌∷◌, ◌++◌, Bool, true, not, IsTrue, inl, inr, refl, sym, ap, ◌∙◌, subst, arith}
use Rattle.std.specs.Prelude.{◌↔◌, ℤ, pos, negsuc, nat_abs, ◌-ℤ◌, ◌≤ℤ◌, ◌<ℤ◌, Contains}
use Rattle.std.specs.List.{list_any}
use Rattle.std.proofs.lemmas.Bool.{cases_Bool, false≢true}
use Rattle.std.proofs.lemmas.Int.{ints, by_lt_z}
use Rattle.traces.specs.Beginnings.{AreSteps, IsLinked, beginning, lies_just_before}
use Rattle.traces.proofs.Beginnings.{IsBeginning, beginning_is, begins_from, has_beginning, near_from, near_to}
use Rattle.traces.proofs.Members.{here, there}

-- a time that passes a test
passing : (test : ℤ → Bool) (times : List ℤ) → list_any test times ≡ true → (r : ℤ) × Contains times r × (test r ≡ true)
passing test [] some = absurd (false≢true some)
passing test (t ∷ more) some = elim (cases_Bool (test t)) [
  | inl own ↦ (t, here t more, own)
  | inr other ↦ (let (r, held, ok) = passing test more (rw other at some) in (r, there t r more held, ok))
]

module _ (window : ℕ) (times : List ℤ) where
  -- a step keeps the group
  one_step : (t s : ℤ) → Contains times t → Contains times s → lies_just_before window t s ≡ true → beginning window times t ≡ beginning window times s
  one_step t s among among' near =
      let is = has_beginning window times t among in
      let b : ℤ = beginning window times t in
      let gap = near_from window t s near in
      let order : t <ℤ s = gap.0 in
      let width : (s -ℤ t) ≤ℤ pos window = gap.1 in
      let low : b ≤ℤ t = is.before in
      sym (beginning_is window times s b (record {
        inside = is.inside;
        before = omega (arith, ints, low, order);
        begins = is.begins;
        last = λ r held under begun. by_lt_z {P = r ≤ℤ b} t r
            (λ above. absurd (begun t among (above, omega (arith, ints, under, width))))
            (λ below. is.last r held below begun);
      }))

  -- so do many
  pub led : (steps : List ℤ) (a b : ℤ) → Contains times a → AreSteps window times a steps b → beginning window times a ≡ beginning window times b
  led [] a b among are = ap (beginning window times) are
  led (s ∷ more) a b among are = one_step a s among are.0 are.1 ∙ led more s b are.0 are.2

  -- one step more
  step_more : (steps : List ℤ) (a s b : ℤ) → AreSteps window times a steps s → Contains times b → IsTrue (lies_just_before window s b) → AreSteps window times a (steps ++ b ∷ []) b
  step_more [] a s b are held near = (held, subst (λ t. IsTrue (lies_just_before window t b)) (sym are) near, refl)
  step_more (t ∷ more) a s b are held near = (are.0, are.1, step_more more t s b are.2 held near)

  -- from one time of a group to a later one
  module _ (a e : ℤ) (among : Contains times a) (first : IsBeginning window (Contains times) a e) where
    -- a later one has another time of the group just before it
    earlier : (b : ℤ) → a <ℤ b → Contains times b → IsBeginning window (Contains times) b e → (s : ℤ) × Contains times s × (a ≤ℤ s) × (s <ℤ b) × (lies_just_before window s b ≡ true)
    earlier b later held is = elim (cases_Bool (list_any (λ r. lies_just_before window r b) times)) [
      | inl some ↦ (
          let (r, there', near) = passing (λ r. lies_just_before window r b) times some in
          let gap = near_from window r b near in
          let order : r <ℤ b = gap.0 in
          let width : (b -ℤ r) ≤ℤ pos window = gap.1 in
          by_lt_z {P = (s : ℤ) × Contains times s × (a ≤ℤ s) × (s <ℤ b) × (lies_just_before window s b ≡ true)} r a
          (λ under. (a, among, omega (arith, ints), later, near_to window a b (later, omega (arith, ints, under, width))))
          (λ above. (r, there', above, order, near)))
      | inr none ↦ (
          let low : e ≤ℤ a = first.before in
          let up : b ≤ℤ e = is.last b held (omega (arith, ints)) (begins_from window times b (ap not none)) in
          absurd (omega (arith, ints, low, up, later)))
    ]

    -- and so on down to the first one
    descend : (n : ℕ) (b : ℤ) → a ≤ℤ b → (b -ℤ a) ≤ℤ pos n → Contains times b → IsBeginning window (Contains times) b e → IsLinked window times a b
    descend zero b order close held is = ([], omega (arith, ints, order, close))
    descend (suc n) b order close held is = by_lt_z {P = IsLinked window times a b} a b
        (λ later.
        let (s, among', up, down, near) = earlier b later held is in
        let low : e ≤ℤ a = first.before in
        let is' : IsBeginning window (Contains times) s e = record {
          inside = is.inside;
          before = omega (arith, ints, low, up);
          begins = is.begins;
          last = λ r held' under begun. is.last r held' (omega (arith, ints, under, down)) begun;
        } in
        let (steps, are) = descend n s up (omega (arith, ints, close, down)) among' is' in
        (steps ++ b ∷ [], step_more steps a s b are held near))
        (λ not_later. ([], omega (arith, ints, order, not_later)))

  size : (z : ℤ) → z ≤ℤ pos (nat_abs z)
  size (pos n) = grind (arith, ints)
  size (negsuc n) = grind (arith, ints)

  -- two times are of one group exactly where others lead from the one to the other
  pub one_group : (a b : ℤ) → Contains times a → Contains times b → a ≤ℤ b → (beginning window times a ≡ beginning window times b) ↔ IsLinked window times a b
  one_group a b among among' order = (
    λ same.
        let e : ℤ = beginning window times a in
        let first = has_beginning window times a among in
        let last = subst (λ t. IsBeginning window (Contains times) b t) (sym same) (has_beginning window times b among') in
        descend a e among first (nat_abs (b -ℤ a)) b order (size (b -ℤ a)) among' last,
    λ linked. led linked.0 a b among linked.1,
  )
