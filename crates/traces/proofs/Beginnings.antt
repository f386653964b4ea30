-- Times and the groups that they fall into: what tells when a group begins, whatever the order of the times; the scan over rising
-- times; and what more times leave as it was.
use Rattle.std.proofs.Common.{◌≡◌, ◌⊎◌, ℕ, List, [], ◌∷◌, get_or, cond, Bool, true, false, not, inl, inr, refl, sym, ap, ◌∙◌, subst, arith}
use Rattle.std.specs.Prelude.{ℤ, pos, ◌-ℤ◌, ◌≤ℤ◌, ◌<ℤ◌, int_lt, Contains, filter}
use Rattle.std.specs.List.{list_any}
use Rattle.std.proofs.lemmas.Bool.{and_from, and_parts, cases_Bool, false≢true, not-true}
use Rattle.std.proofs.lemmas.Int.{ints, by_lt_z}
use Rattle.std.proofs.lemmas.List.Folds.{list_any_at, list_any_none}
use Rattle.std.proofs.lemmas.List.Elements.{Contains-get_or}
use Rattle.traces.specs.Beginnings.{begins, begins_by, beginning, latest, lies_just_before}
use Rattle.traces.proofs.Members.{has_passed, head_or_tail, here, kept, none_in, there, was_in}

-- ---- tests on numbers
test_true : (a b : ℤ) → a <ℤ b → int_lt a b ≡ true
test_true a b h = grind (arith, ints)

test_false : (a b : ℤ) → b ≤ℤ a → int_lt a b ≡ false
test_false a b h = grind (arith, ints)

lt_from : (a b : ℤ) → int_lt a b ≡ true → a <ℤ b
lt_from a b h = grind (arith, ints)

le_from : (a b : ℤ) → int_lt a b ≡ false → b ≤ℤ a
le_from a b h = grind (arith, ints)

-- ---- what tells a beginning, for times of which only is known what is among them
-- a time lies before another one, and not further than the window
abbrev pub LiesJustBefore : ℕ → ℤ → ℤ → Type 0
LiesJustBefore window before time = (before <ℤ time) × ((time -ℤ before) ≤ℤ pos window)

-- none of the times lies just before this one
abbrev pub Begins : ℕ → (ℤ → Type 0) → ℤ → Type 0
Begins window times t = (s : ℤ) → times s → LiesJustBefore window s t → ⊥

-- the latest of the times that begins a group and is not after this one
pub record IsBeginning (window : ℕ) (times : ℤ → Type 0) (t b : ℤ) : Type 0 where
  pub inside : times b
  pub before : b ≤ℤ t
  pub begins : Begins window times b
  pub last : (s : ℤ) → times s → s ≤ℤ t → Begins window times s → s ≤ℤ b

-- there is one at most
pub one_beginning : (window : ℕ) (times : ℤ → Type 0) (t b c : ℤ) → IsBeginning window times t b → IsBeginning window times t c → b ≡ c
one_beginning window times t b c first second =
    let up : b ≤ℤ c = second.last b first.inside first.before first.begins in
    let down : c ≤ℤ b = first.last c second.inside second.before second.begins in
    omega (arith, ints, up, down)

-- it goes by what is among the times alone
pub moved_beginning : (window : ℕ) (times others : ℤ → Type 0) → ((s : ℤ) → times s → others s) → ((s : ℤ) → others s → times s) → (t b : ℤ) → IsBeginning window times t b → IsBeginning window others t b
moved_beginning window times others to from t b is = record {
  inside = to b is.inside;
  before = is.before;
  begins = λ s among near. is.begins s (from s among) near;
  last = λ s among low begun. is.last s (from s among) low (λ r held near. begun r (to r held) near);
}

-- ---- the definition
pub near_from : (window : ℕ) (s t : ℤ) → lies_just_before window s t ≡ true → LiesJustBefore window s t
near_from window s t near =
    let both = and_parts (int_lt s t) (not (int_lt (pos window) (t -ℤ s))) near in
    (lt_from s t both.0, le_from (pos window) (t -ℤ s) (not-true (int_lt (pos window) (t -ℤ s)) both.1))

pub near_to : (window : ℕ) (s t : ℤ) → LiesJustBefore window s t → lies_just_before window s t ≡ true
near_to window s t near = and_from (int_lt s t) (not (int_lt (pos window) (t -ℤ s))) (test_true s t near.0) (ap not (test_false (pos window) (t -ℤ s) near.1))

pub begins_from : (window : ℕ) (times : List ℤ) (t : ℤ) → begins window times t ≡ true → Begins window (Contains times) t
begins_from window times t begun s (k, inside, is) near =
    let none : list_any (λ r. lies_just_before window r t) times ≡ false = not-true (list_any (λ r. lies_just_before window r t) times) begun in
    let some : list_any (λ r. lies_just_before window r t) times ≡ true =
    list_any_at (λ r. lies_just_before window r t) times k s inside (subst (λ (r : ℤ). lies_just_before window r t ≡ true) (sym is) (near_to window s t near)) in
    false≢true (sym none ∙ some)

pub begins_to : (window : ℕ) (times : List ℤ) (t : ℤ) → Begins window (Contains times) t → begins window times t ≡ true
begins_to window times t begun =
    ap not (list_any_none (λ r. lies_just_before window r t) times (λ k d inside. far (get_or times k d) (Contains-get_or times k d inside) (cases_Bool (lies_just_before window (get_or times k d) t))))
  where
    far : (s : ℤ) → Contains times s → (lies_just_before window s t ≡ true) ⊎ (lies_just_before window s t ≡ false) → lies_just_before window s t ≡ false
    far s held (inl near) = absurd (begun s held (near_from window s t near))
    far s held (inr other) = other

-- the latest of some times is one of them, and none is after it
latest_step : (t other rest : ℤ) (more : List ℤ) → Contains more rest → ((s : ℤ) → Contains more s → s ≤ℤ rest) → (b : Bool) → int_lt t rest ≡ b
    → Contains (t ∷ more) (cond b rest t) × ((s : ℤ) → Contains (t ∷ more) s → s ≤ℤ cond b rest t)
latest_step t other rest more among most true less =
    let low : t <ℤ rest = lt_from t rest less in
    (there t rest more among, λ s held. elim (head_or_tail t s more held) [ inl is ↦ subst (λ (r : ℤ). r ≤ℤ rest) is (omega (arith, ints, low)) | inr later ↦ most s later ])
latest_step t other rest more among most false less =
    let low : rest ≤ℤ t = le_from t rest less in
    (here t more, λ s held. elim (head_or_tail t s more held) [ inl is ↦ subst (λ (r : ℤ). r ≤ℤ t) is (omega (arith, ints)) | inr later ↦ (let up : s ≤ℤ rest = most s later in omega (arith, ints, low, up)) ])

latest_is : (t other : ℤ) (more : List ℤ) → Contains (t ∷ more) (latest (t ∷ more) other) × ((s : ℤ) → Contains (t ∷ more) s → s ≤ℤ latest (t ∷ more) other)
latest_is t other [] = (here t [], λ s held. elim (head_or_tail t s [] held) [ inl is ↦ subst (λ (r : ℤ). r ≤ℤ t) is (omega (arith, ints)) | inr later ↦ absurd (none_in s later) ])
latest_is t other (r ∷ more) =
    let rest = latest_is r other more in
    latest_step t other (latest (r ∷ more) other) (r ∷ more) rest.0 rest.1 (int_lt t (latest (r ∷ more) other)) refl

latest_some : (times : List ℤ) (other some : ℤ) → Contains times some → Contains times (latest times other) × ((s : ℤ) → Contains times s → s ≤ℤ latest times other)
latest_some [] other some held = absurd (none_in some held)
latest_some (t ∷ more) other some held = latest_is t other more

module _ (window : ℕ) (times : List ℤ) (t : ℤ) where
  abbrev test : ℤ → Bool
  test s = begins_by window times t s

  passes : (s : ℤ) → s ≤ℤ t → Begins window (Contains times) s → test s ≡ true
  passes s low begun = and_from (not (int_lt t s)) (begins window times s) (ap not (test_false t s low)) (begins_to window times s begun)

  -- where some time begins a group and is not after this one, there is a beginning
  found : (s : ℤ) → Contains times s → s ≤ℤ t → Begins window (Contains times) s → IsBeginning window (Contains times) t (beginning window times t)
  found s among low begun =
      let b = beginning window times t in
      let most = latest_some (filter test times) t s (kept test times s among (passes s low begun)) in
      let passed : test b ≡ true = has_passed test times b most.0 in
      let both = and_parts (not (int_lt t b)) (begins window times b) passed in
      record {
        inside = was_in test times b most.0;
        before = le_from t b (not-true (int_lt t b) both.0);
        begins = begins_from window times b both.1;
        last = λ r held under begun'. most.1 r (kept test times r held (passes r under begun'));
      }

  -- what is told as the beginning is the beginning
  pub beginning_is : (b : ℤ) → IsBeginning window (Contains times) t b → beginning window times t ≡ b
  beginning_is b is = one_beginning window (Contains times) t (beginning window times t) b (found b is.inside is.before is.begins) is

-- ---- the least of some times
-- the first of those that pass a test
least_passing : (test : ℤ → Bool) (times : List ℤ) (s : ℤ) → Contains times s → test s ≡ true → (m : ℤ) × Contains times m × (test m ≡ true) × ((r : ℤ) → Contains times r → test r ≡ true → m ≤ℤ r)
least_passing test [] s among passed = absurd (none_in s among)
least_passing test (t ∷ more) s among passed = elim (cases_Bool (list_any test more)) [
  | inl some ↦ (
      let (k, inside, at) = any_at more some in
      let (m, held, ok, least) = least_passing test more k inside at in
      elim (cases_Bool (test t)) [
        | inl own ↦ by_lt_z {P = (m : ℤ) × Contains (t ∷ more) m × (test m ≡ true) × ((r : ℤ) → Contains (t ∷ more) r → test r ≡ true → m ≤ℤ r)} t m
            (λ less. (
              t,
              here t more,
              own,
              λ r held' ok'. elim (head_or_tail t r more held') [
                | inl is ↦ subst (λ (q : ℤ). t ≤ℤ q) is (omega (arith, ints))
                | inr later ↦ (let up : m ≤ℤ r = least r later ok' in omega (arith, ints, less, up))
              ],
            ))
            (λ more'. (
              m,
              there t m more held,
              ok,
              λ r held' ok'. elim (head_or_tail t r more held') [
                | inl is ↦ subst (λ (q : ℤ). m ≤ℤ q) is more'
                | inr later ↦ least r later ok'
              ],
            ))
        | inr not_own ↦ (
          m,
          there t m more held,
          ok,
          λ r held' ok'. elim (head_or_tail t r more held') [
            | inl is ↦ absurd (false≢true (sym not_own ∙ subst (λ (q : ℤ). test q ≡ true) (sym is) ok'))
            | inr later ↦ least r later ok'
          ],
        )
      ])
  | inr none ↦ elim (head_or_tail t s more among) [
    | inl is ↦ (
      t,
      here t more,
      subst (λ (q : ℤ). test q ≡ true) (sym is) passed,
      λ r held' ok'. elim (head_or_tail t r more held') [
        | inl is' ↦ subst (λ (q : ℤ). t ≤ℤ q) is' (omega (arith, ints))
        | inr later ↦ absurd (none_at more r none later ok')
      ],
    )
    | inr later ↦ absurd (none_at more s none later passed)
  ]
]
  where
    none_at : (xs : List ℤ) (r : ℤ) → list_any test xs ≡ false → Contains xs r → test r ≡ true → ⊥
    none_at xs r none (k, inside, is) ok = false≢true (sym none ∙ list_any_at test xs k r inside (subst (λ (q : ℤ). test q ≡ true) (sym is) ok))

    any_at : (xs : List ℤ) → list_any test xs ≡ true → (r : ℤ) × Contains xs r × (test r ≡ true)
    any_at [] some = absurd (false≢true some)
    any_at (x ∷ xs) some = elim (cases_Bool (test x)) [
      | inl own ↦ (x, here x xs, own)
      | inr other ↦ (let (r, held, ok) = any_at xs (rw other at some) in (r, there x r xs held, ok))
    ]

-- a time among times has a beginning
pub has_beginning : (window : ℕ) (times : List ℤ) (t : ℤ) → Contains times t → IsBeginning window (Contains times) t (beginning window times t)
has_beginning window times t among =
    let (m, held, ok, least) = least_passing (λ s. true) times t among refl in
    found window times t m held (least t among refl) (λ r held' near. (let up : m ≤ℤ r = least r held' refl in let low : r <ℤ m = near.0 in omega (arith, ints, up, low)))

-- ---- neighbours among rising times
module _ (window : ℕ) (times : ℤ → Type 0) where
  -- the first time begins a group
  pub first_begins : (t : ℤ) → times t → ((s : ℤ) → times s → t ≤ℤ s) → IsBeginning window times t t
  first_begins t among first = record {
    inside = among;
    before = omega (arith, ints);
    begins = λ s held near. (let up : t ≤ℤ s = first s held in let low : s <ℤ t = near.0 in omega (arith, ints, up, low));
    last = λ s held low begun. low;
  }

  -- one that lies further than the window behind its neighbour too
  pub begins_anew : (p t : ℤ) → times t → ((s : ℤ) → times s → (s ≤ℤ p) ⊎ (t ≤ℤ s)) → pos window <ℤ (t -ℤ p) → IsBeginning window times t t
  begins_anew p t among next far = record {
    inside = among;
    before = omega (arith, ints);
    begins = λ s held near. elim (next s held) [
      | inl low ↦ (let width : (t -ℤ s) ≤ℤ pos window = near.1 in omega (arith, ints, low, far, width))
      | inr up ↦ (let low : s <ℤ t = near.0 in omega (arith, ints, up, low))
    ];
    last = λ s held low begun. low;
  }

  -- and every other one is of its neighbour's group
  pub goes_on : (p t b : ℤ) → times p → p ≤ℤ t → ((s : ℤ) → times s → (s ≤ℤ p) ⊎ (t ≤ℤ s)) → (t -ℤ p) ≤ℤ pos window → IsBeginning window times p b → IsBeginning window times t b
  goes_on p t b among order next near is =
      let start : b ≤ℤ p = is.before in
      record {
        inside = is.inside;
        before = omega (arith, ints, start, order);
        begins = is.begins;
        last = λ s held low begun. elim (next s held) [
          | inl below ↦ is.last s held below begun
          | inr up ↦ by_lt_z {P = s ≤ℤ b} p s
              (λ less. (let width : (s -ℤ p) ≤ℤ pos window = omega (arith, ints, low, up, near) in absurd (begun p among (less, width))))
              (λ more. is.last s held more begun)
        ];
      }

-- ---- more times
module _ (window : ℕ) (times all : List ℤ) (grown : (s : ℤ) → Contains times s → Contains all s) where
  -- two times of one group are so among more times
  one_up : (a c b d : ℤ) → a ≤ℤ c → Contains times c → IsBeginning window (Contains times) a b → IsBeginning window (Contains times) c b → IsBeginning window (Contains all) a d → IsBeginning window (Contains all) c d
  one_up a c b d order among first second now =
      let start : d ≤ℤ a = now.before in
      let first_low : b ≤ℤ a = first.before in
      record {
        inside = now.inside;
        before = omega (arith, ints, start, order);
        begins = now.begins;
        last = λ s held low begun. by_lt_z {P = s ≤ℤ d} a s
            (λ less.
            let (m, inside, ok, least) = least_passing (λ r. not (int_lt r s)) times c among (ap not (test_false c s low)) in
            let above : s ≤ℤ m = le_from m s (not-true (int_lt m s) ok) in
            let under : m ≤ℤ c = least c among (ap not (test_false c s low)) in
            let begins_there : Begins window (Contains times) m =
            λ r held' near. (
            let low' : r <ℤ m = near.0 in
            let width : (m -ℤ r) ≤ℤ pos window = near.1 in
            by_lt_z {P = ⊥} r s
            (λ before. begun r (grown r held') (before, omega (arith, ints, width, above)))
            (λ behind. let back : m ≤ℤ r = least r held' (ap not (test_false r s behind)) in omega (arith, ints, back, low'))) in
            let most : m ≤ℤ b = second.last m inside under begins_there in
            absurd (omega (arith, ints, most, first_low, less, above)))
            (λ more. now.last s held more begun);
      }

  -- where a group among more times has only times that were there, they were one group before
  one_down : (a c b d e : ℤ) → a ≤ℤ c → Contains times a → IsBeginning window (Contains times) a b → IsBeginning window (Contains times) c d → IsBeginning window (Contains all) a e → IsBeginning window (Contains all) c e
      → ((s : ℤ) → Contains all s → IsBeginning window (Contains all) s e → Contains times s) → b ≡ d
  one_down a c b d e order among first second first' second' old =
      let low : b ≤ℤ a = first.before in
      let up : b ≤ℤ d = second.last b first.inside (omega (arith, ints, low, order)) first.begins in
      let last_low : d ≤ℤ c = second.before in
      let start : e ≤ℤ a = first'.before in
      let down : d ≤ℤ b =
      by_lt_z {P = d ≤ℤ b} a d
      (λ less.
      let begun : Begins window (Contains all) d =
      λ r held near. (
      let below : r <ℤ d = near.0 in
      let width : (d -ℤ r) ≤ℤ pos window = near.1 in
      by_lt_z {P = ⊥} r a
      (λ before. second.begins a among (less, omega (arith, ints, width, before)))
      (λ behind.
      second.begins r
      (old r held (record { inside = first'.inside; before = omega (arith, ints, start, behind); begins = first'.begins; last = λ s held' low' begun'. second'.last s held' (omega (arith, ints, low', below, last_low)) begun' }))
      near)) in
      let top : d ≤ℤ e = second'.last d (grown d second.inside) last_low begun in
      absurd (omega (arith, ints, top, start, less)))
      (λ more. first.last d second.inside more second.begins) in
      omega (arith, ints, up, down)

  -- two times of one group are of one group among more times
  pub still_one : (a c : ℤ) → Contains times a → Contains times c → beginning window times a ≡ beginning window times c → beginning window all a ≡ beginning window all c
  still_one a c among among' same =
      let first = has_beginning window times a among in
      let second = has_beginning window times c among' in
      let first' = has_beginning window all a (grown a among) in
      let second' = has_beginning window all c (grown c among') in
      by_lt_z {P = beginning window all a ≡ beginning window all c} a c
      (λ less.
      sym (beginning_is window all c (beginning window all a)
      (one_up a c (beginning window times c) (beginning window all a) (omega (arith, ints, less)) among' (subst (λ b. IsBeginning window (Contains times) a b) same first) second first')))
      (λ more.
      beginning_is window all a (beginning window all c)
      (one_up c a (beginning window times a) (beginning window all c) more among (subst (λ b. IsBeginning window (Contains times) c b) (sym same) second) first second'))

  -- and two of one group among more times were so before, where each time of that group was there
  pub once_one : (a c : ℤ) → Contains times a → Contains times c → beginning window all a ≡ beginning window all c
      → ((s : ℤ) → Contains all s → beginning window all s ≡ beginning window all a → Contains times s) → beginning window times a ≡ beginning window times c
  once_one a c among among' same old =
      let first = has_beginning window times a among in
      let second = has_beginning window times c among' in
      let first' = has_beginning window all a (grown a among) in
      let second' = subst (λ b. IsBeginning window (Contains all) c b) (sym same) (has_beginning window all c (grown c among')) in
      let e = beginning window all a in
      let were : (s : ℤ) → Contains all s → IsBeginning window (Contains all) s e → Contains times s = λ s held is. old s held (beginning_is window all s e is) in
      by_lt_z {P = beginning window times a ≡ beginning window times c} a c
      (λ less. one_down a c (beginning window times a) (beginning window times c) e (omega (arith, ints, less)) among first second first' second' were)
      (λ more. sym (one_down c a (beginning window times c) (beginning window times a) e more among' second first second' first' were))
