-- What is held of the clocks, as a problem grows.
use Rattle.std.proofs.Common.{◌≡◌, ◌≢◌, ◌<◌, ◌≤◌, ℕ, suc, List, [], ◌∷◌, ◌++◌, length, get_or, Bool, true, false, cond, nat_eq, Option, Some, None, refl, sym, ◌∙◌, ap, subst, arith, inl, inr, length-append}
use Rattle.std.specs.Prelude.{All, AllPairs, Contains, find, IsTrue, ◌↔◌}
use Rattle.std.specs.List.{AllByRecursion}
use Rattle.std.specs.Option.{option_or}
use Rattle.std.proofs.lemmas.Bool.{cases_eq}
use Rattle.std.proofs.lemmas.List.{get_or_default}
use Rattle.std.proofs.lemmas.List.Elements.{recursion_from_All, All-from_recursion}
use Rattle.std.proofs.lemmas.List.Folds.{find-append}
use Rattle.problem_model.specs.declared.items.Clock.{Clock}
use Rattle.problem_model.specs.declared.items.Event.{Event}
use Rattle.problem_model.specs.declared.items.Follow.{Follow}
use Rattle.problem_model.specs.declared.items.Message.{Message}
use Rattle.problem_model.specs.Problem.{ProblemLists, empty_problem, IsWellFormed, LeadsOn}
use Rattle.problem_model.specs.Bounds.{LinesLead, ComesAfter}
use Rattle.problem_model.specs.ChainNumbers.{AreChainNumbers}
use Rattle.problem_model.specs.ShortList.{follow_to}
use Rattle.problem_model.proofs.Chains.{Among, among, each_among}
use Rattle.problem_model.proofs.OneList.{contained}
use Rattle.problem_model.proofs.Following.{chained_by, by_last, ends_rise}
use Rattle.problem_model.proofs.NearestFollows.{rises_after}
use Rattle.problem.specs.declared.chains.Link.{Link}
use Rattle.problem.specs.Growing.{IsNewFollow, with_clock, with_event, with_message}
use Rattle.problem.specs.Inside.{AreLinks, AreChainCounts, link_at, follow_of_earlier}
use Rattle.problem.proofs.OneLink.{lone, nothing, test_true, test_false, more_at}
use Rattle.problem.proofs.Counted.{counted_more}

-- ---- a follow by the clock at one of its ends
some_same : {X : Type 0} (a b : X) → Some a ≡ Some b → a ≡ b
some_same a b e = cc

or_none : {X : Type 0} (o : Option X) → option_or o None ≡ o
or_none None = refl
or_none (Some x) = refl

module _ (end : Follow → ℕ) where
  abbrev pub by_end : List Follow → ℕ → Option Follow
  by_end follows k = find (λ f. nat_eq (end f) k) follows

  none_by : (follows : List Follow) (k : ℕ) → AllByRecursion (λ f. end f ≢ k) follows → by_end follows k ≡ None
  none_by [] k all = refl
  none_by (f ∷ follows) k all = rw (test_false (end f) k all.0) (none_by follows k all.1)

  pub none_end : (follows : List Follow) (k : ℕ) → All (λ f. end f ≢ k) follows → by_end follows k ≡ None
  none_end follows k all = none_by follows k (recursion_from_All (λ f. end f ≢ k) follows all)

  all_step : (f : Follow) (follows : List Follow) (k : ℕ) (b : Bool) → nat_eq (end f) k ≡ b → (by_end follows k ≡ None → AllByRecursion (λ g. end g ≢ k) follows)
      → cond b (Some f) (by_end follows k) ≡ None → AllByRecursion (λ g. end g ≢ k) (f ∷ follows)
  all_step f follows k true test rest none = absurd cc
  all_step f follows k false test rest none = ((λ is. grind (arith, test, is)), rest none)

  all_by : (follows : List Follow) (k : ℕ) → by_end follows k ≡ None → AllByRecursion (λ f. end f ≢ k) follows
  all_by [] k none = tt
  all_by (f ∷ follows) k none = all_step f follows k (nat_eq (end f) k) refl (all_by follows k) none

  pub all_end : (follows : List Follow) (k : ℕ) → by_end follows k ≡ None → All (λ f. end f ≢ k) follows
  all_end follows k none = All-from_recursion (λ f. end f ≢ k) follows (all_by follows k none)

  found_step : (k : ℕ) (g : Follow) (follows : List Follow) (f : Follow) (b : Bool) → nat_eq (end g) k ≡ b → (by_end follows k ≡ Some f → Among follows f × (end f ≡ k))
      → cond b (Some g) (by_end follows k) ≡ Some f → Among (g ∷ follows) f × (end f ≡ k)
  found_step k g follows f true test rest is =
      let one : g ≡ f = some_same g f is in
      let same : end g ≡ end f = ap end one in (inl one, grind (arith, test, same))
  found_step k g follows f false test rest is = let there = rest is in (inr there.0, there.1)

  found_by : (follows : List Follow) (k : ℕ) (f : Follow) → by_end follows k ≡ Some f → Among follows f × (end f ≡ k)
  found_by [] k f is = absurd cc
  found_by (g ∷ follows) k f is = found_step k g follows f (nat_eq (end g) k) refl (found_by follows k f) is

  pub found_end : (follows : List Follow) (k : ℕ) (f : Follow) → by_end follows k ≡ Some f → Contains follows f × (end f ≡ k)
  found_end follows k f is = let found = found_by follows k f is in (contained follows f found.0, found.1)

  abbrev EndsDiffer : List Follow → Type 0
  EndsDiffer [] = Unit {0}
  EndsDiffer (f ∷ follows) = AllByRecursion (λ g. end f ≢ end g) follows × EndsDiffer follows

  ends_differ : (follows : List Follow) → AllPairs (λ f g. end f ≢ end g) follows → EndsDiffer follows
  ends_differ [] pairs = tt
  ends_differ (f ∷ follows) pairs = (
    recursion_from_All (λ g. end f ≢ end g) follows (λ k d inside. pairs 0 (suc k) d (omega arith) (omega (arith, inside))),
    ends_differ follows (λ i j d below inside. pairs (suc i) (suc j) d (omega (arith, below)) (omega (arith, inside))),
  )

  one_by : (follows : List Follow) (f : Follow) → EndsDiffer follows → Among follows f → by_end follows (end f) ≡ Some f
  one_by [] f differ at = absurd at
  one_by (g ∷ follows) f differ (inl is) = rw (test_true (end g) (end f) (ap end is)) (ap (λ (v : Follow). Some v) is)
  one_by (g ∷ follows) f differ (inr at) = rw (test_false (end g) (end f) (each_among (λ v. end g ≢ end v) follows f differ.0 at)) (one_by follows f differ.1 at)

  pub one_end : (follows : List Follow) (f : Follow) (k : ℕ) → AllPairs (λ f g. end f ≢ end g) follows → Contains follows f → end f ≡ k → by_end follows k ≡ Some f
  one_end follows f k pairs at is = subst (λ (n : ℕ). by_end follows n ≡ Some f) is (one_by follows f (ends_differ follows pairs) (among follows f at))

  pub more_here : (follows : List Follow) (f : Follow) (k : ℕ) → All (λ g. end g ≢ end f) follows → k ≡ end f → by_end (follows ++ f ∷ []) k ≡ Some f
  more_here follows f k all is =
      rw (is, find-append (λ g. nat_eq (end g) (end f)) follows (f ∷ []), none_end follows (end f) all, test_true (end f) (end f) refl) refl

  pub more_else : (follows : List Follow) (f : Follow) (k : ℕ) → (k ≡ end f → ⊥) → by_end (follows ++ f ∷ []) k ≡ by_end follows k
  more_else follows f k differ =
      rw (find-append (λ g. nat_eq (end g) k) follows (f ∷ []), test_false (end f) k (λ is. differ (sym is))) (or_none (by_end follows k))

-- ---- what may be added
pub new_ends : (p : ProblemLists) (f : Follow) → LeadsOn p.clocks f → None ≡ follow_of_earlier p.follows f.earlier → None ≡ follow_to p.follows f.later → IsNewFollow p f
new_ends p f leads from to = record {
  leads = leads;
  earlier_new = all_end (λ g. g.earlier) p.follows f.earlier (sym from);
  later_new = all_end (λ g. g.later) p.follows f.later (sym to);
}

pub taken_from : (p : ProblemLists) (f g : Follow) → Some g ≡ follow_of_earlier p.follows f.earlier → IsNewFollow p f → ⊥
taken_from p f g is new = let none = none_end (λ g. g.earlier) p.follows f.earlier new.earlier_new in cc

pub taken_to : (p : ProblemLists) (f g : Follow) → Some g ≡ follow_to p.follows f.later → IsNewFollow p f → ⊥
taken_to p f g is new = let none = none_end (λ g. g.later) p.follows f.later new.later_new in cc

-- ---- chains by their numbers
one_number : (x y : ℕ) → nat_eq x y ≡ true → x ≡ y
one_number x y same = grind (arith, same)

pub after_numbers : (p : ProblemLists) (ls : List Link) (c d : ℕ) (a b : Link) → AreLinks p ls → c < d → d < length p.clocks → a ≡ get_or ls c a → b ≡ get_or ls d b → IsTrue (nat_eq a.number b.number) ↔ ComesAfter p c d
after_numbers p ls c d a b links below inside left right =
    let here = links.numbers c d below inside in
    let count = links.each in
    let first : (link_at ls c).number ≡ a.number = ap (λ (l : Link). l.number) (get_or_default ls c nothing a (omega (arith, below, inside, count)) ∙ sym left) in
    let second : (link_at ls d).number ≡ b.number = ap (λ (l : Link). l.number) (get_or_default ls d nothing b (omega (arith, inside, count)) ∙ sym right) in
    ((λ same. here.0 (first ∙ one_number a.number b.number same ∙ sym second)), (λ after. test_true a.number b.number (sym first ∙ here.1 after ∙ second)))

pub not_after : (p : ProblemLists) (c d : ℕ) → IsWellFormed p → d ≤ c → ComesAfter p c d → ⊥
not_after p c d formed above after = let rise = rises_after p (chained_by p formed) c d after in omega (arith, above, rise)

pub links_none : AreLinks empty_problem []
links_none = record {
  each = refl;
  befores = λ k. refl;
  afters = λ k. refl;
  numbers = λ c d below inside. absurd (omega (arith, inside));
  counted = record { places = λ k inside. absurd (omega (arith, inside)); sizes = λ k inside. absurd (omega (arith, inside)) };
}

-- ---- problems with the same follows
same_leads : (p q : ProblemLists) → p.follows ≡ q.follows → (c : ℕ) (lines : List Follow) (d : ℕ) → LinesLead p c lines d → LinesLead q c lines d
same_leads p q same c [] d leads = leads
same_leads p q same c (f ∷ lines) d leads = (subst (λ (follows : List Follow). Contains follows f) same leads.0, leads.1, same_leads p q same f.later lines d leads.2)

same_after : (p q : ProblemLists) → p.follows ≡ q.follows → (c d : ℕ) → ComesAfter p c d → ComesAfter q c d
same_after p q same c d after = (after.0, after.1, same_leads p q same c (after.0 ∷ after.1) d after.2)

pub links_event : (p : ProblemLists) (e : Event) (ls : List Link) → AreLinks p ls → AreLinks (with_event p e) ls
links_event p e ls links = record {
  each = links.each;
  befores = links.befores;
  afters = links.afters;
  numbers = λ c d below inside.
      let here = links.numbers c d below inside in
      ((λ same. same_after p (with_event p e) refl c d (here.0 same)), (λ after. here.1 (same_after (with_event p e) p refl c d after)));
  counted = links.counted;
}

pub links_message : (p : ProblemLists) (m : Message) (ls : List Link) → AreLinks p ls → AreLinks (with_message p m) ls
links_message p m ls links = record {
  each = links.each;
  befores = links.befores;
  afters = links.afters;
  numbers = λ c d below inside.
      let here = links.numbers c d below inside in
      ((λ same. same_after p (with_message p m) refl c d (here.0 same)), (λ after. here.1 (same_after (with_message p m) p refl c d after)));
  counted = links.counted;
}

-- ---- a clock more
module _ (p : ProblemLists) (c : Clock) (ls : List Link) (formed : IsWellFormed p) (links : AreLinks p ls) where
  more : List Link
  more = ls ++ lone (length p.clocks) ∷ []

  abbrev NumberOf : List Link → ℕ → ℕ
  NumberOf ls k = (link_at ls k).number

  before_more : (k : ℕ) → (link_at (ls ++ lone (length p.clocks) ∷ []) k).before ≡ (link_at ls k).before
  before_more k = elim (more_at ls (length p.clocks) k links.each) [
    | inl at ↦ ap (λ (l : Link). l.before) at.2 ∙ sym (ap (λ (l : Link). l.before) at.1)
    | inr other ↦ ap (λ (l : Link). l.before) other.1
  ]

  after_more : (k : ℕ) → (link_at (ls ++ lone (length p.clocks) ∷ []) k).after ≡ (link_at ls k).after
  after_more k = elim (more_at ls (length p.clocks) k links.each) [
    | inl at ↦ ap (λ (l : Link). l.after) at.2 ∙ sym (ap (λ (l : Link). l.after) at.1)
    | inr other ↦ ap (λ (l : Link). l.after) other.1
  ]

  number_more : (k : ℕ) → (k ≡ length p.clocks → ⊥) → NumberOf (ls ++ lone (length p.clocks) ∷ []) k ≡ NumberOf ls k
  number_more k differ = elim (more_at ls (length p.clocks) k links.each) [
    | inl at ↦ absurd (differ at.0)
    | inr other ↦ ap (λ (l : Link). l.number) other.1
  ]

  number_last : (k : ℕ) → k ≡ length p.clocks → NumberOf (ls ++ lone (length p.clocks) ∷ []) k ≡ length p.clocks
  number_last k is = elim (more_at ls (length p.clocks) k links.each) [
    | inl at ↦ ap (λ (l : Link). l.number) at.2
    | inr other ↦ absurd (other.0 is)
  ]

  not_to_last : (b d : ℕ) → d ≡ length p.clocks → ComesAfter p b d → ⊥
  not_to_last b d is after =
      let last = by_last p b d after in
      let end = (ends_rise p (chained_by p formed) [] tt last.0 last.1.0).1 in
      let same = last.1.1 in omega (arith, end, same, is)

  number_differs : (b d : ℕ) → b < d → d ≡ length p.clocks → NumberOf (ls ++ lone (length p.clocks) ∷ []) b ≡ NumberOf (ls ++ lone (length p.clocks) ∷ []) d → ⊥
  number_differs b d below is same =
      let count = links.each in
      let place = links.counted.places b (omega (arith, below, is, count)) in
      let first = number_more b (λ e. omega (arith, e, below, is)) in
      let second = number_last d is in omega (arith, is, same, first, second, place, count)

  numbers_more : AreChainNumbers (with_clock p c) (NumberOf (ls ++ lone (length p.clocks) ∷ []))
  numbers_more b d below inside = elim (cases_eq d (length p.clocks)) [
    | inl is ↦ ((λ same. absurd (number_differs b d below is same)), (λ after. absurd (not_to_last b d is (same_after (with_clock p c) p refl b d after))))
    | inr differ ↦
        let within : d < length p.clocks = (let less = rw length-append at inside in omega (arith, less, differ)) in
        let here = links.numbers b d below within in
        let first = number_more b (λ is. omega (arith, is, below, within)) in
        let second = number_more d differ in
        ((λ same. same_after p (with_clock p c) refl b d (here.0 (sym first ∙ same ∙ second))), (λ after. first ∙ here.1 (same_after (with_clock p c) p refl b d after) ∙ sym second))
  ]

  pub links_clock : AreLinks (with_clock p c) (ls ++ lone (length p.clocks) ∷ [])
  links_clock = record {
    each = (
        let count = links.each in
        let longer = length-append ls (lone (length p.clocks) ∷ []) in
        let more = length-append p.clocks (c ∷ []) in omega (arith, count, longer, more)
        );
    befores = λ k. before_more k ∙ links.befores k;
    afters = λ k. after_more k ∙ links.afters k;
    numbers = numbers_more;
    counted = subst (λ (n : ℕ). AreChainCounts (ls ++ lone n ∷ [])) links.each (counted_more ls links.counted);
  }
