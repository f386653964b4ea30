-- The lines of follows, from the places of the clocks.
use Rattle.std.proofs.Common.{◌≡◌, ◌<◌, ◌≤◌, ◌+◌, ℕ, List, [], ◌∷◌, ◌++◌, length, get_or, option_to_list, Option, Some, None, Contains, true, false, refl, sym, ◌∙◌, ap, arith}
use Rattle.std.specs.Prelude.{codes, is_some}
use Rattle.std.specs.List.{flat_map, range_with_len}
use Rattle.std.proofs.lemmas.List.{append-nil, length-map}
use Rattle.std.proofs.lemmas.List.Elements.{All-contains}
use Rattle.std.proofs.lemmas.List.FromFn.{get_or-range_with_len, length-range_with_len}
use Rattle.problem_model.specs.declared.items.Clock.{Clock}
use Rattle.problem_model.specs.declared.items.Follow.{Follow}
use Rattle.problem_model.specs.Problem.{LeadsOn}
use Rattle.problem_model.specs.ProblemText.{follow_line, followed_head, plain_head}
use Rattle.problem_model.specs.Limits.{most_clocks}
use Rattle.atto.specs.Decimal.{decimal_of}
use Rattle.line_format.specs.Words.{line_of}
use Rattle.decl.specs.Declaration.{Declaration, IsDeclaration, follow_from, follows_of}
use Rattle.decl.proofs.Following.{follow_listed, follows_lead}
use Rattle.traces.proofs.Members.{none_in}
use Rattle.traces.proofs.Follows.{before_more, follows_before}
use Rattle.roster.specs.Roster.{RosterLists, IsRoster, listed}
use Rattle.problem_text.specs.RosterText.{next_line, roster_head}
use Rattle.problem_text.proofs.Lists.{given_twice}

-- ---- the follow from one place
-- there are no more owners than clocks
pub few_owners : (d : Declaration) (r : RosterLists) → d ≡ r.declaration → IsRoster r → length d.owners ≤ most_clocks
few_owners d r same is =
    let owners : length d.owners ≡ length r.declaration.owners = ap (λ (d : Declaration). length d.owners) same in
    omega (arith, owners, is.declared.clocks.clocks_owned, is.declared.limits.clock_limit)

-- it is between two clocks
pub leads : (d : Declaration) (k : ℕ) (f : Follow) → IsDeclaration d → follow_from d k ≡ Some f → LeadsOn d.clocks f
leads d k f lawful is = All-contains (LeadsOn d.clocks) (follows_of d) f (follows_lead d lawful) (follow_listed d k f is)

-- a clock has a name that is listed
pub has_clock : (r : RosterLists) (c : ℕ) → c < length r.declaration.clocks → c < length (listed r).clock_names
has_clock r c inside = omega (arith, inside, length-map r.declaration.clocks (λ (x : Clock). x.name))

pub next_is : (d : Declaration) (k : ℕ) (f : Follow) → follow_from d k ≡ Some f → follow_line d.clocks f ≡ next_line d k
next_is d k f is = sym (append-nil (follow_line d.clocks f)) ∙ ap (λ o. flat_map (follow_line d.clocks) (option_to_list o)) (sym is)

-- ---- those from all places
pub place_inside : (n k : ℕ) → k < n → k < length (range_with_len 0 n)
place_inside n k inside = omega (arith, inside, length-range_with_len 0 n)

pub place_is : (n k : ℕ) → k < n → k ≡ get_or (range_with_len 0 n) k k
place_is n k inside = omega (arith, get_or-range_with_len 0 n k k inside)

pub places_end : (n k : ℕ) → n ≤ k → length (range_with_len 0 n) ≤ k
places_end n k past = omega (arith, past, length-range_with_len 0 n)

pub by_place : (d : Declaration) → flat_map (follow_line d.clocks) (follows_of d) ≡ flat_map (next_line d) (range_with_len 0 (length d.owners))
by_place d = given_twice (follow_line d.clocks) (λ k. option_to_list (follow_from d k)) (range_with_len 0 (length d.owners))

-- ---- the head
followed : (fs : List Follow) (f : Follow) → Contains fs f → plain_head fs ≡ followed_head
followed [] f held = absurd (none_in f held)
followed (g ∷ fs) f held = refl

-- a follow from one place makes the text one of version 2
pub version_two : (d : Declaration) (k : ℕ) (o : Option Follow) → o ≡ follow_from d k → is_some o ≡ true → plain_head (follows_of d) ≡ followed_head
version_two d k None is some = absurd (cc)
version_two d k (Some f) is some = followed (follows_of d) f (follow_listed d k f (sym is))

-- where there is none from the next place there is none from all places so far
pub none_more : (d : Declaration) (k : ℕ) (o : Option Follow) → o ≡ follow_from d k → is_some o ≡ false → follows_before d k ≡ [] → follows_before d (k + 1) ≡ []
none_more d k None is some none = before_more d k ∙ ap (λ (fs : List Follow). fs ++ option_to_list (follow_from d k)) none ∙ ap option_to_list (sym is)
none_more d k (Some f) is some none = absurd (cc)

-- the line of the head, by the version
pub head_line : (r : RosterLists) (version : ℕ) → roster_head r ≡ codes "problem" ∷ decimal_of version ∷ [] → line_of (codes "problem" ∷ decimal_of version ∷ []) ≡ line_of (roster_head r)
head_line r version is = ap line_of (sym is)
