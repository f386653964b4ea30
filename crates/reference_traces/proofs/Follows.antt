-- A problem that grows by the follows of a declaration, place by place.
use Rattle.std.proofs.Common.{◌≡◌, ◌≢◌, ◌<◌, ℕ, zero, suc, ◌+◌, List, [], ◌++◌, Option, Some, None, option_to_list, All, refl, sym, ◌∙◌, ap, arith, append-nil}
use Rattle.std.proofs.lemmas.List.Elements.{All-append, All-cons, All-contains, All-nil, All-same}
use Rattle.problem_model.specs.declared.items.Follow.{Follow}
use Rattle.problem_model.specs.Problem.{ProblemLists, LeadsOn}
use Rattle.problem_model.specs.ChainNumbers.{with_follow}
use Rattle.problem.specs.Growing.{IsNewFollow}
use Rattle.decl.specs.Declaration.{Declaration, IsDeclaration, follow_from, follows_of}
use Rattle.decl.proofs.Following.{follow_listed, follows_lead, is_follow}
use Rattle.traces.proofs.Follows.{before_more, follows_before}

-- ---- one follow
leads : (d : Declaration) → IsDeclaration d → (k : ℕ) (f : Follow) → follow_from d k ≡ Some f → LeadsOn d.clocks f
leads d lawful k f is = All-contains (LeadsOn d.clocks) (follows_of d) f (follows_lead d lawful) (follow_listed d k f is)

ends_at : (d : Declaration) (k : ℕ) (f : Follow) → follow_from d k ≡ Some f → (f.earlier ≡ k) × (f.later ≡ k + 1)
ends_at d k f is = let same = (is_follow d k f is).is in (ap (λ (g : Follow). g.earlier) same, ap (λ (g : Follow). g.later) same)

earliers_two : (d : Declaration) (j k : ℕ) (f g : Follow) → j < k → follow_from d j ≡ Some f → follow_from d k ≡ Some g → f.earlier ≢ g.earlier
earliers_two d j k f g less is at same = omega (arith, less, same, (ends_at d j f is).0, (ends_at d k g at).0)

laters_two : (d : Declaration) (j k : ℕ) (f g : Follow) → j < k → follow_from d j ≡ Some f → follow_from d k ≡ Some g → f.later ≢ g.later
laters_two d j k f g less is at same = omega (arith, less, same, (ends_at d j f is).1, (ends_at d k g at).1)

-- ---- the follows from the places before one
before_suc : (d : Declaration) (n : ℕ) → follows_before d (suc n) ≡ follows_before d n ++ option_to_list (follow_from d n)
before_suc d n = ap (follows_before d) (let next : suc n ≡ n + 1 = omega arith in next) ∙ before_more d n

all_of : (P : Follow → Type 0) (o : Option Follow) → ((f : Follow) → o ≡ Some f → P f) → All P (option_to_list o)
all_of P None each = All-nil P
all_of P (Some f) each = All-cons P f [] (each f refl) (All-nil P)

-- what holds of the follow from each place holds of all
all_before : (d : Declaration) (P : Follow → Type 0) (n : ℕ) → ((k : ℕ) (f : Follow) → k < n → follow_from d k ≡ Some f → P f) → All P (follows_before d n)
all_before d P zero each = All-nil P
all_before d P (suc n) each =
    All-same P (follows_before d (suc n)) (follows_before d n ++ option_to_list (follow_from d n)) (before_suc d n)
    (All-append P (follows_before d n) (option_to_list (follow_from d n)) (all_before d P n (λ k f less is. each k f (omega (arith, less)) is)) (all_of P (follow_from d n) (λ f is. each n f (omega arith) is)))

-- ---- a problem that grows by them
-- the problem that has the clocks and the follows from the places before one
abbrev pub followed : Declaration → ℕ → ProblemLists
followed d n = record { clocks = d.clocks; follows = follows_before d n; events = []; messages = [] }

-- the follow from the next place may be added
pub follow_new : (d : Declaration) → IsDeclaration d → (n : ℕ) (f : Follow) → follow_from d n ≡ Some f → IsNewFollow (followed d n) f
follow_new d lawful n f is = record {
  leads = leads d lawful n f is;
  earlier_new = all_before d (λ g. g.earlier ≢ f.earlier) n (λ k g less at. earliers_two d k n g f less at is);
  later_new = all_before d (λ g. g.later ≢ f.later) n (λ k g less at. laters_two d k n g f less at is);
}

with_these : (d : Declaration) (n : ℕ) (o : Option Follow) → follow_from d n ≡ o → followed d (n + 1) ≡ (let p : ProblemLists = record { clocks = d.clocks; follows = follows_before d n ++ option_to_list o; events = []; messages = [] } in p)
with_these d n o is = ap (λ (fs : List Follow). let p : ProblemLists = record { clocks = d.clocks; follows = fs; events = []; messages = [] } in p) (before_more d n ∙ ap (λ (o : Option Follow). follows_before d n ++ option_to_list o) is)

-- and with it the problem has those from one place more
pub follow_more : (d : Declaration) (n : ℕ) (f : Follow) → follow_from d n ≡ Some f → with_follow (followed d n) f ≡ followed d (n + 1)
follow_more d n f is = sym (with_these d n (Some f) is)

none_there : (o : Option Follow) → ((f : Follow) → o ≡ Some f → ⊥) → o ≡ None
none_there None never = refl
none_there (Some f) never = absurd (never f refl)

-- where there is none it has them as it is
pub follow_none : (d : Declaration) (n : ℕ) (o : Option Follow) → o ≡ follow_from d n → ((f : Follow) → o ≡ Some f → ⊥) → followed d n ≡ followed d (n + 1)
follow_none d n o is never =
    ap (λ (fs : List Follow). let p : ProblemLists = record { clocks = d.clocks; follows = fs; events = []; messages = [] } in p) (sym (append-nil (follows_before d n)))
    ∙ sym (with_these d n None (sym is ∙ none_there o never))
