-- What the reader answers, from what the text answers.
use Rattle.std.proofs.Common.{◌≡◌, ◌≢◌, ◌≤◌, ◌+◌, ℕ, List, [], ◌∷◌, ◌++◌, ◌⊎◌, inl, inr, length, get_or, drop, AllPairs, Bool, true, false, is_some, Some, None, Ok, Err, codes, refl, sym, ◌∙◌, ap, arith, append_assoc, length-append}
use Rattle.std.proofs.lemmas.Bool.{cases_lt}
use Rattle.std.specs.List.{flat_map, AllByRecursion}
use Rattle.std.proofs.lemmas.List.Elements.{recursion_from_All}
use Rattle.line_format.specs.Words.{words, line_of}
use Rattle.line_format.specs.Cut.{cut}
use Rattle.line_format.specs.Format.{Answer, Answers, Takes, head_line, whole_text, most_text_bytes}
use Rattle.line_format.specs.Format.Answer.{Found, Faulty}
use Rattle.line_format.specs.declared.fault.FaultKind.{FaultKind}
use Rattle.line_format.specs.declared.fault.FaultKind.TheVariants as kinds
use Rattle.line_format.specs.declared.fault.LineError.{LineError}
use Rattle.line_format.specs.declared.fault.LineError.TheVariants as errors
use Rattle.line_format.specs.declared.fault.Taken.TheVariants as taken
use Rattle.line_format.proofs.Reading.{Stands, fault_answers, cut_answers, end_answers, more_answers, head_answers, stands_first}
use Rattle.problem_model.specs.declared.items.Follow.{Follow}
use Rattle.problem_model.specs.declared.items.Event.{Event}
use Rattle.problem_model.specs.Problem.{ProblemLists, IsProblem, empty_problem}
use Rattle.problem_model.specs.ProblemText.{problem_text, problem_head, followed_head, own_head, plain_head, have_bounds, head_words, clock_line, follow_line, event_line, message_line}
use Rattle.problem.specs.declared.errors.ProblemError.TheVariants as problems
use Rattle.problem.specs.Line.{head_with, AreBounded, IsInOrder, IsSaid, HasWhatItNeeds, open_text, open_lines, problem_format}
use Rattle.problem.proofs.Taking.{clocks_in_order}
use Rattle.problem.proofs.Growing.{alike_as_first}
use Rattle.problem.specs.declared.version.Version.{Version}
use Rattle.problem.specs.declared.version.Version.TheVariants.{First, Second, Third}
use Rattle.problem.specs.Faults.{fault_of_kind, text_fault}
use Rattle.problem.specs.Reading.{IsSecond, IsThird, AnswersProblem, Reads}
use Rattle.problem.proofs.OneLine.{line_lacks}

-- ---- which version a text is of
-- two numbers are one or not
same_or_not : (m n : ℕ) → (m ≡ n) ⊎ (m ≢ n)
same_or_not m n = elim (cases_lt m n) [
  | inl below ↦ inr (λ same. omega (arith, below, same))
  | inr le ↦ elim (cases_lt n m) [
    | inl below ↦ inr (λ same. omega (arith, below, same))
    | inr le' ↦ inl (omega (arith, le, le'))
  ]
]

abbrev IsFront : List ℕ → List ℕ → Type 0
IsFront front text = (more : List ℕ) × (text ≡ front ++ more)

-- a list begins with another or does not
front_or_not : (front text : List ℕ) → IsFront front text ⊎ (IsFront front text → ⊥)
front_or_not [] text = inl (text, refl)
front_or_not (x ∷ front) [] = inr (λ is. let h : [] ≡ x ∷ (front ++ is.0) = is.1 in absurd cc)
front_or_not (x ∷ front) (y ∷ text) = elim (same_or_not y x) [
  | inr other ↦ inr (λ is. other (ap (λ xs. get_or xs 0 0) is.1))
  | inl same ↦ elim (front_or_not front text) [
    | inl is ↦ inl (is.0, rw (same, is.1) refl)
    | inr none ↦ inr (λ is. none (is.0, ap (drop 1) is.1))
  ]
]

pub second_or_not : (text : List ℕ) → IsSecond text ⊎ (IsSecond text → ⊥)
second_or_not text = front_or_not (line_of followed_head) text

pub third_or_not : (text : List ℕ) → IsThird text ⊎ (IsThird text → ⊥)
third_or_not text = front_or_not (line_of own_head) text

-- a text has the head of one version
pub first_not_second : (text lines : List ℕ) → text ≡ line_of problem_head ++ lines → IsSecond text → ⊥
first_not_second text lines is second = let h : 49 ≡ 50 = ap (λ xs. get_or xs 8 0) (sym is ∙ second.1) in omega (arith, h)

first_not_third : (text lines : List ℕ) → text ≡ line_of problem_head ++ lines → IsThird text → ⊥
first_not_third text lines is third = let h : 49 ≡ 51 = ap (λ xs. get_or xs 8 0) (sym is ∙ third.1) in omega (arith, h)

second_not_third : (text : List ℕ) → IsSecond text → IsThird text → ⊥
second_not_third text second third = let h : 50 ≡ 51 = ap (λ xs. get_or xs 8 0) (sym second.1 ∙ third.1) in omega (arith, h)

-- what the format of its head answers is the answer of the text
pub version_answers : (version : Version) (text lines : List ℕ) (answer : Answer ProblemLists) → text ≡ head_line (problem_format version) ++ lines → Answers (problem_format version) text answer → AnswersProblem text answer
version_answers First text lines answer is answers = record {
  second = λ second. absurd (first_not_second text lines is second);
  third = λ third. absurd (first_not_third text lines is third);
  first = λ other another. answers;
}
version_answers Second text lines answer is answers = record {
  second = λ second. answers;
  third = λ third. absurd (second_not_third text (lines, is) third);
  first = λ other another. absurd (other (lines, is));
}
version_answers Third text lines answer is answers = record {
  second = λ second. absurd (second_not_third text second (lines, is));
  third = λ third. answers;
  first = λ other another. absurd (another (lines, is));
}

-- the problem that says nothing has the head alone
pub start_is : (version : Version) → (problem_format version).text_of empty_problem ≡ head_line (problem_format version)
start_is First = refl
start_is Second = refl
start_is Third = refl

-- ---- texts that are found
regrouped : (h a b c e : List ℕ) → (h ++ a ++ b ++ c) ++ e ≡ h ++ a ++ b ++ c ++ e
regrouped h a b c e = simp append_assoc

-- whether some event has bounds of its own, where all have or none has
none_bounded : (events : List Event) → AllByRecursion (λ (e : Event). is_some e.bounds ≡ false) events → have_bounds events ≡ false
none_bounded [] all = refl
none_bounded (e ∷ events) all = rw (all.0, none_bounded events all.1) refl

each_bounded : (events : List Event) → AllByRecursion (λ (e : Event). is_some e.bounds ≡ true) events → events ≢ [] → have_bounds events ≡ true
each_bounded [] all some = absurd (some refl)
each_bounded (e ∷ events) all some = rw all.0 refl

plain_is : (p : ProblemLists) (head : List (List ℕ)) → AreBounded false p.events → head ≡ plain_head p.follows → head ≡ head_words p.follows p.events
plain_is p head bounded is = rw (none_bounded p.events (recursion_from_All (λ e. is_some e.bounds ≡ false) p.events bounded)) is

head_is : (version : Version) (p : ProblemLists) → IsSaid version p → HasWhatItNeeds version p → head_with version ≡ head_words p.follows p.events
head_is First p said has = plain_is p problem_head said.1.1 (sym (ap plain_head said.1.0))
head_is Second p said has = plain_is p followed_head said.1.1 (followed p.follows has)
  where
    followed : (follows : List Follow) → follows ≢ [] → followed_head ≡ plain_head follows
    followed [] some = absurd (some refl)
    followed (f ∷ follows) some = refl
head_is Third p said has = rw (each_bounded p.events (recursion_from_All (λ e. is_some e.bounds ≡ true) p.events said.1.1) has) refl

-- the text with its end is that of the problem
pub whole_is : (version : Version) (p : ProblemLists) → IsSaid version p → HasWhatItNeeds version p → whole_text (problem_format version) p ≡ problem_text p
whole_is version p said has =
    let rest = flat_map (follow_line p.clocks) p.follows ++ flat_map (event_line p.clocks) p.events in
    let end = line_of (codes "end" ∷ []) in
    regrouped (line_of (head_with version)) (flat_map clock_line p.clocks) rest (flat_map (message_line p.events) p.messages) end
    ∙ ap (λ (head : List (List ℕ)). line_of head ++ flat_map clock_line p.clocks ++ rest ++ flat_map (message_line p.events) p.messages ++ end) (head_is version p said has)

found_is : (version : Version) (text : List ℕ) (p : ProblemLists) → Answers (problem_format version) text (Found p) → Reads text (Ok p)
found_is version text p found = (found.0, found.1.0, found.3 ∙ whole_is version p found.1 found.2)

-- a text that is found is that of a problem, and the other way round
pub found_reads : (text : List ℕ) (p : ProblemLists) → AnswersProblem text (Found p) → Reads text (Ok p)
found_reads text p answers = elim (second_or_not text) [
  | inl second ↦ found_is Second text p (answers.second second)
  | inr other ↦ elim (third_or_not text) [
    | inl third ↦ found_is Third text p (answers.third third)
    | inr another ↦ found_is First text p (answers.first other another)
  ]
]

-- whether events have bounds, and whether there is a follow, tells the version
abbrev IsOf : ProblemLists → Type 0
IsOf p = (version : Version) × IsInOrder version p × HasWhatItNeeds version p

plain_version : (p : ProblemLists) → AreBounded false p.events → IsOf p
plain_version p bounded = elim (none_or_some p.follows) [
  | inl none ↦ (First, (none, bounded), tt)
  | inr some ↦ (Second, ((λ none. absurd (some none)), bounded), some)
]
  where
    none_or_some : (follows : List Follow) → (follows ≡ []) ⊎ (follows ≢ [])
    none_or_some [] = inl refl
    none_or_some (f ∷ follows) = inr (λ is. absurd cc)

own_version : (p : ProblemLists) → p.events ≢ [] → AreBounded true p.events → IsOf p
own_version p some bounded = (Third, ((λ none. absurd (some none)), bounded), some)

version_by : (p : ProblemLists) (events : List Event) → p.events ≡ events → AllPairs (λ a b. is_some a.bounds ≡ is_some b.bounds) p.events → IsOf p
version_by p [] is alike = plain_version p (rw is (λ k d inside. absurd (omega (arith, inside))))
version_by p (e ∷ events) is alike = by_first (is_some e.bounds) refl
  where
    by_first : (own : Bool) → is_some e.bounds ≡ own → IsOf p
    by_first false first = plain_version p (alike_as_first e events p.events false is alike first)
    by_first true first = own_version p (λ none. let no : e ∷ events ≡ [] = sym is ∙ none in absurd cc) (alike_as_first e events p.events true is alike first)

version_for : (p : ProblemLists) → IsProblem p → IsOf p
version_for p lawful = version_by p p.events refl lawful.formed.bounds_alike

headed : (h a b c e : List ℕ) → (h ++ a ++ b ++ c) ++ e ≡ h ++ (a ++ b ++ c ++ e)
headed h a b c e = simp append_assoc

pub reads_found : (text : List ℕ) (p : ProblemLists) → Reads text (Ok p) → AnswersProblem text (Found p)
reads_found text p reads =
    let v = version_for p reads.1 in
    let is : text ≡ whole_text (problem_format v.0) p = reads.2 ∙ sym (whole_is v.0 p (reads.1, v.1) v.2) in
    version_answers v.0 text _ (Found p)
    (is ∙ headed (line_of (head_with v.0)) (flat_map clock_line p.clocks) (flat_map (follow_line p.clocks) p.follows ++ flat_map (event_line p.clocks) p.events) (flat_map (message_line p.events) p.messages) (line_of (codes "end" ∷ [])))
    (reads.0, (reads.1, v.1), v.2, is)

-- ---- what the reader answers
kind_reads : (version : Version) (text lines : List ℕ) (kind : FaultKind) (n : ℕ) → text ≡ head_line (problem_format version) ++ lines → Answers (problem_format version) text (Faulty kind n) → Reads text (Err (fault_of_kind kind n))
kind_reads version text lines kinds.Syntax n is fault = version_answers version text lines (Faulty kinds.Syntax n) is fault
kind_reads version text lines kinds.Name n is fault = version_answers version text lines (Faulty kinds.Name n) is fault
kind_reads version text lines kinds.Range n is fault = version_answers version text lines (Faulty kinds.Range n) is fault
kind_reads version text lines kinds.Limit n is fault = version_answers version text lines (Faulty kinds.Limit n) is fault

module _ (version : Version) (lines : List ℕ) where
  abbrev pub StandsAt : List ℕ → ProblemLists → ℕ → Type 0
  StandsAt rest p n = Stands (problem_format version) line_lacks (head_line (problem_format version) ++ lines) rest p n

  abbrev the_text : List ℕ
  the_text = head_line (problem_format version) ++ lines

  pub fault_reads : (rest body after : List ℕ) (p q : ProblemLists) (n : ℕ) (e : LineError) → StandsAt rest p n → cut 10 rest ≡ Some (body, after) → Takes (problem_format version) p body (Err e) q → Reads the_text (Err (text_fault e n))
  fault_reads rest body after p q n errors.Memory stands parts r = tt
  fault_reads rest body after p q n (errors.Fault kind) stands parts r = kind_reads version the_text lines kind n refl (fault_answers (problem_format version) line_lacks the_text rest body after p q n kind stands parts r)

  pub cut_reads : (rest : List ℕ) (p : ProblemLists) (n : ℕ) → StandsAt rest p n → cut 10 rest ≡ None → Reads the_text (Err (problems.Syntax n))
  cut_reads rest p n stands none = version_answers version the_text lines (Faulty kinds.Syntax n) refl (cut_answers (problem_format version) line_lacks the_text rest p n stands none)

  pub end_reads : (rest body after : List ℕ) (p q : ProblemLists) (n : ℕ) → StandsAt rest p n → cut 10 rest ≡ Some (body, after) → Takes (problem_format version) p body (Ok taken.End) q → after ≡ [] → Reads the_text (Ok q)
  end_reads rest body after p q n stands parts r none = found_is version the_text q (end_answers (problem_format version) line_lacks the_text rest body after p q n stands parts r none)

  pub more_reads : (rest body after : List ℕ) (p q : ProblemLists) (n : ℕ) → StandsAt rest p n → cut 10 rest ≡ Some (body, after) → Takes (problem_format version) p body (Ok taken.End) q → after ≢ [] → Reads the_text (Err (problems.Syntax (n + 1)))
  more_reads rest body after p q n stands parts r some = version_answers version the_text lines (Faulty kinds.Syntax (n + 1)) refl (more_answers (problem_format version) line_lacks the_text rest body after p q n stands parts r some)

  pub starts : length the_text ≤ most_text_bytes → IsProblem empty_problem → StandsAt lines empty_problem 2
  starts short lawful = stands_first (problem_format version) line_lacks the_text lines empty_problem short refl (start_is version) refl (lawful, clocks_in_order version empty_problem refl refl refl)

pub head_reads : (text : List ℕ) → length text ≤ most_text_bytes → ((version : Version) (more : List ℕ) → text ≡ head_line (problem_format version) ++ more → ⊥) → Reads text (Err (problems.Syntax 1))
head_reads text short none = record {
  second = λ second. absurd (none Second second.0 second.1);
  third = λ third. absurd (none Third third.0 third.1);
  first = λ other another. head_answers (problem_format First) line_lacks text short (none First);
}

-- ---- how many lines there are
lines_long : {A : Type 0} (line : A → List ℕ) (xs : List A) → ((x : A) → 1 ≤ length (line x)) → length xs ≤ length (flat_map line xs)
lines_long line [] some = omega arith
lines_long line (x ∷ xs) some =
    let here = some x in
    let rest = lines_long line xs some in
    omega (arith, here, rest, length-append (line x) (flat_map line xs))

line_some : (ws : List (List ℕ)) → 1 ≤ length (line_of ws)
line_some ws = omega (arith, length-append (words ws) (10 ∷ []))

-- each line takes a byte
pub lines_fit : (version : Version) (p : ProblemLists) → open_lines p ≤ length (open_text version p)
lines_fit version p =
    let head = line_some (head_with version) in
    let clocks = lines_long clock_line p.clocks (λ c. omega arith) in
    let follows = lines_long (follow_line p.clocks) p.follows (λ f. omega arith) in
    let events = lines_long (event_line p.clocks) p.events (λ e. omega arith) in
    let messages = lines_long (message_line p.events) p.messages (λ m. omega arith) in
    omega (
      arith,
      head,
      clocks,
      follows,
      events,
      messages,
      length-append (line_of (head_with version) ++ flat_map clock_line p.clocks ++ (flat_map (follow_line p.clocks) p.follows ++ flat_map (event_line p.clocks) p.events)) (flat_map (message_line p.events) p.messages),
      length-append (line_of (head_with version) ++ flat_map clock_line p.clocks) (flat_map (follow_line p.clocks) p.follows ++ flat_map (event_line p.clocks) p.events),
      length-append (line_of (head_with version)) (flat_map clock_line p.clocks),
      length-append (flat_map (follow_line p.clocks) p.follows) (flat_map (event_line p.clocks) p.events),
    )

-- a line's number is no more than the text has bytes, and one
pub number_fits : (version : Version) (lines rest : List ℕ) (p : ProblemLists) (n : ℕ) → StandsAt version lines rest p n → n ≤ most_text_bytes + 1
number_fits version lines rest p n stands =
    let few = lines_fit version p in
    let size : length (head_line (problem_format version) ++ lines) ≡ length (open_text version p) + length rest = ap length stands.is ∙ length-append (open_text version p) rest in
    let number = stands.number in
    let short = stands.short in
    omega (arith, few, size, number, short)
