-- The lines of what is kept.
use Rattle.std.proofs.Common.{◌≡◌, ◌<◌, ◌≤◌, ◌+◌, ℕ, zero, suc, List, [], ◌∷◌, ◌++◌, Bool, true, false, ◌||◌, length, map, get_or, slice_get, Some, refl, sym, ◌∙◌, ap, subst, arith, inl, inr, append_assoc}
use Rattle.std.specs.Prelude.{Contains, if◌then◌else◌, codes}
use Rattle.std.specs.List.{flat_map, list_any}
use Rattle.std.proofs.lemmas.List.Elements.{All-contains}
use Rattle.std.proofs.lemmas.Bool.{cases_eq}
use Rattle.std.proofs.lemmas.Option.{slice_get_within, slice_get-get_or}
use Rattle.atto.specs.Decimal.{decimal_of}
use Rattle.line_format.specs.Words.{line_of}
use Rattle.problem_model.specs.declared.items.Clock.{Clock}
use Rattle.problem_model.specs.declared.items.Event.{Event}
use Rattle.problem_model.specs.declared.items.Follow.{Follow}
use Rattle.problem_model.specs.declared.items.Message.{Message}
use Rattle.problem_model.specs.Problem.{ProblemLists, IsProblem}
use Rattle.problem_model.specs.ProblemText.{clock_line, clock_name, event_line, event_name, follow_line, head_words, message_line, most_word, problem_text}
use Rattle.problem.specs.Line.{line_words}
use Rattle.problem.specs.Line.Line.{FollowLine}
use Rattle.thinning.specs.Thinned.{IsMarked, marked, marks_before, renumbered, thinned_by}
use Rattle.thinning.specs.Thinning.{IsMessageEnd}
use Rattle.thinning.proofs.Marked.{contained_at, place_in, one_there, kept_inside, stays_at}

-- ---- names by places
pub name_of_clock : (clocks : List Clock) (k : ℕ) (c : Clock) → slice_get clocks k ≡ Some c → clock_name clocks k ≡ c.name
name_of_clock clocks k c at = rw at refl

pub name_of_event : (events : List Event) (k : ℕ) (e : Event) → slice_get events k ≡ Some e → event_name events k ≡ e.name
name_of_event events k e at = rw at refl

pub follow_text : (clocks : List Clock) (f : Follow) (a b : Clock) → slice_get clocks f.earlier ≡ Some a → slice_get clocks f.later ≡ Some b → line_of (line_words (FollowLine a.name b.name f.gap)) ≡ follow_line clocks f
follow_text clocks f a b at there =
    ap (λ (n : List ℕ). line_of (codes "follow" ∷ n ∷ b.name ∷ decimal_of f.gap ∷ [])) (sym (name_of_clock clocks f.earlier a at))
    ∙ ap (λ (n : List ℕ). line_of (codes "follow" ∷ clock_name clocks f.earlier ∷ n ∷ decimal_of f.gap ∷ [])) (sym (name_of_clock clocks f.later b there))

-- ---- one line for each place, if its mark is true
-- each element with its mark
abbrev pub beside : {X : Type 0} → List X → List Bool → List (X × Bool)
beside [] marks = []
beside (x ∷ xs) [] = []
beside (x ∷ xs) (mark ∷ marks) = (x, mark) ∷ beside xs marks

abbrev pub line_if : {X : Type 0} → (X → List ℕ) → X × Bool → List ℕ
line_if line x = if x.1 then line x.0 else []

pub lines_marked : {X : Type 0} (line : X → List ℕ) (xs : List X) (marks : List Bool) → flat_map (line_if line) (beside xs marks) ≡ flat_map line (marked xs marks)
lines_marked line [] marks = refl
lines_marked line (x ∷ xs) [] = refl
lines_marked line (x ∷ xs) (false ∷ marks) = lines_marked line xs marks
lines_marked line (x ∷ xs) (true ∷ marks) = ap (λ (rest : List ℕ). line x ++ rest) (lines_marked line xs marks)

pub beside_at : {X : Type 0} (xs : List X) (marks : List Bool) (k : ℕ) (x : X) (mark : Bool) → slice_get xs k ≡ Some x → slice_get marks k ≡ Some mark → slice_get (beside xs marks) k ≡ Some (x, mark)
beside_at [] marks k x mark at there = absurd cc
beside_at (y ∷ xs) [] k x mark at there = absurd cc
beside_at (y ∷ xs) (b ∷ marks) zero x mark at there = let one : y ≡ x = cc in let two : b ≡ mark = cc in rw (one, two) refl
beside_at (y ∷ xs) (b ∷ marks) (suc k) x mark at there = beside_at xs marks k x mark at there

pub there_at : {X : Type 0} (xs : List X) (marks : List Bool) (k : ℕ) (x : X) → slice_get xs k ≡ Some x → length marks ≡ length xs → slice_get (beside xs marks) k ≡ Some (x, get_or marks k false)
there_at xs marks k x at each =
    let inside : k < length xs = slice_get_within xs k x at in
    beside_at xs marks k x (get_or marks k false) at (slice_get-get_or marks k false (omega (arith, inside, each)))

pub beside_short : {X : Type 0} (xs : List X) (marks : List Bool) → length (beside xs marks) ≤ length xs
beside_short [] marks = omega arith
beside_short (x ∷ xs) [] = omega arith
beside_short (x ∷ xs) (mark ∷ marks) = omega (arith, beside_short xs marks)

-- ---- the version
-- none of the first k that are marked passes
abbrev pub NonePasses : {X : Type 0} → (X → Bool) → List X → List Bool → ℕ → Type 0
NonePasses {X} test xs marks k = (j : ℕ) (x : X) → j < k → slice_get xs j ≡ Some x → IsMarked marks j → test x ≡ false

pub none_pass : {X : Type 0} (test : X → Bool) (xs : List X) (marks : List Bool) → ((j : ℕ) (x : X) → slice_get xs j ≡ Some x → IsMarked marks j → test x ≡ false) → list_any test (marked xs marks) ≡ false
none_pass test [] marks none = refl
none_pass test (x ∷ xs) [] none = refl
none_pass test (x ∷ xs) (false ∷ marks) none = none_pass test xs marks (λ j y at mark. none (suc j) y at mark)
none_pass test (x ∷ xs) (true ∷ marks) none =
    let first : test x ≡ false = none 0 x refl refl in
    rw first (none_pass test xs marks (λ j y at mark. none (suc j) y at mark))

pub one_passes : {X : Type 0} (test : X → Bool) (xs : List X) (marks : List Bool) (k : ℕ) (x : X) → slice_get xs k ≡ Some x → IsMarked marks k → test x ≡ true → list_any test (marked xs marks) ≡ true
one_passes test [] marks k x at mark passes = absurd cc
one_passes test (y ∷ xs) [] k x at mark passes = absurd cc
one_passes test (y ∷ xs) (false ∷ marks) zero x at mark passes = absurd cc
one_passes test (y ∷ xs) (true ∷ marks) zero x at mark passes = let same : y ≡ x = cc in rw (same, passes) refl
one_passes test (y ∷ xs) (false ∷ marks) (suc k) x at mark passes = one_passes test xs marks k x at mark passes
one_passes test (y ∷ xs) (true ∷ marks) (suc k) x at mark passes = or_true (test y) (list_any test (marked xs marks)) (one_passes test xs marks k x at mark passes)
  where
    or_true : (a b : Bool) → b ≡ true → (a || b) ≡ true
    or_true true b is = refl
    or_true false b is = is

pub pass_more : {X : Type 0} (test : X → Bool) (xs : List X) (marks : List Bool) (k : ℕ) → NonePasses test xs marks k → ((x : X) → slice_get xs k ≡ Some x → IsMarked marks k → test x ≡ false) → NonePasses test xs marks (k + 1)
pass_more test xs marks k before next j x below at mark = elim (cases_eq j k) [
  | inl same ↦ next x (subst (λ (n : ℕ). slice_get xs n ≡ Some x) same at) (subst (IsMarked marks) same mark)
  | inr differ ↦ before j x (omega (arith, below, differ)) at mark
]

-- ---- messages go by the names of their events
flat_alike : {X Y : Type 0} (line : Y → List ℕ) (other : X → List ℕ) (f : X → Y) (xs : List X) → ((x : X) → Contains xs x → line (f x) ≡ other x) → flat_map line (map f xs) ≡ flat_map other xs
flat_alike line other f [] same = refl
flat_alike line other f (x ∷ xs) same =
    ap (λ (l : List ℕ). l ++ flat_map line (map f xs)) (same x (contained_at (x ∷ xs) 0 x refl))
    ∙ ap (λ (l : List ℕ). other x ++ l) (flat_alike line other f xs (λ y inside. same y (further y inside)))
  where
    further : (y : _) → Contains xs y → Contains (x ∷ xs) y
    further y inside = let (k, at) = place_in xs y inside in contained_at (x ∷ xs) (suc k) y at

module _ (p : ProblemLists) (lawful : IsProblem p) (stays keeps : List Bool) (ends : (m : Message) (e : ℕ) → Contains (marked p.messages keeps) m → IsMessageEnd e m → IsMarked stays e) where
  abbrev its_events : List Event
  its_events = marked p.events stays

  abbrev its_messages : List Message
  its_messages = marked p.messages keeps

  same_name : (e : ℕ) → e < length p.events → IsMarked stays e → event_name its_events (marks_before stays e) ≡ event_name p.events e
  same_name e inside mark =
      let (v, at) = one_there p.events e inside in
      name_of_event its_events (marks_before stays e) v (stays_at p.events stays e v at mark) ∙ sym (name_of_event p.events e v at)

  same_line : (m : Message) → Contains its_messages m → message_line its_events (renumbered stays m) ≡ message_line p.events m
  same_line m inside =
      let whole : Contains p.messages m = kept_inside p.messages keeps m inside in
      let send = same_name m.send (All-contains (λ (n : Message). n.send < length p.events) p.messages m lawful.formed.sends whole) (ends m m.send inside (inl refl)) in
      let receive = same_name m.receive (All-contains (λ (n : Message). n.receive < length p.events) p.messages m lawful.formed.receives whole) (ends m m.receive inside (inr refl)) in
      ap (λ (n : List ℕ). line_of (codes "message" ∷ n ∷ event_name its_events (marks_before stays m.receive) ∷ decimal_of m.least ∷ most_word m.most ∷ [])) send
      ∙ ap (λ (n : List ℕ). line_of (codes "message" ∷ event_name p.events m.send ∷ n ∷ decimal_of m.least ∷ most_word m.most ∷ [])) receive

  same_lines : flat_map (message_line p.events) its_messages ≡ flat_map (message_line its_events) (map (renumbered stays) its_messages)
  same_lines = sym (flat_alike (message_line its_events) (message_line p.events) (renumbered stays) its_messages same_line)

  pub whole_text : (version : ℕ) → head_words p.follows its_events ≡ codes "problem" ∷ decimal_of version ∷ [] →
      line_of (codes "problem" ∷ decimal_of version ∷ []) ++ flat_map clock_line p.clocks ++ flat_map (follow_line p.clocks) p.follows ++ flat_map (event_line p.clocks) its_events ++ flat_map (message_line p.events) its_messages ++ line_of (codes "end" ∷ [])
      ≡ problem_text (thinned_by p stays keeps)
  whole_text version head =
      let clocks = flat_map clock_line p.clocks in
      let follows = flat_map (follow_line p.clocks) p.follows in
      let events = flat_map (event_line p.clocks) its_events in
      let last = line_of (codes "end" ∷ []) in
      ap (λ (ws : List (List ℕ)). line_of ws ++ clocks ++ follows ++ events ++ flat_map (message_line p.events) its_messages ++ last) (sym head)
      ∙ ap (λ (front : List ℕ). front ++ flat_map (message_line p.events) its_messages ++ last) (append_assoc (line_of (head_words p.follows its_events) ++ clocks) follows events)
      ∙ ap (λ (lines : List ℕ). line_of (head_words p.follows its_events) ++ clocks ++ (follows ++ events) ++ lines ++ last) same_lines
