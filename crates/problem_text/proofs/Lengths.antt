-- How long the text of a lawful problem is.
use Rattle.std.proofs.Common.{◌≡◌, ◌<◌, ◌≤◌, ◌+◌, ◌^◌, ℕ, zero, suc, List, [], ◌∷◌, ◌++◌, length, get_or, Option, Some, None, Bool, true, false, if◌then◌else◌, codes, All, refl, arith, length-append}
use Rattle.std.specs.Prelude.{IfSome}
use Rattle.std.specs.List.{flat_map}
use Rattle.std.proofs.lemmas.List.Elements.{All-head, All-tail}
use Rattle.atto.specs.Decimal.{decimal_of}
use Rattle.atto.proofs.DecimalLemmas.{length-decimal_of-le}
use Rattle.line_format.specs.Words.{line_of}
use Rattle.problem_model.specs.declared.items.Clock.{Clock}
use Rattle.problem_model.specs.declared.items.Follow.{Follow}
use Rattle.problem_model.specs.declared.items.Event.{Event}
use Rattle.problem_model.specs.declared.items.Message.{Message}
use Rattle.problem_model.specs.Name.{IsEventName, IsClockName}
use Rattle.problem_model.specs.declared.items.StampBounds.{StampBounds}
use Rattle.problem_model.specs.Problem.{ProblemLists, IsProblem, ClockFits, EventFits, MessageFits}
use Rattle.problem_model.specs.ProblemText.{bound_words, have_bounds, head_words, own_head, plain_head, problem_text, clock_line, follow_line, event_line, message_line, clock_name, event_name, most_word}
use Rattle.line_format.proofs.Lengths.{line_size, lines_short}
use Rattle.line_format.specs.Format.{most_text_bytes}
use Rattle.problem_text.proofs.FewFollows.{few_follows}

-- ---- words
nano_short : (n : ℕ) → n < 2 ^ 62 → length (decimal_of n) ≤ 19
nano_short n small = length-decimal_of-le 19 n (omega arith) (let below : 2 ^ 62 ≤ 10 ^ 19 = omega arith in omega (arith, small, below))

most_short : (most : Option ℕ) → IfSome most (λ n. n < 2 ^ 62) → length (most_word most) ≤ 19
most_short None fits = omega arith
most_short (Some n) fits = nano_short n fits

clock_name_short : (cs : List Clock) → All (λ c. IsClockName c.name) cs → (k : ℕ) → length (clock_name cs k) ≤ 32
clock_name_short [] all k = omega arith
clock_name_short (c ∷ cs) all zero = (All-head (λ (c : Clock). IsClockName c.name) c cs all).short
clock_name_short (c ∷ cs) all (suc k) = clock_name_short cs (All-tail (λ (c : Clock). IsClockName c.name) c cs all) k

event_name_short : (es : List Event) → All (λ e. IsEventName e.name) es → (k : ℕ) → length (event_name es k) ≤ 48
event_name_short [] all k = omega arith
event_name_short (e ∷ es) all zero = (All-head (λ (e : Event). IsEventName e.name) e es all).short
event_name_short (e ∷ es) all (suc k) = event_name_short es (All-tail (λ (e : Event). IsEventName e.name) e es all) k

-- ---- lines
clock_short : (c : Clock) → IsClockName c.name → ClockFits c → length (clock_line c) ≤ 100
clock_short c named fits =
    let size : length (clock_line c) ≡ 5 + 1 + (length c.name + 1 + (length (decimal_of c.rate.short) + 1 + (length (decimal_of c.rate.long) + 1 + (length (decimal_of c.early) + 1 + (length (decimal_of c.late) + 1 + 0))))) =
    line_size (codes "clock") (c.name ∷ decimal_of c.rate.short ∷ decimal_of c.rate.long ∷ decimal_of c.early ∷ decimal_of c.late ∷ []) in
    let short : length (decimal_of c.rate.short) ≤ 9 = length-decimal_of-le 9 c.rate.short (omega arith) (let below = fits.0 in omega (arith, below)) in
    let long : length (decimal_of c.rate.long) ≤ 10 = length-decimal_of-le 10 c.rate.long (omega arith) (let below = fits.1 in omega (arith, below)) in
    omega (arith, size, named.short, short, long, nano_short c.early fits.2, nano_short c.late fits.3)

follow_short : (cs : List Clock) (f : Follow) → All (λ c. IsClockName c.name) cs → f.gap < 2 ^ 62 → length (follow_line cs f) ≤ 93
follow_short cs f clocks fits =
    let size : length (follow_line cs f) ≡ 6 + 1 + (length (clock_name cs f.earlier) + 1 + (length (clock_name cs f.later) + 1 + (length (decimal_of f.gap) + 1 + 0))) =
    line_size (codes "follow") (clock_name cs f.earlier ∷ clock_name cs f.later ∷ decimal_of f.gap ∷ []) in
    omega (arith, size, clock_name_short cs clocks f.earlier, clock_name_short cs clocks f.later, nano_short f.gap fits)

own_short : (name clock stamp : List ℕ) (b : Option StampBounds) → length name ≤ 48 → length clock ≤ 32 → length stamp ≤ 19 → IfSome b (λ own. (own.early < 2 ^ 62) × (own.late < 2 ^ 62))
    → length (line_of (codes "event" ∷ name ∷ clock ∷ stamp ∷ bound_words b)) ≤ 148
own_short name clock stamp None named on at fits =
    let size : length (line_of (codes "event" ∷ name ∷ clock ∷ stamp ∷ [])) ≡ 5 + 1 + (length name + 1 + (length clock + 1 + (length stamp + 1 + 0))) = line_size (codes "event") (name ∷ clock ∷ stamp ∷ []) in
    omega (arith, size, named, on, at)
own_short name clock stamp (Some own) named on at fits =
    let size : length (line_of (codes "event" ∷ name ∷ clock ∷ stamp ∷ decimal_of own.early ∷ decimal_of own.late ∷ []))
    ≡ 5 + 1 + (length name + 1 + (length clock + 1 + (length stamp + 1 + (length (decimal_of own.early) + 1 + (length (decimal_of own.late) + 1 + 0))))) =
    line_size (codes "event") (name ∷ clock ∷ stamp ∷ decimal_of own.early ∷ decimal_of own.late ∷ []) in
    omega (arith, size, named, on, at, nano_short own.early fits.0, nano_short own.late fits.1)

event_short : (cs : List Clock) (e : Event) → All (λ c. IsClockName c.name) cs → IsEventName e.name → EventFits e → length (event_line cs e) ≤ 148
event_short cs e clocks named fits = own_short e.name (clock_name cs e.clock) (decimal_of e.stamp) e.bounds named.short (clock_name_short cs clocks e.clock) (nano_short e.stamp fits.0) fits.1

message_short : (es : List Event) (m : Message) → All (λ e. IsEventName e.name) es → MessageFits m → length (message_line es m) ≤ 146
message_short es m events fits =
    let size : length (message_line es m) ≡ 7 + 1 + (length (event_name es m.send) + 1 + (length (event_name es m.receive) + 1 + (length (decimal_of m.least) + 1 + (length (most_word m.most) + 1 + 0)))) =
    line_size (codes "message") (event_name es m.send ∷ event_name es m.receive ∷ decimal_of m.least ∷ most_word m.most ∷ []) in
    omega (arith, size, event_name_short es events m.send, event_name_short es events m.receive, nano_short m.least fits.0, most_short m.most fits.1)

-- ---- the whole
head_by : (own : Bool) (follows : List Follow) → length (line_of (if own then own_head else plain_head follows)) ≡ 10
head_by true follows = refl
head_by false [] = refl
head_by false (f ∷ follows) = refl

head_short : (follows : List Follow) (events : List Event) → length (line_of (head_words follows events)) ≡ 10
head_short follows events = head_by (have_bounds events) follows

added : (a b c d e f : List ℕ) → length (a ++ b ++ (c ++ d) ++ e ++ f) ≡ length a + length b + length c + length d + length e + length f
added a b c d e f = omega (arith, length-append (a ++ b ++ (c ++ d) ++ e) f, length-append (a ++ b ++ (c ++ d)) e, length-append (a ++ b) (c ++ d), length-append c d, length-append a b)

pub text_short : (p : ProblemLists) → IsProblem p → length (problem_text p) ≤ most_text_bytes
text_short p lawful =
    let clocks = lines_short clock_line 100 p.clocks (λ i d inside. clock_short (get_or p.clocks i d) (lawful.formed.clock_names i d inside) (lawful.fits.clocks_fit i d inside)) in
    let follows = lines_short (follow_line p.clocks) 93 p.follows (λ i d inside. follow_short p.clocks (get_or p.follows i d) lawful.formed.clock_names (lawful.fits.gaps_fit i d inside)) in
    let events = lines_short (event_line p.clocks) 148 p.events (λ i d inside. event_short p.clocks (get_or p.events i d) lawful.formed.clock_names (lawful.formed.event_names i d inside) (lawful.fits.events_fit i d inside)) in
    let messages = lines_short (message_line p.events) 146 p.messages (λ i d inside. message_short p.events (get_or p.messages i d) lawful.formed.event_names (lawful.fits.messages_fit i d inside)) in
    let sum : length (problem_text p) ≡ length (line_of (head_words p.follows p.events)) + length (flat_map clock_line p.clocks) + length (flat_map (follow_line p.clocks) p.follows) + length (flat_map (event_line p.clocks) p.events)
    + length (flat_map (message_line p.events) p.messages) + 4 =
    added (line_of (head_words p.follows p.events)) (flat_map clock_line p.clocks) (flat_map (follow_line p.clocks) p.follows) (flat_map (event_line p.clocks) p.events) (flat_map (message_line p.events) p.messages) (line_of (codes "end" ∷ [])) in
    omega (arith, sum, head_short p.follows p.events, clocks, follows, events, messages, few_follows p lawful, lawful.fits.clock_limit, lawful.fits.event_limit, lawful.fits.message_limit)
