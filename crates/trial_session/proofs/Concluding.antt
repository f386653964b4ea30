-- What a trial comes to, from what its session answers.
use Rattle.std.proofs.Common.{◌≡◌, MatchBool, ℕ, ◌<◌, nat_le, ◌&&◌, List, [], ◌∷◌, length, map, count_by, Bool, true, false, Option, Some, All, codes, refl, ◌∙◌, ap, subst, arith}
use Rattle.std.specs.Int.{IsInRange}
use Rattle.std.specs.List.{concat, range_with_len, list_all}
use Rattle.std.proofs.lemmas.List.Elements.{All-nil, All-cons}
use Rattle.ports.specs.Files.{Content}
use Rattle.ports.specs.Memory.{bytes_of}
use Rattle.line_format.specs.Words.{words}
use Rattle.decl.specs.Declaration.{Declaration}
use Rattle.decl.specs.Walk.{IsDocumentOf}
use Rattle.ports.specs.Lines.{lines_of}
use Rattle.traces.specs.Seen.{Seen}
use Rattle.traces.specs.Traces.{event_count, events_of}
use Rattle.traces.specs.Messages.{messages_of}
use Rattle.trial.specs.Declaration.{declaration_text}
use Rattle.trial.specs.Workload.{files_of, script_of, HasFiles}
use Rattle.queries.specs.declared.comparison.Asked.TheVariants.{Interval}
use Rattle.replies.specs.Commands.{Command, Ask, Compare, IsWord, command_words, Asks}
use Rattle.replies.specs.declared.refusal.Refusal.TheVariants.{NoCommand}
use Rattle.replies.specs.Reply.{State, Found, Unread, Refuses, Reply}
use Rattle.replies.specs.Sessions.{Session, LineReply, CommandReply, AreCounted, start, is_failed}
use Rattle.session.specs.Stands.{Held, seen_held}
use Rattle.trial_session.specs.Logs.{LogsState, logs_told}
use Rattle.trial_session.specs.Answering.{AnswersLines}
use Rattle.trial_session.specs.Trial.{files_at, IsConducted, first_event, AreIntervals, IsTrial}

-- ---- the files
-- of files of which no read fails, none is said to have failed
pub none_failed : (founds : List Found) (old new : LogsState) → AreCounted founds (logs_told old) (logs_told new) → count_by is_failed founds ≡ 0
none_failed founds old new counted = let few = counted.failed (omega arith) in omega (arith, few)

-- files with the same bytes at each path
pub files_same : (f g : List ℕ → Option (List ℕ)) → ((path : List ℕ) → f path ≡ g path) → f ≡ g
files_same f g same = λ i path. same path i

-- ---- the script
pub conducted : (n : ℕ) (d : Declaration) (script : List ℕ) (held : Held) (old new : LogsState) (before after : Option (List ℕ)) → IsDocumentOf declaration_text d → script ≡ script_of n → HasFiles old.puts (files_of n)
    → (a : AnswersLines d (start d) (lines_of script) held (logs_told old) (logs_told new) before after) → IsConducted n d a.state
conducted n d script held old new before after declares is has a = record {
  declared = declares;
  founds = a.founds;
  texts = a.texts;
  session =
      subst (λ (s : List ℕ). Session d (Some (files_at n)) (start d) (lines_of s) a.founds a.texts a.state) is
      (subst (λ (f : List ℕ → Option (List ℕ)). Session d (Some f) (start d) (lines_of script) a.founds a.texts a.state) (files_same (bytes_of old.puts) (files_at n) has) a.session);
  read = none_failed a.founds old new a.counted;
}

-- ---- the questions
-- what is asked of a host
abbrev ask : ℕ → Command
ask host = Ask (Compare Interval (first_event 0) (first_event host))

abbrev ask_line : ℕ → List ℕ
ask_line host = words (command_words (ask host))

-- the line spells the question, and is not too long
abbrev IsAsked : ℕ → Type 0
IsAsked host = (nat_le (length (ask_line host)) 4096 ≡ true) × Asks (ask_line host) (Some (ask host))

abbrev AreAsked : List ℕ → Type 0
AreAsked [] = Unit {0}
AreAsked (host ∷ hosts) = IsAsked host × AreAsked hosts

visible_test : (w : List ℕ) → list_all (λ b. nat_le 33 b && nat_le b 126) w ≡ true → All (λ b. IsInRange 33 126 b) w
visible_test [] e = All-nil (λ b. IsInRange 33 126 b)
visible_test (x ∷ xs) e = All-cons (λ b. IsInRange 33 126 b) x xs (grind (arith, e)) (visible_test xs (grind (arith, e)))

word_of : (w : List ℕ) → 0 < length w → list_all (λ b. nat_le 33 b && nat_le b 126) w ≡ true → IsWord w
word_of w some e = record { some = some; visible = visible_test w e }

three_words : (a b c : List ℕ) → IsWord a → IsWord b → IsWord c → All IsWord (a ∷ b ∷ c ∷ [])
three_words a b c wa wb wc = All-cons IsWord a (b ∷ c ∷ []) wa (All-cons IsWord b (c ∷ []) wb (All-cons IsWord c [] wc (All-nil IsWord)))

is_asked : (host : ℕ) → nat_le (length (ask_line host)) 4096 ≡ true → 0 < length (first_event host) → list_all (λ b. nat_le 33 b && nat_le b 126) (first_event host) ≡ true → IsAsked host
is_asked host short some visible = (
  short,
  (refl, three_words (codes "interval") (first_event 0) (first_event host) (word_of (codes "interval") (omega arith) refl) (word_of (first_event 0) (omega arith) refl) (word_of (first_event host) some visible)),
)

seven_asked : AreAsked (range_with_len 1 7)
seven_asked = (
  is_asked 1 refl (omega arith) refl,
  (
    is_asked 2 refl (omega arith) refl,
    (
      is_asked 3 refl (omega arith) refl,
      (
        is_asked 4 refl (omega arith) refl,
        (
          is_asked 5 refl (omega arith) refl,
          (
            is_asked 6 refl (omega arith) refl,
            (is_asked 7 refl (omega arith) refl, tt),
          ),
        ),
      ),
    ),
  ),
)

-- all questions, line by line
abbrev pub questions : List ℕ
questions = codes "interval h0#1 h1#1\ninterval h0#1 h2#1\ninterval h0#1 h3#1\ninterval h0#1 h4#1\ninterval h0#1 h5#1\ninterval h0#1 h6#1\ninterval h0#1 h7#1\n"

seven_lines : lines_of questions ≡ map ask_line (range_with_len 1 7)
seven_lines = refl

-- the law that a line asks for one command
abbrev OneCommand : Type 0
OneCommand = (line : List ℕ) (a b : Option Command) → Asks line a → Asks line b → a ≡ b

of_true : (b : Bool) (P Q : Type 0) → b ≡ true → MatchBool b P Q → P
of_true true P Q is holds = holds
of_true false P Q is holds = absurd cc

-- a reply to such a line is one to its question, and nothing changes
reply_of : OneCommand → (d : Declaration) (files : Content) (s s' : State) (host : ℕ) (text : List ℕ) (found : Found) → IsAsked host → LineReply d files s (ask_line host) found text s' → (s' ≡ s) × Reply d s (ask host) Unread text s
reply_of one d files s s' host text found asked reply =
    let told = of_true (nat_le (length (ask_line host)) 4096) ((c : Option Command) × Asks (ask_line host) c × CommandReply d files s c found text s') ((found ≡ Unread) × Refuses s NoCommand text s') asked.0 reply in
    let is : told.0 ≡ Some (ask host) = one (ask_line host) told.0 (Some (ask host)) told.1 asked.1 in
    let answer : CommandReply d files s (Some (ask host)) found text s' = subst (λ (c : Option Command). CommandReply d files s c found text s') is told.2 in
    (answer.1.1, (refl, refl, answer.1.2))

intervals_of : OneCommand → (d : Declaration) (files : Content) (s s' : State) (hosts : List ℕ) (founds : List Found) (texts : List (List ℕ)) → AreAsked hosts → Session d files s (map ask_line hosts) founds texts s' → AreIntervals d s hosts texts
intervals_of one d files s s' [] [] [] asked session = tt
intervals_of one d files s s' [] [] (text ∷ texts) asked session = absurd session
intervals_of one d files s s' [] (found ∷ founds) texts asked session = absurd session
intervals_of one d files s s' (host ∷ hosts) [] texts asked session = absurd session
intervals_of one d files s s' (host ∷ hosts) (found ∷ founds) [] asked session = absurd session
intervals_of one d files s s' (host ∷ hosts) (found ∷ founds) (text ∷ texts) asked session =
    let first = reply_of one d files s session.0 host text found asked.0 session.1 in
    (first.1, intervals_of one d files s s' hosts founds texts asked.1 (subst (λ (m : State). Session d files m (map ask_line hosts) founds texts s') first.0 session.2))

same_some : (x y : List ℕ) → Some x ≡ Some y → x ≡ y
same_some x y e = cc

-- ---- the whole
module _ (one : OneCommand) (n : ℕ) (d : Declaration) (events messages : ℕ) (script replies : List ℕ) (mid end : Held) (files files' files'' : LogsState) (written : Option (List ℕ)) where
  pub concluded : IsDocumentOf declaration_text d → script ≡ script_of n → HasFiles files.puts (files_of n)
      → (a : AnswersLines d (start d) (lines_of script) mid (logs_told files) (logs_told files') (Some []) written)
      → events ≡ event_count (seen_held mid.under) → messages ≡ length (messages_of (events_of (seen_held mid.under)))
      → AnswersLines d a.state (lines_of questions) end (logs_told files') (logs_told files'') (Some []) (Some replies)
      → IsTrial n events messages replies
  concluded declares is has a counts couples b = record {
    declaration = d;
    state = a.state;
    conducted = conducted n d script mid files files' (Some []) written declares is has a;
    all_events = counts ∙ ap event_count a.stands.events;
    all_messages = couples ∙ ap (λ (seen : List (List Seen)). length (messages_of (events_of seen))) a.stands.events;
    texts = b.texts;
    intervals = intervals_of one d (logs_told files').content a.state b.state (range_with_len 1 7) b.founds b.texts seven_asked
        (subst (λ (ls : List (List ℕ)). Session d (logs_told files').content a.state ls b.founds b.texts b.state) seven_lines b.session);
    are = same_some replies (concat b.texts) b.written;
  }
