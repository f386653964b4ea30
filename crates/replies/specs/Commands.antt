-- The commands that a line of a script may spell, and those of the code.
use Rattle.std.specs.Prelude.{◌≡◌, ◌⊎◌, ℕ, ◌<◌, ◌==◌, List, [], ◌∷◌, length, Option, Some, None, option_map, All, codes, cond, ⊤}
use Rattle.std.specs.Borrow.{Bor}
use Rattle.std.specs.Int.{IsInRange}
use Rattle.line_format.specs.Words.{words}
use Rattle.queries.specs.declared.comparison.Asked.{Asked}
use Rattle.queries.specs.declared.comparison.Asked.TheVariants as asked
use Rattle.replies.specs.declared.command.Command as parsed
use Rattle.replies.specs.declared.command.Command.TheVariants as commands
use Rattle.replies.specs.declared.command.Question as asking
use Rattle.replies.specs.declared.command.Question.TheVariants as questions
use Rattle.replies.specs.declared.names.Names.{Names}

-- a question about all that was added, with the names of the events that it is about
pub data Question : Type 0 where
  Compare : Asked → List ℕ → List ℕ → Question
  Time : List ℕ → Question
  AllTimes : Option (List ℕ) → Question
  Merge : Question
  Prove : List ℕ → List ℕ → Question
  Problem : Question
  Report : Question
  Blame : Question
  Thin : List (List ℕ) → Question

-- a command with its words: a label and a path, the name of an event, or a question
pub data Command : Type 0 where
  Add : List ℕ → List ℕ → Command
  Keep : List ℕ → Command
  Ask : Question → Command

-- some bytes from 33 to 126: they print, without a space
pub record IsWord (w : List ℕ) : Type 0 where
  pub some : 0 < length w
  pub visible : All (λ b. IsInRange 33 126 b) w

-- the word of what is asked of two events
abbrev pub asked_word : Asked → List ℕ
asked_word asked.Interval = codes "interval"
asked_word asked.Order = codes "order"

-- the words of a command
abbrev pub command_words : Command → List (List ℕ)
command_words (Add label path) = codes "add" ∷ label ∷ path ∷ []
command_words (Keep event) = codes "keep" ∷ event ∷ []
command_words (Ask (Compare what first second)) = asked_word what ∷ first ∷ second ∷ []
command_words (Ask (Time event)) = codes "time" ∷ event ∷ []
command_words (Ask (AllTimes None)) = codes "times" ∷ []
command_words (Ask (AllTimes (Some event))) = codes "times" ∷ event ∷ []
command_words (Ask Merge) = codes "merge" ∷ []
command_words (Ask (Prove first second)) = codes "prove" ∷ first ∷ second ∷ []
command_words (Ask Problem) = codes "problem" ∷ []
command_words (Ask Report) = codes "report" ∷ []
command_words (Ask Blame) = codes "blame" ∷ []
command_words (Ask (Thin events)) = codes "thin" ∷ events

-- one more byte in front of the first of some words
abbrev pub onto_first : ℕ → List (List ℕ) → List (List ℕ)
onto_first b [] = (b ∷ []) ∷ []
onto_first b (w ∷ ws) = (b ∷ w) ∷ ws

-- what stands before, between and behind the spaces of a text
abbrev pub spaced : List ℕ → List (List ℕ)
spaced [] = [] ∷ []
spaced (b ∷ bytes) = cond (b == 32) ([] ∷ spaced bytes) (onto_first b (spaced bytes))

-- the line spells this command, or none
abbrev pub Asks : List ℕ → Option Command → Type 0
Asks line (Some c) = (line ≡ words (command_words c)) × All IsWord (command_words c)
Asks line None = (c : Command) → All IsWord (command_words c) → line ≡ words (command_words c) → ⊥

-- these are the words of a command, or of none
abbrev pub HasWords : List (List ℕ) → Option Command → Type 0
HasWords ws (Some c) = (ws ≡ command_words c) × All IsWord ws
HasWords ws None = (c : Command) → All IsWord ws → ws ≡ command_words c → ⊥

-- the command may be answered by `Memory`
abbrev pub TakesMemory : Command → Type 0
TakesMemory (Add label path) = ⊤
TakesMemory (Keep event) = ⊤
TakesMemory (Ask (Compare what first second)) = ⊥
TakesMemory (Ask (Time event)) = ⊥
TakesMemory (Ask (AllTimes since)) = ⊥
TakesMemory (Ask Merge) = ⊤
TakesMemory (Ask (Prove first second)) = ⊥
TakesMemory (Ask Problem) = ⊥
TakesMemory (Ask Report) = ⊤
TakesMemory (Ask Blame) = ⊤
TakesMemory (Ask (Thin events)) = ⊤

-- the line spells a command that may be answered by `Memory`
abbrev pub AsksForMemory : List ℕ → Type 0
AsksForMemory line = (c : Command) × Asks line (Some c) × TakesMemory c

-- what answers the question is read off values, and off rows of events that have them
abbrev pub IsReadOff : (List ℕ → Type 0) → Question → Type 0
IsReadOff HasRows (Compare what first second) = HasRows first ⊎ HasRows second
IsReadOff HasRows (Time event) = ⊤
IsReadOff HasRows (AllTimes None) = ⊤
IsReadOff HasRows (AllTimes (Some event)) = HasRows event
IsReadOff HasRows Merge = ⊤
IsReadOff HasRows (Prove first second) = HasRows first
IsReadOff HasRows Problem = ⊤
IsReadOff HasRows Report = ⊤
IsReadOff HasRows Blame = ⊥
IsReadOff HasRows (Thin events) = ⊤

-- ---- the code
-- the words of a text that has one at least, and none without a text
abbrev pub words_in : Option (Bor (List ℕ)) → List (List ℕ)
words_in None = []
words_in (Some text) = spaced text.now

-- names of the code, each by itself
abbrev pub names_seen : Names → List (List ℕ)
names_seen names = words_in names.text

-- a question of the code, by its words
abbrev pub question_seen : asking.Question → Question
question_seen (questions.Compare what first second) = Compare what first.now second.now
question_seen (questions.Time event) = Time event.now
question_seen (questions.Times since) = AllTimes (option_map (λ event. event.now) since)
question_seen questions.Merge = Merge
question_seen (questions.Prove first second) = Prove first.now second.now
question_seen questions.Problem = Problem
question_seen questions.Report = Report
question_seen questions.Blame = Blame
question_seen (questions.Thin events) = Thin (names_seen events)

-- a command of the code, by its words
abbrev pub command_seen : parsed.Command → Command
command_seen (commands.Add label path) = Add label.now path.now
command_seen (commands.Keep event) = Keep event.now
command_seen (commands.Ask question) = Ask (question_seen question)
