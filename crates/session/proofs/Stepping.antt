-- What a line asks for, once its command is known.
use Rattle.std.proofs.Common.{◌≡◌, ℕ, List, Some, None, subst}
use Rattle.replies.specs.Commands.{Command, Add, Keep, Ask, Question, Asks, TakesMemory, AsksForMemory, IsReadOff}
use Rattle.session.specs.Stands.{Held, KeepsEvent, AsksOfRows, AddsByLine}
use Rattle.replies.proofs.Elements.{some_same}
use Rattle.replies.proofs.OneCommand.{command_one}

one_asked : (line : List ℕ) (a b : Command) → Asks line (Some a) → Asks line (Some b) → a ≡ b
one_asked line a b x y = some_same a b (command_one line (Some a) (Some b) x y)

one_question : (a b : Question) → Ask a ≡ Ask b → a ≡ b
one_question a b is = cc

-- what is said of the line is said of its command
pub rows_of_line : (h : Held) (line : List ℕ) (q : Question) → Asks line (Some (Ask q)) → AsksOfRows h line → IsReadOff (KeepsEvent h) q
rows_of_line h line q asks (other, asked, rows) = subst (λ (x : Question). IsReadOff (KeepsEvent h) x) (one_question other q (one_asked line (Ask other) (Ask q) asked asks)) rows

pub memory_of_line : (line : List ℕ) (c : Command) → Asks line (Some c) → TakesMemory c → AsksForMemory line
memory_of_line line c asks takes = (c, asks, takes)

-- ---- lines that add nothing
no_addition : (line : List ℕ) (c : Command) (h h' : Held) (first last : ℕ) → Asks line (Some c) → ((label path : List ℕ) → c ≡ Add label path → ⊥) → AddsByLine line h h' first last
no_addition line c h h' first last asks other label path adds = absurd (other label path (one_asked line c (Add label path) asks adds))

pub keeps_no_addition : (line event : List ℕ) (h h' : Held) (first last : ℕ) → Asks line (Some (Keep event)) → AddsByLine line h h' first last
keeps_no_addition line event h h' first last asks = no_addition line (Keep event) h h' first last asks (λ label path is. absurd cc)

pub asks_no_addition : (line : List ℕ) (q : Question) (h h' : Held) (first last : ℕ) → Asks line (Some (Ask q)) → AddsByLine line h h' first last
asks_no_addition line q h h' first last asks = no_addition line (Ask q) h h' first last asks (λ label path is. absurd cc)

pub spells_no_addition : (line : List ℕ) (h h' : Held) (first last : ℕ) → Asks line None → AddsByLine line h h' first last
spells_no_addition line h h' first last none label path adds = absurd (none (Add label path) adds.1 adds.0)
