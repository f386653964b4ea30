-- What is true of each command.
use Rattle.std.proofs.Common.{◌≡◌, inl, inr, List, ℕ, [], ◌∷◌, Option, Some, None, cond, codes, refl}
use Rattle.std.specs.Str.{bytes_eq}
use Rattle.queries.specs.declared.comparison.Asked.TheVariants as asked
use Rattle.replies.specs.Commands.{Command, Add, Keep, Ask, Question, Compare, Time, AllTimes, Merge, Prove, Problem, Report, Blame, Thin, command_words, IsReadOff}

-- the command that has this word and those behind it, but for `thin`
abbrev other_command : List ℕ → List (List ℕ) → Option Command
other_command name [] =
    cond (bytes_eq name (codes "times")) (Some (Ask (AllTimes None))) (cond (bytes_eq name (codes "merge")) (Some (Ask Merge))
    (cond (bytes_eq name (codes "problem")) (Some (Ask Problem)) (cond (bytes_eq name (codes "report")) (Some (Ask Report))
    (cond (bytes_eq name (codes "blame")) (Some (Ask Blame)) None))))
other_command name (event ∷ []) =
    cond (bytes_eq name (codes "time")) (Some (Ask (Time event))) (cond (bytes_eq name (codes "times")) (Some (Ask (AllTimes (Some event)))) (Some (Keep event)))
other_command name (first ∷ second ∷ []) =
    cond (bytes_eq name (codes "add")) (Some (Add first second)) (cond (bytes_eq name (codes "interval")) (Some (Ask (Compare asked.Interval first second)))
    (cond (bytes_eq name (codes "order")) (Some (Ask (Compare asked.Order first second))) (Some (Ask (Prove first second)))))
other_command name (first ∷ second ∷ third ∷ more) = None

-- the command that has these words
abbrev pub command_of : List (List ℕ) → Option Command
command_of [] = None
command_of (name ∷ more) = cond (bytes_eq name (codes "thin")) (Some (Ask (Thin more))) (other_command name more)

pub words_tell : (c : Command) → command_of (command_words c) ≡ Some c
words_tell (Add label path) = refl
words_tell (Keep event) = refl
words_tell (Ask (Compare asked.Interval first second)) = refl
words_tell (Ask (Compare asked.Order first second)) = refl
words_tell (Ask (Time event)) = refl
words_tell (Ask (AllTimes None)) = refl
words_tell (Ask (AllTimes (Some event))) = refl
words_tell (Ask Merge) = refl
words_tell (Ask (Prove first second)) = refl
words_tell (Ask Problem) = refl
words_tell (Ask Report) = refl
words_tell (Ask Blame) = refl
words_tell (Ask (Thin events)) = refl

-- what is read off rows of some events is read off rows of others, where all of those are among these
module _ (Has Other : List ℕ → Type 0) (each : (name : List ℕ) → Has name → Other name) where
  pub read_off : (q : Question) → IsReadOff Has q → IsReadOff Other q
  read_off (Compare what first second) (inl has) = inl (each first has)
  read_off (Compare what first second) (inr has) = inr (each second has)
  read_off (Time event) is = tt
  read_off (AllTimes None) is = tt
  read_off (AllTimes (Some event)) is = each event is
  read_off Merge is = tt
  read_off (Prove first second) is = each first is
  read_off Problem is = tt
  read_off Report is = tt
  read_off Blame is = absurd is
  read_off (Thin events) is = tt
