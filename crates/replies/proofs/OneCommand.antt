-- A line asks for one command at most.
use Rattle.std.proofs.Common.{◌≡◌, ℕ, List, Option, Some, None, refl, sym, ◌∙◌, ap}
use Rattle.replies.specs.Commands.{Command, Asks, spaced}
use Rattle.replies.proofs.Commands.{command_of, words_tell}
use Rattle.replies.proofs.Asking.{command_told}

line_tells : (line : List ℕ) (c : Command) → Asks line (Some c) → command_of (spaced line) ≡ Some c
line_tells line c asks = ap command_of (command_told line c asks) ∙ words_tell c

pub command_one : (line : List ℕ) (a b : Option Command) → Asks line a → Asks line b → a ≡ b
command_one line None None x y = refl
command_one line None (Some b) x y = absurd (x b y.1 y.0)
command_one line (Some a) None x y = absurd (y a x.1 x.0)
command_one line (Some a) (Some b) x y = sym (line_tells line a x) ∙ line_tells line b y
