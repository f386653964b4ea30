-- How a session goes over some lines.
use Rattle.std.specs.Prelude.{ℕ, List, Option}
use Rattle.std.specs.List.{concat}
use Rattle.ports.specs.Content.{Appends}
use Rattle.ports.specs.Files.{FilesTold}
use Rattle.decl.specs.Declaration.{Declaration}
use Rattle.replies.specs.Reply.{State, Found}
use Rattle.replies.specs.Sessions.{Session, AreCounted}
use Rattle.session.specs.Stands.{Held, StandsFor}

-- from this state on each line has its reply, in order, all of them stand written, and what is held stands for what follows
pub record AnswersLines (d : Declaration) (s : State) (lines : List (List ℕ)) (held : Held) (old new : FilesTold) (before after : Option (List ℕ)) : Type 0 where
  pub founds : List Found
  pub texts : List (List ℕ)
  pub state : State
  pub session : Session d old.content s lines founds texts state
  pub stands : StandsFor held d state
  pub counted : AreCounted founds old new
  pub written : Appends before after (concat texts)
