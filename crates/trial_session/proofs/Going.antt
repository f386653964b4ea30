-- How a session goes over lines, one after another.
use Rattle.std.proofs.Common.{◌≡◌, ℕ, List, [], ◌∷◌, ◌++◌, Option, refl, sym, ◌∙◌, ap, subst, append_assoc, append-nil}
use Rattle.std.specs.List.{concat}
use Rattle.ports.specs.Content.{Appends}
use Rattle.ports.specs.Files.{Content, FilesTold, Keeps}
use Rattle.ports.proofs.Writing.{appends_none, appends_then}
use Rattle.decl.specs.Declaration.{Declaration}
use Rattle.ports.specs.Lines.{lines_of}
use Rattle.replies.specs.Reply.{State}
use Rattle.replies.specs.Sessions.{LineReply}
use Rattle.session.specs.Stands.{Held, StandsFor, Stepped}
use Rattle.session.proofs.Replies.{session_more, counted_more, counted_none, concat_more}
use Rattle.trial_session.specs.Answering.{AnswersLines}

-- no line was answered yet
pub answers_none : (d : Declaration) (s : State) (held : Held) (now : FilesTold) (written : Option (List ℕ)) → StandsFor held d s → AnswersLines d s [] held now now written written
answers_none d s held now written stands = record {
  founds = [];
  texts = [];
  state = s;
  session = refl;
  stands = stands;
  counted = counted_none now;
  written = appends_none written;
}

-- one line more is answered
module _ (d : Declaration) (s : State) (done : List (List ℕ)) (line : List ℕ) (held held' : Held) (old mid new : FilesTold) (before between after : Option (List ℕ)) where
  pub answers_more : AnswersLines d s done held old mid before between → Keeps old mid → Keeps mid new → Stepped line mid new held held' (Appends between after) →
      AnswersLines d s (done ++ line ∷ []) held' old new before after
  answers_more so_far kept keeps stepped =
      let step = stepped d so_far.state so_far.stands in
      let reply = subst (λ (content : Content). LineReply d content so_far.state line step.0 step.1 step.2) kept.same step.3 in
      record {
        founds = so_far.founds ++ step.0 ∷ [];
        texts = so_far.texts ++ step.1 ∷ [];
        state = step.2;
        session = session_more d old.content s so_far.state step.2 done so_far.founds so_far.texts line step.1 step.0 so_far.session reply;
        stands = step.6;
        counted = counted_more so_far.founds step.0 old mid new so_far.counted step.5 keeps;
        written = rw (concat_more so_far.texts step.1) (appends_then before between after (concat so_far.texts) step.1 so_far.written step.4);
      }

-- the lines that are done, and those that are left
abbrev pub IsOver : Declaration → State → List ℕ → List ℕ → Held → FilesTold → FilesTold → Option (List ℕ) → Option (List ℕ) → Type 0
IsOver d s all rest held old new before after = (done : List (List ℕ)) × (lines_of all ≡ done ++ lines_of rest) × AnswersLines d s done held old new before after

pub over_none : (d : Declaration) (s : State) (all : List ℕ) (held : Held) (now : FilesTold) (written : Option (List ℕ)) → StandsFor held d s → IsOver d s all all held now now written written
over_none d s all held now written stands = ([], refl, answers_none d s held now written stands)

pub over_more : (d : Declaration) (s : State) (all rest line more : List ℕ) (held held' : Held) (old mid new : FilesTold) (before between after : Option (List ℕ)) →
    IsOver d s all rest held old mid before between → lines_of rest ≡ line ∷ lines_of more → Keeps old mid → Keeps mid new → Stepped line mid new held held' (Appends between after) →
    IsOver d s all more held' old new before after
over_more d s all rest line more held held' old mid new before between after over first kept keeps stepped = (
  over.0 ++ line ∷ [],
  over.1 ∙ ap (λ (ls : List (List ℕ)). over.0 ++ ls) first ∙ sym (append_assoc over.0 (line ∷ []) (lines_of more)),
  answers_more d s over.0 line held held' old mid new before between after over.2 kept keeps stepped,
)

pub over_all : (d : Declaration) (s : State) (all rest : List ℕ) (held : Held) (old new : FilesTold) (before after : Option (List ℕ)) →
    IsOver d s all rest held old new before after → rest ≡ [] → AnswersLines d s (lines_of all) held old new before after
over_all d s all rest held old new before after over none =
    subst (λ (ls : List (List ℕ)). AnswersLines d s ls held old new before after) (sym (over.1 ∙ ap (λ (bytes : List ℕ). over.0 ++ lines_of bytes) none ∙ append-nil over.0)) over.2
