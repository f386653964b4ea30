-- From what the parts of a run print to what is said of a command.
use Rattle.std.proofs.Common.{◌≡◌, inl, inr, ℕ, List, Ok, Err, refl, sym, subst, codes}
use Rattle.ports.specs.Content.{SinkTold, Writes}
use Rattle.ports.specs.Files.{FilesTold, HasBytes}
use Rattle.problem_commands.specs.Printing.{Closes, IsOnlyText, Prints}
use Rattle.problem_commands.specs.Refusal.{refused_text_line}
use Rattle.problem_commands.specs.Texts.{IsMissed}
use Rattle.problem_commands.specs.Unread.{IsUnread, TellsUnread}
use Rattle.problem_commands.specs.declared.refusal.Refusal.{Refusal}
use Rattle.problem_commands.specs.declared.status.Status.{Status}
use Rattle.problem_commands.specs.declared.status.Status.TheVariants as statuses
use Rattle.problem_commands.specs.declared.texts.Unread.{Unread}
use Rattle.problem_commands.specs.declared.texts.Unread.TheVariants as unread

module _ (Goes : Status → List ℕ → Type 0) where
  pub at_status : (only status : Status) (text : List ℕ) → status ≡ only → Goes only text → Goes status text
  at_status only status text is = subst (λ (s : Status). Goes s text) (sym is)

  -- one line with its status
  pub only_goes : (line : List ℕ) (only : Status) → Goes only line → (status : Status) (text : List ℕ) → IsOnlyText line only status text → Goes status text
  only_goes line only goes status text is = at_status only status text is.0 (subst (Goes only) (sym is.1) goes)

  -- a line that is printed, and goes with its status
  pub closes_prints : (line : List ℕ) (status result : Status) (old new : SinkTold) → Goes status line → Closes line status old new result → Prints Goes old new result
  closes_prints line status result old new goes (inl done) = inl (line, at_status status result line done.0 goes, done.1)
  closes_prints line status result old new goes (inr failed) = inr (inl (failed.0, (status, line, goes, failed.1)))

  -- the same of a line in another spelling
  pub line_prints : (line printed : List ℕ) (status result : Status) (old new : SinkTold) → printed ≡ line → Goes status line → Closes printed status old new result → Prints Goes old new result
  line_prints line printed status result old new is goes closes = closes_prints line status result old new goes (subst (λ (l : List ℕ). Closes l status old new result) is closes)

  -- a text that is written, and goes with its status
  pub written_prints : {A E : Type 0} {a : A} (text : List ℕ) (status : Status) (old new : SinkTold) → Goes status text → Writes {A = A} {E = E} text old new (Ok a) → Prints Goes old new status
  written_prints text status old new goes written = inl (text, goes, written.ok)

  -- a text that was to be written
  pub failed_prints : {A E : Type 0} {e : E} (text : List ℕ) (status : Status) (old new : SinkTold) → Goes status text → Writes {A = A} {E = E} text old new (Err e) → Prints Goes old new statuses.WriteFault
  failed_prints text status old new goes written = inr (inl (refl, (status, text, goes, (written.cause, written.err))))

-- what goes with a status is of another kind too
pub prints_as : (Goes More : Status → List ℕ → Type 0) (old new : SinkTold) (result : Status) → ((status : Status) (text : List ℕ) → Goes status text → More status text)
    → Prints Goes old new result → Prints More old new result
prints_as Goes More old new result on (inl whole) = inl (whole.0, on result whole.0 whole.1, whole.2)
prints_as Goes More old new result on (inr (inl cut)) = let front = cut.1 in inr (inl (cut.0, (front.0, front.1, on front.0 front.1 front.2, front.3)))
prints_as Goes More old new result on (inr (inr none)) = inr (inr none)

-- ---- a file gave no value
module _ (Goes : Status → List ℕ → Type 0) (Refuses : List ℕ → Refusal → Type 0) (path : List ℕ) (old new : FilesTold) (kind : List ℕ) (refused : Status)
    (bad : (refusal : Refusal) → HasBytes old.content path (λ text. Refuses text refusal) → Goes refused (refused_text_line kind refusal))
    (missed : IsMissed path old new → Goes statuses.ReadFault (codes "read fault\n")) where
  unread_goes : (u : Unread) → IsUnread Refuses path old new u → (status : Status) (text : List ℕ) → TellsUnread u kind refused status text → Goes status text
  unread_goes (unread.Refused refusal) is status text tells = only_goes Goes (refused_text_line kind refusal) refused (bad refusal is) status text tells
  unread_goes unread.Fault is status text tells = only_goes Goes (codes "read fault\n") statuses.ReadFault (missed is) status text tells
  unread_goes unread.Memory is status text tells = absurd tells

  pub unread_prints : (u : Unread) (out out' : SinkTold) (result : Status) → IsUnread Refuses path old new u → Prints (TellsUnread u kind refused) out out' result → Prints Goes out out' result
  unread_prints u out out' result is prints = prints_as (TellsUnread u kind refused) Goes out out' result (unread_goes u is) prints
