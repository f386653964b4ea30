-- From the parts of a session to what is said of it.
use Rattle.std.proofs.Common.{◌≡◌, inl, inr, ℕ, ◌<◌, ◌≤◌, List, [], ◌++◌, length, take, Some, codes, sym, subst}
use Rattle.std.specs.List.{concat}
use Rattle.ports.specs.Content.{Appends, AppendsPrefix, SourceTold, SinkTold}
use Rattle.ports.specs.Files.{Content, FilesTold, Keeps}
use Rattle.ports.proofs.Appending.{rose_later}
use Rattle.ports.proofs.Writing.{appends_then, prefix_then}
use Rattle.decl.specs.Declaration.{Declaration}
use Rattle.ports.specs.Lines.{whole_lines, lines_of, most_taken}
use Rattle.replies.specs.Sessions.{Session, start}
use Rattle.session.specs.declared.ended.Ended.{Ended}
use Rattle.session.specs.declared.ended.Ended.TheVariants as ended
use Rattle.session.specs.Script.{Devices, devices, OfScript, Replied, IsTakenFromScript, IsScriptBegun, IsInterrupted, IsDone, IsScriptFault, IsTooLong, IsOutOfMemory, ScriptAnswered}
use Rattle.session.proofs.Replies.{counted_earlier}
use Rattle.session.proofs.Places.{of_script}
use Rattle.problem_commands.specs.Printing.{Closes, Prints}
use Rattle.commands.specs.Sessions.{IsDeclaredAt, IsUndeclared, TellsUndeclared, ClosesScript, TellsSession, LacksMemory, Conducted}
use Rattle.commands.specs.declared.declaration.Undeclared.{Undeclared}
use Rattle.commands.specs.declared.declaration.Undeclared.TheVariants as causes
use Rattle.problem_commands.specs.declared.status.Status.{Status}
use Rattle.problem_commands.specs.declared.status.Status.TheVariants as statuses

-- ---- the replies since the declaration was read, and a last line behind them
module _ (d : Declaration) (files begun after : FilesTold) (input input' : SourceTold) (out mid new : SinkTold) (keeps : Keeps files begun) (First Whole : List ℕ → Type 0)
    (on : (text : List ℕ) → First text → Whole text) where
  replied_on : (lines : List (List ℕ)) → Replied d (devices begun input out) (devices after input' mid) lines First → Replied d (devices files input out) (devices after input' new) lines Whole
  replied_on lines r = record {
    founds = r.founds;
    texts = r.texts;
    state = r.state;
    session = subst (λ (c : Content). Session d c (start d) lines r.founds r.texts r.state) keeps.same r.session;
    counted = counted_earlier r.founds files begun after keeps r.counted;
    written = on (concat r.texts) r.written;
  }

  done_on : IsDone d (devices begun input out) (devices after input' mid) First → IsDone d (devices files input out) (devices after input' new) Whole
  done_on is = of_script input.left (λ script. (length script ≤ most_taken) × (input'.left ≡ Some []) × Replied d (devices begun input out) (devices after input' mid) (lines_of script) First)
      (λ script. (length script ≤ most_taken) × (input'.left ≡ Some []) × Replied d (devices files input out) (devices after input' new) (lines_of script) Whole)
      (λ script r. (r.0, r.1, replied_on (lines_of script) r.2)) is

  taken_on : (script : List ℕ) → IsTakenFromScript d (devices begun input out) (devices after input' mid) First script → IsTakenFromScript d (devices files input out) (devices after input' new) Whole script
  taken_on script t = record { taken = t.taken; rest = t.rest; is = t.is; left = t.left; short = t.short; replied = replied_on (whole_lines t.taken) t.replied }

  fault_on : IsScriptFault d (devices begun input out) (devices after input' mid) First → IsScriptFault d (devices files input out) (devices after input' new) Whole
  fault_on is = (is.0, of_script input.left (IsTakenFromScript d (devices begun input out) (devices after input' mid) First) (IsTakenFromScript d (devices files input out) (devices after input' new) Whole) taken_on is.1)

  limit_on : IsTooLong d (devices begun input out) (devices after input' mid) First → IsTooLong d (devices files input out) (devices after input' new) Whole
  limit_on is = of_script input.left (λ script. (most_taken < length script) × Replied d (devices begun input out) (devices after input' mid) (whole_lines (take most_taken script)) First)
      (λ script. (most_taken < length script) × Replied d (devices files input out) (devices after input' new) (whole_lines (take most_taken script)) Whole)
      (λ script r. (r.0, replied_on (whole_lines (take most_taken script)) r.1)) is

  begun_on : OfScript input.left (IsScriptBegun d (devices begun input out) (devices after input' mid) First) → OfScript input.left (IsScriptBegun d (devices files input out) (devices after input' new) Whole)
  begun_on is = of_script input.left (IsScriptBegun d (devices begun input out) (devices after input' mid) First) (IsScriptBegun d (devices files input out) (devices after input' new) Whole)
      (λ script b. record { lines = b.lines; more = b.more; are = b.are; replied = replied_on b.lines b.replied }) is

  interrupted_on : OfScript input.left (IsInterrupted d (devices begun input out) (devices after input' mid) First) → OfScript input.left (IsInterrupted d (devices files input out) (devices after input' new) Whole)
  interrupted_on is = of_script input.left (IsInterrupted d (devices begun input out) (devices after input' mid) First) (IsInterrupted d (devices files input out) (devices after input' new) Whole)
      (λ script b. record { lines = b.lines; line = b.line; more = b.more; are = b.are; asks = b.asks; replied = replied_on b.lines b.replied }) is

-- ---- a last line behind some text
line_behind : (out mid new : SinkTold) (line text : List ℕ) → Appends mid.written new.written line → Appends out.written mid.written text → Appends out.written new.written (text ++ line)
line_behind out mid new line text end first = appends_then out.written mid.written new.written text line first end

front_behind : (out mid new : SinkTold) (line text : List ℕ) → AppendsPrefix mid.written new.written line → Appends out.written mid.written text → AppendsPrefix out.written new.written (text ++ line)
front_behind out mid new line text end first = prefix_then out.written mid.written new.written text line first end

-- ---- how a session ends
module _ (path : List ℕ) (old new : Devices) where
  tells : (IsWritten : List ℕ → Type 0) → Status → Type 0
  tells IsWritten = TellsSession path old new IsWritten

  pub told : (status result : Status) → result ≡ status → TellsSession path old new (Appends old.out.written new.out.written) status → Conducted path old new result
  told status result is said = inl (subst (λ (s : Status). TellsSession path old new (Appends old.out.written new.out.written) s) (sym is) said)

  -- ---- there is no declaration
  undeclared_goes : (u : Undeclared) → IsUndeclared path old.files new.files u → new.input ≡ old.input → (IsWritten : List ℕ → Type 0) (status : Status) (text : List ℕ)
      → TellsUndeclared u status text → IsWritten text → TellsSession path old new IsWritten status
  undeclared_goes (causes.Faulty number section index) is unread IsWritten status text only written =
      subst (λ (s : Status). TellsSession path old new IsWritten s) (sym only.0) (number, section, index, is, unread, subst IsWritten only.1 written)
  undeclared_goes causes.Unread is unread IsWritten status text only written =
      subst (λ (s : Status). TellsSession path old new IsWritten s) (sym only.0) (inl (is, unread, subst IsWritten only.1 written))
  undeclared_goes causes.Memory is unread IsWritten status text none written = absurd none

  pub undeclared : (u : Undeclared) (result : Status) → IsUndeclared path old.files new.files u → new.input ≡ old.input → Prints (TellsUndeclared u) old.out new.out result → Conducted path old new result
  undeclared u result is unread (inl whole) = inl (undeclared_goes u is unread (Appends old.out.written new.out.written) result whole.0 whole.1 whole.2)
  undeclared u result is unread (inr (inl cut)) =
      let front = cut.1 in
      let fails = front.3 in
      inr (inl (cut.0, (fails.0, inl (front.0, undeclared_goes u is unread (AppendsPrefix old.out.written new.out.written) front.0 front.1 front.2 fails.1))))
  undeclared u result is unread (inr (inr none)) = inr (inr (none.0, inl none.1))

-- ---- there is one
module _ (path : List ℕ) (d : Declaration) (files begun after : FilesTold) (input input' : SourceTold) (out mid : SinkTold) (declared : IsDeclaredAt files.content path d) (keeps : Keeps files begun)
    (no_fall : out.faults ≤ mid.faults) where
  abbrev old : Devices
  old = devices files input out

  -- a last line that is printed behind the replies, or a front of which is
  closed : (line : List ℕ) (status result : Status) (new : SinkTold)
      → ((Whole : List ℕ → Type 0) → ((text : List ℕ) → Appends out.written mid.written text → Whole (text ++ line)) → TellsSession path old (devices after input' new) Whole status)
      → Closes line status mid new result → Conducted path old (devices after input' new) result
  closed line status result new tells (inl done) =
      told path old (devices after input' new) status result done.0 (tells (Appends out.written new.written) (λ text first. line_behind out mid new line text done.1 first))
  closed line status result new tells (inr failed) =
      let fails = failed.1 in
      inr (inl (
        failed.0,
        (
          rose_later out.faults mid.faults new.faults no_fall fails.0,
          inl (status, tells (AppendsPrefix out.written new.written) (λ text first. front_behind out mid new line text fails.1 first)),
        ),
      ))

  abbrev First : List ℕ → Type 0
  First = Appends out.written mid.written

  lacks : IsOutOfMemory d (devices begun input out) (devices after input' mid) First → LacksMemory path old (devices after input' mid)
  lacks (inl silent) = inl silent
  lacks (inr is) = inr (d, declared, interrupted_on d files begun after input input' out mid mid keeps First First (λ text first. first) is)

  -- what is said of a session, from what its parts say
  pub conducted : (new : SinkTold) (how : Ended) (result : Status) → ScriptAnswered d (devices begun input out) (devices after input' mid) how → ClosesScript how mid new result
      → Conducted path old (devices after input' new) result
  conducted new ended.Done result so_far closes =
      subst (λ (o : SinkTold). Conducted path old (devices after input' o) result) (sym closes.1)
      (told path old (devices after input' mid) statuses.Done result closes.0 (d, declared, done_on d files begun after input input' out mid mid keeps First First (λ text first. first) so_far))
  conducted new ended.ReadFault result so_far closes =
      closed (codes "read fault\n") statuses.ReadFault result new
      (λ Whole behind. inr (d, declared, fault_on d files begun after input input' out mid new keeps First (λ replies. Whole (replies ++ codes "read fault\n")) behind so_far)) closes
  conducted new ended.Limit result so_far closes =
      closed (codes "script limit\n") statuses.ScriptLimit result new
      (λ Whole behind. (d, declared, limit_on d files begun after input input' out mid new keeps First (λ replies. Whole (replies ++ codes "script limit\n")) behind so_far)) closes
  conducted new ended.WriteFault result so_far closes =
      subst (λ (o : SinkTold). Conducted path old (devices after input' o) result) (sym closes.1)
      (inr (inl (
        closes.0,
        (
          so_far.0,
          inr (d, declared, (so_far.0, begun_on d files begun after input input' out mid mid keeps (AppendsPrefix out.written mid.written) (AppendsPrefix out.written mid.written) (λ text front. front) so_far.1)),
        ),
      )))
  conducted new ended.Memory result so_far closes =
      subst (λ (o : SinkTold). Conducted path old (devices after input' o) result) (sym closes.1)
      (inr (inr (closes.0, lacks so_far)))
