-- Lawful words, files and scripts leave a run no status but those of an answer and of want of memory.
use Rattle.std.proofs.Common.{◌≡◌, ◌⊎◌, ◌≤◌, ◌<◌, ◌++◌, inl, inr, ℕ, List, length, take, codes, Option, Some, None, refl, sym, ◌∙◌, subst, arith}
use Rattle.std.specs.Prelude.{IsSomeAnd, All}
use Rattle.ports.specs.Content.{Rose, Appends, SinkTold, SourceTold}
use Rattle.ports.specs.Files.{Content, FilesTold, HasBytes, IsAbsent, Keeps}
use Rattle.ports.specs.Lines.{most_taken, whole_lines}
use Rattle.problem_model.specs.Problem.{ProblemLists, IsProblem}
use Rattle.problem.specs.Line.{HasEvent}
use Rattle.cert_check.specs.declared.what.What.{What}
use Rattle.widen.specs.Named.{SaysWhat}
use Rattle.decl.specs.Declaration.{Declaration}
use Rattle.decl.specs.Walk.{IsDocumentOf, IsFirstFault}
use Rattle.decl.specs.declared.errors.DeclError.TheVariants as faults
use Rattle.decl.specs.declared.errors.Section.{Section}
use Rattle.session.specs.Script.{Devices, OfScript, Replied}
use Rattle.commands.specs.Asked.{Asked, help_text, version_text}
use Rattle.commands.specs.Asked.Asked.{Obey, Solve, Ends, Verify, Session, Trial, Widen, Judge, Blame, Thin, Mergecap, MergeDated, Help, Version, Nothing}
use Rattle.commands.specs.Runs.{Answers}
use Rattle.commands.specs.Complete.{Holds, HoldsProblem, IsExecutionText, IsCertText, IsWideningText, IsLawfulInput, IsFaultless, IsAnswered}
use Rattle.problem_commands.specs.ForProblem.{ForProblem}
use Rattle.problem_commands.specs.Intervals.{TellsNamed, IntervalAnswered}
use Rattle.merge_script.specs.Turns.{reads}
use Rattle.merge_script.specs.Gathered as merging
use Rattle.merge_script.specs.declared.unmerged.Unmerged.TheVariants as whys
use Rattle.commands.specs.declared.declaration.Undeclared.TheVariants as undeclared
use Rattle.commands.specs.MergedCapture.{MergedOver, MergedAt}
use Rattle.commands.specs.DatedCapture.{DatedOver, DatedAt}
use Rattle.problem_commands.specs.Obey.{Obeyed}
use Rattle.problem_commands.specs.Printing.{Prints, Closes}
use Rattle.commands.specs.Sessions.{IsFaultAt, TellsSession, Conducted}
use Rattle.problem_commands.specs.Solve.{TellsSolution, Solved}
use Rattle.problem_commands.specs.Texts.{SpellsProblem, IsMissed, IsBadProblem, BothHave, MissesOne, RefusesProblem, RefusesExecution, RefusesCert}
use Rattle.commands.specs.Trials.{IsNumber, Tried, TriedBy}
use Rattle.problem_commands.specs.Verify.{Verified}
use Rattle.problem_commands.specs.Widening.{RefusesWidening, TellsLeastNamed, WideningFound, WideningJudged}
use Rattle.problem_commands.specs.Blame.{TellsBlame, Blamed}
use Rattle.thinning.specs.Named.{IsKnown}
use Rattle.problem_commands.specs.Thin.{TellsThin, ProblemThinned}
use Rattle.problem_commands.specs.declared.refusal.Refusal.{Refusal}
use Rattle.problem_commands.specs.declared.status.Status.{Status}
use Rattle.problem_commands.specs.declared.status.Status.TheVariants as statuses
use Rattle.commands.proofs.OneText.{HaveOneAnswer, problems_one, no_bad_problem, no_bad_execution, no_bad_cert, no_bad_widening, no_bad_decl}

-- ---- one file
some_one : (a b : List ℕ) → Some a ≡ Some b → a ≡ b
some_one a b same = cc

some_or_none : (a : List ℕ) → Some a ≡ None → ⊥
some_or_none a same = absurd cc

-- the bytes that a lawful file holds are those of which the status speaks
module _ (P : List ℕ → Type 0) where
  bytes_held : (at : Option (List ℕ)) → IsSomeAnd at P → (bytes : List ℕ) × (at ≡ Some bytes) × P bytes
  bytes_held None held = absurd held
  bytes_held (Some bytes) held = (bytes, refl, held)

  pub both_said : (Q : List ℕ → Type 0) (files : Content) (path : List ℕ) → Holds files path P → HasBytes files path Q → (bytes : List ℕ) × P bytes × Q bytes
  both_said Q None path held has = absurd held
  both_said Q (Some all) path held has =
      let there = bytes_held (all path) held in
      (there.0, there.2, subst Q (some_one has.0 there.0 (sym has.1 ∙ there.1)) has.2)

  pub no_bytes : (Q : List ℕ → Type 0) (files : Content) (path : List ℕ) → ((bytes : List ℕ) → P bytes → Q bytes → ⊥) → Holds files path P → HasBytes files path Q → ⊥
  no_bytes Q files path clash held has = let both = both_said Q files path held has in clash both.0 both.1 both.2

  not_absent : (files : Content) (path : List ℕ) → Holds files path P → IsAbsent files path → ⊥
  not_absent None path held absent = absurd held
  not_absent (Some all) path held absent = let there = bytes_held (all path) held in some_or_none there.0 (sym there.1 ∙ absent)

  pub not_missed : (path : List ℕ) (old new : FilesTold) → Holds old.content path P → (Rose old.faults new.faults → ⊥) → IsMissed path old new → ⊥
  not_missed path old new held none missed = elim missed.cause [
    | inl rose ↦ none rose
    | inr gone ↦ not_absent old.content path held gone.1
  ]

-- two lawful files, the second one by the problem in the first
no_both : (P : List ℕ → Type 0) (Q : List ℕ → Type 0) (R : List ℕ → List ℕ → Type 0) (files : Content) (first second : List ℕ) → ((text more : List ℕ) → P text → Q more → R text more → ⊥)
    → Holds files first P → Holds files second Q → BothHave files first second R → ⊥
no_both P Q R None first second clash held also both = absurd held
no_both P Q R (Some all) first second clash held also (text, more, is, is', both) =
    let one = bytes_held P (all first) held in
    let two = bytes_held Q (all second) also in
    let same : text ≡ one.0 = some_one text one.0 (sym is ∙ one.1) in
    let same' : more ≡ two.0 = some_one more two.0 (sym is' ∙ two.1) in
    clash one.0 two.0 one.2 two.2 (subst (λ (t : List ℕ). R t two.0) same (subst (R text) same' both))

rose_since : (early mid late : ℕ) → early ≤ mid → Rose mid late → Rose early late
rose_since early mid late le (inl rose) = inl (omega (arith, le, rose))
rose_since early mid late le (inr last) = inr last

not_missed_since : (P : List ℕ → Type 0) (path : List ℕ) (old mid new : FilesTold) → Holds old.content path P → (Rose old.faults new.faults → ⊥) → Keeps old mid → IsMissed path mid new → ⊥
not_missed_since P path old mid new held none keeps missed =
    not_missed P path mid new (subst (λ (c : Content). Holds c path P) (sym keeps.same) held) (λ rose. none (rose_since old.faults mid.faults new.faults keeps.faults rose)) missed

-- both files of a command are there
none_missed : (P Q : List ℕ → Type 0) (problem other : List ℕ) (old new : FilesTold) → Holds old.content problem P → Holds old.content other Q → (Rose old.faults new.faults → ⊥)
    → MissesOne problem other old new → ⊥
none_missed P Q problem other old new held also none (inl missed) = not_missed P problem old new held none missed
none_missed P Q problem other old new held also none (inr (p, has, (mid, keeps, missed))) = not_missed_since Q other old mid new also none keeps missed

not_bad : (law : HaveOneAnswer) (p : ProblemLists) (problem line : List ℕ) (files : Content) → Holds files problem (SpellsProblem p) → IsBadProblem problem files line → ⊥
not_bad law p problem line files held (refusal, has, is) =
    no_bytes (SpellsProblem p) (λ text. RefusesProblem text refusal) files problem (λ text spelled refused. no_bad_problem law p text refusal spelled refused) held has

-- the second file is refused for no cause
no_refused_pair : (law : HaveOneAnswer) (Fits : ProblemLists → List ℕ → Type 0) (Refuses : ProblemLists → List ℕ → Refusal → Type 0) (p q : ProblemLists) (refusal : Refusal) (files : Content) (problem other : List ℕ)
    → ((text : List ℕ) → IsProblem p → Fits p text → Refuses p text refusal → ⊥)
    → Holds files problem (SpellsProblem p) → Holds files other (Fits p) → BothHave files problem other (λ text more. SpellsProblem q text × Refuses q more refusal) → ⊥
no_refused_pair law Fits Refuses p q refusal files problem other clash held also both =
    no_both (SpellsProblem p) (Fits p) (λ text more. SpellsProblem q text × Refuses q more refusal) files problem other
    (λ text more spelled fits refused. clash more spelled.1 fits (subst (λ (r : ProblemLists). Refuses r more refusal) (problems_one law q p text refused.0 spelled) refused.1))
    held also both

-- ---- what is printed
printed : (Goes : Status → List ℕ → Type 0) (old new : SinkTold) (result : Status) → ((status : Status) (text : List ℕ) → Goes status text → IsAnswered status) → (Rose old.faults new.faults → ⊥)
    → Prints Goes old new result → IsAnswered result
printed Goes old new result on none (inl (text, goes, appended)) = on result text goes
printed Goes old new result on none (inr (inl (is, (status, text, goes, (rose, front))))) = absurd (none rose)
printed Goes old new result on none (inr (inr (is, same))) = inr (inr (inl is))

-- ---- what is told of a lawful problem has the status of an answer
ends_told : (p : ProblemLists) (first second : List ℕ) → ((from : ℕ) × HasEvent p from first) × ((to : ℕ) × HasEvent p to second) → (status : Status) (text : List ℕ) → TellsNamed p first second status text → IsAnswered status
ends_told p first second known status text (inl (from, to, named, named', tells)) = inl tells.0
ends_told p first second known status text (inr (inl unknown, only)) = absurd (unknown known.0.0 known.0.1)
ends_told p first second known status text (inr (inr unknown, only)) = absurd (unknown known.1.0 known.1.1)

least_told : (p : ProblemLists) (ws : List (List ℕ)) → ((what : What) × SaysWhat p ws what) → (status : Status) (text : List ℕ) → TellsLeastNamed p ws status text → IsAnswered status
least_told p ws says status text (inl (what, says', tells)) = inl tells.0
least_told p ws says status text (inr (nothing, only)) = absurd (nothing says.0 says.1)

thin_told : (p : ProblemLists) (names : List (List ℕ)) → All (IsKnown p) names → (status : Status) (text : List ℕ) → TellsThin p names status text → IsAnswered status
thin_told p names known status text (inl (named, is, tells)) = inl is
thin_told p names known status text (inr ((k, name, inside, at, unknown), only)) =
    let one = known k name inside in
    absurd (unknown one.0 (subst (HasEvent p one.0) at one.1))

-- ---- the commands
module _ (law : HaveOneAnswer) (old new : FilesTold) (none : Rose old.faults new.faults → ⊥) where
  -- those over one problem
  one_goes : (Tells : ProblemLists → Status → List ℕ → Type 0) (IsAsked : ProblemLists → Type 0) (problem : List ℕ) → ((p : ProblemLists) → IsAsked p → (status : Status) (text : List ℕ) → Tells p status text → IsAnswered status)
      → HoldsProblem old.content problem IsAsked → (status : Status) (text : List ℕ) → ForProblem Tells problem old new status text → IsAnswered status
  one_goes Tells IsAsked problem answered (p, held, asked) status text (inl (q, has, tells)) =
      let both = both_said (SpellsProblem p) (SpellsProblem q) old.content problem held has in
      answered p asked status text (subst (λ (r : ProblemLists). Tells r status text) (sym (problems_one law p q both.0 both.1 both.2)) tells)
  one_goes Tells IsAsked problem answered (p, held, asked) status text (inr (inl (is, bad))) = absurd (not_bad law p problem text old.content held bad)
  one_goes Tells IsAsked problem answered (p, held, asked) status text (inr (inr (is, missed, line))) = absurd (not_missed (SpellsProblem p) problem old new held none missed)

  -- those over a problem and another file
  obey_goes : (problem exec : List ℕ) → HoldsProblem old.content problem (λ p. Holds old.content exec (IsExecutionText p)) → (status : Status) (line : List ℕ) → Obeyed problem exec old new status line → IsAnswered status
  obey_goes problem exec lawful statuses.Done line goes = inl refl
  obey_goes problem exec lawful statuses.No line goes = inr (inl refl)
  obey_goes problem exec lawful statuses.Usage line goes = absurd goes
  obey_goes problem exec lawful statuses.BadDecl line goes = absurd goes
  obey_goes problem exec (p, held, also) statuses.BadProblem line goes = absurd (not_bad law p problem line old.content held goes)
  obey_goes problem exec (p, held, also) statuses.BadExec line (q, refusal, both, is) =
      absurd (no_refused_pair law IsExecutionText RefusesExecution p q refusal old.content problem exec (λ text. no_bad_execution p text refusal) held also both)
  obey_goes problem exec lawful statuses.BadCert line goes = absurd goes
  obey_goes problem exec (p, held, also) statuses.ReadFault line goes = absurd (none_missed (SpellsProblem p) (IsExecutionText p) problem exec old new held also none goes.0)
  obey_goes problem exec lawful statuses.WriteFault line goes = absurd goes
  obey_goes problem exec lawful statuses.Memory line goes = absurd goes
  obey_goes problem exec lawful statuses.ScriptLimit line goes = absurd goes
  obey_goes problem exec lawful statuses.UnknownName line goes = absurd goes
  obey_goes problem exec lawful statuses.NoMerge line goes = absurd goes

  verify_goes : (problem cert : List ℕ) → HoldsProblem old.content problem (λ p. Holds old.content cert (IsCertText p)) → (status : Status) (line : List ℕ) → Verified problem cert old new status line → IsAnswered status
  verify_goes problem cert lawful statuses.Done line goes = inl refl
  verify_goes problem cert lawful statuses.No line goes = inr (inl refl)
  verify_goes problem cert lawful statuses.Usage line goes = absurd goes
  verify_goes problem cert lawful statuses.BadDecl line goes = absurd goes
  verify_goes problem cert (p, held, also) statuses.BadProblem line goes = absurd (not_bad law p problem line old.content held goes)
  verify_goes problem cert lawful statuses.BadExec line goes = absurd goes
  verify_goes problem cert (p, held, also) statuses.BadCert line (q, refusal, both, is) =
      absurd (no_refused_pair law IsCertText RefusesCert p q refusal old.content problem cert (λ text. no_bad_cert p text refusal) held also both)
  verify_goes problem cert (p, held, also) statuses.ReadFault line goes = absurd (none_missed (SpellsProblem p) (IsCertText p) problem cert old new held also none goes.0)
  verify_goes problem cert lawful statuses.WriteFault line goes = absurd goes
  verify_goes problem cert lawful statuses.Memory line goes = absurd goes
  verify_goes problem cert lawful statuses.ScriptLimit line goes = absurd goes
  verify_goes problem cert lawful statuses.UnknownName line goes = absurd goes
  verify_goes problem cert lawful statuses.NoMerge line goes = absurd goes

  judge_goes : (problem widening : List ℕ) → HoldsProblem old.content problem (λ p. Holds old.content widening (IsWideningText p)) → (status : Status) (line : List ℕ) → WideningJudged problem widening old new status line → IsAnswered status
  judge_goes problem widening lawful statuses.Done line goes = inl refl
  judge_goes problem widening lawful statuses.No line goes = inr (inl refl)
  judge_goes problem widening lawful statuses.Usage line goes = absurd goes
  judge_goes problem widening lawful statuses.BadDecl line goes = absurd goes
  judge_goes problem widening (p, held, also) statuses.BadProblem line goes = absurd (not_bad law p problem line old.content held goes)
  judge_goes problem widening lawful statuses.BadExec line goes = absurd goes
  judge_goes problem widening (p, held, also) statuses.BadCert line (q, refusal, both, is) =
      absurd (no_refused_pair law IsWideningText RefusesWidening p q refusal old.content problem widening (λ text. no_bad_widening p text refusal) held also both)
  judge_goes problem widening (p, held, also) statuses.ReadFault line goes = absurd (none_missed (SpellsProblem p) (IsWideningText p) problem widening old new held also none goes.0)
  judge_goes problem widening lawful statuses.WriteFault line goes = absurd goes
  judge_goes problem widening lawful statuses.Memory line goes = absurd goes
  judge_goes problem widening lawful statuses.ScriptLimit line goes = absurd goes
  judge_goes problem widening lawful statuses.UnknownName line goes = absurd goes
  judge_goes problem widening lawful statuses.NoMerge line goes = absurd goes

module _ (law : HaveOneAnswer) (old new : Devices) (none : IsFaultless old new) where
  obey_answered : (problem exec : List ℕ) (result : Status) → HoldsProblem old.files.content problem (λ p. Holds old.files.content exec (IsExecutionText p))
      → Prints (Obeyed problem exec old.files new.files) old.out new.out result → IsAnswered result
  obey_answered problem exec result lawful = printed (Obeyed problem exec old.files new.files) old.out new.out result (obey_goes law old.files new.files none.files problem exec lawful) none.out

  solve_answered : (problem : List ℕ) (result : Status) → HoldsProblem old.files.content problem (λ p. Unit {0}) → Prints (Solved problem old.files new.files) old.out new.out result → IsAnswered result
  solve_answered problem result lawful =
      printed (Solved problem old.files new.files) old.out new.out result (one_goes law old.files new.files none.files TellsSolution (λ p. Unit {0}) problem (λ p asked status text tells. inl tells.0) lawful) none.out

  ends_answered : (problem first second : List ℕ) (result : Status) → HoldsProblem old.files.content problem (λ p. ((from : ℕ) × HasEvent p from first) × ((to : ℕ) × HasEvent p to second))
      → Prints (IntervalAnswered problem first second old.files new.files) old.out new.out result → IsAnswered result
  ends_answered problem first second result lawful =
      printed (IntervalAnswered problem first second old.files new.files) old.out new.out result (one_goes law old.files new.files none.files (λ p. TellsNamed p first second) (λ p. ((from : ℕ) × HasEvent p from first) × ((to : ℕ) × HasEvent p to second)) problem (λ p. ends_told p first second) lawful) none.out

  verify_answered : (problem cert : List ℕ) (result : Status) → HoldsProblem old.files.content problem (λ p. Holds old.files.content cert (IsCertText p))
      → Prints (Verified problem cert old.files new.files) old.out new.out result → IsAnswered result
  verify_answered problem cert result lawful = printed (Verified problem cert old.files new.files) old.out new.out result (verify_goes law old.files new.files none.files problem cert lawful) none.out

  widen_answered : (problem : List ℕ) (ws : List (List ℕ)) (result : Status) → HoldsProblem old.files.content problem (λ p. (what : What) × SaysWhat p ws what)
      → Prints (WideningFound problem ws old.files new.files) old.out new.out result → IsAnswered result
  widen_answered problem ws result lawful =
      printed (WideningFound problem ws old.files new.files) old.out new.out result (one_goes law old.files new.files none.files (λ p. TellsLeastNamed p ws) (λ p. (what : What) × SaysWhat p ws what) problem (λ p. least_told p ws) lawful) none.out

  blame_answered : (problem : List ℕ) (result : Status) → HoldsProblem old.files.content problem (λ p. Unit {0}) → Prints (Blamed problem old.files new.files) old.out new.out result → IsAnswered result
  blame_answered problem result lawful =
      printed (Blamed problem old.files new.files) old.out new.out result (one_goes law old.files new.files none.files TellsBlame (λ p. Unit {0}) problem (λ p asked status text tells. inl tells.0) lawful) none.out

  thin_answered : (problem : List ℕ) (names : List (List ℕ)) (result : Status) → HoldsProblem old.files.content problem (λ p. All (IsKnown p) names) → Prints (ProblemThinned problem names old.files new.files) old.out new.out result → IsAnswered result
  thin_answered problem names result lawful =
      printed (ProblemThinned problem names old.files new.files) old.out new.out result (one_goes law old.files new.files none.files (λ p. TellsThin p names) (λ p. All (IsKnown p) names) problem (λ p. thin_told p names) lawful) none.out

  judge_answered : (problem widening : List ℕ) (result : Status) → HoldsProblem old.files.content problem (λ p. Holds old.files.content widening (IsWideningText p))
      → Prints (WideningJudged problem widening old.files new.files) old.out new.out result → IsAnswered result
  judge_answered problem widening result lawful = printed (WideningJudged problem widening old.files new.files) old.out new.out result (judge_goes law old.files new.files none.files problem widening lawful) none.out

module _ (old new : Devices) (none : IsFaultless old new) where
  trial_answered : (number : List ℕ) (result : Status) → ((n : ℕ) × IsNumber n number) → TriedBy number old.out new.out result → IsAnswered result
  trial_answered number result lawful (inl (n, is, tried)) = printed (Tried n) old.out new.out result (λ status text goes. inl goes.0) none.out tried
  trial_answered number result (n, is) (inr (no_number, closes)) = absurd (no_number n is)

  help_answered : (text : List ℕ) (result : Status) → Closes text statuses.Done old.out new.out result → IsAnswered result
  help_answered text result (inl (is, appended)) = inl is
  help_answered text result (inr (is, (rose, front))) = absurd (none.out rose)

  -- ---- session
  not_long : (script : Option (List ℕ)) (P : List ℕ → Type 0) → IsSomeAnd script (λ bytes. length bytes ≤ most_taken) → OfScript script (λ bytes. (most_taken < length bytes) × P bytes) → ⊥
  not_long None P short long = absurd short
  not_long (Some bytes) P short long = omega (arith, short, long.0)

  no_fault_at : (decl : List ℕ) (d : Declaration) (number : ℕ) (section : Section) (index : ℕ) (files : Content) → Holds files decl (λ bytes. IsDocumentOf bytes d) → IsFaultAt files decl number section index → ⊥
  no_fault_at decl d number section index files held fault =
      no_bytes (λ bytes. IsDocumentOf bytes d) (λ bytes. IsFirstFault bytes (faults.Fault number section index)) files decl (λ bytes is first. no_bad_decl bytes d number section index is first) held fault

  session_goes : (decl : List ℕ) (IsWritten : List ℕ → Type 0) → ((d : Declaration) × Holds old.files.content decl (λ bytes. IsDocumentOf bytes d)) → IsSomeAnd old.input.left (λ bytes. length bytes ≤ most_taken)
      → (status : Status) → TellsSession decl old new IsWritten status → IsAnswered status
  session_goes decl IsWritten lawful short statuses.Done goes = inl refl
  session_goes decl IsWritten lawful short statuses.No goes = absurd goes
  session_goes decl IsWritten lawful short statuses.Usage goes = absurd goes
  session_goes decl IsWritten (d, held) short statuses.BadDecl (number, section, index, fault, same, written) = absurd (no_fault_at decl d number section index old.files.content held fault)
  session_goes decl IsWritten lawful short statuses.BadProblem goes = absurd goes
  session_goes decl IsWritten lawful short statuses.BadExec goes = absurd goes
  session_goes decl IsWritten lawful short statuses.BadCert goes = absurd goes
  session_goes decl IsWritten (d, held) short statuses.ReadFault (inl (missed, same, written)) = absurd (not_missed (λ bytes. IsDocumentOf bytes d) decl old.files new.files held none.files missed)
  session_goes decl IsWritten lawful short statuses.ReadFault (inr (d, has, (rose, taken))) = absurd (none.input rose)
  session_goes decl IsWritten lawful short statuses.WriteFault goes = absurd goes
  session_goes decl IsWritten lawful short statuses.Memory goes = absurd goes
  session_goes decl IsWritten lawful short statuses.ScriptLimit (d, has, long) = absurd (not_long old.input.left (λ script. Replied d old new (whole_lines (take most_taken script)) (λ replies. IsWritten (replies ++ codes "script limit\n"))) short long)
  session_goes decl IsWritten lawful short statuses.UnknownName goes = absurd goes
  session_goes decl IsWritten lawful short statuses.NoMerge goes = absurd goes

  session_answered : (decl : List ℕ) (result : Status) → ((d : Declaration) × Holds old.files.content decl (λ bytes. IsDocumentOf bytes d)) × IsSomeAnd old.input.left (λ bytes. length bytes ≤ most_taken)
      → Conducted decl old new result → IsAnswered result
  session_answered decl result lawful (inl goes) = session_goes decl (Appends old.out.written new.out.written) lawful.0 lawful.1 result goes
  session_answered decl result lawful (inr (inl (is, (rose, failed)))) = absurd (none.out rose)
  session_answered decl result lawful (inr (inr (is, lacks))) = inr (inr (inl is))

-- ---- a merge
module _ (files files' : FilesTold) (input input' : SourceTold) (out out' : SinkTold) (no_file : Rose files.faults files'.faults → ⊥) (no_read : Rose input.faults input'.faults → ⊥) (no_write : Rose out.faults out'.faults → ⊥) where
  long_merge : (d : Declaration) (script : Option (List ℕ)) → IsSomeAnd script (λ bytes. length bytes ≤ most_taken) → OfScript script (merging.IsScriptTooLong d (reads files input) (reads files' input')) → ⊥
  long_merge d None short long = absurd short
  long_merge d (Some bytes) short is = let long = is.long in omega (arith, short, long)

  over_goes : (d : Declaration) → IsSomeAnd input.left (λ bytes. length bytes ≤ most_taken) → (status : Status) (text : List ℕ) → MergedOver d (reads files input) (reads files' input') status text → IsAnswered status
  over_goes d short status text (inl (ordered, merges, writable, few, back, only)) = inl only.0
  over_goes d short status text (inr (whys.Refused said, not, tells)) = inr (inr (inr tells.0))
  over_goes d short status text (inr (whys.Size, not, tells)) = inr (inr (inr tells.0))
  over_goes d short status text (inr (whys.Inconsistent, not, tells)) = inr (inr (inr tells.0))
  over_goes d short status text (inr (whys.Links, not, tells)) = inr (inr (inr tells.0))
  over_goes d short status text (inr (whys.Range, not, tells)) = inr (inr (inr tells.0))
  over_goes d short status text (inr (whys.ReadFault, not, tells)) = absurd (no_read not.0)
  over_goes d short status text (inr (whys.Limit, not, tells)) = absurd (long_merge d input.left short not)
  over_goes d short status text (inr (whys.Memory, not, tells)) = absurd tells

  merge_fault : (decl : List ℕ) (d : Declaration) (number : ℕ) (section : Section) (index : ℕ) → Holds files.content decl (λ bytes. IsDocumentOf bytes d) → IsFaultAt files.content decl number section index → ⊥
  merge_fault decl d number section index held fault =
      no_bytes (λ bytes. IsDocumentOf bytes d) (λ bytes. IsFirstFault bytes (faults.Fault number section index)) files.content decl (λ bytes is first. no_bad_decl bytes d number section index is first) held fault

  merged_goes : (decl : List ℕ) → ((d : Declaration) × Holds files.content decl (λ bytes. IsDocumentOf bytes d)) → IsSomeAnd input.left (λ bytes. length bytes ≤ most_taken) → (status : Status) (text : List ℕ) →
      MergedAt decl (reads files input) (reads files' input') status text → IsAnswered status
  merged_goes decl lawful short status text (inl (d, has, over)) = over_goes d short status text over
  merged_goes decl (d, held) short status text (inr (undeclared.Faulty number section index, fault, same, tells)) = absurd (merge_fault decl d number section index held fault)
  merged_goes decl (d, held) short status text (inr (undeclared.Unread, missed, same, tells)) = absurd (not_missed (λ bytes. IsDocumentOf bytes d) decl files files' held no_file missed)
  merged_goes decl lawful short status text (inr (undeclared.Memory, is, same, tells)) = absurd tells

  mergecap_answered : (decl : List ℕ) (result : Status) → ((d : Declaration) × Holds files.content decl (λ bytes. IsDocumentOf bytes d)) × IsSomeAnd input.left (λ bytes. length bytes ≤ most_taken)
      → Prints (MergedAt decl (reads files input) (reads files' input')) out out' result → IsAnswered result
  mergecap_answered decl result lawful = printed (MergedAt decl (reads files input) (reads files' input')) out out' result (merged_goes decl lawful.0 lawful.1) no_write

  -- the same with dates
  dated_over_goes : (d : Declaration) (name : Option (List ℕ)) → IsSomeAnd input.left (λ bytes. length bytes ≤ most_taken) → (status : Status) (text : List ℕ) → DatedOver d name (reads files input) (reads files' input') status text → IsAnswered status
  dated_over_goes d name short status text (inl (ordered, taps, shift, since, each, merges, dated, written, back, only)) = inl only.0
  dated_over_goes d name short status text (inr (whys.Refused said, not, tells)) = inr (inr (inr tells.0))
  dated_over_goes d name short status text (inr (whys.Size, not, tells)) = inr (inr (inr tells.0))
  dated_over_goes d name short status text (inr (whys.Inconsistent, not, tells)) = inr (inr (inr tells.0))
  dated_over_goes d name short status text (inr (whys.Links, not, tells)) = absurd not
  dated_over_goes d name short status text (inr (whys.Range, not, tells)) = inr (inr (inr tells.0))
  dated_over_goes d name short status text (inr (whys.ReadFault, not, tells)) = absurd (no_read not.0)
  dated_over_goes d name short status text (inr (whys.Limit, not, tells)) = absurd (long_merge d input.left short not)
  dated_over_goes d name short status text (inr (whys.Memory, not, tells)) = absurd tells

  dated_goes : (decl : List ℕ) (name : Option (List ℕ)) → ((d : Declaration) × Holds files.content decl (λ bytes. IsDocumentOf bytes d)) → IsSomeAnd input.left (λ bytes. length bytes ≤ most_taken) → (status : Status) (text : List ℕ) →
      DatedAt decl name (reads files input) (reads files' input') status text → IsAnswered status
  dated_goes decl name lawful short status text (inl (d, has, over)) = dated_over_goes d name short status text over
  dated_goes decl name (d, held) short status text (inr (undeclared.Faulty number section index, fault, same, tells)) = absurd (merge_fault decl d number section index held fault)
  dated_goes decl name (d, held) short status text (inr (undeclared.Unread, missed, same, tells)) = absurd (not_missed (λ bytes. IsDocumentOf bytes d) decl files files' held no_file missed)
  dated_goes decl name lawful short status text (inr (undeclared.Memory, is, same, tells)) = absurd tells

  dated_answered : (decl : List ℕ) (name : Option (List ℕ)) (result : Status) → ((d : Declaration) × Holds files.content decl (λ bytes. IsDocumentOf bytes d)) × IsSomeAnd input.left (λ bytes. length bytes ≤ most_taken)
      → Prints (DatedAt decl name (reads files input) (reads files' input')) out out' result → IsAnswered result
  dated_answered decl name result lawful = printed (DatedAt decl name (reads files input) (reads files' input')) out out' result (dated_goes decl name lawful.0 lawful.1) no_write

-- ---- whatever was asked for
pub all_answered : HaveOneAnswer → (a : Asked) (old new : Devices) (result : Status) → Answers a old new result → IsLawfulInput a old.files.content old.input.left → IsFaultless old new → IsAnswered result
all_answered law (Obey problem exec) old new result answers lawful none = obey_answered law old new none problem exec result lawful answers
all_answered law (Solve problem) old new result answers lawful none = solve_answered law old new none problem result lawful answers
all_answered law (Ends problem first second) old new result answers lawful none = ends_answered law old new none problem first second result lawful answers
all_answered law (Verify problem cert) old new result answers lawful none = verify_answered law old new none problem cert result lawful answers
all_answered law (Session decl) old new result answers lawful none = session_answered old new none decl result lawful answers
all_answered law (Trial number) old new result answers lawful none = trial_answered old new none number result lawful answers
all_answered law (Widen problem ws) old new result answers lawful none = widen_answered law old new none problem ws result lawful answers
all_answered law (Judge problem widening) old new result answers lawful none = judge_answered law old new none problem widening result lawful answers
all_answered law (Blame problem) old new result answers lawful none = blame_answered law old new none problem result lawful answers
all_answered law (Thin problem names) old new result answers lawful none = thin_answered law old new none problem names result lawful answers
all_answered law (Mergecap decl) old new result answers lawful none =
    mergecap_answered old.files new.files old.input new.input old.out new.out none.files none.input none.out decl result lawful answers
all_answered law (MergeDated decl event) old new result answers lawful none =
    dated_answered old.files new.files old.input new.input old.out new.out none.files none.input none.out decl event result lawful answers
all_answered law Help old new result answers lawful none = help_answered old new none help_text result answers
all_answered law Version old new result answers lawful none = help_answered old new none version_text result answers
all_answered law Nothing old new result answers lawful none = absurd lawful
