-- What `verify` prints and answers.
use Rattle.std.specs.Prelude.{◌≡◌, ℕ, List, [], ◌∷◌, ◌++◌, codes, ℤ}
use Rattle.atto.specs.Decimal.{decimal_of}
use Rattle.atto.specs.NsText.{ns_text}
use Rattle.ports.specs.Files.{FilesTold}
use Rattle.line_format.specs.Words.{line_of}
use Rattle.problem_model.specs.declared.items.Bound.{Bound}
use Rattle.problem_model.specs.Problem.{ProblemLists}
use Rattle.problem_model.specs.Bounds.{Times, IsExecution}
use Rattle.problem_model.specs.Nodes as lists
use Rattle.problem_model.specs.BoundText.{bound_words}
use Rattle.cert.specs.declared.certificate.Cert.{Cert}
use Rattle.cert.specs.declared.certificate.Cert.TheVariants as certs
use Rattle.problem.specs.Listing.{listing_of}
use Rattle.cert.specs.Listed.{HasNames}
use Rattle.cert.specs.Shows.{Shows}
use Rattle.cert_check.specs.Ends.{IsUpperOfAll, IsLowerOfAll}
use Rattle.cert_check.specs.Reasons.{IsFirstReason}
use Rattle.cert_check.specs.declared.answer.Part.{Part}
use Rattle.cert_check.specs.declared.answer.Part.TheVariants.{Cycle, Run, Upper, Lower}
use Rattle.cert_check.specs.declared.answer.Reason.{Reason}
use Rattle.cert_check.specs.declared.answer.Reason.TheVariants.{Empty, Weight, Join, Sum, Broken, Difference, Home, Away, Leaves}
use Rattle.cert_check.specs.declared.answer.Answer.{Answer}
use Rattle.cert_check.specs.declared.answer.Answer.TheVariants as answers
use Rattle.problem_commands.specs.Printing.{IsOnlyText}
use Rattle.problem_commands.specs.Refusal.{refused_text_line}
use Rattle.problem_commands.specs.Texts.{SpellsProblem, SpellsCert, RefusesCert, IsBadProblem, BothHave, MissesOne}
use Rattle.problem_commands.specs.declared.refusal.Refusal.{Refusal}
use Rattle.problem_commands.specs.declared.status.Status.{Status}
use Rattle.problem_commands.specs.declared.status.Status.TheVariants.{Done, No, BadProblem, BadCert, ReadFault}

-- ---- the line
-- the word of a part
abbrev pub part_word : Part → List ℕ
part_word Cycle = codes "cycle"
part_word Run = codes "run"
part_word Upper = codes "upper"
part_word Lower = codes "lower"

-- what is said of a broken bound
abbrev pub broken_words : ProblemLists → Bound → ℤ → ℤ → List (List ℕ)
broken_words p b weight difference = codes "broken" ∷ bound_words p b ++ ns_text weight ∷ ns_text difference ∷ []

-- the words of a reason
abbrev pub reason_words : ProblemLists → Reason → List (List ℕ)
reason_words p Empty = codes "empty" ∷ []
reason_words p (Weight k) = codes "weight" ∷ decimal_of k ∷ []
reason_words p (Join k) = codes "join" ∷ decimal_of k ∷ []
reason_words p (Sum sum) = codes "sum" ∷ ns_text sum ∷ []
reason_words p (Broken b weight difference) = broken_words p b weight difference
reason_words p (Difference difference) = codes "difference" ∷ ns_text difference ∷ []
reason_words p Home = codes "home" ∷ []
reason_words p Away = codes "away" ∷ []
reason_words p (Leaves b) = codes "leaves" ∷ bound_words p b

-- the line that says what is wrong with which part
abbrev pub no_line : ProblemLists → Part → Reason → List ℕ
no_line p part reason = line_of (codes "no" ∷ part_word part ∷ reason_words p reason)

-- ---- what an accepted certificate means, over all executions
-- a cycle leaves no execution, a run is one, and ends are those of the interval
abbrev pub HoldsForAll : ProblemLists → Cert → Type 0
HoldsForAll problem (certs.Cycle steps) = (x : Times) → IsExecution problem x → ⊥
HoldsForAll problem (certs.Run execution) = (x : Times) → lists.Lists problem x execution → IsExecution problem x
HoldsForAll problem (certs.Ends p q upper lower) = IsUpperOfAll problem p q upper × IsLowerOfAll problem p q lower

-- ---- verify
-- the clocks or the events of the bound that a reason tells of have names
abbrev pub NamesReason : ProblemLists → Reason → Type 0
NamesReason p (Broken b weight difference) = HasNames (listing_of p) b
NamesReason p (Leaves b) = HasNames (listing_of p) b
NamesReason p _ = Unit {0}

abbrev pub NamesAnswer : ProblemLists → Answer → Type 0
NamesAnswer p answers.Yes = Unit {0}
NamesAnswer p (answers.No part reason) = NamesReason p reason

-- what is printed of an answer, and with which status
abbrev pub TellsAnswer : ProblemLists → Answer → Status → List ℕ → Type 0
TellsAnswer p answers.Yes = IsOnlyText (codes "yes\n") Done
TellsAnswer p (answers.No part reason) = IsOnlyText (no_line p part reason) No

-- what `verify` prints, with which status, and when
abbrev pub Verified : List ℕ → List ℕ → FilesTold → FilesTold → Status → List ℕ → Type 0
Verified problem cert old new Done line = (p : ProblemLists) × (c : Cert)
    × BothHave old.content problem cert (λ text more. SpellsProblem p text × SpellsCert p c more × Shows p c × HoldsForAll p c)
    × (line ≡ codes "yes\n")
Verified problem cert old new No line = (p : ProblemLists) × (c : Cert) × (part : Part) × (reason : Reason)
    × BothHave old.content problem cert (λ text more. SpellsProblem p text × SpellsCert p c more × (Shows p c → ⊥) × IsFirstReason p c part reason)
    × (line ≡ no_line p part reason)
Verified problem cert old new BadProblem line = IsBadProblem problem old.content line
Verified problem cert old new BadCert line = (p : ProblemLists) × (refusal : Refusal)
    × BothHave old.content problem cert (λ text more. SpellsProblem p text × RefusesCert p more refusal)
    × (line ≡ refused_text_line (codes "certificate") refusal)
Verified problem cert old new ReadFault line = MissesOne problem cert old new × (line ≡ codes "read fault\n")
Verified problem cert old new _ line = ⊥
