-- The replies to `add`.
use Rattle.std.proofs.Common.{◌≡◌, ◌⊎◌, inl, inr, ℕ, zero, suc, ◌+◌, ◌<◌, ◌≤◌, List, [], ◌∷◌, length, Option, Some, None, Bool, true, false, position, refl, sym, subst, arith}
use Rattle.std.specs.Str.{bytes_eq}
use Rattle.std.proofs.lemmas.List.Quantifiers.{position-Some}
use Rattle.std.proofs.lemmas.Grind.{common_steps}
use Rattle.ports.specs.Content.{Rose}
use Rattle.ports.specs.Files.{Content, FilesTold, Keeps, IsAbsent, HasBytes, IsFront}
use Rattle.decl.specs.declared.items.Label.{Label}
use Rattle.decl.specs.Declaration.{Declaration}
use Rattle.replies.specs.declared.refusal.Refusal.TheVariants.{UnknownLabel, UnreadFile}
use Rattle.replies.specs.Refusals.{refusal_line}
use Rattle.replies.specs.Commands.{Add}
use Rattle.replies.specs.Reply.{State, Found, Unread, Bytes, Absent, Failed, AddReply, label_at, most_piece}
use Rattle.replies.specs.Sessions.{FoundAt}
use Rattle.session.specs.Stands.{Held, StandsFor}
use Rattle.session.specs.Inside.{IsPiece, FrontAnswered, CommandAnswered}
use Rattle.session.specs.TakingInside.{UnderAnswered}

pub by_place : (d : Declaration) (s s' : State) (o o' : Option ℕ) (found : Found) (text : List ℕ) → o ≡ o' → AddReply d s o' found text s' → AddReply d s o found text s'
by_place d s s' o o' found text e reply = rw e reply

pub found_unread : (files : Content) (label path : List ℕ) → FoundAt files (Add label path) Unread
found_unread None label path = tt
found_unread (Some files) label path = tt

found_failed : (files : Content) (label path : List ℕ) → FoundAt files (Add label path) Failed
found_failed None label path = tt
found_failed (Some files) label path = tt

found_absent : (files : Content) (label path : List ℕ) → IsAbsent files path → FoundAt files (Add label path) Absent
found_absent None label path absent = tt
found_absent (Some files) label path absent = absent

pub label_in : (held : Held) (d : Declaration) (s : State) (label : List ℕ) (o : Option ℕ) → StandsFor held d s → o ≡ label_at held.declaration label → label_at d label ≡ o
label_in held d s label o stands is = subst (λ (x : Declaration). label_at x label ≡ o) stands.declaration (sym is)

pub add_unknown : (held : Held) (files : FilesTold) (label path : List ℕ) (IsWritten : List ℕ → Type 0) → None ≡ label_at held.declaration label →
    IsWritten (refusal_line UnknownLabel) → CommandAnswered (Some (Add label path)) files files held held IsWritten
add_unknown held files label path IsWritten none written d s stands = (
  Unread,
  (_, s, (found_unread files.content label path, by_place d s s _ None Unread _ (label_in held d s label None stands none) (refl, refl)), written, stands),
  record { failed = λ below. omega arith; absent = λ below. omega arith },
)

at_most_one : (last a b : ℕ) → ((a < b) ⊎ (b ≡ last)) → b < last → a + 1 ≤ b
at_most_one last a b (inl lt) below = omega (arith, lt)
at_most_one last a b (inr is) below = absurd (omega (arith, is, below))

-- where nothing was added, nothing is said of packets
pub under_failed : (held : Held) (files files' : FilesTold) (path : List ℕ) (k : ℕ) (Says : Found → Type 0) (IsWritten : List ℕ → Type 0) → Rose files.faults files'.faults → Keeps files files' → Says Failed →
    IsWritten (refusal_line UnreadFile) → UnderAnswered k path files files' held held Says IsWritten
under_failed held files files' path k Says IsWritten rose keeps says written d s stands = (
  Failed,
  (λ label. found_failed files.content label path),
  says,
  (_, s, (refl, refl), written, stands),
  record { failed = λ below. at_most_one _ files.faults files'.faults rose below; absent = λ below. omega (arith, keeps.absences) },
)

pub under_absent : (held : Held) (files files' : FilesTold) (path : List ℕ) (k : ℕ) (Says : Found → Type 0) (IsWritten : List ℕ → Type 0) → Rose files.absences files'.absences → Keeps files files' →
    IsAbsent files.content path → Says Absent → IsWritten (refusal_line UnreadFile) → UnderAnswered k path files files' held held Says IsWritten
under_absent held files files' path k Says IsWritten rose keeps absent says written d s stands = (
  Absent,
  (λ label. found_absent files.content label path absent),
  says,
  (_, s, (refl, refl), written, stands),
  record { failed = λ below. omega (arith, keeps.faults); absent = λ below. at_most_one _ files.absences files'.absences rose below },
)

-- the bytes of which the front was read, where the files tell them or not
whole : (most : ℕ) (front bytes : List ℕ) (more : Bool) → more ≡ false → IsFront most front more bytes → front ≡ bytes
whole most front bytes more is_false is = grind (arith, common_steps, is.0, is.1, is_false)

long : (most : ℕ) (front bytes : List ℕ) (more : Bool) → more ≡ true → IsFront most front more bytes → most < length bytes
long most front bytes more is_true is = grind (arith, is.1, is_true)

more_than : (n : ℕ) → (bytes : List ℕ) × (n < length bytes)
more_than zero = (0 ∷ [], omega arith)
more_than (suc n) = let more = more_than n in (0 ∷ more.0, omega (arith, more.1))

piece_of : (files : Content) (path front : List ℕ) (more : Bool) → HasBytes files path (IsFront most_piece front more) →
    (bytes : List ℕ) × ((label : List ℕ) → FoundAt files (Add label path) (Bytes bytes)) × IsPiece more front bytes
piece_of None path front false has = (front, (λ label. tt), refl)
piece_of None path front true has = let some = more_than most_piece in (some.0, (λ label. tt), some.1)
piece_of (Some files) path front false has = (has.0, (λ label. has.1), sym (whole most_piece front has.0 false refl has.2))
piece_of (Some files) path front true has = (has.0, (λ label. has.1), long most_piece front has.0 true refl has.2)

pub under_read : (held held' : Held) (files files' : FilesTold) (path front : List ℕ) (more : Bool) (k : ℕ) (Says : Found → Type 0) (IsWritten : List ℕ → Type 0) →
    Keeps files files' → HasBytes files.content path (IsFront most_piece front more) → ((bytes : List ℕ) → IsPiece more front bytes → Says (Bytes bytes)) → FrontAnswered more front held held' k IsWritten →
    UnderAnswered k path files files' held held' Says IsWritten
under_read held held' files files' path front more k Says IsWritten keeps has says answer d s stands =
    let piece = piece_of files.content path front more has in (
      Bytes piece.0,
      piece.1,
      says piece.0 piece.2,
      answer piece.0 piece.2 d s stands,
      record { failed = λ below. omega (arith, keeps.faults); absent = λ below. omega (arith, keeps.absences) },
    )

-- what answers a file for a label at its place answers it by its name
pub under_command : (held held' : Held) (files files' : FilesTold) (label path : List ℕ) (k : ℕ) (Says : Found → Type 0) (IsWritten : List ℕ → Type 0) → Some k ≡ label_at held.declaration label →
    UnderAnswered k path files files' held held' Says IsWritten → CommandAnswered (Some (Add label path)) files files' held held' IsWritten
under_command held held' files files' label path k Says IsWritten some answered d s stands =
    let x = answered d s stands in
    let reply = x.3 in
    let here = label_in held d s label (Some k) stands some in
    (x.0, (reply.0, reply.1, (x.1 label, by_place d s reply.1 _ (Some k) x.0 reply.0 here reply.2), reply.3, reply.4), x.4)

found_within : (test : Label → Bool) (labels : List Label) (k : ℕ) → position test labels ≡ Some k → k < length labels
found_within test [] k is = absurd cc
found_within test (label ∷ labels) k is = (position-Some test (label ∷ labels) k label is).0

pub label_within : (held : Held) (label : List ℕ) (k : ℕ) → Some k ≡ label_at held.declaration label → k < length held.declaration.labels
label_within held label k some = found_within (λ (l : Label). bytes_eq l.name label) held.declaration.labels k (sym some)
