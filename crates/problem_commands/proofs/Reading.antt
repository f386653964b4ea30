-- From the texts in the files to what is said of the files.
use Rattle.std.proofs.Common.{◌≡◌, ℕ, ◌≤◌, List, length, Some, None, Bool, false, Result, Ok, Err, sym, subst, arith}
use Rattle.std.specs.Prelude.{ℤ, IfOk, IfErr}
use Rattle.std.proofs.lemmas.Grind.{common_steps}
use Rattle.ports.specs.Files.{Content, FilesTold, HasBytes, IsFront}
use Rattle.line_format.specs.Format.{Answers, most_text_bytes}
use Rattle.problem_model.specs.Problem.{ProblemLists}
use Rattle.problem_model.specs.Bounds.{Times}
use Rattle.problem_model.specs.Nodes.{Reading, AreReadings, Lists}
use Rattle.cert.specs.declared.certificate.Cert.{Cert}
use Rattle.cert.specs.declared.error.CertError.{CertError}
use Rattle.cert.specs.declared.error.CertError.TheVariants as certs
use Rattle.cert.specs.CertificateFormat.{certificate_format}
use Rattle.cert.specs.ExecutionFormat.{execution_format}
use Rattle.cert.specs.ReadsCert.{ReadsCert}
use Rattle.cert.specs.ReadsExecution.{Reads}
use Rattle.problem_commands.specs.Refusal.{refused_answer}
use Rattle.problem_commands.specs.Texts.{SpellsExecution, SpellsCert, RefusesExecution, RefusesCert, BothHave}
use Rattle.problem_commands.specs.Unread.{IsUnread, IsRefusedFor, IsLong, unread_cert}
use Rattle.problem_commands.specs.declared.refusal.Refusal.{Refusal}
use Rattle.problem_commands.specs.declared.texts.Unread.{Unread}
use Rattle.problem_commands.specs.declared.texts.Unread.TheVariants as unread

-- ---- the whole of a file
whole : (most : ℕ) (front bytes : List ℕ) (more : Bool) → more ≡ false → IsFront most front more bytes → (length bytes ≤ most) × (front ≡ bytes)
whole most front bytes more is_false is = (grind (arith, common_steps, is.1, is_false), grind (arith, common_steps, is.0, is.1, is_false))

-- the text is the whole of the file at the path, and short enough
abbrev pub IsWhole : Content → List ℕ → List ℕ → Type 0
IsWhole files path text = HasBytes files path (λ all. (length all ≤ most_text_bytes) × (text ≡ all))

pub text_whole : (files : Content) (path front : List ℕ) (more : Bool) → more ≡ false → HasBytes files path (IsFront most_text_bytes front more) → IsWhole files path front
text_whole None path front more is has = tt
text_whole (Some files) path front more is has = (has.0, has.1, whole most_text_bytes front has.0 more is has.2)

-- ---- what a text says, of the file that has it
pub spelled_in : (files : Content) (path text : List ℕ) (P : List ℕ → Type 0) → IsWhole files path text → P text → HasBytes files path P
spelled_in None path text P has is = tt
spelled_in (Some files) path text P has is = (has.0, has.1, subst P has.2.1 is)

refused_in : (Refuses : List ℕ → Refusal → Type 0) (path text : List ℕ) (old new : FilesTold) (u : Unread) → IsWhole old.content path text → IsRefusedFor Refuses text u → IsUnread Refuses path old new u
refused_in Refuses path text old new (unread.Refused refusal) has is = spelled_in old.content path text (λ t. Refuses t refusal) has is
refused_in Refuses path text old new unread.Fault has is = absurd is
refused_in Refuses path text old new unread.Memory has is = tt

pub ok_in : {V : Type 0} (files : Content) (path text : List ℕ) (P : V → List ℕ → Type 0) (r : Result V Unread) → IsWhole files path text → IfOk r (λ v. P v text) → IfOk r (λ v. HasBytes files path (P v))
ok_in files path text P (Ok v) has is = spelled_in files path text (P v) has is
ok_in files path text P (Err e) has is = tt

-- the same, where a certificate is told beside
pub cert_in : {V : Type 0} (files : Content) (path text : List ℕ) (P : Cert → List ℕ → Type 0) (Q : Cert → V → Type 0) (r : Result V Unread) → IsWhole files path text
    → IfOk r (λ v. (c : Cert) × P c text × Q c v) → IfOk r (λ v. (c : Cert) × HasBytes files path (P c) × Q c v)
cert_in files path text P Q (Ok v) has is = (is.0, spelled_in files path text (P is.0) has is.1, is.2)
cert_in files path text P Q (Err e) has is = tt

pub err_in : {V : Type 0} (Refuses : List ℕ → Refusal → Type 0) (path text : List ℕ) (old new : FilesTold) (r : Result V Unread) → IsWhole old.content path text → IfErr r (IsRefusedFor Refuses text) →
    IfErr r (IsUnread Refuses path old new)
err_in Refuses path text old new (Ok v) has is = tt
err_in Refuses path text old new (Err u) has is = refused_in Refuses path text old new u has is

pub times_in : (files : Content) (path text : List ℕ) (p : ProblemLists) (r : Result (List ℤ) Unread) → IsWhole files path text → IfOk r (λ e. (x : Times) → Lists p x e → SpellsExecution p x text) →
    IfOk r (λ e. (x : Times) → Lists p x e → HasBytes files path (SpellsExecution p x))
times_in files path text p (Ok e) has is = λ x lists. spelled_in files path text (SpellsExecution p x) has (is x lists)
times_in files path text p (Err u) has is = tt

-- ---- texts that are refused
pub execution_refused : (p : ProblemLists) (text : List ℕ) (e : CertError) → Reads p text (Err e) → (readings : List Reading) → AreReadings p readings → IsRefusedFor (RefusesExecution p) text (unread_cert e)
execution_refused p text (certs.Syntax line) reads readings are = (readings, are, reads readings are)
execution_refused p text (certs.Name line) reads readings are = (readings, are, reads readings are)
execution_refused p text (certs.Range line) reads readings are = (readings, are, reads readings are)
execution_refused p text (certs.Limit line) reads readings are = absurd (reads readings are)
execution_refused p text certs.Long reads readings are = (readings, are, reads readings are)
execution_refused p text certs.Memory reads readings are = tt

pub certificate_refused : (p : ProblemLists) (text : List ℕ) (e : CertError) → ReadsCert p text (Err e) → (readings : List Reading) → AreReadings p readings → IsRefusedFor (RefusesCert p) text (unread_cert e)
certificate_refused p text (certs.Syntax line) reads readings are = (readings, are, reads readings are)
certificate_refused p text (certs.Name line) reads readings are = (readings, are, reads readings are)
certificate_refused p text (certs.Range line) reads readings are = (readings, are, reads readings are)
certificate_refused p text (certs.Limit line) reads readings are = (readings, are, reads readings are)
certificate_refused p text certs.Long reads readings are = (readings, are, reads readings are)
certificate_refused p text certs.Memory reads readings are = tt

pub has_mapped : (files : Content) (path : List ℕ) (P Q : List ℕ → Type 0) → ((text : List ℕ) → P text → Q text) → HasBytes files path P → HasBytes files path Q
has_mapped None path P Q on has = tt
has_mapped (Some files) path P Q on has = (has.0, has.1, on has.0 has.2)

pub unread_as : (P Q : List ℕ → Refusal → Type 0) (path : List ℕ) (old new : FilesTold) (u : Unread) → ((text : List ℕ) (refusal : Refusal) → P text refusal → Q text refusal)
    → IsUnread P path old new u → IsUnread Q path old new u
unread_as P Q path old new (unread.Refused refusal) on is = has_mapped old.content path (λ text. P text refusal) (λ text. Q text refusal) (λ text. on text refusal) is
unread_as P Q path old new unread.Fault on is = is
unread_as P Q path old new unread.Memory on is = tt

-- ---- texts that are too long
long_execution : (p : ProblemLists) (readings : List Reading) → AreReadings p readings → (text : List ℕ) (refusal : Refusal) → IsLong text refusal → RefusesExecution p text refusal
long_execution p readings are text refusal long = (readings, are, subst (λ (r : Refusal). Answers (execution_format p readings) text (refused_answer r)) (sym long.0) long.1)

long_certificate : (p : ProblemLists) (readings : List Reading) → AreReadings p readings → (text : List ℕ) (refusal : Refusal) → IsLong text refusal → RefusesCert p text refusal
long_certificate p readings are text refusal long = (readings, are, subst (λ (r : Refusal). Answers (certificate_format p readings) text (refused_answer r)) (sym long.0) long.1)

pub unread_execution : (p : ProblemLists) (readings : List Reading) (path : List ℕ) (old new : FilesTold) (u : Unread) → AreReadings p readings → IsUnread IsLong path old new u → IsUnread (RefusesExecution p) path old new u
unread_execution p readings path old new u are is = unread_as IsLong (RefusesExecution p) path old new u (long_execution p readings are) is

pub unread_certificate : (p : ProblemLists) (readings : List Reading) (path : List ℕ) (old new : FilesTold) (u : Unread) → AreReadings p readings → IsUnread IsLong path old new u → IsUnread (RefusesCert p) path old new u
unread_certificate p readings path old new u are is = unread_as IsLong (RefusesCert p) path old new u (long_certificate p readings are) is

-- ---- texts that spell a value
pub execution_spelled : (p : ProblemLists) (text : List ℕ) (values : List ℤ) (x : Times) → Reads p text (Ok values) → Lists p x values → SpellsExecution p x text
execution_spelled p text values x reads lists =
    let spelled = reads lists.0 lists.1 in
    record { short = spelled.0; readings = lists.0; values = values; are_readings = lists.1; fit = spelled.2; values_are = lists.2; is = spelled.3 }

pub certificate_spelled : (p : ProblemLists) (text : List ℕ) (c : Cert) (readings : List Reading) → AreReadings p readings → ReadsCert p text (Ok c) → SpellsCert p c text
certificate_spelled p text c readings are reads = (readings, are, reads readings are)

-- ---- two files
pub has_since : (P : List ℕ → Type 0) (files files' : Content) (path : List ℕ) → files' ≡ files → HasBytes files' path P → HasBytes files path P
has_since P files files' path same has = subst (λ (c : Content). HasBytes c path P) same has

pub both_have : (files : Content) (first second : List ℕ) (P Q : List ℕ → Type 0) (R : List ℕ → List ℕ → Type 0) → ((text more : List ℕ) → P text → Q more → R text more)
    → HasBytes files first P → HasBytes files second Q → BothHave files first second R
both_have None first second P Q R on a b = tt
both_have (Some files) first second P Q R on a b = (a.0, b.0, a.1, b.1, on a.0 b.0 a.2 b.2)
