-- Bytes as a document, or none.
use Rattle.std.proofs.Common.{◌≡◌, ℕ, ◌≤◌, false, nat_lt, List, [], length, Option, Some, None, Result, Ok, Err, option_map, refl, sym, ap, ◌∙◌, subst, arith, inl, inr}
use Rattle.std.specs.Prelude.{IfOk, IfErr, OnOk, IsUtf8}
use Rattle.std.specs.Str.{is_utf8}
use Rattle.std.proofs.lemmas.Bool.{cases_Bool}
use Rattle.std.proofs.lemmas.Str.{is_utf8-from_IsUtf8, IsUtf8-from_is_utf8}
use Rattle.toml.specs.Data.{Members}
use Rattle.toml.specs.Parse.{parse_document}
use Rattle.decl.specs.Causes.{fault_of_entry, first, IsFirstOf}
use Rattle.decl.specs.Declaration.{declaration_of}
use Rattle.decl.specs.Limits.{most_document_bytes}
use Rattle.decl.specs.Walk.{IsDocumentOf, IsFirstFault, declared, document_of, faults, faults_in, faults_read}
use Rattle.decl.specs.declared.cause.Cause.TheVariants.{Document}
use Rattle.decl.specs.declared.errors.DeclError.{DeclError}
use Rattle.decl.specs.declared.errors.Section.TheVariants.{Top}
use Rattle.decl.specs.declared.items.Decl.{Decl}

few_bytes : (bytes : List ℕ) → length bytes ≤ most_document_bytes → nat_lt most_document_bytes (length bytes) ≡ false
few_bytes bytes few = grind (arith, few)

read_faults : (bytes : List ℕ) (o : Option Members) → length bytes ≤ most_document_bytes → document_of bytes ≡ o → faults_in bytes ≡ faults_read o
read_faults bytes o few is = rw (few_bytes bytes few) (ap faults_read is)

module _ (bytes : List ℕ) (ms : Members) (few : length bytes ≤ most_document_bytes) (text : IsUtf8 bytes) (parsed : parse_document bytes ≡ Some ms) where
  document_some : document_of bytes ≡ Some ms
  document_some = rw (is_utf8-from_IsUtf8 bytes text) parsed

  pub declares : (r : Result Decl DeclError) → OnOk r (faults ms ≡ []) → IfOk r (λ d. declaration_of d ≡ declared ms) → IfOk r (λ d. IsDocumentOf bytes (declaration_of d))
  declares (Ok d) sound is = (read_faults bytes (Some ms) few document_some ∙ sound, ap (option_map declared) document_some ∙ ap Some (sym is))
  declares (Err e) sound is = tt

  pub first_fault : (r : Result Decl DeclError) → IfErr r (λ e. IsFirstOf (faults ms) e) → IfErr r (λ e. IsFirstFault bytes e)
  first_fault (Ok d) fault = tt
  first_fault (Err e) fault = subst (λ (fs : List DeclError). IsFirstOf fs e) (sym (read_faults bytes (Some ms) few document_some)) fault

pub no_document : (bytes : List ℕ) (e : DeclError) → length bytes ≤ most_document_bytes → (IsUtf8 bytes → parse_document bytes ≡ None) → e ≡ fault_of_entry Top 0 Document → IsFirstFault bytes e
no_document bytes e few refused is =
    let none : document_of bytes ≡ None = elim (cases_Bool (is_utf8 bytes)) [
      | inl yes' ↦ rw yes' (refused (IsUtf8-from_is_utf8 bytes yes'))
      | inr no' ↦ rw no' refl
    ] in
    subst (λ (f : DeclError). IsFirstOf (faults_in bytes) f) (sym is) (ap first (read_faults bytes None few none))
