-- Files that are put one behind the other.
use Rattle.std.proofs.Common.{◌≡◌, ℕ, List, [], ◌∷◌, ◌++◌, refl, ap, sym, ◌∙◌, subst, inl, inr, true}
use Rattle.std.specs.Prelude.{Option, Some, None, if◌then◌else◌}
use Rattle.std.specs.Str.{bytes_eq}
use Rattle.std.proofs.lemmas.Bool.{cases_Bool}
use Rattle.std.proofs.lemmas.Slice.Eq.{bytes_eq-Decides}
use Rattle.ports.specs.Memory.{PutFile, bytes_of, first_of_two}
use Rattle.trial.specs.Workload.{HasFiles}

-- what is behind goes before what is in front
first_assoc : (a b c : Option (List ℕ)) → first_of_two (first_of_two a b) c ≡ first_of_two a (first_of_two b c)
first_assoc None b c = refl
first_assoc (Some x) b c = refl

first_none : (a : Option (List ℕ)) → first_of_two a None ≡ a
first_none None = refl
first_none (Some x) = refl

pub bytes_joined : (front back : List PutFile) (path : List ℕ) → bytes_of (front ++ back) path ≡ first_of_two (bytes_of back path) (bytes_of front path)
bytes_joined [] back path = sym (first_none (bytes_of back path))
bytes_joined (f ∷ front) back path =
    ap (λ b. first_of_two b (if bytes_eq f.path path then Some f.bytes else None)) (bytes_joined front back path)
    ∙ first_assoc (bytes_of back path) (bytes_of front path) (if bytes_eq f.path path then Some f.bytes else None)

-- one file more
module _ (old new files : List PutFile) (path bytes : List ℕ) (h : HasFiles old files) (there : bytes_of new path ≡ Some bytes) (others : (p : List ℕ) → (p ≡ path → ⊥) → bytes_of new p ≡ bytes_of old p) where
  abbrev file : PutFile
  file = record { path = path; bytes = bytes }

  pub put_behind : HasFiles new (files ++ file ∷ [])
  put_behind p = elim (cases_Bool (bytes_eq path p)) [
    | inl t ↦
        let e : path ≡ p = (bytes_eq-Decides path p).0 t in
        subst (λ q. bytes_of new q ≡ Some bytes) e there
        ∙ sym (bytes_joined files (file ∷ []) p ∙ ap (λ b. first_of_two (first_of_two None (if b then Some bytes else None)) (bytes_of files p)) t)
    | inr f ↦
        let n : p ≡ path → ⊥ = (λ e. let t : bytes_eq path p ≡ true = (bytes_eq-Decides path p).1 (sym e) in absurd cc) in
        others p n ∙ h p
        ∙ sym (bytes_joined files (file ∷ []) p ∙ ap (λ b. first_of_two (first_of_two None (if b then Some bytes else None)) (bytes_of files p)) f)
  ]
