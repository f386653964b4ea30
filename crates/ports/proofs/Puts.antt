-- Files that were put one after another.
use Rattle.std.proofs.Common.{◌≡◌, ℕ, List, [], ◌∷◌, ◌++◌, map, Bool, true, false, cond, Option, Some, None, refl, sym, ◌∙◌, ap}
use Rattle.std.specs.Str.{bytes_eq}
use Rattle.std.proofs.lemmas.List.{map-append}
use Rattle.std.proofs.lemmas.Bool.{false_from_ne_true}
use Rattle.std.proofs.lemmas.Slice.Eq.{bytes_eq-Decides}
use Rattle.ports.specs.Memory.{PutFile, first_of_two, bytes_of}
use Rattle.ports.specs.Put.{put_of}
use Rattle.ports.specs.declared.mem_files.MemFile.{MemFile}

first_of_two-cond : (b : Bool) (bytes : List ℕ) (x y : Option (List ℕ)) → first_of_two (cond b (Some bytes) x) y ≡ cond b (Some bytes) (first_of_two x y)
first_of_two-cond true bytes x y = refl
first_of_two-cond false bytes x y = refl

bytes_of-push : (fs : List PutFile) (f : PutFile) (path : List ℕ) → bytes_of (fs ++ f ∷ []) path ≡ cond (bytes_eq f.path path) (Some f.bytes) (bytes_of fs path)
bytes_of-push [] f path = refl
bytes_of-push (g ∷ gs) f path =
    ap (λ o. first_of_two o (cond (bytes_eq g.path path) (Some g.bytes) None)) (bytes_of-push gs f path)
    ∙ first_of_two-cond (bytes_eq f.path path) f.bytes (bytes_of gs path) (cond (bytes_eq g.path path) (Some g.bytes) None)

-- the bytes at a path when one more file was put
pub bytes_of-put : (fs : List MemFile) (f : MemFile) (path : List ℕ) →
    bytes_of (map put_of (fs ++ f ∷ [])) path ≡ cond (bytes_eq f.path.items path) (Some f.bytes.items) (bytes_of (map put_of fs) path)
bytes_of-put fs f path = ap (λ puts. bytes_of puts path) (map-append put_of fs (f ∷ [])) ∙ bytes_of-push (map put_of fs) (put_of f) path

pub put_there : (fs : List MemFile) (f : MemFile) (path bytes : List ℕ) → f.path.items ≡ path → f.bytes.items ≡ bytes →
    bytes_of (map put_of (fs ++ f ∷ [])) path ≡ Some bytes
put_there fs f path bytes at is =
    bytes_of-put fs f path ∙ ap (λ b. cond b (Some f.bytes.items) (bytes_of (map put_of fs) path)) ((bytes_eq-Decides f.path.items path).1 at) ∙ ap Some is

pub put_elsewhere : (fs : List MemFile) (f : MemFile) (path other : List ℕ) → f.path.items ≡ path → (other ≡ path → ⊥) →
    bytes_of (map put_of (fs ++ f ∷ [])) other ≡ bytes_of (map put_of fs) other
put_elsewhere fs f path other at differs =
    bytes_of-put fs f other ∙ ap (λ b. cond b (Some f.bytes.items) (bytes_of (map put_of fs) other))
    (false_from_ne_true _ (λ same. differs (sym ((bytes_eq-Decides f.path.items other).0 same) ∙ at)))

-- looking from the last file backwards
pub bytes_of-last : (fs rest : List MemFile) (f : MemFile) (path : List ℕ) → fs ≡ rest ++ f ∷ [] → bytes_eq f.path.items path ≡ true →
    bytes_of (map put_of fs) path ≡ Some f.bytes.items
bytes_of-last fs rest f path is same =
    ap (λ xs. bytes_of (map put_of xs) path) is ∙ bytes_of-put rest f path ∙ ap (λ b. cond b (Some f.bytes.items) (bytes_of (map put_of rest) path)) same

pub bytes_of-earlier : (fs rest : List MemFile) (f : MemFile) (path : List ℕ) → fs ≡ rest ++ f ∷ [] → bytes_eq f.path.items path ≡ false →
    bytes_of (map put_of fs) path ≡ bytes_of (map put_of rest) path
bytes_of-earlier fs rest f path is differs =
    ap (λ xs. bytes_of (map put_of xs) path) is ∙ bytes_of-put rest f path ∙ ap (λ b. cond b (Some f.bytes.items) (bytes_of (map put_of rest) path)) differs
