-- What files hold when some are put one after another.
use Rattle.std.proofs.Common.{◌≡◌, ℕ, List, [], ◌∷◌, ◌++◌, Bool, true, false, cond, Option, Some, None, refl, ap, sym, ◌∙◌, append_assoc}
use Rattle.std.specs.Str.{bytes_eq}
use Rattle.std.proofs.lemmas.Bool.{true≢false}
use Rattle.std.proofs.lemmas.Slice.Eq.{bytes_eq-Decides}
use Rattle.ports.specs.Memory.{PutFile, bytes_of, first_of_two}
use Rattle.shared_fixtures.specs.FilesOf.{text_put}

first_of_two-none : (x : Option (List ℕ)) → x ≡ first_of_two x None
first_of_two-none None = refl
first_of_two-none (Some bytes) = refl

first_of_two-three : (x y z : Option (List ℕ)) → first_of_two (first_of_two x y) z ≡ first_of_two x (first_of_two y z)
first_of_two-three None y z = refl
first_of_two-three (Some bytes) y z = refl

pub bytes_of-append : (xs ys : List PutFile) (path : List ℕ) → bytes_of (xs ++ ys) path ≡ first_of_two (bytes_of ys path) (bytes_of xs path)
bytes_of-append [] ys path = first_of_two-none (bytes_of ys path)
bytes_of-append (f ∷ fs) ys path =
    ap (λ o. first_of_two o (cond (bytes_eq f.path path) (Some f.bytes) None)) (bytes_of-append fs ys path)
    ∙ first_of_two-three (bytes_of ys path) (bytes_of fs path) (cond (bytes_eq f.path path) (Some f.bytes) None)

-- the bytes at a path by whether it is that of the last file
last_or_earlier : (before after : List PutFile) (path text other : List ℕ) (is_same : Bool) → bytes_eq path other ≡ is_same →
    bytes_of after path ≡ Some text → ((p : List ℕ) → (p ≡ path → ⊥) → bytes_of after p ≡ bytes_of before p) →
    bytes_of after other ≡ first_of_two (cond is_same (Some text) None) (bytes_of before other)
last_or_earlier before after path text other true is there others = ap (λ p. bytes_of after p) (sym ((bytes_eq-Decides path other).0 is)) ∙ there
last_or_earlier before after path text other false is there others =
    others other (λ same. absurd (true≢false (sym ((bytes_eq-Decides path other).1 (sym same)) ∙ is)))

-- one more text, behind those that were put so far
pub put_more : (old taken mid new : List PutFile) (path text : List ℕ) →
    ((p : List ℕ) → bytes_of mid p ≡ bytes_of (old ++ taken) p) →
    bytes_of new path ≡ Some text → ((p : List ℕ) → (p ≡ path → ⊥) → bytes_of new p ≡ bytes_of mid p) →
    (p : List ℕ) → bytes_of new p ≡ bytes_of (old ++ (taken ++ text_put path text ∷ [])) p
put_more old taken mid new path text so_far there others p =
    last_or_earlier mid new path text p (bytes_eq path p) refl there others
    ∙ ap (λ o. first_of_two (cond (bytes_eq path p) (Some text) None) o) (so_far p)
    ∙ sym (bytes_of-append (old ++ taken) (text_put path text ∷ []) p)
    ∙ ap (λ files. bytes_of files p) (append_assoc old taken (text_put path text ∷ []))
