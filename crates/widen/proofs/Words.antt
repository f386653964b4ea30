-- The line of the widening.
use Rattle.std.proofs.Common.{◌≡◌, ℕ, List, [], ◌∷◌, inr, Option, Some, None, codes, refl, sym, ◌∙◌, ap, subst, ◌++◌}
use Rattle.std.specs.Prelude.{IfSome, IfNone}
use Rattle.line_format.specs.Words.{words}
use Rattle.line_format.specs.Cut.{cut, Lacks}
use Rattle.line_format.proofs.Cutting.{cut_takes, cut_again, cut_lacks}
use Rattle.line_format.proofs.Lacking.{lacks_test}
use Rattle.line_format.proofs.Reading.{same_first}
use Rattle.widen.specs.declared.named.NamedWhat.{NamedWhat}
use Rattle.widen.specs.declared.read.Stated.{Stated}
use Rattle.widen.specs.Named.{AreStated}
use Rattle.widen.specs.NamedWords.{stated_named}
use Rattle.widen.specs.WideningText.{least_word, least_words}
use Rattle.widen.specs.ReadsLines.{IsStated}
use Rattle.widen.proofs.Naming.{stated_lacks}
use Rattle.widen.proofs.Lines.{word_lacks}

rest_or : Option (List ℕ × List ℕ) → List ℕ
rest_or None = []
rest_or (Some p) = p.1

-- what is left behind a cut is known
same_rest : (d : ℕ) (body first rest word more : List ℕ) → cut d body ≡ Some (first, rest) → cut d body ≡ Some (word, more) → rest ≡ more
unfolding rest_or
same_rest d body first rest word more parts cuts = ap rest_or (sym parts ∙ cuts)

-- ---- a first word that lacks spaces
pub alone_cut : (body word : List ℕ) → Lacks 32 word → body ≡ word → cut 32 body ≡ None
alone_cut body word lacks is = ap (cut 32) is ∙ cut_lacks 32 word lacks

pub more_cut : (body word more : List ℕ) → Lacks 32 word → body ≡ word ++ 32 ∷ more → cut 32 body ≡ Some (word, more)
more_cut body word more lacks is = ap (cut 32) is ∙ cut_again 32 word more lacks

-- words that begin with this one: a cut tells it and the rest
module _ (body first rest word : List ℕ) (parts : cut 32 body ≡ Some (first, rest)) (lacks : Lacks 32 word) where
  pub not_alone : body ≡ word → ⊥
  not_alone is = let none = alone_cut body word lacks is in cc

  pub first_is : (more : List ℕ) → body ≡ word ++ 32 ∷ more → first ≡ word
  first_is more is = same_first 32 body body first rest word more parts refl (more_cut body word more lacks is)

  pub rest_is : (more : List ℕ) → body ≡ word ++ 32 ∷ more → rest ≡ more
  rest_is more is = same_rest 32 body first rest word more parts (more_cut body word more lacks is)

pub no_more : (body word more : List ℕ) → cut 32 body ≡ None → Lacks 32 word → body ≡ word ++ 32 ∷ more → ⊥
no_more body word more none lacks is = let some = more_cut body word more lacks is in cc

-- ---- kinds and names
kind_lacks : (kind : List ℕ) (names : List (List ℕ)) → AreStated (kind ∷ names) → Lacks 32 kind
kind_lacks kind names stated = let all = stated_lacks 32 (kind ∷ names) (inr refl) stated in all.0

name_lacks : (kind first : List ℕ) (more : List (List ℕ)) → AreStated (kind ∷ first ∷ more) → Lacks 32 first
name_lacks kind first more stated = let all = stated_lacks 32 (kind ∷ first ∷ more) (inr refl) stated in all.1.0

-- the names are one
pub no_name : (kind names : List ℕ) → cut 32 names ≡ None → (AreStated (kind ∷ names ∷ []) → ⊥) → (first : List ℕ) (more : List (List ℕ)) → AreStated (kind ∷ first ∷ more) → names ≡ words (first ∷ more) → ⊥
no_name kind names none other first [] stated is = other (subst (λ (n : List ℕ). AreStated (kind ∷ n ∷ [])) (sym is) stated)
no_name kind names none other first (v ∷ vs) stated is = no_more names first (words (v ∷ vs)) none (name_lacks kind first (v ∷ vs) stated) is

-- the names are two
pub no_names : (kind names from to : List ℕ) → cut 32 names ≡ Some (from, to) → (AreStated (kind ∷ from ∷ to ∷ []) → ⊥) → (first : List ℕ) (more : List (List ℕ)) → AreStated (kind ∷ first ∷ more) → names ≡ words (first ∷ more) → ⊥
no_names kind names from to parts other first [] stated is = not_alone names from to first parts (name_lacks kind first [] stated) is
no_names kind names from to parts other first (v ∷ []) stated is =
    let one : from ≡ first = first_is names from to first parts (name_lacks kind first (v ∷ []) stated) v is in
    let two : to ≡ v = rest_is names from to first parts (name_lacks kind first (v ∷ []) stated) v is in
    other (subst (λ (n : List ℕ). AreStated (kind ∷ n ∷ to ∷ [])) (sym one) (subst (λ (n : List ℕ). AreStated (kind ∷ first ∷ n ∷ [])) (sym two) stated))
no_names kind names from to parts other first (v ∷ w ∷ ws) stated is = absurd stated

-- there is a kind alone
pub no_kind : (body : List ℕ) → cut 32 body ≡ None → (AreStated (body ∷ []) → ⊥) → (kind : List ℕ) (names : List (List ℕ)) → AreStated (kind ∷ names) → body ≡ words (kind ∷ names) → ⊥
no_kind body none other kind [] stated is = other (subst (λ (k : List ℕ). AreStated (k ∷ [])) (sym is) stated)
no_kind body none other kind (v ∷ vs) stated is = no_more body kind (words (v ∷ vs)) none (kind_lacks kind (v ∷ vs) stated) is

-- there are names behind it
pub no_kind_and_names : (body first rest : List ℕ) → cut 32 body ≡ Some (first, rest) → ((name : List ℕ) (more : List (List ℕ)) → AreStated (first ∷ name ∷ more) → rest ≡ words (name ∷ more) → ⊥)
    → (kind : List ℕ) (names : List (List ℕ)) → AreStated (kind ∷ names) → body ≡ words (kind ∷ names) → ⊥
no_kind_and_names body first rest parts other kind [] stated is = not_alone body first rest kind parts (kind_lacks kind [] stated) is
no_kind_and_names body first rest parts other kind (v ∷ vs) stated is =
    let one : first ≡ kind = first_is body first rest kind parts (kind_lacks kind (v ∷ vs) stated) (words (v ∷ vs)) is in
    let two : rest ≡ words (v ∷ vs) = rest_is body first rest kind parts (kind_lacks kind (v ∷ vs) stated) (words (v ∷ vs)) is in
    other v vs (subst (λ (k : List ℕ). AreStated (k ∷ v ∷ vs)) (sym one) stated) two

pub joined : (body first rest : List ℕ) → cut 32 body ≡ Some (first, rest) → (v : List ℕ) (vs : List (List ℕ)) → rest ≡ words (v ∷ vs) → body ≡ words (first ∷ v ∷ vs)
joined body first rest parts v vs is = (cut_takes 32 body (first, rest) parts).0 ∙ ap (λ (r : List ℕ). first ++ 32 ∷ r) is

-- ---- what a kind and the names behind it name, where they name something
module _ (kind : List ℕ) where
  abbrev SomeOf : List (List ℕ) → NamedWhat → Type 0
  SomeOf names n = AreStated (kind ∷ names) × (stated_named n ≡ kind ∷ names)

  abbrev SomeNames : List ℕ → NamedWhat → Type 0
  SomeNames names n = (first : List ℕ) × (more : List (List ℕ)) × AreStated (kind ∷ first ∷ more) × (stated_named n ≡ kind ∷ first ∷ more) × (names ≡ words (first ∷ more))

  abbrev NoNames : List ℕ → Type 0
  NoNames names = (first : List ℕ) (more : List (List ℕ)) → AreStated (kind ∷ first ∷ more) → names ≡ words (first ∷ more) → ⊥

  pub some_link : (names from to : List ℕ) (o : Option NamedWhat) → cut 32 names ≡ Some (from, to) → IfSome o (SomeOf (from ∷ to ∷ [])) → IfSome o (SomeNames names)
  some_link names from to None parts some = tt
  some_link names from to (Some n) parts some = (from, to ∷ [], some.0, some.1, (cut_takes 32 names (from, to) parts).0)

  pub none_link : (names from to : List ℕ) (o : Option NamedWhat) → cut 32 names ≡ Some (from, to) → IfNone o (AreStated (kind ∷ from ∷ to ∷ []) → ⊥) → IfNone o (NoNames names)
  none_link names from to None parts none = no_names kind names from to parts none
  none_link names from to (Some n) parts none = tt

  pub some_name : (names : List ℕ) (o : Option NamedWhat) → IfSome o (SomeOf (names ∷ [])) → IfSome o (SomeNames names)
  some_name names None some = tt
  some_name names (Some n) some = (names, [], some.0, some.1, refl)

  pub none_name : (names : List ℕ) (o : Option NamedWhat) → cut 32 names ≡ None → IfNone o (AreStated (kind ∷ names ∷ []) → ⊥) → IfNone o (NoNames names)
  none_name names None alone none = no_name kind names alone none
  none_name names (Some n) alone none = tt

-- ---- what all words name
abbrev SomeWords : List ℕ → NamedWhat → Type 0
SomeWords body n = (kind : List ℕ) × (names : List (List ℕ)) × AreStated (kind ∷ names) × (stated_named n ≡ kind ∷ names) × (body ≡ words (kind ∷ names))

abbrev NoWords : List ℕ → Type 0
NoWords body = (kind : List ℕ) (names : List (List ℕ)) → AreStated (kind ∷ names) → body ≡ words (kind ∷ names) → ⊥

pub some_names : (body kind rest : List ℕ) (o : Option NamedWhat) → cut 32 body ≡ Some (kind, rest) → IfSome o (SomeNames kind rest) → IfSome o (SomeWords body)
some_names body kind rest None parts some = tt
some_names body kind rest (Some n) parts some = (kind, some.0 ∷ some.1, some.2, some.3, joined body kind rest parts some.0 some.1 some.4)

pub none_names : (body kind rest : List ℕ) (o : Option NamedWhat) → cut 32 body ≡ Some (kind, rest) → IfNone o (NoNames kind rest) → IfNone o (NoWords body)
none_names body kind rest None parts none = no_kind_and_names body kind rest parts none
none_names body kind rest (Some n) parts none = tt

pub some_kind : (body : List ℕ) (o : Option NamedWhat) → IfSome o (SomeOf body []) → IfSome o (SomeWords body)
some_kind body None some = tt
some_kind body (Some n) some = (body, [], some.0, some.1, refl)

pub none_kind : (body : List ℕ) (o : Option NamedWhat) → cut 32 body ≡ None → IfNone o (AreStated (body ∷ []) → ⊥) → IfNone o (NoWords body)
none_kind body None alone none = no_kind body alone none
none_kind body (Some n) alone none = tt

-- ---- the number and what stands behind it
number_lacks : (extra : Option ℕ) → Lacks 32 (least_word extra)
number_lacks extra = word_lacks 32 extra (inr refl)

pub alone_says : (rest : List ℕ) (extra : Option ℕ) (named : List (List ℕ)) → rest ≡ least_word extra → named ≡ [] → rest ≡ words (least_word extra ∷ named)
alone_says rest extra named is none = rw none is

pub not_alone_said : (rest : List ℕ) → cut 32 rest ≡ None → ((extra : Option ℕ) → rest ≡ least_word extra → ⊥) → (extra : Option ℕ) (named : List (List ℕ)) → AreStated named → rest ≡ words (least_word extra ∷ named) → ⊥
not_alone_said rest none other extra [] stated is = other extra is
not_alone_said rest none other extra (v ∷ vs) stated is = no_more rest (least_word extra) (words (v ∷ vs)) none (number_lacks extra) is

pub not_said : (rest number more : List ℕ) → cut 32 rest ≡ Some (number, more)
    → ((extra : Option ℕ) (kind : List ℕ) (names : List (List ℕ)) → AreStated (kind ∷ names) → number ≡ least_word extra → more ≡ words (kind ∷ names) → ⊥)
    → (extra : Option ℕ) (named : List (List ℕ)) → AreStated named → rest ≡ words (least_word extra ∷ named) → ⊥
not_said rest number more parts other extra [] stated is = not_alone rest number more (least_word extra) parts (number_lacks extra) is
not_said rest number more parts other extra (v ∷ vs) stated is =
    other extra v vs stated (first_is rest number more (least_word extra) parts (number_lacks extra) (words (v ∷ vs)) is) (rest_is rest number more (least_word extra) parts (number_lacks extra) (words (v ∷ vs)) is)

pub both_say : (rest number more : List ℕ) → cut 32 rest ≡ Some (number, more) → (extra : Option ℕ) → number ≡ least_word extra → (kind : List ℕ) (names named : List (List ℕ)) → named ≡ kind ∷ names → more ≡ words (kind ∷ names)
    → rest ≡ words (least_word extra ∷ named)
both_say rest number more parts extra is kind names named same behind = rw same (joined rest number more parts kind names behind ∙ ap (λ (w : List ℕ). words (w ∷ kind ∷ names)) is)

abbrev Says : List ℕ → Stated → Type 0
Says rest s = (extra : Option ℕ) × (rest ≡ words (least_word extra ∷ stated_named s.named)) × IsStated extra s.extra × AreStated (stated_named s.named)

abbrev SaysNone : List ℕ → Type 0
SaysNone rest = (extra : Option ℕ) (named : List (List ℕ)) → AreStated named → rest ≡ words (least_word extra ∷ named) → ⊥

pub said_of : (rest number more : List ℕ) (o : Option Stated) → cut 32 rest ≡ Some (number, more)
    → IfSome o (λ s. (extra : Option ℕ) × (number ≡ least_word extra) × IsStated extra s.extra
    × (kind : List ℕ) × (names : List (List ℕ)) × AreStated (kind ∷ names) × (stated_named s.named ≡ kind ∷ names) × (more ≡ words (kind ∷ names)))
    → IfSome o (Says rest)
said_of rest number more None parts some = tt
said_of rest number more (Some s) parts (extra, is, states, kind, names, stated, same, behind) =
    (extra, both_say rest number more parts extra is kind names (stated_named s.named) same behind, states, subst AreStated (sym same) stated)

pub not_said_of : (rest number more : List ℕ) (o : Option Stated) → cut 32 rest ≡ Some (number, more)
    → IfNone o ((extra : Option ℕ) (kind : List ℕ) (names : List (List ℕ)) → AreStated (kind ∷ names) → number ≡ least_word extra → more ≡ words (kind ∷ names) → ⊥)
    → IfNone o (SaysNone rest)
not_said_of rest number more None parts none = not_said rest number more parts none
not_said_of rest number more (Some s) parts none = tt

pub said_alone : (rest : List ℕ) (o : Option Stated) → IfSome o (λ s. (extra : Option ℕ) × (rest ≡ least_word extra) × IsStated extra s.extra × (stated_named s.named ≡ [])) → IfSome o (Says rest)
said_alone rest None some = tt
said_alone rest (Some s) (extra, is, states, none) = (extra, alone_says rest extra (stated_named s.named) is none, states, subst AreStated (sym none) tt)

pub not_said_alone : (rest : List ℕ) (o : Option Stated) → cut 32 rest ≡ None → IfNone o ((extra : Option ℕ) → rest ≡ least_word extra → ⊥) → IfNone o (SaysNone rest)
not_said_alone rest None alone none = not_alone_said rest alone none
not_said_alone rest (Some s) alone none = tt

-- ---- the whole line
pub least_says : (body word rest : List ℕ) (extra : Option ℕ) (named : List (List ℕ)) → cut 32 body ≡ Some (word, rest) → word ≡ codes "least" → rest ≡ words (least_word extra ∷ named) → body ≡ words (least_words extra named)
least_says body word rest extra named parts is says = joined body word rest parts (least_word extra) named says ∙ ap (λ (w : List ℕ). words (w ∷ least_word extra ∷ named)) is

least_lacks : Lacks 32 (codes "least")
least_lacks = lacks_test 32 (codes "least") refl

pub not_cut : (body : List ℕ) → cut 32 body ≡ None → (extra : Option ℕ) (named : List (List ℕ)) → AreStated named → body ≡ words (least_words extra named) → ⊥
not_cut body none extra named stated is = no_more body (codes "least") (words (least_word extra ∷ named)) none least_lacks is

pub not_least : (body word rest : List ℕ) → cut 32 body ≡ Some (word, rest) → (word ≡ codes "least" → ⊥) → (extra : Option ℕ) (named : List (List ℕ)) → AreStated named → body ≡ words (least_words extra named) → ⊥
not_least body word rest parts other extra named stated is = other (first_is body word rest (codes "least") parts least_lacks (words (least_word extra ∷ named)) is)

not_stated : (body word rest : List ℕ) → cut 32 body ≡ Some (word, rest) → ((extra : Option ℕ) (named : List (List ℕ)) → AreStated named → rest ≡ words (least_word extra ∷ named) → ⊥)
    → (extra : Option ℕ) (named : List (List ℕ)) → AreStated named → body ≡ words (least_words extra named) → ⊥
not_stated body word rest parts none extra named stated is = none extra named stated (rest_is body word rest (codes "least") parts least_lacks (words (least_word extra ∷ named)) is)

pub some_says : (o : Option Stated) (body word rest : List ℕ) → cut 32 body ≡ Some (word, rest) → word ≡ codes "least"
    → IfSome o (λ s. (extra : Option ℕ) × (rest ≡ words (least_word extra ∷ stated_named s.named)) × IsStated extra s.extra × AreStated (stated_named s.named))
    → IfSome o (λ s. (extra : Option ℕ) × (body ≡ words (least_words extra (stated_named s.named))) × IsStated extra s.extra × AreStated (stated_named s.named))
some_says None body word rest parts is says = tt
some_says (Some s) body word rest parts is (extra, spelled, states, stated) = (extra, least_says body word rest extra (stated_named s.named) parts is spelled, states, stated)

pub none_says : (o : Option Stated) (body word rest : List ℕ) → cut 32 body ≡ Some (word, rest)
    → IfNone o ((extra : Option ℕ) (named : List (List ℕ)) → AreStated named → rest ≡ words (least_word extra ∷ named) → ⊥)
    → IfNone o ((extra : Option ℕ) (named : List (List ℕ)) → AreStated named → body ≡ words (least_words extra named) → ⊥)
none_says None body word rest parts none = not_stated body word rest parts none
none_says (Some s) body word rest parts none = tt
