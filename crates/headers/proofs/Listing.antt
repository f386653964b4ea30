-- The options of a list, one after the other.
use Rattle.std.proofs.Common.{◌≡◌, ℕ, zero, suc, Bool, true, false, if◌then◌else◌, List, [], ◌++◌, ◌+◌, ◌≤◌, length, drop, Option, Some, None, refl, sym, ap, ◌∙◌, arith, append_assoc, append-nil, length-append, length-drop}
use Rattle.std.specs.Prelude.{option_map}
use Rattle.headers.specs.Options.{is_cut_option, is_over, option_size, telling, told_by}

over_by : (over : Bool) (more : Option (List ℕ)) → over ≡ true → (if over then Some [] else more) ≡ Some []
over_by true more h = refl
over_by false more h = cc

on_by : (over cut : Bool) (more : Option (List ℕ)) → over ≡ false → cut ≡ false → (if over then Some [] else if cut then None else more) ≡ more
on_by true cut more h k = cc
on_by false true more h k = cc
on_by false false more h k = refl

cut_by : (over cut : Bool) (more : Option (List ℕ)) → over ≡ false → cut ≡ true → (if over then Some [] else if cut then None else more) ≡ None
cut_by true cut more h k = cc
cut_by false true more h k = refl
cut_by false false more h k = cc

few_by : (over : Bool) → over ≡ false → ◌≡◌ {A = Option (List ℕ)} (if over then Some [] else None) None
few_by true h = cc
few_by false h = refl

-- where the list is over, nothing more is told
pub over : (left : ℕ) (list : List ℕ) → is_over list ≡ true → telling left list ≡ Some []
unfolding telling
over zero list h = over_by (is_over list) None h
over (suc n) list h = over_by (is_over list) _ h

-- a cut option, or one more than may be
pub cut : (left : ℕ) (list : List ℕ) → is_over list ≡ false → is_cut_option list ≡ true → telling left list ≡ None
unfolding telling
cut zero list h k = few_by (is_over list) h
cut (suc n) list h k = cut_by (is_over list) (is_cut_option list) _ h k

pub few : (left : ℕ) (list : List ℕ) → left ≡ 0 → is_over list ≡ false → telling left list ≡ None
unfolding telling
few zero list e h = few_by (is_over list) h
few (suc n) list e h = absurd (omega (arith, e))

-- one option, and then the rest
pub on : (left less : ℕ) (list : List ℕ) → left ≡ suc less → is_over list ≡ false → is_cut_option list ≡ false
    → telling left list ≡ option_map (λ (more : List ℕ). told_by list ++ more) (telling less (drop (option_size list) list))
unfolding telling
on left less list e h k = rw e (on_by (is_over list) (is_cut_option list) (option_map (λ (more : List ℕ). told_by list ++ more) (telling less (drop (option_size list) list))) h k)

-- what was told before, what one option tells, and then the rest
pub joined : (told own : List ℕ) (o : Option (List ℕ)) → option_map (λ (more : List ℕ). told ++ more) (option_map (λ (more : List ℕ). own ++ more) o) ≡ option_map (λ (more : List ℕ). (told ++ own) ++ more) o
joined told own None = refl
joined told own (Some more) = ap (λ (l : List ℕ). Some l) (sym (append_assoc told own more))

pub first : (o : Option (List ℕ)) → o ≡ option_map (λ (more : List ℕ). [] ++ more) o
first None = refl
first (Some more) = refl

-- ---- what a list tells, by what was told so far and what is left
pub ends_cut : (whole : Option (List ℕ)) (told rest : List ℕ) (left : ℕ) → whole ≡ option_map (λ (more : List ℕ). told ++ more) (telling left rest) → is_over rest ≡ false → is_cut_option rest ≡ true → None ≡ whole
ends_cut whole told rest left w h k = sym (w ∙ ap (option_map (λ (more : List ℕ). told ++ more)) (cut left rest h k))

pub ends_few : (whole : Option (List ℕ)) (told rest : List ℕ) (left : ℕ) → whole ≡ option_map (λ (more : List ℕ). told ++ more) (telling left rest) → is_over rest ≡ false → left ≡ 0 → None ≡ whole
ends_few whole told rest left w h e = sym (w ∙ ap (option_map (λ (more : List ℕ). told ++ more)) (few left rest e h))

pub ends_over : (whole : Option (List ℕ)) (told rest : List ℕ) (left : ℕ) → whole ≡ option_map (λ (more : List ℕ). told ++ more) (telling left rest) → is_over rest ≡ true → Some told ≡ whole
ends_over whole told rest left w h = sym (w ∙ ap (option_map (λ (more : List ℕ). told ++ more)) (over left rest h) ∙ ap (λ (l : List ℕ). Some l) (append-nil told))

pub goes_on : (whole : Option (List ℕ)) (told rest : List ℕ) (left less size : ℕ) (own now next : List ℕ) → whole ≡ option_map (λ (more : List ℕ). told ++ more) (telling left rest) → is_over rest ≡ false
    → is_cut_option rest ≡ false → left ≡ suc less → size ≡ option_size rest → own ≡ told_by rest → now ≡ told ++ own → next ≡ drop size rest → whole ≡ option_map (λ (more : List ℕ). now ++ more) (telling less next)
goes_on whole told rest left less size own now next w h k e s o n r =
    w ∙ ap (option_map (λ (more : List ℕ). told ++ more)) (on left less rest e h k) ∙ joined told (told_by rest) (telling less (drop (option_size rest) rest)) ∙ back
  where
    back : option_map (λ (more : List ℕ). (told ++ told_by rest) ++ more) (telling less (drop (option_size rest) rest)) ≡ option_map (λ (more : List ℕ). now ++ more) (telling less next)
    back = rw (n, o, r, s) refl

-- there is room for what the next option tells, and for the rest
pub has_room : (told rest own now next : List ℕ) (size : ℕ) → length told + length rest ≤ 40 → length own ≤ size → size ≤ length rest → now ≡ told ++ own → next ≡ drop size rest → length now + length next ≤ 40
has_room told rest own now next size room few within n r = rw (n, r) (omega (arith, length-append told own, length-drop size rest))
