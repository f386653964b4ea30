-- What is found in a list of addresses or of links when one comes.
use Rattle.std.proofs.Common.{◌≡◌, ℕ, ◌==◌, ◌&&◌, ◌||◌, Bool, true, false, not, cond, if◌then◌else◌, is_some, unwrap_or, List, [], ◌∷◌, ◌++◌, Option, Some, None, eqb-true, refl, sym, ap, ◌∙◌, arith}
use Rattle.std.specs.List.{list_any}
use Rattle.std.specs.Option.{option_or}
use Rattle.std.specs.Ordering.{nat_cmp, ordering_then, is_eq}
use Rattle.decl.specs.Addresses.{is_bad_address, numbers_of}
use Rattle.decl.specs.Firsts.{host_among, bounds_among}
use Rattle.decl.specs.Links.{has_link}
use Rattle.decl.specs.declared.items.Address.{Address}
use Rattle.decl.specs.declared.items.Link.{Link}

-- ---- addresses

same_number : (a b : ℕ) → is_eq (nat_cmp a b) ≡ (a == b)
same_number a b = grind arith

turned : (a b : ℕ) → (a == b) ≡ (b == a)
turned a b = grind arith

-- what a map says with one entry more is what a list says with one more at its end
entry_more : {V : Type 0} (t c : Bool) (v : V) (before old : Option V) → c ≡ t → old ≡ before → (t ≡ true → before ≡ None) → cond c (Some v) old ≡ option_or before (if t then Some v else None)
entry_more true true v before old e same none = rw (none refl) refl
entry_more false false v None old e same none = same
entry_more false false v (Some w) old e same none = same
entry_more true false v before old e same none = cc
entry_more false true v before old e same none = cc

found_or : (t s : Bool) (host : ℕ) (o : Option ℕ) (more : Bool) → t ≡ s → is_some o ≡ more → is_some (if t then Some host else o) ≡ (s || more)
found_or true true host o more e same = refl
found_or false false host o more e same = same
found_or true false host o more e same = cc
found_or false true host o more e same = cc

either_later : {V : Type 0} (t : Bool) (v : V) (o o' more : Option V) → o' ≡ option_or o more → (if t then Some v else o') ≡ option_or (if t then Some v else o) more
either_later true v o o' more e = refl
either_later false v o o' more e = e

-- an address has a host exactly where it stands there
stands : (addresses : List Address) (address : ℕ) → is_some (host_among addresses address) ≡ list_any (λ n. address == n) (numbers_of addresses)
stands [] address = refl
stands (a ∷ more) address = found_or (a.address == address) (address == a.address) a.host _ _ (turned a.address address) (stands more address)

bad_told : (numbers : List ℕ) (o : Option ℕ) (address : ℕ) (b : Bool) → Some address ≡ o → b ≡ list_any (λ n. address == n) numbers → not b ≡ not (is_bad_address numbers o)
bad_told numbers None address b e same = cc
bad_told numbers (Some a) address b e same = ap not (same ∙ ap (λ (x : ℕ). list_any (λ n. x == n) numbers) (inside e))
  where
    inside : Some address ≡ Some a → address ≡ a
    inside h = cc

-- whether a text writes a new address
pub fresh_told : (addresses : List Address) (o : Option ℕ) (address : ℕ) (b : Bool) → Some address ≡ o → b ≡ is_some (host_among addresses address) → not b ≡ not (is_bad_address (numbers_of addresses) o)
fresh_told addresses o address b e same = bad_told (numbers_of addresses) o address b e (same ∙ stands addresses address)

host_behind : (addresses : List Address) (a : Address) (q : ℕ) → host_among (addresses ++ a ∷ []) q ≡ option_or (host_among addresses q) (if a.address == q then Some a.host else None)
host_behind [] a q = refl
host_behind (b ∷ more) a q = either_later (b.address == q) b.host _ _ _ (host_behind more a q)

none_of : (o : Option ℕ) (b : Bool) → b ≡ false → b ≡ is_some o → o ≡ None
none_of None b e same = refl
none_of (Some h) b e same = cc

-- one address more
pub host_more : (addresses : List Address) (a : Address) (q : ℕ) (b : Bool) (old : Option ℕ) → b ≡ is_some (host_among addresses a.address) → b ≡ false → old ≡ host_among addresses q
    → cond (is_eq (nat_cmp a.address q)) (Some a.host) old ≡ host_among (addresses ++ a ∷ []) q
host_more addresses a q b old there fresh same =
    entry_more (a.address == q) _ a.host (host_among addresses q) old (same_number a.address q) same
    (λ e. ap (host_among addresses) (sym (eqb-true a.address q e)) ∙ none_of _ b fresh there)
    ∙ sym (host_behind addresses a q)

-- ---- links

-- what is told of a link that is not there
no_bounds : (links : List Link) (from to : ℕ) → has_link links from to ≡ false → bounds_among links from to ≡ (0, None)
no_bounds [] from to e = refl
no_bounds (l ∷ more) from to e = go (l.from == from && l.to == to) (has_link more from to) _ e (no_bounds more from to)
  where
    go : (t h : Bool) (b : ℕ × Option ℕ) → (t || h) ≡ false → (h ≡ false → b ≡ (0, None)) → (if t then (l.least, l.most) else b) ≡ (0, None)
    go true h b e' none = cc
    go false h b e' none = none e'

bounds_behind : (links : List Link) (l : Link) (from to : ℕ) → bounds_among (links ++ l ∷ []) from to ≡ (if has_link links from to then bounds_among links from to else bounds_among (l ∷ []) from to)
bounds_behind [] l from to = refl
bounds_behind (m ∷ more) l from to = go (m.from == from && m.to == to) (has_link more from to) _ _ (bounds_behind more l from to)
  where
    last : ℕ × Option ℕ
    last = bounds_among (l ∷ []) from to

    go : (t h : Bool) (all b : ℕ × Option ℕ) → all ≡ (if h then b else last) → (if t then (m.least, m.most) else all) ≡ (if t || h then (if t then (m.least, m.most) else b) else last)
    go true h all b e = refl
    go false h all b e = e

bounds_told : (t h : Bool) (least : ℕ) (most : Option ℕ) (before : ℕ × Option ℕ) (old : Option (ℕ × Option ℕ)) → unwrap_or old (0, None) ≡ before → (t ≡ true → h ≡ false) → (h ≡ false → before ≡ (0, None))
    → unwrap_or (cond t (Some (least, most)) old) (0, None) ≡ (if h then before else if t then (least, most) else (0, None))
bounds_told true true least most before old same new none = let e : true ≡ false = new refl in cc
bounds_told true false least most before old same new none = refl
bounds_told false true least most before old same new none = same
bounds_told false false least most before old same new none = same ∙ none refl

same_ends : (a b c d : ℕ) → is_eq (ordering_then (nat_cmp a c) (nat_cmp b d)) ≡ (a == c && b == d)
same_ends a b c d = grind arith

both : (a b : Bool) → (a && b) ≡ true → (a ≡ true) × (b ≡ true)
both true true e = (refl, refl)
both true false e = cc
both false b e = cc

-- the bounds of links with one more
pub bounds_more : (links : List Link) (l : Link) (b : ℕ × Option ℕ) (q : ℕ × ℕ) (old : Option (ℕ × Option ℕ)) → has_link links l.from l.to ≡ false → b ≡ (l.least, l.most)
    → unwrap_or old (0, None) ≡ bounds_among links q.0 q.1 → unwrap_or (cond (is_eq (ordering_then (nat_cmp l.from q.0) (nat_cmp l.to q.1))) (Some b) old) (0, None) ≡ bounds_among (links ++ l ∷ []) q.0 q.1
bounds_more links l b q old new is same =
    ap (λ (x : ℕ × Option ℕ). unwrap_or (cond (is_eq (ordering_then (nat_cmp l.from q.0) (nat_cmp l.to q.1))) (Some x) old) (0, None)) is
    ∙ ap (λ (t : Bool). unwrap_or (cond t (Some (l.least, l.most)) old) (0, None)) (same_ends l.from l.to q.0 q.1)
    ∙ bounds_told (l.from == q.0 && l.to == q.1) (has_link links q.0 q.1) l.least l.most _ old same fresh (no_bounds links q.0 q.1)
    ∙ sym (bounds_behind links l q.0 q.1)
  where
    fresh : (l.from == q.0 && l.to == q.1) ≡ true → has_link links q.0 q.1 ≡ false
    fresh e =
        let (start, end) = both _ _ e in
        ap (λ (n : ℕ). has_link links n q.1) (sym (eqb-true l.from q.0 start)) ∙ ap (λ (n : ℕ). has_link links l.from n) (sym (eqb-true l.to q.1 end)) ∙ new

-- what is told where a map has something, and where it has not
pub bounds_found : (o : Option (ℕ × Option ℕ)) (found told : ℕ × Option ℕ) → Some found ≡ o → unwrap_or o (0, None) ≡ told → ◌≡◌ {A = ℕ × Option ℕ} (found.0, found.1) told
bounds_found None found told e is = cc
bounds_found (Some b) found told e is = ap (λ (o : Option (ℕ × Option ℕ)). unwrap_or o (0, None)) e ∙ is

pub bounds_lacking : (o : Option (ℕ × Option ℕ)) (none : ℕ) (told : ℕ × Option ℕ) → None ≡ o → none ≡ 0 → unwrap_or o (0, None) ≡ told → ◌≡◌ {A = ℕ × Option ℕ} (none, None) told
bounds_lacking None none told e zero is = ap (λ (n : ℕ). (n, None)) zero ∙ is
bounds_lacking (Some b) none told e zero is = cc

-- a map with one entry more has something there
pub some_more : {V : Type 0} (t : Bool) (v : V) (old : Option V) → is_some (cond t (Some v) old) ≡ cond t true (is_some old)
some_more true v old = refl
some_more false v old = refl
