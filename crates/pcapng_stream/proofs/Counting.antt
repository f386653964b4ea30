-- Counts of packets that are passed over.
use Rattle.std.proofs.Common.{◌≡◌, ◌≤◌, ◌+◌, ℕ, Bool, true, false, cond, List, [], ◌∷◌, ◌++◌, length, sym, ap, ◌∙◌, arith, length-append}
use Rattle.std.specs.List.{flat_map}
use Rattle.std.proofs.lemmas.List.Sums.{sum_by-append, sum_by-cons}
use Rattle.packets.specs.declared.passed.Passed.{Passed}
use Rattle.pcapng_stream.specs.Blocks.{Section, Block, bytes_of, section_behind}
use Rattle.packets.specs.Passed.{none_passed, passed_count, passed_with}
use Rattle.pcapng_stream.specs.Passed.{is_simple, is_obsolete, is_other, counted, type_of, passed_over}
use Rattle.pcapng_stream.specs.Pcapng.{AreBlocks}

-- ---- counts
abbrev made : ℕ → ℕ → ℕ → Passed
made a b d = record { simple = a; obsolete = b; other = d }

parts : (h : ℕ → ℕ → ℕ → Passed) (a b d x y z : ℕ) → a ≡ x → b ≡ y → d ≡ z → h a b d ≡ h x y z
parts h a b d x y z e f g = cc

same : (p q : Passed) → p.simple ≡ q.simple → p.obsolete ≡ q.obsolete → p.other ≡ q.other → p ≡ q
same p q e f g = parts made p.simple p.obsolete p.other q.simple q.obsolete q.other e f g

pub with_assoc : (p q r : Passed) → passed_with (passed_with p q) r ≡ passed_with p (passed_with q r)
with_assoc p q r = same (passed_with (passed_with p q) r) (passed_with p (passed_with q r)) (omega arith) (omega arith) (omega arith)

pub with_none : (p : Passed) → passed_with p none_passed ≡ p
with_none p = same (passed_with p none_passed) p (omega arith) (omega arith) (omega arith)

pub none_with : (p : Passed) → passed_with none_passed p ≡ p
none_with p = same (passed_with none_passed p) p (omega arith) (omega arith) (omega arith)

-- ---- of blocks
abbrev flag : (ℕ → Bool) → Block → ℕ
flag is b = cond (is (type_of b)) 1 0

pub over-append : (a b : List Block) → passed_over (a ++ b) ≡ passed_with (passed_over a) (passed_over b)
over-append a b =
    same (passed_over (a ++ b)) (passed_with (passed_over a) (passed_over b))
    (sum_by-append (flag is_simple) a b) (sum_by-append (flag is_obsolete) a b) (sum_by-append (flag is_other) a b)

over-cons : (b : Block) (more : List Block) → passed_over (b ∷ more) ≡ passed_with (counted (type_of b)) (passed_over more)
over-cons b more =
    same (passed_over (b ∷ more)) (passed_with (counted (type_of b)) (passed_over more))
    (sum_by-cons (flag is_simple) b more) (sum_by-cons (flag is_obsolete) b more) (sum_by-cons (flag is_other) b more)

-- one block more counts as its type does
pub over-push : (p : Passed) (a : List Block) (b : Block) → passed_with (passed_with p (passed_over a)) (counted (type_of b)) ≡ passed_with p (passed_over (a ++ b ∷ []))
over-push p a b =
    let one : passed_over (b ∷ []) ≡ counted (type_of b) = over-cons b [] ∙ with_none (counted (type_of b)) in
    let all : passed_over (a ++ b ∷ []) ≡ passed_with (passed_over a) (counted (type_of b)) = over-append a (b ∷ []) ∙ ap (passed_with (passed_over a)) one in
    with_assoc p (passed_over a) (counted (type_of b)) ∙ ap (passed_with p) (sym all)

-- ---- fewer packets are passed over than bytes come
most : (b : Bool) → cond b 1 0 ≤ 1
most true = omega arith
most false = omega arith

pub counted_few : (n : ℕ) → passed_count (counted n) ≤ 3
counted_few n = omega (arith, most (is_simple n), most (is_obsolete n), most (is_other n))

pub over_few : (s : Section) (blocks : List Block) → AreBlocks s blocks → passed_count (passed_over blocks) ≤ length (flat_map bytes_of blocks)
over_few s [] are = omega arith
over_few s (b ∷ more) are =
    let count : passed_count (passed_over (b ∷ more)) ≡ passed_count (passed_with (counted (type_of b)) (passed_over more)) = ap (λ (p : Passed). passed_count p) (over-cons b more) in
    let long : 12 ≤ length b.bytes = are.0.whole.long in
    let few = over_few (section_behind s b) more are.1 in
    let one = counted_few (type_of b) in
    let bytes : length (flat_map bytes_of (b ∷ more)) ≡ length b.bytes + length (flat_map bytes_of more) = length-append b.bytes (flat_map bytes_of more) in
    omega (arith, count, long, few, one, bytes)
