-- Lists of which a part is written.
use Rattle.std.proofs.Common.{◌≡◌, ℕ, ◌+◌, ◌-◌, ◌≤◌, List, ◌++◌, length, take, drop, refl, sym, ap, ◌∙◌, arith, append_assoc, length-append, length-drop, length-take}
use Rattle.std.proofs.lemmas.List.{take-append-le, drop-append-le, length-take-le, take_at, drop_at, take-append-drop, drop-take, take-take}
use Rattle.row_pool.specs.declared.cell.Cell.{Cell}
use Rattle.row_pool.specs.Writing.{put_cells, Two, LeavesBoth, WritesParts}
use Rattle.std.specs.Borrow.{MutBor}
use Rattle.std.specs.Fn.{Once}

pub length-put : (start : ℕ) (cells part : List Cell) → start + length part ≤ length cells → length (put_cells start cells part) ≡ length cells
length-put start cells part h = simp (length-append, length-take, length-drop) (omega (arith, h))

-- a part of the front is written: what is behind the front stays
put_front : (start : ℕ) (p q part : List Cell) → start + length part ≤ length p → put_cells start (p ++ q) part ≡ put_cells start p part ++ q
put_front start p q part h =
    let n : ℕ = length part in
    let le : start ≤ length p = omega arith in
    let rest : n ≤ length (drop start p) = simp length-drop (omega arith) in
    let one : drop start (p ++ q) ≡ drop start p ++ q = drop-append-le start p q le in
    let two : drop n (drop start (p ++ q)) ≡ drop n (drop start p) ++ q = ap (drop n) one ∙ drop-append-le n (drop start p) q rest in
    ap (λ (zs : List Cell). zs ++ (part ++ drop n (drop start (p ++ q)))) (take-append-le start p q le)
    ∙ ap (λ (zs : List Cell). take start p ++ (part ++ zs)) two
    ∙ simp append_assoc

-- a part right behind the front is written
put_behind : (start : ℕ) (p q part : List Cell) → length p ≡ start → put_cells start (p ++ q) part ≡ p ++ (part ++ drop (length part) q)
put_behind start p q part h =
    ap (λ (zs : List Cell). zs ++ (part ++ drop (length part) (drop start (p ++ q)))) (take_at p q start h)
    ∙ ap (λ (zs : List Cell). p ++ (part ++ drop (length part) zs)) (drop_at p q start h)

-- the earlier part within what is cut off before the later one
pub put_up : (first second : ℕ) (cells one two : List Cell) → first + length one ≤ second → second ≤ length cells
    → put_cells first (take second cells) one ++ (two ++ drop (length two) (drop second cells)) ≡ put_cells second (put_cells first cells one) two
put_up first second cells one two apart within =
    let p : List Cell = take second cells in
    let q : List Cell = drop second cells in
    let long : length p ≡ second = length-take-le second cells within in
    let fits : first + length one ≤ length p = omega (arith, long) in
    let whole : p ++ q ≡ cells = take-append-drop second cells in
    let same : length (put_cells first p one) ≡ second = length-put first p one fits ∙ long in
    sym (put_behind second (put_cells first p one) q two same) ∙ ap (λ (zs : List Cell). put_cells second zs two) (sym (put_front first p q one fits) ∙ ap (λ (zs : List Cell). put_cells first zs one) whole)

-- the other way round
pub put_down : (first second : ℕ) (cells one two : List Cell) → second + length two ≤ first → first ≤ length cells
    → put_cells second (take first cells) two ++ (one ++ drop (length one) (drop first cells)) ≡ put_cells second (put_cells first cells one) two
put_down first second cells one two apart within =
    let p : List Cell = take first cells in
    let long : length p ≡ first = length-take-le first cells within in
    let fits : second + length two ≤ length p = omega (arith, long) in
    sym (put_front second p (one ++ drop (length one) (drop first cells)) two fits)

-- a part of the front is that of the whole
part_of_front : (start width end : ℕ) (cells : List Cell) → start + width ≤ end → take width (drop start (take end cells)) ≡ take width (drop start cells)
part_of_front start width end cells h =
    let sum : end ≡ start + (end - start) = omega arith in
    ap (λ (n : ℕ). take width (drop start (take n cells))) sum
    ∙ ap (take width) (drop-take start (end - start) cells)
    ∙ take-take width (end - start) (drop start cells) (omega arith)

length-part : (start width : ℕ) (cells : List Cell) → start + width ≤ length cells → length (take width (drop start cells)) ≡ width
length-part start width cells h = let fits : width ≤ length (drop start cells) = simp length-drop (omega arith) in length-take-le width (drop start cells) fits

pub left_both : {F : Type 0} (g : Once F Two (Unit {0} × Two)) (f : F) (one two one' two' : List Cell) (p q p' q' : MutBor (List Cell)) → g.post f (p, (q, tt)) (tt, (p', (q', tt)))
    → p.now ≡ one → q.now ≡ two → p'.now ≡ one' → q'.now ≡ two' → LeavesBoth g f one two one' two'
left_both g f one two one' two' p q p' q' met a b a' b' = record { shown = (p, (q, tt)); shows = (a, b); left = (p', (q', tt)); met = met; leaves = (a', b') }

-- the first part comes first, and the call was made at the two parts
pub wrote_up : {F : Type 0} (g : Once F Two (Unit {0} × Two)) (f : F) (first second width k m : ℕ) (cells front back new : List Cell) (p q p' q' : MutBor (List Cell)) → g.post f (p, (q, tt)) (tt, (p', (q', tt)))
    → first + width ≤ second → second + width ≤ length cells → front ≡ take second cells → back ≡ drop second cells
    → k ≡ width → m ≡ width → p.now ≡ take k (drop first front) → q.now ≡ take width back → length p'.now ≡ length p.now → length q'.now ≡ length q.now
    → new ≡ (take first front ++ (p'.now ++ drop m (drop first front))) ++ (q'.now ++ drop width back)
    → WritesParts g f cells new first second width
wrote_up g f first second width k m cells front back new p q p' q' met apart within fs bs kw mw a b sa sb is =
    let shown_one : p.now ≡ take width (drop first cells) =
    a ∙ ap (λ (zs : List Cell). take k (drop first zs)) fs ∙ ap (λ (n : ℕ). take n (drop first (take second cells))) kw ∙ part_of_front first width second cells apart in
    let shown_two : q.now ≡ take width (drop second cells) = b ∙ ap (take width) bs in
    let wa : length p'.now ≡ width = sa ∙ ap length shown_one ∙ length-part first width cells (omega arith) in
    let wb : length q'.now ≡ width = sb ∙ ap length shown_two ∙ length-part second width cells (omega arith) in
    record {
      one = p'.now;
      two = q'.now;
      leaves = left_both g f _ _ _ _ p q p' q' met shown_one shown_two refl refl;
      wide = (wa, wb);
      written =
          let one : List Cell = p'.now in
          let two : List Cell = q'.now in
          is ∙ ap (λ (zs : List Cell). (take first zs ++ (one ++ drop m (drop first zs))) ++ (two ++ drop width back)) fs
          ∙ ap (λ (zs : List Cell). (take first (take second cells) ++ (one ++ drop m (drop first (take second cells)))) ++ (two ++ drop width zs)) bs
          ∙ ap (λ (n : ℕ). (take first (take second cells) ++ (one ++ drop n (drop first (take second cells)))) ++ (two ++ drop width (drop second cells))) (mw ∙ sym wa)
          ∙ ap (λ (n : ℕ). put_cells first (take second cells) one ++ (two ++ drop n (drop second cells))) (sym wb)
          ∙ put_up first second cells one two (omega arith) (omega arith);
    }

-- the second part comes first
pub wrote_down : {F : Type 0} (g : Once F Two (Unit {0} × Two)) (f : F) (first second width k m : ℕ) (cells front back new : List Cell) (p q p' q' : MutBor (List Cell)) → g.post f (p, (q, tt)) (tt, (p', (q', tt)))
    → second + width ≤ first → first + width ≤ length cells → front ≡ take first cells → back ≡ drop first cells
    → k ≡ width → m ≡ width → q.now ≡ take k (drop second front) → p.now ≡ take width back → length p'.now ≡ length p.now → length q'.now ≡ length q.now
    → new ≡ (take second front ++ (q'.now ++ drop m (drop second front))) ++ (p'.now ++ drop width back)
    → WritesParts g f cells new first second width
wrote_down g f first second width k m cells front back new p q p' q' met apart within fs bs kw mw b a sa sb is =
    let shown_one : p.now ≡ take width (drop first cells) = a ∙ ap (take width) bs in
    let shown_two : q.now ≡ take width (drop second cells) =
    b ∙ ap (λ (zs : List Cell). take k (drop second zs)) fs ∙ ap (λ (n : ℕ). take n (drop second (take first cells))) kw ∙ part_of_front second width first cells apart in
    let wa : length p'.now ≡ width = sa ∙ ap length shown_one ∙ length-part first width cells (omega arith) in
    let wb : length q'.now ≡ width = sb ∙ ap length shown_two ∙ length-part second width cells (omega arith) in
    record {
      one = p'.now;
      two = q'.now;
      leaves = left_both g f _ _ _ _ p q p' q' met shown_one shown_two refl refl;
      wide = (wa, wb);
      written =
          let one : List Cell = p'.now in
          let two : List Cell = q'.now in
          is ∙ ap (λ (zs : List Cell). (take second zs ++ (two ++ drop m (drop second zs))) ++ (one ++ drop width back)) fs
          ∙ ap (λ (zs : List Cell). (take second (take first cells) ++ (two ++ drop m (drop second (take first cells)))) ++ (one ++ drop width zs)) bs
          ∙ ap (λ (n : ℕ). (take second (take first cells) ++ (two ++ drop n (drop second (take first cells)))) ++ (one ++ drop width (drop first cells))) (mw ∙ sym wb)
          ∙ ap (λ (n : ℕ). put_cells second (take first cells) two ++ (one ++ drop n (drop first cells))) (sym wa)
          ∙ put_down first second cells one two (omega arith) (omega arith);
    }
