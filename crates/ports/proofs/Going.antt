-- How far a call is, and what it answers.
use Rattle.std.proofs.Common.{◌≡◌, ℕ, ◌+◌, ◌-◌, ◌<◌, ◌≤◌, ◌⊎◌, ◌↔◌, inl, inr, List, [], ◌∷◌, ◌++◌, length, Bool, true, false, Result, Ok, Err, IfOk, IsErrOf, refl, sym, ◌∙◌, ap, arith, length-append, append_assoc, append-nil}
use Rattle.ports.specs.Content.{SourceTold}
use Rattle.ports.proofs.Appending.{rose_later}
use Rattle.ports.specs.declared.line.Line.{Line}
use Rattle.ports.specs.declared.line.Line.TheVariants.{Text, TooLong, End}
use Rattle.ports.specs.declared.line.LineFault.{LineFault}
use Rattle.ports.specs.declared.line.LineFault.TheVariants.{Read, Limit}
use Rattle.ports.specs.declared.reader.Piece.TheVariants.{Whole, Part}
use Rattle.ports.specs.Lines.{NoFeed, most_taken}
use Rattle.ports.specs.Reader.{Reader, Came, IsFirstLine, GivesLine, IsNextLine, AnswersOneLine, NeedsNoRead, is_final, room}
use Rattle.ports.specs.Block.{IsKeptFront, IsTold, TakesPiece, Refills, EndsLine}
use Rattle.ports.proofs.Feeds.{none_append, none_front, none_contained}
use Rattle.ports.proofs.Pieces.{nothing_came, came_more, none_later}

-- the bytes that were held and those that came are the front of a line, and those held now
pub record IsGoing (old now : Reader) (begun before : SourceTold) (line : List ℕ) (long : Bool) : Type 0 where
  pub front : List ℕ
  pub bytes : List ℕ
  pub parts : old.held ++ bytes ≡ front ++ now.held
  pub no_feed : NoFeed front
  pub kept : IsKeptFront front line long
  pub came : Came begun before bytes
  pub counted : now.taken ≡ old.taken + length bytes
  pub within : now.taken ≤ most_taken
  pub began : old.ended ≡ false
  pub going : now.ended ≡ false
  pub more : now.over ≡ false
  pub no_fall : begun.faults ≤ before.faults

-- what each clause says of the reader
pub record IsAnswered (old new : Reader) (begun after : SourceTold) (line : List ℕ) (result : Result Line LineFault) : Type 0 where
  pub next : AnswersOneLine old new begun after line result
  pub limit : IsErrOf result Limit ↔ (most_taken < new.taken)
  pub over : new.over ≡ is_final result
  pub progress : IfOk result (λ found. (found ≡ End) ⊎ (room new < room old))

-- the next bytes are held
pub going_on : (old now mid next : Reader) (begun before after : SourceTold) (line line' : List ℕ) (long long' : Bool) (going : IsGoing old now begun before line long) →
    TakesPiece now mid going.front line' (Part long') → mid ≡ record now { held = mid.held } → Refills mid next before after (Ok true) →
    IsGoing old next begun after line' long'
going_on old now mid next begun before after line line' long long' going part same reads =
    let taken : mid.taken ≡ now.taken = ap (λ (r : Reader). r.taken) same in
    let count : next.taken ≡ mid.taken + length next.held = ap (λ (r : Reader). r.taken) reads.read.3 in
    let most : mid.taken + length next.held ≤ most_taken = reads.read.2 in
    record {
      front = going.front ++ now.held;
      bytes = going.bytes ++ next.held;
      parts = sym (append_assoc old.held going.bytes next.held) ∙ ap (λ (l : List ℕ). l ++ next.held) going.parts;
      no_feed = none_append going.front now.held going.no_feed part.0;
      kept = part.2;
      came = came_more begun before after going.bytes next.held going.came reads.read.0;
      counted = omega (arith, taken, count, going.counted, length-append going.bytes next.held);
      within = omega (arith, count, most);
      began = going.began;
      going = ap (λ (r : Reader). r.ended) reads.read.3 ∙ ap (λ (r : Reader). r.ended) same ∙ going.going;
      more = ap (λ (r : Reader). r.over) reads.read.3 ∙ ap (λ (r : Reader). r.over) same ∙ going.more;
      no_fall = omega (arith, going.no_fall, reads.no_fall);
    }

-- behind a piece with no line feed the bytes that were held have none
pub none_held : (old now mid : Reader) (begun before : SourceTold) (line line' : List ℕ) (long long' : Bool) (going : IsGoing old now begun before line long) →
    TakesPiece now mid going.front line' (Part long') → NoFeed old.held
none_held old now mid begun before line line' long long' going part =
    none_front old.held going.bytes (rw going.parts (none_append going.front now.held going.no_feed part.0))

told_next : (old new : Reader) (begun after : SourceTold) (came whole line : List ℕ) (found : Line) → IsTold whole line found → GivesLine old new begun after came whole →
    IsNextLine old new begun after came line (Ok found)
told_next old new begun after came whole line Text told gives = (rw told.0 told.1, rw told.0 gives)
told_next old new begun after came whole line TooLong told gives = (whole, told, gives)
told_next old new begun after came whole line End told gives = absurd told

told_final : (whole line : List ℕ) (found : Line) → IsTold whole line found → is_final (Ok found) ≡ false
told_final whole line Text told = refl
told_final whole line TooLong told = refl
told_final whole line End told = absurd told

first_whole : (all line rest : List ℕ) (ended : Bool) → ended ≡ false → NoFeed line → all ≡ line ++ 10 ∷ rest → IsFirstLine all line rest ended
first_whole all line rest true is none cut = absurd cc
first_whole all line rest false is none cut = (none, cut)

first_last : (all line rest : List ℕ) (ended : Bool) → ended ≡ true → NoFeed line → 0 < length line → all ≡ line → rest ≡ [] → IsFirstLine all line rest ended
first_last all line rest true is none some cut no_rest = (none, some, cut, no_rest)
first_last all line rest false is none some cut no_rest = absurd cc

falls : (most held held' taken taken' came front : ℕ) → taken' ≡ taken + came → taken' ≤ most → held + came ≡ front + (1 + held') → most + held' - taken' < most + held - taken
falls most held held' taken taken' came front count few sum = omega (arith, count, few, sum)

falls_last : (most held held' taken taken' came front : ℕ) → taken' ≡ taken + came → taken' ≤ most → held + came ≡ front → 0 < front → held' ≡ 0 → most + held' - taken' < most + held - taken
falls_last most held held' taken taken' came front count few sum some none = omega (arith, count, few, sum, some, none)

not_past : (most taken : ℕ) → taken ≤ most → most < taken → ⊥
not_past most taken few many = omega (arith, few, many)

no_limit : (found : Line) (taken : ℕ) → taken ≤ most_taken → IsErrOf {T = Line} {E = LineFault} (Ok found) Limit ↔ (most_taken < taken)
no_limit found taken few = (λ is. absurd cc, λ many. absurd (not_past (most_taken) taken few many))

both_sizes : (held came front rest : List ℕ) → (held ++ came) ≡ front ++ 10 ∷ rest → length held + length came ≡ length front + (1 + length rest)
both_sizes held came front rest is = omega (arith, ap length is, length-append held came, length-append front (10 ∷ rest))

-- a line feed was held
pub whole_answered : (old now new : Reader) (begun before : SourceTold) (line line' : List ℕ) (long : Bool) (found : Line) (going : IsGoing old now begun before line long) →
    TakesPiece now new going.front line' (Whole found) → new ≡ record now { held = new.held } → IsAnswered old new begun before line' (Ok found)
whole_answered old now new begun before line line' long found going takes same =
    let all : (old.held ++ going.bytes) ≡ going.front ++ takes.0 ++ 10 ∷ new.held =
    going.parts ∙ ap (λ (l : List ℕ). going.front ++ l) takes.2 ∙ sym (append_assoc going.front takes.0 (10 ∷ new.held)) in
    let taken : new.taken ≡ now.taken = ap (λ (r : Reader). r.taken) same in
    let ended : new.ended ≡ false = ap (λ (r : Reader). r.ended) same ∙ going.going in
    let counted : new.taken ≡ old.taken + length going.bytes = taken ∙ going.counted in
    let within : new.taken ≤ most_taken = rw taken going.within in
    let gives : GivesLine old new begun before going.bytes (going.front ++ takes.0) = record {
      going = going.began;
      first = first_whole _ _ new.held new.ended ended (none_append going.front takes.0 going.no_feed takes.1) all;
      last = λ is. absurd (let e : true ≡ false = sym is ∙ ended in cc);
    } in
    record {
      next = record {
        bytes = going.bytes;
        came = going.came;
        counted = counted;
        next = told_next old new begun before going.bytes (going.front ++ takes.0) line' found takes.3 gives;
        cause = λ is. absurd cc;
        no_fall = going.no_fall;
      };
      limit = no_limit found new.taken within;
      over = ap (λ (r : Reader). r.over) same ∙ going.more ∙ sym (told_final _ line' found takes.3);
      progress = inr (falls (most_taken) _ _ _ _ _ _ counted within (both_sizes old.held going.bytes (going.front ++ takes.0) new.held all));
    }

empty_both : (xs ys : List ℕ) → (xs ++ ys) ≡ [] → (xs ≡ []) × (ys ≡ [])
empty_both [] ys is = (refl, is)
empty_both (x ∷ xs) ys is = absurd cc

-- the state behind a piece with no line feed
pub record IsBehind (old now : Reader) (begun before : SourceTold) (front line : List ℕ) (long : Bool) : Type 0 where
  pub bytes : List ℕ
  pub parts : old.held ++ bytes ≡ front
  pub no_feed : NoFeed front
  pub kept : IsKeptFront front line long
  pub none : now.held ≡ []
  pub came : Came begun before bytes
  pub counted : now.taken ≡ old.taken + length bytes
  pub within : now.taken ≤ most_taken
  pub began : old.ended ≡ false
  pub going : now.ended ≡ false
  pub more : now.over ≡ false
  pub no_fall : begun.faults ≤ before.faults

pub going_behind : (old now mid : Reader) (begun before : SourceTold) (line line' : List ℕ) (long long' : Bool) (going : IsGoing old now begun before line long) →
    TakesPiece now mid going.front line' (Part long') → mid ≡ record now { held = mid.held } → IsBehind old mid begun before (going.front ++ now.held) line' long'
going_behind old now mid begun before line line' long long' going part same =
    let taken : mid.taken ≡ now.taken = ap (λ (r : Reader). r.taken) same in
    record {
      bytes = going.bytes;
      parts = going.parts;
      no_feed = none_append going.front now.held going.no_feed part.0;
      kept = part.2;
      none = part.1;
      came = going.came;
      counted = taken ∙ going.counted;
      within = rw taken going.within;
      began = going.began;
      going = ap (λ (r : Reader). r.ended) same ∙ going.going;
      more = ap (λ (r : Reader). r.over) same ∙ going.more;
      no_fall = going.no_fall;
    }

came_none : (begun before after : SourceTold) (bytes : List ℕ) → Came begun before bytes → Came before after [] → Came begun after bytes
came_none begun before after bytes came none = let both = came_more begun before after bytes [] came none in rw append-nil at both

-- the source has nothing left, behind a front of a line that has bytes
last_answered : (old mid new : Reader) (begun before after : SourceTold) (front line : List ℕ) (long : Bool) (found : Line) → IsBehind old mid begun before front line long →
    Refills mid new before after (Ok false) → 0 < length front → IsTold front line found → IsAnswered old new begun after line (Ok found)
last_answered old mid new begun before after front line long found behind none some told =
    let is : new ≡ record mid { ended = true } = none.read.2 in
    let taken : new.taken ≡ mid.taken = ap (λ (r : Reader). r.taken) is in
    let held : new.held ≡ [] = ap (λ (r : Reader). r.held) is ∙ behind.none in
    let counted : new.taken ≡ old.taken + length behind.bytes = taken ∙ behind.counted in
    let within : new.taken ≤ most_taken = rw taken behind.within in
    let sum : length old.held + length behind.bytes ≡ length front = sym (length-append old.held behind.bytes) ∙ ap length behind.parts in
    let gives : GivesLine old new begun after behind.bytes front = record {
      going = behind.began;
      first = first_last _ front new.held new.ended (ap (λ (r : Reader). r.ended) is) behind.no_feed some behind.parts held;
      last = λ ended. none_later begun before after behind.bytes behind.came none.read.1;
    } in
    record {
      next = record {
        bytes = behind.bytes;
        came = came_none begun before after behind.bytes behind.came none.read.0;
        counted = counted;
        next = told_next old new begun after behind.bytes front line found told gives;
        cause = λ is. absurd cc;
        no_fall = omega (arith, behind.no_fall, none.no_fall);
      };
      limit = no_limit found new.taken within;
      over = ap (λ (r : Reader). r.over) is ∙ behind.more ∙ sym (told_final front line found told);
      progress = inr (falls_last (most_taken) _ _ _ _ _ _ counted within sum some (ap length held));
    }

-- the source has nothing left
pub end_answered : (old mid next new : Reader) (begun before after : SourceTold) (front line : List ℕ) (long : Bool) (found : Line) → IsBehind old mid begun before front line long →
    Refills mid next before after (Ok false) → EndsLine next new front line found → IsAnswered old new begun after line (Ok found)
end_answered old mid next new begun before after front line long Text behind none ends =
    rw ends.2 (last_answered old mid next begun before after front line long Text behind none ends.0 ends.1)
end_answered old mid next new begun before after front line long TooLong behind none ends =
    rw ends.2 (last_answered old mid next begun before after front line long TooLong behind none ends.0 ends.1)
end_answered old mid next new begun before after front line long End behind none ends =
    let empty = empty_both old.held behind.bytes (behind.parts ∙ ends.0) in
    let taken : new.taken ≡ mid.taken = ap (λ (r : Reader). r.taken) ends.1 ∙ ap (λ (r : Reader). r.taken) none.read.2 in
    record {
      next = record {
        bytes = behind.bytes;
        came = came_none begun before after behind.bytes behind.came none.read.0;
        counted = taken ∙ behind.counted;
        next = record { held = empty.0; none = empty.1; last = λ going. none_later begun before after behind.bytes behind.came none.read.1 };
        cause = λ is. absurd cc;
        no_fall = omega (arith, behind.no_fall, none.no_fall);
      };
      limit = no_limit End new.taken (rw taken behind.within);
      over = ap (λ (r : Reader). r.over) ends.1;
      progress = inl refl;
    }

-- the last line was given before
pub ended_answered : (old new : Reader) (begun : SourceTold) (line : List ℕ) → old.held ≡ [] → old.ended ≡ true → old.taken ≤ most_taken → new ≡ record old { over = true } →
    IsAnswered old new begun begun line (Ok End)
ended_answered old new begun line none ended few is =
    let taken : new.taken ≡ old.taken = ap (λ (r : Reader). r.taken) is in
    record {
      next = record {
        bytes = [];
        came = nothing_came begun;
        counted = omega (arith, taken);
        next = record { held = none; none = refl; last = λ going. absurd (let e : true ≡ false = sym ended ∙ going in cc) };
        cause = λ is. absurd cc;
        no_fall = omega arith;
      };
      limit = no_limit End new.taken (rw taken few);
      over = ap (λ (r : Reader). r.over) is;
      progress = inl refl;
    }

broken_held : (mid new : Reader) → mid.held ≡ [] → new.held ≡ mid.held → NoFeed new.held
broken_held mid new none same = let e : new.held ≡ [] = same ∙ none in rw e tt

read_limit : (taken : ℕ) → taken ≤ most_taken → IsErrOf {T = Line} {E = LineFault} (Err Read) Limit ↔ (most_taken < taken)
read_limit taken few = (λ is. absurd cc, λ many. absurd (not_past (most_taken) taken few many))

-- the source failed, or gave a byte too many
pub fault_answered : (old mid new : Reader) (begun before after : SourceTold) (front line : List ℕ) (long : Bool) (fault : LineFault) → IsBehind old mid begun before front line long →
    Refills mid new before after (Err fault) → IsAnswered old new begun after line (Err fault)
fault_answered old mid new begun before after front line long Read behind fails =
    let taken : new.taken ≡ mid.taken = ap (λ (r : Reader). r.taken) fails.read.1 in
    record {
      next = record {
        bytes = behind.bytes;
        came = came_none begun before after behind.bytes behind.came fails.read.0;
        counted = taken ∙ behind.counted;
        next = record { going = behind.began; part = rw behind.parts behind.no_feed; held = broken_held mid new behind.none (ap (λ (r : Reader). r.held) fails.read.1) };
        cause = λ is. rose_later begun.faults before.faults after.faults behind.no_fall (fails.cause refl);
        no_fall = omega (arith, behind.no_fall, fails.no_fall);
      };
      limit = read_limit new.taken (rw taken behind.within);
      over = ap (λ (r : Reader). r.over) fails.read.1;
      progress = tt;
    }
fault_answered old mid new begun before after front line long Limit behind past =
    let taken : new.taken ≡ mid.taken + 1 = ap (λ (r : Reader). r.taken) past.read.3 in
    let most : mid.taken ≡ most_taken = past.read.2 in
    record {
      next = record {
        bytes = behind.bytes ++ past.read.0 ∷ [];
        came = came_more begun before after behind.bytes (past.read.0 ∷ []) behind.came past.read.1;
        counted = omega (arith, taken, behind.counted, length-append behind.bytes (past.read.0 ∷ []));
        next = record {
          front = behind.bytes;
          another = past.read.0;
          came_is = refl;
          most = sym behind.counted ∙ most;
          broken = record { going = behind.began; part = rw behind.parts behind.no_feed; held = broken_held mid new behind.none (ap (λ (r : Reader). r.held) past.read.3) };
        };
        cause = λ is. absurd cc;
        no_fall = omega (arith, behind.no_fall, past.no_fall);
      };
      limit = (λ is. omega (arith, taken, most), λ many. refl);
      over = ap (λ (r : Reader). r.over) past.read.3;
      progress = tt;
    }

-- no read was needed where none was made
pub untouched : {S : Type 0} (old now new : Reader) (source source' : S) → old.ended ≡ false → new.taken ≡ now.taken → NoFeed old.held ⊎ ((source' ≡ source) × (now ≡ old)) → NeedsNoRead old →
    (source' ≡ source) × (new.taken ≡ old.taken)
untouched old now new source source' ended same (inl none) (inl feed) = absurd (none_contained old.held none feed)
untouched old now new source source' ended same (inl none) (inr was) = absurd (let e : true ≡ false = sym was ∙ ended in cc)
untouched old now new source source' ended same (inr still) needs = (still.0, same ∙ ap (λ (r : Reader). r.taken) still.1)

-- a read was needed where the bytes held have no line feed
pub needed : {P : Type 0} (old : Reader) → old.ended ≡ false → NoFeed old.held → NeedsNoRead old → P
needed old ended none (inl feed) = absurd (none_contained old.held none feed)
needed old ended none (inr was) = absurd (let e : true ≡ false = sym was ∙ ended in cc)
