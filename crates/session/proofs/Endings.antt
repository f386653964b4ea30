-- How a session over a script ends.
use Rattle.std.proofs.Common.{◌≡◌, inr, ℕ, ◌+◌, ◌<◌, ◌≤◌, List, [], ◌∷◌, ◌++◌, length, take, Some, Bool, true, false, refl, sym, ◌∙◌, ap, subst, Result, Ok, Err, arith, append_assoc, length-append}
use Rattle.std.specs.Prelude.{IfErr}
use Rattle.ports.specs.Content.{SourceTold, Rose, Appends, AppendsPrefix}
use Rattle.ports.specs.Files.{Keeps}
use Rattle.ports.proofs.Appending.{rose_later}
use Rattle.decl.specs.Declaration.{Declaration}
use Rattle.ports.specs.Lines.{whole_lines, lines_of, most_taken}
use Rattle.ports.specs.Reader.{Reader, Ends}
use Rattle.ports.proofs.Pieces.{came_off, nothing_left}
use Rattle.session.specs.Stands.{Held}
use Rattle.queries.specs.declared.stop.Stop.{Stop}
use Rattle.queries.specs.declared.stop.Stop.TheVariants as stops
use Rattle.session.specs.declared.ended.Ended.{Ended}
use Rattle.session.specs.declared.ended.Ended.TheVariants.{Done, ReadFault, Limit, WriteFault, Memory}
use Rattle.session.specs.Script.{Devices, OfScript, Replied, IsTakenFromScript, IsInterrupted, ScriptAnswered}
use Rattle.session.specs.Stopping.{ended_of}
use Rattle.session.specs.Turns.{AnswersLine, RunsOut, HasNoLine, FailsInLine, IsPastMost, HasNoReply}
use Rattle.session.proofs.Scripts.{feeds, NoFeeds, whole_broken, lines_end, feeds_cut, tail_none, take_front}
use Rattle.session.proofs.Replies.{counted_later}
use Rattle.session.proofs.Places.{IsPlace, IsAt, of_script, cut_at_line, lines_from}

-- what is written so far is the replies to the lines that are done
replied : (d : Declaration) (old now now' : Devices) (held : Held) (r : Reader) (script : List ℕ) (lines : List (List ℕ)) (here : IsAt d old now held r script) → lines ≡ here.done →
    now'.out.written ≡ now.out.written → Keeps now.files now'.files → Replied d old now' lines (Appends old.out.written now'.out.written)
replied d old now now' held r script lines here is silent keeps = record {
  founds = here.founds;
  texts = here.texts;
  state = here.state;
  session = rw is here.session;
  counted = counted_later here.founds old.files now.files now'.files here.counted keeps;
  written = rw silent here.written;
}

same_some : (x y : List ℕ) → Some x ≡ Some y → x ≡ y
same_some x y e = cc

-- where no line is left, no byte is left
pub none_left : (r : Reader) (script left rest bytes : List ℕ) (before after : SourceTold) (done : List (List ℕ)) (ended : Bool) → r.ended ≡ ended →
    IsPlace script done (r.held ++ left) ended → before.left ≡ Some left → left ≡ bytes ++ rest → after.left ≡ Some rest → Ends r before after bytes → (r.held ++ left ≡ []) × (left ≡ [])
none_left r script left rest bytes before after done true is place told cut behind ends = (place.1, tail_none r.held left place.1)
none_left r script left rest bytes before after done false is place told cut behind ends =
    let none : rest ≡ [] = same_some rest [] (sym behind ∙ nothing_left before after left told (ends.last is)) in
    let all : left ≡ [] = cut ∙ rw (ends.none, none) refl in
    (rw (ends.held, all) refl, all)

pub lines_done : (script : List ℕ) (done : List (List ℕ)) (rest : List ℕ) (ended : Bool) → rest ≡ [] → IsPlace script done rest ended → lines_of script ≡ done
lines_done script done rest true none place = place.0
lines_done script done rest false none place = ap lines_of (place.0 ∙ ap (feeds done) none) ∙ lines_end done place.1

pub few : (most taken : ℕ) (left script : List ℕ) → taken + length left ≡ length script → left ≡ [] → taken ≤ most → length script ≤ most
few most taken left script count none within = omega (arith, count, ap length none, within)

done_at : (d : Declaration) (old now now' : Devices) (held : Held) (r r' : Reader) (script : List ℕ) → IsAt d old now held r script → HasNoLine r r' now now' →
    Keeps now.files now'.files → (length script ≤ most_taken) × (now'.input.left ≡ Some []) × Replied d old now' (lines_of script) (Appends old.out.written now'.out.written)
done_at d old now now' held r r' script here turn keeps =
    let came = came_off now.input now'.input here.left turn.bytes here.left_is turn.counts.came in
    let none = none_left r script here.left came.0 turn.bytes now.input now'.input here.done r.ended refl here.place here.left_is came.1 came.2 turn.ends in
    let after : came.0 ≡ [] = tail_none turn.bytes came.0 (sym came.1 ∙ none.1) in (
      few most_taken r.taken here.left script here.count none.1 here.within,
      came.2 ∙ ap Some after,
      replied d old now now' held r script (lines_of script) here (lines_done script here.done (r.held ++ here.left) r.ended none.0 here.place) turn.silent keeps,
    )

-- where no last line was given, the script is the lines that are done, and the rest
pub open_place : (script : List ℕ) (done : List (List ℕ)) (rest : List ℕ) (ended : Bool) → ended ≡ false → IsPlace script done rest ended → (script ≡ feeds done rest) × NoFeeds done
open_place script done rest true going place = absurd cc
open_place script done rest false going place = place

pub cut_at : (script held left more left' : List ℕ) (done : List (List ℕ)) → script ≡ feeds done (held ++ left) → left ≡ more ++ left' → script ≡ feeds done (held ++ more) ++ left'
cut_at script held left more left' done is cut =
    is ∙ ap (λ (x : List ℕ). feeds done (held ++ x)) cut ∙ ap (feeds done) (sym (append_assoc held more left')) ∙ feeds_cut done (held ++ more) left'

pub length_taken : (front left more left' script : List ℕ) (taken : ℕ) → taken + length left ≡ length script → left ≡ more ++ left' → script ≡ front ++ left' →
    length front ≡ taken + length more
length_taken front left more left' script taken count cut is =
    omega (arith, count, ap length cut, ap length is, length-append more left', length-append front left')

fault_at : (d : Declaration) (old now now' : Devices) (held : Held) (r r' : Reader) (script : List ℕ) → IsAt d old now held r script → FailsInLine r r' now now' →
    Keeps now.files now'.files → IsTakenFromScript d old now' (Appends old.out.written now'.out.written) script
fault_at d old now now' held r r' script here turn keeps =
    let came = came_off now.input now'.input here.left turn.bytes here.left_is turn.counts.came in
    let place = open_place script here.done (r.held ++ here.left) r.ended turn.breaks.going here.place in
    let front = feeds here.done (r.held ++ turn.bytes) in
    let cut : script ≡ front ++ came.0 = cut_at script r.held here.left turn.bytes came.0 here.done place.0 came.1 in
    let long : length front ≡ r.taken + length turn.bytes = length_taken front here.left turn.bytes came.0 script r.taken here.count came.1 cut in
    record {
      taken = front;
      rest = came.0;
      is = cut;
      left = came.2;
      short = rw (long, ← turn.counts.counted) turn.counts.within;
      replied = replied d old now now' held r script (whole_lines front) here (whole_broken here.done (r.held ++ turn.bytes) place.1 turn.breaks.part) turn.silent keeps;
    }

pub one_more : (bytes front left left' : List ℕ) (another : ℕ) → left ≡ bytes ++ left' → bytes ≡ front ++ another ∷ [] → left ≡ front ++ another ∷ left'
one_more bytes front left left' another cut is = cut ∙ ap (λ (b : List ℕ). b ++ left') is ∙ append_assoc front (another ∷ []) left'

pub past : (most : ℕ) (script front back : List ℕ) (another : ℕ) → script ≡ front ++ another ∷ back → length front ≡ most → (most < length script) × (take most script ≡ front)
past most script front back another is long =
    (omega (arith, ap length is, length-append front (another ∷ back), long), rw is (take_front front (another ∷ back) most long))

limit_at : (d : Declaration) (old now now' : Devices) (held : Held) (r r' : Reader) (script : List ℕ) → IsAt d old now held r script → IsPastMost r r' now now' →
    Keeps now.files now'.files → (most_taken < length script) × Replied d old now' (whole_lines (take most_taken script)) (Appends old.out.written now'.out.written)
limit_at d old now now' held r r' script here turn keeps =
    let came = came_off now.input now'.input here.left turn.bytes here.left_is turn.came in
    let goes = turn.goes in
    let place = open_place script here.done (r.held ++ here.left) r.ended goes.broken.going here.place in
    let left_is : here.left ≡ goes.front ++ goes.another ∷ came.0 = one_more turn.bytes goes.front here.left came.0 goes.another came.1 goes.came_is in
    let front = feeds here.done (r.held ++ goes.front) in
    let cut : script ≡ front ++ goes.another ∷ came.0 = cut_at script r.held here.left goes.front (goes.another ∷ came.0) here.done place.0 left_is in
    let long = length_taken front here.left goes.front (goes.another ∷ came.0) script r.taken here.count left_is cut in
    let over = past most_taken script front came.0 goes.another cut (long ∙ goes.most) in (
      over.0,
      replied d old now now' held r script (whole_lines (take most_taken script)) here
          (ap whole_lines over.1 ∙ whole_broken here.done (r.held ++ goes.front) place.1 goes.broken.part) turn.silent keeps,
    )

interrupted_at : (d : Declaration) (old now now' : Devices) (held : Held) (r r' : Reader) (script : List ℕ) → IsAt d old now held r script → RunsOut r r' now now' →
    now.files.content ≡ old.files.content → Keeps now.files now'.files → IsInterrupted d old now' (Appends old.out.written now'.out.written) script
interrupted_at d old now now' held r r' script here turn same keeps =
    let from = lines_from d old now now' held held r r' script here same keeps turn.off in
    record {
      lines = here.done;
      line = turn.off.line;
      more = from.0;
      are = from.1;
      asks = turn.asks;
      replied = replied d old now now' held r script here.done here refl turn.silent keeps;
    }

-- the script ends as its last turn says
pub ends_so : (d : Declaration) (old now now' : Devices) (held held' : Held) (r r' : Reader) (ended : Ended) → OfScript old.input.left (λ script. IsAt d old now held r script) →
    HasNoReply held held' r r' now now' ended → now.files.content ≡ old.files.content → Keeps now.files now'.files → old.input.faults ≤ now.input.faults → old.out.faults ≤ now.out.faults →
    ScriptAnswered d old now' ended
ends_so d old now now' held held' r r' Done here turn same keeps r_le w_le =
    of_script old.input.left _ _ (λ script is. done_at d old now now' held r r' script is turn keeps) here
ends_so d old now now' held held' r r' ReadFault here turn same keeps r_le w_le =
    (rose_later _ _ _ r_le turn.rose, of_script old.input.left _ _ (λ script is. fault_at d old now now' held r r' script is turn keeps) here)
ends_so d old now now' held held' r r' Limit here turn same keeps r_le w_le =
    of_script old.input.left _ _ (λ script is. limit_at d old now now' held r r' script is turn keeps) here
ends_so d old now now' held held' r r' WriteFault here turn same keeps r_le w_le =
    (rose_later _ _ _ w_le turn.0, of_script old.input.left _ _ (λ script is. cut_at_line d old now now' held held' r r' script is same keeps turn.1) here)
ends_so d old now now' held held' r r' Memory here turn same keeps r_le w_le =
    inr (of_script old.input.left _ _ (λ script is. interrupted_at d old now now' held r r' script is turn same keeps) here)

-- a session that stopped ends its script
pub stopped : (h h' : Held) (r r' : Reader) (old new : Devices) (stop : Stop)
    → (stop ≡ stops.WriteFault → Rose old.out.faults new.out.faults × AnswersLine h h' r r' old new (AppendsPrefix old.out.written new.out.written))
    → (stop ≡ stops.Memory → RunsOut r r' old new) → HasNoReply h h' r r' old new (ended_of stop)
stopped h h' r r' old new stops.WriteFault on out = on refl
stopped h h' r r' old new stops.Memory on out = out refl

-- a stop for a failed write is none for memory
pub other_stop : (stop : Stop) → stop ≡ stops.Memory → stop ≡ stops.WriteFault → ⊥
other_stop stop memory fault = absurd cc

-- the end that a stop becomes where it is handed on
pub handed_on : (r : Result (Unit {0}) Ended) (stop : Stop) (P : Ended → Type 0) → IfErr r (λ (e : Ended). e ≡ ended_of stop) → P (ended_of stop) → IfErr r P
handed_on (Ok a) stop P is p = tt
handed_on (Err e) stop P is p = subst P (sym is) p
