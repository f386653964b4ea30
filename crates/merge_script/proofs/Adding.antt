-- How far a script of additions is, and how it ends.
use Rattle.std.proofs.Common.{◌≡◌, inl, inr, ℕ, zero, suc, ◌+◌, ◌<◌, ◌≤◌, nat_le, List, [], ◌∷◌, ◌++◌, length, take, drop, Some, true, false, refl, sym, ◌∙◌, ap, subst, arith, append_assoc, length-append}
use Rattle.std.proofs.lemmas.List.{length-map}
use Rattle.std.proofs.lemmas.List.Sums.{sum_by-append}
use Rattle.ports.specs.Files.{Content, FilesTold, Keeps}
use Rattle.ports.proofs.Appending.{rose_later}
use Rattle.decl.specs.Declaration.{Declaration}
use Rattle.ports.specs.Lines.{whole_lines, lines_of, most_taken}
use Rattle.ports.specs.Reader.{Reader, fresh}
use Rattle.ports.proofs.Pieces.{came_off}
use Rattle.mergecap.specs.declared.stored.Stored.{Stored}
use Rattle.mergecap.specs.MergedCapture.{Timed}
use Rattle.mergecap.specs.Packets.{timed, all_timed}
use Rattle.session.specs.declared.kept_packets.AddAnswer.{AddAnswer}
use Rattle.session.specs.declared.kept_packets.AddAnswer.TheVariants as answers
use Rattle.replies.specs.declared.refusal.Refusal.TheVariants.{NoCommand}
use Rattle.replies.specs.Refusals.{refusal_line}
use Rattle.replies.specs.Reply.{State, Found, Unread}
use Rattle.replies.specs.Sessions.{AreCounted, start}
use Rattle.session.specs.Stands.{Held, StandsFor}
use Rattle.session.specs.Taken.{packets_behind}
use Rattle.session.specs.Taking.{AddLineReply, IsAddedLine, IsAnswerOf, Takes}
use Rattle.traces.specs.Traces.{Traces}
use Rattle.session.specs.Script.{Devices, OfScript, lines_within}
use Rattle.session.specs.Turns.{TakesOff, HasNoLine, FailsInLine, IsPastMost}
use Rattle.session.proofs.Scripts.{feeds, whole_broken, tail_none}
use Rattle.session.proofs.Replies.{counted_more, counted_later, counted_none, counted_unread}
use Rattle.session.proofs.Places.{IsPlace, of_script, of_told, place_more, within_behind, given_first, count_on}
use Rattle.session.proofs.Endings.{none_left, lines_done, few, open_place, cut_at, length_taken, one_more, past}
use Rattle.merge_script.specs.declared.unmerged.Unmerged.{Unmerged}
use Rattle.merge_script.specs.declared.unmerged.Unmerged.TheVariants as ends
use Rattle.merge_script.specs.Gathered.{AreAllOf, MergeReply, AreAdded, AddsAll, IsLastBy, StopsAt, TakesPart, IsScriptTooLong, AddsScript, bytes_in, most_bytes}
use Rattle.merge_script.specs.Turns.{AreKeptFor, AddsLine, EndsRunAt, EndsOrLacks, TakesLine, TakesLast, EndsRunSo, GathersAll, GathersNone}
use Rattle.merge_script.proofs.AllPackets.{all_first, all_then, same_bytes}

-- the lines that are done are added, and the session then has this
pub record IsAdding (d : Declaration) (old now : Devices) (r : Reader) (script : List ℕ) (s : State) : Type 0 where
  pub done : List (List ℕ)
  pub founds : List Found
  pub added : AreAdded d old.files.content (start d) done founds s
  pub counted : AreCounted founds old.files now.files
  pub left : List ℕ
  pub left_is : now.input.left ≡ Some left
  pub place : IsPlace script done (r.held ++ left) r.ended
  pub count : r.taken + length left ≡ length script
  pub within : r.taken ≤ most_taken

at_fresh : (d : Declaration) (t : Devices) (script : List ℕ) → t.input.left ≡ Some script → IsAdding d t t fresh script (start d)
at_fresh d t script told = record {
  done = [];
  founds = [];
  added = refl;
  counted = counted_none t.files;
  left = script;
  left_is = told;
  place = (refl, tt);
  count = omega arith;
  within = omega arith;
}

pub at_first : (d : Declaration) (t : Devices) (r : Reader) (script : List ℕ) → r ≡ fresh → t.input.left ≡ Some script → IsAdding d t t r script (start d)
at_first d t r script is told = subst (λ (x : Reader). IsAdding d t t x script (start d)) (sym is) (at_fresh d t script told)

added_more : (d : Declaration) (files : Content) (s s' s'' : State) (lines : List (List ℕ)) (founds : List Found) (line text : List ℕ) (found : Found) → AreAdded d files s lines founds s' →
    MergeReply d files s' line found text s'' → IsAddedLine text → bytes_in (packets_behind 0 s''.traces) ≤ most_bytes → AreAdded d files s (lines ++ line ∷ []) (founds ++ found ∷ []) s''
added_more d files s s' s'' [] [] line text found done reply says small = (text, s'', subst (λ (t : State). MergeReply d files t line found text s'') done reply, says, small, refl)
added_more d files s s' s'' [] (f ∷ fs) line text found done reply says small = absurd done
added_more d files s s' s'' (l ∷ ls) [] line text found done reply says small = absurd done
added_more d files s s' s'' (l ∷ ls) (f ∷ fs) line text found done reply says small =
    (done.0, done.1, done.2, done.3, done.4, added_more d files done.1 s' s'' ls fs line text found done.5 reply says small)

-- ---- one more line was taken off
module _ (d : Declaration) (old now now' : Devices) (r r' : Reader) (script : List ℕ) (s : State) (here : IsAdding d old now r script s)
    (same : now.files.content ≡ old.files.content) (keeps : Keeps now.files now'.files) (off : TakesOff r r' now now') where
  came_of : (rest : List ℕ) × (here.left ≡ off.bytes ++ rest) × (now'.input.left ≡ Some rest)
  came_of = came_off now.input now'.input here.left off.bytes here.left_is off.counts.came

  place_of : IsPlace script (here.done ++ off.line ∷ []) (r'.held ++ came_of.0) r'.ended
  place_of =
      place_more script here.done (r.held ++ here.left) (r'.held ++ came_of.0) off.line r.ended r'.ended off.gives.going here.place
      (given_first r r' now.input now'.input here.left came_of.0 off.bytes off.line here.left_is came_of.1 came_of.2 off.gives)

  count_of : r'.taken + length came_of.0 ≡ length script
  count_of = count_on off.bytes here.left came_of.0 script r.taken r'.taken here.count came_of.1 off.counts.counted

  lines_from : (more : List (List ℕ)) × (lines_within script ≡ here.done ++ off.line ∷ more)
  lines_from =
      let more = within_behind script (here.done ++ off.line ∷ []) r'.held came_of.0 r'.ended r'.taken place_of count_of off.counts.within in
      (more.0, more.1 ∙ append_assoc here.done (off.line ∷ []) more.0)

  module _ (found : Found) (text : List ℕ) (s' : State) (reply : MergeReply d now.files.content s off.line found text s') (counts : AreCounted (found ∷ []) now.files now'.files) where
    reply_then : MergeReply d old.files.content s off.line found text s'
    reply_then = subst (λ (content : Content). MergeReply d content s off.line found text s') same reply

    counted_then : AreCounted (here.founds ++ found ∷ []) old.files now'.files
    counted_then = counted_more here.founds found old.files now.files now'.files here.counted counts keeps

    pub at_more : IsAddedLine text → bytes_in (packets_behind 0 s'.traces) ≤ most_bytes → IsAdding d old now' r' script s'
    at_more says small = record {
      done = here.done ++ off.line ∷ [];
      founds = here.founds ++ found ∷ [];
      added = added_more d old.files.content (start d) s s' here.done here.founds off.line text found here.added reply_then says small;
      counted = counted_then;
      left = came_of.0;
      left_is = came_of.2;
      place = place_of;
      count = count_of;
      within = off.counts.within;
    }

    pub stops_at : (why : Unmerged) → IsLastBy why text s' → StopsAt d old now' why script
    stops_at why last = record {
      lines = here.done;
      line = off.line;
      more = lines_from.0;
      are = lines_from.1;
      founds = here.founds;
      state = s;
      added = here.added;
      found = found;
      text = text;
      then = s';
      reply = reply_then;
      last = last;
      counted = counted_then;
    }

-- ---- there is no line more
adds_all : (d : Declaration) (old now now' : Devices) (r : Reader) (script : List ℕ) (s : State) (lines : List (List ℕ)) (here : IsAdding d old now r script s) → lines ≡ here.done → Keeps now.files now'.files → AddsAll d old now' lines s
adds_all d old now now' r script s lines here is keeps = record {
  founds = here.founds;
  added = subst (λ (ls : List (List ℕ)). AreAdded d old.files.content (start d) ls here.founds s) (sym is) here.added;
  counted = counted_later here.founds old.files now.files now'.files here.counted keeps;
}

pub done_at : (d : Declaration) (old now now' : Devices) (r r' : Reader) (script : List ℕ) (s : State) → IsAdding d old now r script s → HasNoLine r r' now now' → Keeps now.files now'.files → AddsScript d old now' s script
done_at d old now now' r r' script s here turn keeps =
    let came = came_off now.input now'.input here.left turn.bytes here.left_is turn.counts.came in
    let none = none_left r script here.left came.0 turn.bytes now.input now'.input here.done r.ended refl here.place here.left_is came.1 came.2 turn.ends in
    let after : came.0 ≡ [] = tail_none turn.bytes came.0 (sym came.1 ∙ none.1) in
    record {
      short = few most_taken r.taken here.left script here.count none.1 here.within;
      none_left = came.2 ∙ ap Some after;
      adds = adds_all d old now now' r script s (lines_of script) here (lines_done script here.done (r.held ++ here.left) r.ended none.0 here.place) keeps;
    }

fault_at : (d : Declaration) (old now now' : Devices) (r r' : Reader) (script : List ℕ) (s : State) → IsAdding d old now r script s → FailsInLine r r' now now' → Keeps now.files now'.files → TakesPart d old now' script
fault_at d old now now' r r' script s here turn keeps =
    let came = came_off now.input now'.input here.left turn.bytes here.left_is turn.counts.came in
    let place = open_place script here.done (r.held ++ here.left) r.ended turn.breaks.going here.place in
    let front = feeds here.done (r.held ++ turn.bytes) in
    let cut : script ≡ front ++ came.0 = cut_at script r.held here.left turn.bytes came.0 here.done place.0 came.1 in
    let long : length front ≡ r.taken + length turn.bytes = length_taken front here.left turn.bytes came.0 script r.taken here.count came.1 cut in
    record {
      taken = front;
      rest = came.0;
      is = cut;
      left = came.2;
      short = rw (long, ← turn.counts.counted) turn.counts.within;
      state = s;
      adds = adds_all d old now now' r script s (whole_lines front) here (whole_broken here.done (r.held ++ turn.bytes) place.1 turn.breaks.part) keeps;
    }

limit_at : (d : Declaration) (old now now' : Devices) (r r' : Reader) (script : List ℕ) (s : State) → IsAdding d old now r script s → IsPastMost r r' now now' → Keeps now.files now'.files → IsScriptTooLong d old now' script
limit_at d old now now' r r' script s here turn keeps =
    let came = came_off now.input now'.input here.left turn.bytes here.left_is turn.came in
    let goes = turn.goes in
    let place = open_place script here.done (r.held ++ here.left) r.ended goes.broken.going here.place in
    let left_is : here.left ≡ goes.front ++ goes.another ∷ came.0 = one_more turn.bytes goes.front here.left came.0 goes.another came.1 goes.came_is in
    let front = feeds here.done (r.held ++ goes.front) in
    let cut : script ≡ front ++ goes.another ∷ came.0 = cut_at script r.held here.left goes.front (goes.another ∷ came.0) here.done place.0 left_is in
    let long = length_taken front here.left goes.front (goes.another ∷ came.0) script r.taken here.count left_is cut in
    let over = past most_taken script front came.0 goes.another cut (long ∙ goes.most) in
    record {
      long = over.0;
      state = s;
      adds = adds_all d old now now' r script s (whole_lines (take most_taken script)) here (ap whole_lines over.1 ∙ whole_broken here.done (r.held ++ goes.front) place.1 goes.broken.part) keeps;
    }

module _ (d : Declaration) (old now now' : Devices) (held : Held) (kept : List Timed) (r r' : Reader) (x : AreKeptFor held kept) (declared : held.declaration ≡ d)
    (here : OfScript old.input.left (λ script. IsAdding d old now r script x.state)) (same : now.files.content ≡ old.files.content) (keeps : Keeps now.files now'.files) (r_le : old.input.faults ≤ now.input.faults) where
  last_at : (why : Unmerged) → TakesLast held r r' now now' kept why → OfScript old.input.left (StopsAt d old now' why)
  last_at why turn =
      let e = turn.ends x in
      let reply = subst (λ (y : Declaration). MergeReply y now.files.content x.state turn.off.line e.found e.text e.then) declared e.reply in
      of_script old.input.left (λ script. IsAdding d old now r script x.state) (StopsAt d old now' why)
      (λ script is. stops_at d old now now' r r' script x.state is same keeps turn.off e.found e.text e.then reply e.counted why e.last) here

  pub ends_so : (why : Unmerged) → EndsRunSo held r r' now now' kept why → GathersNone d old now' why
  ends_so (ends.Refused said) turn = last_at (ends.Refused said) turn
  ends_so ends.Size turn = last_at ends.Size turn
  ends_so ends.Inconsistent turn = absurd turn
  ends_so ends.Links turn = absurd turn
  ends_so ends.Range turn = absurd turn
  ends_so ends.ReadFault turn =
      (rose_later _ _ _ r_le turn.rose, of_script old.input.left (λ script. IsAdding d old now r script x.state) (TakesPart d old now') (λ script is. fault_at d old now now' r r' script x.state is turn keeps) here)
  ends_so ends.Limit turn =
      of_script old.input.left (λ script. IsAdding d old now r script x.state) (IsScriptTooLong d old now') (λ script is. limit_at d old now now' r r' script x.state is turn keeps) here
  ends_so ends.Memory turn = tt

-- ---- what a line adds
short_reply : (d : Declaration) (files : Content) (s s' : State) (line text : List ℕ) (found : Found) → length line ≤ 4096 → AddLineReply d files s line found text s' → MergeReply d files s line found text s'
short_reply d files s s' line text found small reply = let is : nat_le (length line) 4096 ≡ true = is_short (length line) small in rw is reply
  where
    is_short : (n : ℕ) → n ≤ 4096 → nat_le n 4096 ≡ true
    is_short n small = grind (arith, small)

long_reply : (d : Declaration) (files : Content) (s : State) (line : List ℕ) → 4096 < length line → MergeReply d files s line Unread (refusal_line NoCommand) s
long_reply d files s line long = let is : nat_le (length line) 4096 ≡ false = is_long (length line) long in rw is (refl, (refl, refl))
  where
    is_long : (n : ℕ) → 4096 < n → nat_le n 4096 ≡ false
    is_long n long = grind (arith, long)

module _ (line : List ℕ) (files files' : FilesTold) (h h' : Held) (kept kept' : List Timed) (small : length line ≤ 4096) where
  pub adds_line : Takes line files files' h h' kept kept' answers.Accepted → (x : AreKeptFor h kept) → AddsLine line files files' h h' kept kept' x
  adds_line takes x =
      let t = takes h.declaration x.state x.stands in
      let stands = t.8 in
      record {
        found = t.0;
        text = t.1;
        then = record {
          state = t.2;
          stands = subst (λ (d : Declaration). StandsFor h' d t.2) (sym stands.declaration) stands;
          all = subst (λ (ts : List Timed). AreAllOf t.2.traces ts) (sym t.6) (all_then x.state.traces t.2.traces kept t.3 t.5.1 x.all);
        };
        declared = stands.declaration;
        reply = short_reply h.declaration files.content x.state t.2 line t.1 t.0 small t.4;
        says = t.5.0;
        counted = t.7;
      }

  -- too many bytes then
  pub ends_size : Takes line files files' h h' kept kept' answers.Accepted → most_bytes < bytes_in kept' → (x : AreKeptFor h kept) → EndsRunAt line files files' h x.state ends.Size
  ends_size takes over x =
      let a = adds_line takes x in
      let same = same_bytes a.then.state.traces kept' a.then.all in
      let above : most_bytes < bytes_in (packets_behind 0 a.then.state.traces) = subst (λ (n : ℕ). most_bytes < n) same over in
      record { found = a.found; text = a.text; then = a.then.state; reply = a.reply; last = (a.says, above); counted = a.counted }

  -- the line is refused
  pub ends_refused : (why : Unmerged) (answer : AddAnswer) → ((text : List ℕ) (old new : Traces) (packets : List Timed) (then : State) → IsAnswerOf old new text packets answer → IsLastBy why text then) → Takes line files files' h h' kept kept' answer →
      (x : AreKeptFor h kept) → EndsRunAt line files files' h x.state why
  ends_refused why answer turn takes x =
      let t = takes h.declaration x.state x.stands in
      record {
        found = t.0;
        text = t.1;
        then = t.2;
        reply = short_reply h.declaration files.content x.state t.2 line t.1 t.0 small t.4;
        last = turn t.1 x.state.traces t.2.traces t.3 t.2 t.5;
        counted = t.7;
      }

-- a line that is too long is refused
pub ends_long : (line : List ℕ) (files : FilesTold) (h : Held) (s : State) (why : Unmerged) → 4096 < length line → IsLastBy why (refusal_line NoCommand) s → EndsRunAt line files files h s why
ends_long line files h s why long last = record {
  found = Unread;
  text = refusal_line NoCommand;
  then = s;
  reply = long_reply h.declaration files.content s line long;
  last = last;
  counted = counted_unread files;
}

-- ---- packets that are kept behind others
-- more packets are kept, whatever the answer
pub grown_by : (line : List ℕ) (files files' : FilesTold) (h h' : Held) (kept kept' : List Timed) (answer : AddAnswer) → Takes line files files' h h' kept kept' answer → AreKeptFor h kept → (packets : List Timed) × (kept' ≡ kept ++ packets)
grown_by line files files' h h' kept kept' answer takes x = let t = takes h.declaration x.state x.stands in (t.3, t.6)

drop_timed : (n : ℕ) (xs : List Stored) → all_timed (drop n xs) ≡ drop n (all_timed xs)
drop_timed zero xs = refl
drop_timed (suc n) [] = refl
drop_timed (suc n) (x ∷ xs) = drop_timed n xs

drop_front : (xs ys : List Timed) (n : ℕ) → n ≡ length xs → drop n (xs ++ ys) ≡ ys
drop_front [] ys zero is = refl
drop_front [] ys (suc n) is = absurd (omega (arith, is))
drop_front (x ∷ xs) ys zero is = absurd (omega (arith, is))
drop_front (x ∷ xs) ys (suc n) is = drop_front xs ys n (omega (arith, is))

module _ (old new : List Stored) (packets : List Timed) (are : all_timed new ≡ all_timed old ++ packets) (before : ℕ) (count : before ≡ length old) where
  pub grown_long : before ≤ length new
  grown_long =
      let a : length (all_timed new) ≡ length new = length-map new timed in
      let b : length (all_timed old) ≡ length old = length-map old timed in
      let c : length (all_timed new) ≡ length (all_timed old) + length packets = ap length are ∙ length-append (all_timed old) packets in
      omega (arith, a, b, c, count)

  newest_are : all_timed (drop before new) ≡ packets
  newest_are =
      let b : length (all_timed old) ≡ length old = length-map old timed in
      drop_timed before new ∙ ap (λ (ts : List Timed). drop before ts) are ∙ drop_front (all_timed old) packets before (omega (arith, b, count))

  pub grown_bytes : bytes_in (all_timed new) ≡ bytes_in (all_timed old) + bytes_in (all_timed (drop before new))
  grown_bytes =
      ap bytes_in are ∙ sum_by-append (λ (t : Timed). length t.packet.bytes) (all_timed old) packets ∙ ap (λ (ts : List Timed). bytes_in (all_timed old) + bytes_in ts) (sym newest_are)

-- ---- why a turn ends the run
pub ends_turn : (h : Held) (r r' : Reader) (old new : Devices) (kept : List Timed) (why : Unmerged) (off : TakesOff r r' old new) → AreKeptFor h kept → EndsOrLacks off.line old.files new.files h kept why → EndsRunSo h r r' old new kept why
ends_turn h r r' old new kept why off x (inl lacks) = subst (λ (w : Unmerged). EndsRunSo h r r' old new kept w) (sym lacks) tt
ends_turn h r r' old new kept (ends.Refused said) off x (inr last) = record { off = off; ends = last }
ends_turn h r r' old new kept ends.Size off x (inr last) = record { off = off; ends = last }
ends_turn h r r' old new kept ends.Inconsistent off x (inr last) = absurd ((last x).last)
ends_turn h r r' old new kept ends.Links off x (inr last) = absurd ((last x).last)
ends_turn h r r' old new kept ends.Range off x (inr last) = absurd ((last x).last)
ends_turn h r r' old new kept ends.ReadFault off x (inr last) = absurd ((last x).last)
ends_turn h r r' old new kept ends.Limit off x (inr last) = absurd ((last x).last)
ends_turn h r r' old new kept ends.Memory off x (inr last) = tt

-- ---- from line to line
-- the lines so far are added, and these are all packets
abbrev pub IsSoFar : Declaration → Devices → Devices → Reader → Held → List Timed → Type 0
IsSoFar d old now r h kept = (x : AreKeptFor h kept) × (h.declaration ≡ d) × OfScript old.input.left (λ (script : List ℕ). IsAdding d old now r script x.state)

pub so_far_first : (t : Devices) (r : Reader) (h : Held) (kept : List Timed) → r ≡ fresh → StandsFor h h.declaration (start h.declaration) → kept ≡ [] → IsSoFar h.declaration t t r h kept
so_far_first t r h kept is stands none = (
  record { state = start h.declaration; stands = stands; all = subst (λ (ts : List Timed). AreAllOf (start h.declaration).traces ts) (sym none) (all_first h.declaration.labels) },
  refl,
  of_told t.input.left (λ (script : List ℕ). IsAdding h.declaration t t r script (start h.declaration)) (λ script told. at_first h.declaration t r script is told),
)

module _ (d : Declaration) (old now now' : Devices) (r r' : Reader) (h h' : Held) (kept kept' : List Timed) (before : IsSoFar d old now r h kept) (keeps : Keeps now.files now'.files) where
  pub so_far_more : now.files.content ≡ old.files.content → TakesLine h h' r r' now now' kept kept' → bytes_in kept' ≤ most_bytes → IsSoFar d old now' r' h' kept'
  so_far_more same turn few_bytes =
      let x = before.0 in
      let a = turn.adds x in
      let small = subst (λ (n : ℕ). n ≤ most_bytes) (same_bytes a.then.state.traces kept' a.then.all) few_bytes in
      let reply = subst (λ (y : Declaration). MergeReply y now.files.content x.state turn.off.line a.found a.text a.then.state) before.1 a.reply in (
        a.then,
        a.declared ∙ before.1,
        of_script old.input.left (λ (script : List ℕ). IsAdding d old now r script x.state) (λ (script : List ℕ). IsAdding d old now' r' script a.then.state)
            (λ script here. at_more d old now now' r r' script x.state here same keeps turn.off a.found a.text a.then.state reply a.counted a.says small) before.2,
      )

  gathers_here : HasNoLine r r' now now' → GathersAll d old now' h kept
  gathers_here turn =
      let x = before.0 in
      record {
        are = x;
        declared = before.1;
        adds = of_script old.input.left (λ (script : List ℕ). IsAdding d old now r script x.state) (AddsScript d old now' x.state) (λ script here. done_at d old now now' r r' script x.state here turn keeps) before.2;
      }

  pub gathers_all : HasNoLine r r' now now' → h' ≡ h → kept' ≡ kept → GathersAll d old now' h' kept'
  gathers_all turn same_h same_kept =
      subst (λ (y : Held). GathersAll d old now' y kept') (sym same_h) (subst (λ (ts : List Timed). GathersAll d old now' h ts) (sym same_kept) (gathers_here turn))

  pub gathers_none : now.files.content ≡ old.files.content → old.input.faults ≤ now.input.faults → (why : Unmerged) → EndsRunSo h r r' now now' kept why → GathersNone d old now' why
  gathers_none same r_le why turn = ends_so d old now now' h kept r r' before.0 before.1 before.2 same keeps r_le why turn
