-- How far a session over a script is.
use Rattle.std.proofs.Common.{◌≡◌, ◌↔◌, inl, inr, ℕ, ◌+◌, ◌-◌, ◌<◌, ◌≤◌, nat_le, if◌then◌else◌, List, [], ◌∷◌, ◌++◌, length, take, Option, Some, None, Bool, true, false, refl, sym, ◌∙◌, ap, subst, arith, length-append, append_assoc, append-nil}
use Rattle.std.proofs.lemmas.Bool.{cases_lt}
use Rattle.std.specs.List.{concat}
use Rattle.ports.specs.Content.{SourceTold, Appends, AppendsPrefix}
use Rattle.ports.specs.Files.{Content, Keeps}
use Rattle.ports.proofs.Writing.{appends_then, appends_none, prefix_then}
use Rattle.decl.specs.Declaration.{Declaration}
use Rattle.ports.specs.Lines.{lines_of, whole_lines, most_taken}
use Rattle.ports.specs.Reader.{Reader, IsFirstLine, GivesLine, fresh}
use Rattle.ports.proofs.Pieces.{came_off, nothing_left}
use Rattle.ports.proofs.LinesOf.{gives_first}
use Rattle.replies.specs.Reply.{State, Found}
use Rattle.replies.specs.Sessions.{Session, LineReply, AreCounted, start}
use Rattle.session.specs.Stands.{Held, StandsFor}
use Rattle.session.specs.Script.{Devices, OfScript, IsScriptBegun, lines_within}
use Rattle.session.specs.Turns.{TakesOff, AnswersLine}
use Rattle.session.proofs.Scripts.{feeds, NoFeeds, whole_feeds, lines_feeds, lines_last, feeds_more, feeds_cut, none_more, tail_none, take_feeds}
use Rattle.session.proofs.Replies.{session_more, counted_more, counted_none, concat_more}

-- the lines that are done, and the rest of the script; or all lines are done
abbrev pub IsPlace : List ℕ → List (List ℕ) → List ℕ → Bool → Type 0
IsPlace script done rest false = (script ≡ feeds done rest) × NoFeeds done
IsPlace script done rest true = (lines_of script ≡ done) × (rest ≡ [])

-- the lines that are done have their replies, and the session stands for what they added
pub record IsAt (d : Declaration) (old now : Devices) (held : Held) (r : Reader) (script : List ℕ) : Type 0 where
  pub done : List (List ℕ)
  pub founds : List Found
  pub texts : List (List ℕ)
  pub state : State
  pub session : Session d old.files.content (start d) done founds texts state
  pub stands : StandsFor held d state
  pub counted : AreCounted founds old.files now.files
  pub written : Appends old.out.written now.out.written (concat texts)
  pub left : List ℕ
  pub left_is : now.input.left ≡ Some left
  pub place : IsPlace script done (r.held ++ left) r.ended
  pub count : r.taken + length left ≡ length script
  pub within : r.taken ≤ most_taken

at_fresh : (d : Declaration) (t : Devices) (held : Held) (script : List ℕ) → StandsFor held d (start d) → t.input.left ≡ Some script → IsAt d t t held fresh script
at_fresh d t held script stands told = record {
  done = [];
  founds = [];
  texts = [];
  state = start d;
  session = refl;
  stands = stands;
  counted = counted_none t.files;
  written = appends_none t.out.written;
  left = script;
  left_is = told;
  place = (refl, tt);
  count = omega arith;
  within = omega arith;
}

pub at_start : (d : Declaration) (t : Devices) (held : Held) (r : Reader) (script : List ℕ) → r ≡ fresh → StandsFor held d (start d) → t.input.left ≡ Some script → IsAt d t t held r script
at_start d t held r script is stands told = subst (λ (x : Reader). IsAt d t t held x script) (sym is) (at_fresh d t held script stands told)

pub place_more : (script : List ℕ) (done : List (List ℕ)) (rest rest' line : List ℕ) (ended ended' : Bool) → ended ≡ false → IsPlace script done rest ended →
    IsFirstLine rest line rest' ended' → IsPlace script (done ++ line ∷ []) rest' ended'
place_more script done rest rest' line true ended' going place first = absurd cc
place_more script done rest rest' line false false going place first =
    (place.0 ∙ ap (feeds done) first.1 ∙ sym (feeds_more done line rest'), none_more done line place.1 first.0)
place_more script done rest rest' line false true going place first =
    (ap lines_of (place.0 ∙ ap (feeds done) first.2) ∙ lines_last done line place.1 first.0 first.1, first.3)

-- the lines of a script are those that are done and others
lines_behind : (script : List ℕ) (done : List (List ℕ)) (rest : List ℕ) (ended : Bool) → IsPlace script done rest ended → (more : List (List ℕ)) × (lines_of script ≡ done ++ more)
lines_behind script done rest false place = (lines_of rest, ap lines_of place.0 ∙ lines_feeds done rest place.1)
lines_behind script done rest true place = ([], place.0 ∙ sym (append-nil done))

-- where the script is longer than what may be taken, and no last line was given, so are its first bytes
lines_cut : (script : List ℕ) (done : List (List ℕ)) (held rest : List ℕ) (ended : Bool) (taken most : ℕ) → IsPlace script done (held ++ rest) ended → taken + length rest ≡ length script → taken ≤ most →
    most < length script → (more : List (List ℕ)) × (whole_lines (take most script) ≡ done ++ more)
lines_cut script done held rest true taken most place count few long = absurd (omega (arith, ap length (tail_none held rest place.1), count, few, long))
lines_cut script done held rest false taken most place count few long =
    let sizes : length (feeds done held) + length rest ≡ length script = sym (length-append (feeds done held) rest) ∙ ap length (sym (feeds_cut done held rest)) ∙ ap length (sym place.0) in
    let cut = ap (take most) place.0 ∙ take_feeds done held rest most (omega (arith, sizes, count, few)) in
    let more = held ++ take (most - length (feeds done held)) rest in
    (whole_lines more, ap whole_lines cut ∙ whole_feeds done more place.1)

-- the lines that have replies where nothing fails are those that are done and others
pub within_behind : (script : List ℕ) (done : List (List ℕ)) (held rest : List ℕ) (ended : Bool) (taken : ℕ) → IsPlace script done (held ++ rest) ended → taken + length rest ≡ length script → taken ≤ most_taken →
    (more : List (List ℕ)) × (lines_within script ≡ done ++ more)
within_behind script done held rest ended taken place count few = go (nat_le (length script) most_taken) refl
  where
    go : (short : Bool) → nat_le (length script) most_taken ≡ short → (more : List (List ℕ)) × ((if short then lines_of script else whole_lines (take most_taken script)) ≡ done ++ more)
    go true is = lines_behind script done (held ++ rest) ended place
    go false is = lines_cut script done held rest ended taken most_taken place count few (grind (arith, is))

same_some : (x y : List ℕ) → Some x ≡ Some y → x ≡ y
same_some x y e = cc

-- a line that is given is the first of the bytes held and left
pub given_first : (r r' : Reader) (before after : SourceTold) (left rest bytes line : List ℕ) → before.left ≡ Some left → left ≡ bytes ++ rest → after.left ≡ Some rest → GivesLine r r' before after bytes line →
    IsFirstLine (r.held ++ left) line (r'.held ++ rest) r'.ended
given_first r r' before after left rest bytes line told cut behind gives =
    let first = gives_first r r' before after bytes line rest gives (λ ended. same_some rest [] (sym behind ∙ nothing_left before after left told (gives.last ended))) in
    let all : r.held ++ left ≡ (r.held ++ bytes) ++ rest = ap (λ (l : List ℕ). r.held ++ l) cut ∙ sym (append_assoc r.held bytes rest) in
    rw all first

pub count_on : (bytes left left' script : List ℕ) (taken taken' : ℕ) → taken + length left ≡ length script → left ≡ bytes ++ left' → taken' ≡ taken + length bytes →
    taken' + length left' ≡ length script
count_on bytes left left' script taken taken' count cut counted = omega (arith, count, ap length cut, length-append bytes left', counted)

-- one more line was taken off, and its reply stands written so
module _ (d : Declaration) (old now now' : Devices) (held held' : Held) (r r' : Reader) (script : List ℕ) (here : IsAt d old now held r script)
    (same : now.files.content ≡ old.files.content) (keeps : Keeps now.files now'.files) where
  module _ (off : TakesOff r r' now now') where
    came_of : (rest : List ℕ) × (here.left ≡ off.bytes ++ rest) × (now'.input.left ≡ Some rest)
    came_of = came_off now.input now'.input here.left off.bytes here.left_is off.counts.came

    place_of : IsPlace script (here.done ++ off.line ∷ []) (r'.held ++ came_of.0) r'.ended
    place_of =
        place_more script here.done (r.held ++ here.left) (r'.held ++ came_of.0) off.line r.ended r'.ended off.gives.going here.place
        (given_first r r' now.input now'.input here.left came_of.0 off.bytes off.line here.left_is came_of.1 came_of.2 off.gives)

    count_of : r'.taken + length came_of.0 ≡ length script
    count_of = count_on off.bytes here.left came_of.0 script r.taken r'.taken here.count came_of.1 off.counts.counted

    -- the lines that have replies where nothing fails are those before, this one, and others
    pub lines_from : (more : List (List ℕ)) × (lines_within script ≡ here.done ++ off.line ∷ more)
    lines_from =
        let more = within_behind script (here.done ++ off.line ∷ []) r'.held came_of.0 r'.ended r'.taken place_of count_of off.counts.within in
        (more.0, more.1 ∙ append_assoc here.done (off.line ∷ []) more.0)

  module _ (IsWritten : List ℕ → Type 0) (turn : AnswersLine held held' r r' now now' IsWritten) where
    -- what is found at its path, its reply, and what the session then has
    replied_of : (found : Found) × (text : List ℕ) × (s' : State) × LineReply d old.files.content here.state turn.off.line found text s'
        × IsWritten text × AreCounted (found ∷ []) now.files now'.files × StandsFor held' d s'
    replied_of =
        let step = turn.stepped d here.state here.stands in
        (step.0, step.1, step.2, subst (λ (content : Content). LineReply d content here.state turn.off.line step.0 step.1 step.2) same step.3, step.4, step.5, step.6)

    session_of : Session d old.files.content (start d) (here.done ++ turn.off.line ∷ []) (here.founds ++ replied_of.0 ∷ []) (here.texts ++ replied_of.1 ∷ []) replied_of.2
    session_of = session_more d old.files.content (start d) here.state replied_of.2 here.done here.founds here.texts turn.off.line replied_of.1 replied_of.0 here.session replied_of.3

    counted_of : AreCounted (here.founds ++ replied_of.0 ∷ []) old.files now'.files
    counted_of = counted_more here.founds replied_of.0 old.files now.files now'.files here.counted replied_of.5 keeps

  -- all of it is written
  pub at_more : AnswersLine held held' r r' now now' (Appends now.out.written now'.out.written) → IsAt d old now' held' r' script
  at_more turn =
      let Whole : List ℕ → Type 0 = Appends now.out.written now'.out.written in
      let came = came_of turn.off in
      let replied = replied_of Whole turn in
      record {
        done = here.done ++ turn.off.line ∷ [];
        founds = here.founds ++ replied.0 ∷ [];
        texts = here.texts ++ replied.1 ∷ [];
        state = replied.2;
        session = session_of Whole turn;
        stands = replied.6;
        counted = counted_of Whole turn;
        written = rw (concat_more here.texts replied.1) (appends_then old.out.written now.out.written now'.out.written (concat here.texts) replied.1 here.written replied.4);
        left = came.0;
        left_is = came.2;
        place = place_of turn.off;
        count = count_of turn.off;
        within = turn.off.counts.within;
      }

  -- a front of it is written
  pub cut_at_line : AnswersLine held held' r r' now now' (AppendsPrefix now.out.written now'.out.written) → IsScriptBegun d old now' (AppendsPrefix old.out.written now'.out.written) script
  cut_at_line turn =
      let Front : List ℕ → Type 0 = AppendsPrefix now.out.written now'.out.written in
      let off = turn.off in
      let replied = replied_of Front turn in
      let more = within_behind script (here.done ++ off.line ∷ []) r'.held (came_of off).0 r'.ended r'.taken (place_of off) (count_of off) off.counts.within in
      record {
        lines = here.done ++ off.line ∷ [];
        more = more.0;
        are = more.1;
        replied = record {
          founds = here.founds ++ replied.0 ∷ [];
          texts = here.texts ++ replied.1 ∷ [];
          state = replied.2;
          session = session_of Front turn;
          counted = counted_of Front turn;
          written = rw (concat_more here.texts replied.1) (prefix_then old.out.written now.out.written now'.out.written (concat here.texts) replied.1 here.written replied.4);
        };
      }

-- facts of the script, one after the other
pub of_script : (o : Option (List ℕ)) (P Q : List ℕ → Type 0) → ((script : List ℕ) → P script → Q script) → OfScript o P → OfScript o Q
of_script None P Q f p = tt
of_script (Some script) P Q f p = f script p

pub of_told : (o : Option (List ℕ)) (Q : List ℕ → Type 0) → ((script : List ℕ) → o ≡ Some script → Q script) → OfScript o Q
of_told None Q f = tt
of_told (Some script) Q f = f script refl

-- no more than the most was taken, where that is not what is answered
pub within_most : {P : Type 0} (most taken : ℕ) → P ↔ (most < taken) → (P → ⊥) → taken ≤ most
within_most most taken iff none = elim (cases_lt most taken) [
  | inl over ↦ absurd (none (iff.1 over))
  | inr not_over ↦ omega (arith, not_over)
]
