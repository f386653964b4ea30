-- Replies to lines, one after another.
use Rattle.std.proofs.Common.{◌≡◌, ℕ, ◌+◌, ◌<◌, ◌≤◌, List, [], ◌∷◌, ◌++◌, length, Bool, false, nat_le, count_by, cond, refl, sym, subst, arith, append_assoc, append-nil}
use Rattle.std.specs.List.{concat}
use Rattle.std.proofs.lemmas.List.Sums.{sum_by-append}
use Rattle.ports.specs.Files.{Content, FilesTold, Keeps}
use Rattle.decl.specs.Declaration.{Declaration}
use Rattle.replies.specs.declared.refusal.Refusal.TheVariants.{NoCommand}
use Rattle.replies.specs.Refusals.{refusal_line}
use Rattle.replies.specs.Reply.{State, Found, Unread}
use Rattle.replies.specs.Sessions.{Session, LineReply, AreCounted, is_failed, is_absent}
use Rattle.session.specs.Stands.{Held, Stepped}

-- a session over one line more
pub session_more : (d : Declaration) (files : Content) (s s' s'' : State) (lines : List (List ℕ)) (founds : List Found) (texts : List (List ℕ)) (line text : List ℕ) (found : Found) →
    Session d files s lines founds texts s' → LineReply d files s' line found text s'' →
    Session d files s (lines ++ line ∷ []) (founds ++ found ∷ []) (texts ++ text ∷ []) s''
session_more d files s s' s'' [] [] [] line text found done reply = (s'', subst (λ (t : State). LineReply d files t line found text s'') done reply, refl)
session_more d files s s' s'' (l ∷ ls) (f ∷ fs) (t ∷ ts) line text found done reply =
    (done.0, done.1, session_more d files done.0 s' s'' ls fs ts line text found done.2 reply)
session_more d files s s' s'' [] (f ∷ fs) ts line text found done reply = absurd done
session_more d files s s' s'' [] [] (t ∷ ts) line text found done reply = absurd done
session_more d files s s' s'' (l ∷ ls) [] ts line text found done reply = absurd done
session_more d files s s' s'' (l ∷ ls) (f ∷ fs) [] line text found done reply = absurd done

at_most_more : (last n m a b d : ℕ) → (b < last → a + n ≤ b) → (d < last → b + m ≤ d) → b ≤ d → d < last → a + (n + m) ≤ d
at_most_more last n m a b d first second le below = omega (arith, first (omega (arith, below, le)), second below, le)

count_more : (p : Found → Bool) (xs : List Found) (x : Found) → count_by p (xs ++ x ∷ []) ≡ count_by p xs + count_by p (x ∷ [])
count_more p xs x = sum_by-append (λ y. cond (p y) 1 0) xs (x ∷ [])

-- the reads of one command more are counted
pub counted_more : (founds : List Found) (found : Found) (old mid new : FilesTold) → AreCounted founds old mid → AreCounted (found ∷ []) mid new → Keeps mid new →
    AreCounted (founds ++ found ∷ []) old new
counted_more founds found old mid new one two keeps = record {
  failed = λ below. rw (count_more is_failed founds found) (at_most_more _ _ _ old.faults mid.faults new.faults one.failed two.failed keeps.faults below);
  absent = λ below. rw (count_more is_absent founds found) (at_most_more _ _ _ old.absences mid.absences new.absences one.absent two.absent keeps.absences below);
}

at_most_later : (last n a b d : ℕ) → (b < last → a + n ≤ b) → b ≤ d → d < last → a + n ≤ d
at_most_later last n a b d first le below = omega (arith, first (omega (arith, le, below)), le)

-- counts may rise later
pub counted_later : (founds : List Found) (old mid new : FilesTold) → AreCounted founds old mid → Keeps mid new → AreCounted founds old new
counted_later founds old mid new one keeps = record {
  failed = λ below. at_most_later _ _ old.faults mid.faults new.faults one.failed keeps.faults below;
  absent = λ below. at_most_later _ _ old.absences mid.absences new.absences one.absent keeps.absences below;
}

at_most_earlier : (last n a b d : ℕ) → (d < last → b + n ≤ d) → a ≤ b → d < last → a + n ≤ d
at_most_earlier last n a b d first le below = omega (arith, first below, le)

-- and they may have risen before
pub counted_earlier : (founds : List Found) (old mid new : FilesTold) → Keeps old mid → AreCounted founds mid new → AreCounted founds old new
counted_earlier founds old mid new keeps one = record {
  failed = λ below. at_most_earlier _ _ old.faults mid.faults new.faults one.failed keeps.faults below;
  absent = λ below. at_most_earlier _ _ old.absences mid.absences new.absences one.absent keeps.absences below;
}

pub counted_none : (now : FilesTold) → AreCounted [] now now
counted_none now = record { failed = λ below. omega arith; absent = λ below. omega arith }

pub counted_unread : (now : FilesTold) → AreCounted (Unread ∷ []) now now
counted_unread now = record { failed = λ below. omega arith; absent = λ below. omega arith }

-- ---- texts
pub concat_more : (texts : List (List ℕ)) (text : List ℕ) → concat (texts ++ text ∷ []) ≡ concat texts ++ text
concat_more [] text = append-nil text
concat_more (t ∷ texts) text = rw (concat_more texts text) (sym (append_assoc t (concat texts) text))

not_short : (n : ℕ) → 4096 < n → nat_le n 4096 ≡ false
not_short n long = grind (arith, long)

-- a line that is too long is refused
pub long_refused : (d : Declaration) (files : Content) (s : State) (line : List ℕ) → 4096 < length line → LineReply d files s line Unread (refusal_line NoCommand) s
long_refused d files s line long = rw (not_short (length line) long) (refl, (refl, refl))

pub long_stepped : (files : FilesTold) (held : Held) (line : List ℕ) (IsWritten : List ℕ → Type 0) → 4096 < length line →
    IsWritten (refusal_line NoCommand) → Stepped line files files held held IsWritten
long_stepped files held line IsWritten long written =
    λ d s stands. (Unread, refusal_line NoCommand, s, long_refused d files.content s line long, written, counted_unread files, stands)
