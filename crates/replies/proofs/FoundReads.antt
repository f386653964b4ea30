-- What the reads of a script come to is a matter of its lines and of the files, where no read fails.
use Rattle.std.proofs.Common.{◌≡◌, ℕ, List, [], ◌∷◌, length, Option, Some, None, Bool, true, false, nat_le, MatchBool, All, refl, sym, ◌∙◌, ap, subst}
use Rattle.std.proofs.lemmas.List.Elements.{All-cons, All-head, All-nil, All-tail}
use Rattle.decl.specs.Declaration.{Declaration}
use Rattle.replies.specs.declared.refusal.Refusal.TheVariants.{NoCommand}
use Rattle.replies.specs.Commands.{Command, Add, Keep, Ask, Asks}
use Rattle.replies.specs.Reply.{State, Found, Unread, Bytes, Absent, Failed, Refuses, label_at, AddReply}
use Rattle.replies.specs.Sessions.{FoundAt, CommandReply, Session, is_failed}
use Rattle.replies.specs.Lawful.{FindsBytes, HoldBytes, NoneFailed}
use Rattle.replies.proofs.OneCommand.{command_one}

-- what the read at a path comes to, by whether the label is known and what the path has
abbrev due_at : Option ℕ → Option (List ℕ) → Found
due_at None bytes = Unread
due_at (Some k) None = Absent
due_at (Some k) (Some bytes) = Bytes bytes

module _ (d : Declaration) (files : List ℕ → Option (List ℕ)) where
  -- what the read of a command comes to
  abbrev due : Option Command → Found
  due None = Unread
  due (Some (Add label path)) = due_at (label_at d label) (files path)
  due (Some (Keep event)) = Unread
  due (Some (Ask question)) = Unread

  add_due : (s after : State) (label path text : List ℕ) (place : Option ℕ) (found : Found) → FoundAt (Some files) (Add label path) found → AddReply d s place found text after → is_failed found ≡ false → found ≡ due_at place (files path)
  add_due s after label path text None Unread at reply sound = refl
  add_due s after label path text None (Bytes bytes) at reply sound = absurd reply
  add_due s after label path text None Absent at reply sound = absurd reply
  add_due s after label path text None Failed at reply sound = absurd reply
  add_due s after label path text (Some k) Unread at reply sound = absurd reply
  add_due s after label path text (Some k) (Bytes bytes) at reply sound = sym (ap (due_at (Some k)) at)
  add_due s after label path text (Some k) Absent at reply sound = sym (ap (due_at (Some k)) at)
  add_due s after label path text (Some k) Failed at reply sound = absurd cc

  command_due : (s after : State) (c : Option Command) (found : Found) (text : List ℕ) → CommandReply d (Some files) s c found text after → is_failed found ≡ false → found ≡ due c
  command_due s after None found text reply sound = reply.0
  command_due s after (Some (Add label path)) found text reply sound = add_due s after label path text (label_at d label) found reply.0 reply.1 sound
  command_due s after (Some (Keep event)) found text reply sound = reply.1.0
  command_due s after (Some (Ask question)) found text reply sound = reply.1.0

  -- a line by whether it is short
  abbrev LineReplyBy : Bool → State → List ℕ → Found → List ℕ → State → Type 0
  LineReplyBy short s line found text after = MatchBool short ((c : Option Command) × Asks line c × CommandReply d (Some files) s c found text after) ((found ≡ Unread) × Refuses s NoCommand text after)

  one_found : (short : Bool) (s s' after after' : State) (line a b : List ℕ) (found other : Found) → LineReplyBy short s line found a after → LineReplyBy short s' line other b after' →
      is_failed found ≡ false → is_failed other ≡ false → found ≡ other
  one_found true s s' after after' line a b found other (c, asks, reply) (c', asks', reply') sound sound' =
      command_due s after c found a reply sound ∙ ap due (command_one line c c' asks asks') ∙ sym (command_due s' after' c' other b reply' sound')
  one_found false s s' after after' line a b found other refused refused' sound sound' = refused.0 ∙ sym refused'.0

  pub founds_one : (s s' : State) (lines : List (List ℕ)) (founds others : List Found) (a b : List (List ℕ)) (after other : State) → NoneFailed founds → NoneFailed others →
      Session d (Some files) s lines founds a after → Session d (Some files) s' lines others b other → founds ≡ others
  founds_one s s' [] [] [] a b after other sound sound' run run' = refl
  founds_one s s' [] [] (found ∷ others) a b after other sound sound' run run' = absurd run'
  founds_one s s' [] (found ∷ founds) others a b after other sound sound' run run' = absurd run
  founds_one s s' (line ∷ lines) [] others a b after other sound sound' run run' = absurd run
  founds_one s s' (line ∷ lines) (found ∷ founds) [] a b after other sound sound' run run' = absurd run'
  founds_one s s' (line ∷ lines) (found ∷ founds) (came ∷ others) [] b after other sound sound' run run' = absurd run
  founds_one s s' (line ∷ lines) (found ∷ founds) (came ∷ others) (text ∷ a) [] after other sound sound' run run' = absurd run'
  founds_one s s' (line ∷ lines) (found ∷ founds) (came ∷ others) (text ∷ a) (told ∷ b) after other sound sound' (mid, reply, run) (mid', reply', run') =
      let IsSound : Found → Type 0 = λ f. is_failed f ≡ false in
      let head : found ≡ came = one_found (nat_le (length line) 4096) s s' mid mid' line text told found came reply reply' (All-head IsSound found founds sound) (All-head IsSound came others sound') in
      let tail : founds ≡ others = founds_one mid mid' lines founds others a b after other (All-tail IsSound found founds sound) (All-tail IsSound came others sound') run run' in
      ap (λ (f : Found). f ∷ founds) head ∙ ap (λ (l : List Found). came ∷ l) tail

  -- ---- what is found is bytes
  add_bytes : HoldBytes files → (label path : List ℕ) (found : Found) → FoundAt (Some files) (Add label path) found → FindsBytes found
  add_bytes hold label path Unread at = tt
  add_bytes hold label path (Bytes bytes) at = hold path bytes at
  add_bytes hold label path Absent at = tt
  add_bytes hold label path Failed at = tt

  unread_bytes : (found : Found) → found ≡ Unread → FindsBytes found
  unread_bytes found is = subst FindsBytes (sym is) tt

  command_bytes : HoldBytes files → (s after : State) (c : Option Command) (found : Found) (text : List ℕ) → CommandReply d (Some files) s c found text after → FindsBytes found
  command_bytes hold s after None found text reply = unread_bytes found reply.0
  command_bytes hold s after (Some (Add label path)) found text reply = add_bytes hold label path found reply.0
  command_bytes hold s after (Some (Keep event)) found text reply = unread_bytes found reply.1.0
  command_bytes hold s after (Some (Ask question)) found text reply = unread_bytes found reply.1.0

  line_bytes : HoldBytes files → (short : Bool) (s after : State) (line text : List ℕ) (found : Found) → LineReplyBy short s line found text after → FindsBytes found
  line_bytes hold true s after line text found (c, asks, reply) = command_bytes hold s after c found text reply
  line_bytes hold false s after line text found refused = unread_bytes found refused.0

  pub founds_bytes : HoldBytes files → (s : State) (lines : List (List ℕ)) (founds : List Found) (texts : List (List ℕ)) (after : State) → Session d (Some files) s lines founds texts after → All FindsBytes founds
  founds_bytes hold s lines [] texts after run = All-nil FindsBytes
  founds_bytes hold s [] (found ∷ founds) texts after run = absurd run
  founds_bytes hold s (line ∷ lines) (found ∷ founds) [] after run = absurd run
  founds_bytes hold s (line ∷ lines) (found ∷ founds) (text ∷ texts) after (mid, reply, run) =
      All-cons FindsBytes found founds (line_bytes hold (nat_le (length line) 4096) s mid line text found reply) (founds_bytes hold mid lines founds texts after run)
