-- A script has one output, and what a session has behind each of its lines is lawful.
use Rattle.std.proofs.Common.{◌≡◌, ℕ, zero, suc, List, [], ◌∷◌, length, take, slice_get, Some, All, refl, sym, ◌∙◌, ap, subst}
use Rattle.std.proofs.lemmas.List.Elements.{All-head, All-tail, All-take}
use Rattle.ports.specs.Files.{Content}
use Rattle.decl.specs.Declaration.{Declaration}
use Rattle.traces.specs.Messages.{problem_of}
use Rattle.replies.specs.Reply.{State, Found}
use Rattle.replies.specs.Sessions.{LineReply, Session}
use Rattle.replies.specs.OneReply.{IsState, AreOneReply}
use Rattle.replies.specs.Lawful.{FindsBytes, IsLawful, IsStateBehind, AreOneOutput}
use Rattle.replies.proofs.Elements.{some_same}

-- what is true of each line of a session over this declaration and these files
pub record OfLines (d : Declaration) (files : Content) : Type 0 where
  pub lawful : (s after : State) (line text : List ℕ) (found : Found) → IsLawful d s → FindsBytes found → LineReply d files s line found text after → IsLawful d after
  pub text : (s after other : State) (line a b : List ℕ) (found : Found) → IsState d s → LineReply d files s line found a after → LineReply d files s line found b other → AreOneReply (problem_of d s.traces) line a b
  pub next : (s after other : State) (line a b : List ℕ) (found : Found) → IsState d s → LineReply d files s line found a after → LineReply d files s line found b other → after ≡ other

-- a line leaves what a session has lawful
abbrev KeepsLawful : Declaration → Content → Type 0
KeepsLawful d files = (s after : State) (line text : List ℕ) (found : Found) → IsLawful d s → FindsBytes found → LineReply d files s line found text after → IsLawful d after

module _ (d : Declaration) (files : Content) (line_lawful : KeepsLawful d files) where
  pub script_lawful : (s : State) (lines : List (List ℕ)) (founds : List Found) (texts : List (List ℕ)) (after : State) → IsLawful d s → All FindsBytes founds → Session d files s lines founds texts after → IsLawful d after
  script_lawful s [] [] [] after lawful are same = subst (IsLawful d) (sym same) lawful
  script_lawful s [] [] (text ∷ texts) after lawful are run = absurd run
  script_lawful s [] (found ∷ founds) texts after lawful are run = absurd run
  script_lawful s (line ∷ lines) [] texts after lawful are run = absurd run
  script_lawful s (line ∷ lines) (found ∷ founds) [] after lawful are run = absurd run
  script_lawful s (line ∷ lines) (found ∷ founds) (text ∷ texts) after lawful are (mid, reply, run) =
      let then : IsLawful d mid = line_lawful s mid line text found lawful (All-head FindsBytes found founds are) reply in
      script_lawful mid lines founds texts after then (All-tail FindsBytes found founds are) run

module _ (d : Declaration) (files : Content) (each : OfLines d files) where
  pub one_end : (s : State) (lines : List (List ℕ)) (founds : List Found) (a b : List (List ℕ)) (after other : State) → IsLawful d s → All FindsBytes founds →
      Session d files s lines founds a after → Session d files s lines founds b other → after ≡ other
  one_end s [] [] [] [] after other lawful are same same' = same ∙ sym same'
  one_end s [] [] [] (text ∷ b) after other lawful are run run' = absurd run'
  one_end s [] [] (text ∷ a) b after other lawful are run run' = absurd run
  one_end s [] (found ∷ founds) a b after other lawful are run run' = absurd run
  one_end s (line ∷ lines) [] a b after other lawful are run run' = absurd run
  one_end s (line ∷ lines) (found ∷ founds) [] b after other lawful are run run' = absurd run
  one_end s (line ∷ lines) (found ∷ founds) (text ∷ a) [] after other lawful are run run' = absurd run'
  one_end s (line ∷ lines) (found ∷ founds) (text ∷ a) (told ∷ b) after other lawful are (mid, reply, run) (mid', reply', run') =
      let then : IsLawful d mid = each.lawful s mid line text found lawful (All-head FindsBytes found founds are) reply in
      let same : mid' ≡ mid = each.next s mid' mid line told text found lawful.state reply' reply in
      one_end mid lines founds a b after other then (All-tail FindsBytes found founds are) run (subst (λ (x : State). Session d files x lines founds b other) same run')

  same_length : (s : State) (lines : List (List ℕ)) (founds : List Found) (texts : List (List ℕ)) (after : State) → Session d files s lines founds texts after → length texts ≡ length lines
  same_length s [] [] [] after run = refl
  same_length s [] [] (text ∷ texts) after run = absurd run
  same_length s [] (found ∷ founds) texts after run = absurd run
  same_length s (line ∷ lines) [] texts after run = absurd run
  same_length s (line ∷ lines) (found ∷ founds) [] after run = absurd run
  same_length s (line ∷ lines) (found ∷ founds) (text ∷ texts) after (mid, reply, run) = ap suc (same_length mid lines founds texts after run)

  -- the replies to line k, and what the session has before it
  abbrev AreOneAt : State → List (List ℕ) → List Found → List (List ℕ) → List (List ℕ) → ℕ → Type 0
  AreOneAt s lines founds a b k = (line text other : List ℕ) → slice_get lines k ≡ Some line → slice_get a k ≡ Some text → slice_get b k ≡ Some other →
      (present : State) × IsStateBehind d files s lines founds a k present × IsStateBehind d files s lines founds b k present × IsLawful d present × AreOneReply (problem_of d present.traces) line text other

  one_at : (k : ℕ) (s : State) (lines : List (List ℕ)) (founds : List Found) (a b : List (List ℕ)) (after other : State) → IsLawful d s → All FindsBytes founds →
      Session d files s lines founds a after → Session d files s lines founds b other → AreOneAt s lines founds a b k
  one_at k s [] founds a b after other lawful are run run' = λ line text told at at' at''. absurd cc
  one_at k s (l ∷ lines) [] a b after other lawful are run run' = absurd run
  one_at k s (l ∷ lines) (found ∷ founds) [] b after other lawful are run run' = absurd run
  one_at k s (l ∷ lines) (found ∷ founds) (t ∷ a) [] after other lawful are run run' = absurd run'
  one_at zero s (l ∷ lines) (found ∷ founds) (t ∷ a) (u ∷ b) after other lawful are (mid, reply, run) (mid', reply', run') = λ line text told at at' at''.
      let one : AreOneReply (problem_of d s.traces) l t u = each.text s mid mid' l t u found lawful.state reply reply' in (
        s,
        refl,
        refl,
        lawful,
        subst (λ (x : List ℕ). AreOneReply (problem_of d s.traces) line text x) (some_same u told at'')
            (subst (λ (x : List ℕ). AreOneReply (problem_of d s.traces) line x u) (some_same t text at') (subst (λ (x : List ℕ). AreOneReply (problem_of d s.traces) x t u) (some_same l line at) one)),
      )
  one_at (suc k) s (l ∷ lines) (found ∷ founds) (t ∷ a) (u ∷ b) after other lawful are (mid, reply, run) (mid', reply', run') = λ line text told at at' at''.
      let then : IsLawful d mid = each.lawful s mid l t found lawful (All-head FindsBytes found founds are) reply in
      let same : mid' ≡ mid = each.next s mid' mid l u t found lawful.state reply' reply in
      let moved : Session d files mid lines founds b other = subst (λ (x : State). Session d files x lines founds b other) same run' in
      let rest = one_at k mid lines founds a b after other then (All-tail FindsBytes found founds are) run moved line text told at at' at'' in
      (rest.0, (mid, reply, rest.1), (mid, subst (λ (x : State). LineReply d files s l found u x) same reply', rest.2), rest.3, rest.4)

  pub one_output : (s : State) (lines : List (List ℕ)) (founds : List Found) (a b : List (List ℕ)) (after other : State) → IsLawful d s → All FindsBytes founds →
      Session d files s lines founds a after → Session d files s lines founds b other → AreOneOutput d files s lines founds a b
  one_output s lines founds a b after other lawful are run run' = record {
    each = same_length s lines founds a after run;
    each_other = same_length s lines founds b other run';
    one_state = λ k present other' front front'. one_end s (take k lines) (take k founds) (take k a) (take k b) present other' lawful (All-take FindsBytes k founds are) front front';
    one_reply = λ k. one_at k s lines founds a b after other lawful are run run';
  }
