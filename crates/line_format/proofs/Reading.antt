-- From a line that was taken or refused to what the whole text answers.
use Rattle.std.proofs.Common.{◌≡◌, ◌≢◌, ◌≤◌, ◌+◌, ℕ, List, [], ◌∷◌, ◌++◌, length, Option, Some, None, Ok, Err, refl, sym, ◌∙◌, ap, arith, append_assoc}
use Rattle.std.proofs.lemmas.List.{append-nil}
use Rattle.line_format.specs.Words.{words}
use Rattle.line_format.specs.Cut.{cut, Lacks}
use Rattle.line_format.specs.Format.{Format, Begins, FaultBehind, FaultIn, Answers, Takes, head_line, whole_text, end_line, most_text_bytes}
use Rattle.line_format.specs.Format.Front.{Nothing, Open, Closed}
use Rattle.line_format.specs.Format.Answer.{Found, Faulty}
use Rattle.line_format.specs.declared.fault.FaultKind.{FaultKind}
use Rattle.line_format.specs.declared.fault.FaultKind.TheVariants as kinds
use Rattle.line_format.specs.declared.fault.LineError.TheVariants as errors
use Rattle.line_format.specs.declared.fault.Taken.TheVariants as taken
use Rattle.line_format.proofs.Cutting.{cut_takes, cut_again}

first_or : Option (List ℕ × List ℕ) → List ℕ
first_or None = []
first_or (Some p) = p.0

-- what is cut off first is known
pub same_first : (d : ℕ) (body x first rest word more : List ℕ) → cut d body ≡ Some (first, rest) → body ≡ x → cut d x ≡ Some (word, more) → first ≡ word
unfolding first_or
same_first d body x first rest word more parts is cuts = ap first_or (sym parts ∙ ap (cut d) is ∙ cuts)

module _ {State Line : Type 0} (f : Format State Line) (lacks : (line : Line) → f.IsSpelled line → Lacks 10 (words (f.line_words line))) where
  -- the lines so far say s, and line n is the first of the rest
  pub record Stands (text rest : List ℕ) (s : State) (n : ℕ) : Type 0 where
    pub is : text ≡ f.text_of s ++ rest
    pub number : n ≡ f.lines_of s + 1
    pub sound : f.IsSound s
    pub short : length text ≤ most_text_bytes

  front_line : (s : State) (rest : List ℕ) (line : Line) → Begins f s rest line → (more : List ℕ) × (cut 10 rest ≡ Some (words (f.line_words line), more))
  front_line s rest line begins = (
    begins.more,
    ap (cut 10) (begins.is ∙ append_assoc (words (f.line_words line)) (10 ∷ []) begins.more) ∙ cut_again 10 (words (f.line_words line)) begins.more (lacks line begins.spelled),
  )

  begun : (s : State) (rest body after : List ℕ) (line : Line) → cut 10 rest ≡ Some (body, after) → f.MayStand s line → f.IsSpelled line → body ≡ words (f.line_words line) → Begins f s rest line
  begun s rest body after line parts may spelled is = record {
    may = may;
    spelled = spelled;
    more = after;
    is = (cut_takes 10 rest (body, after) parts).0 ∙ ap (λ (b : List ℕ). b ++ 10 ∷ after) is ∙ sym (append_assoc (words (f.line_words line)) (10 ∷ []) after);
  }

  fault_behind : (s : State) (rest body after : List ℕ) (kind : FaultKind) → cut 10 rest ≡ Some (body, after) → FaultIn f s body kind → FaultBehind f s rest kind
  fault_behind s rest body after kinds.Syntax parts fault = λ line begins.
      let front = front_line s rest line begins in
      let is : body ≡ words (f.line_words line) = same_first 10 rest rest body after (words (f.line_words line)) front.0 parts refl front.1 in
      fault line begins.may begins.spelled is
  fault_behind s rest body after kinds.Name parts fault = (fault.0, begun s rest body after fault.0 parts fault.1 fault.2 fault.3, fault.4)
  fault_behind s rest body after kinds.Range parts fault = (fault.0, begun s rest body after fault.0 parts fault.1 fault.2 fault.3, fault.4.0, fault.4.1)
  fault_behind s rest body after kinds.Limit parts fault = (fault.0, begun s rest body after fault.0 parts fault.1 fault.2 fault.3, fault.4.0, fault.4.1, fault.4.2)

  first_fault : (text rest : List ℕ) (s : State) (n : ℕ) (kind : FaultKind) → Stands text rest s n → FaultBehind f s rest kind → Answers f text (Faulty kind n)
  first_fault text rest s n kind stands fault = (stands.short, record { front = Open s; sound = stands.sound; rest = rest; is = stands.is; number = stands.number; fault = fault })

  -- a line's fault is the text's
  pub fault_answers : (text rest body after : List ℕ) (s t : State) (n : ℕ) (kind : FaultKind) → Stands text rest s n → cut 10 rest ≡ Some (body, after) → Takes f s body (Err (errors.Fault kind)) t → Answers f text (Faulty kind n)
  fault_answers text rest body after s t n kind stands parts r = first_fault text rest s n kind stands (fault_behind s rest body after kind parts r)

  -- a rest with no line feed is a faulty line
  pub cut_answers : (text rest : List ℕ) (s : State) (n : ℕ) → Stands text rest s n → cut 10 rest ≡ None → Answers f text (Faulty kinds.Syntax n)
  cut_answers text rest s n stands none = first_fault text rest s n kinds.Syntax stands (λ line begins. let front = front_line s rest line begins in let e = front.1 in absurd (cc))

  ended : (text rest body after : List ℕ) (s : State) (n : ℕ) → Stands text rest s n → cut 10 rest ≡ Some (body, after) → body ≡ words (f.line_words f.end) → text ≡ whole_text f s ++ after
  ended text rest body after s n stands parts is =
      let e = words (f.line_words f.end) in
      stands.is ∙ ap (λ (r : List ℕ). f.text_of s ++ r) ((cut_takes 10 rest (body, after) parts).0 ∙ ap (λ (b : List ℕ). b ++ 10 ∷ after) is ∙ sym (append_assoc e (10 ∷ []) after)) ∙ sym (append_assoc (f.text_of s) (end_line f) after)

  -- the end with nothing behind it
  pub end_answers : (text rest body after : List ℕ) (s t : State) (n : ℕ) → Stands text rest s n → cut 10 rest ≡ Some (body, after) → Takes f s body (Ok taken.End) t → after ≡ [] → Answers f text (Found t)
  end_answers text rest body after s t n stands parts r none =
      rw r.0 (stands.short, stands.sound, r.1, ended text rest body after s n stands parts r.2 ∙ rw none (append-nil (whole_text f s)))

  -- something behind the end
  pub more_answers : (text rest body after : List ℕ) (s t : State) (n : ℕ) → Stands text rest s n → cut 10 rest ≡ Some (body, after) → Takes f s body (Ok taken.End) t → after ≢ [] → Answers f text (Faulty kinds.Syntax (n + 1))
  more_answers text rest body after s t n stands parts r some = (
    stands.short,
    record {
      front = Closed s;
      sound = (stands.sound, r.1);
      rest = after;
      is = ended text rest body after s n stands parts r.2;
      number = ap (λ k. k + 1) stands.number;
      fault = (refl, some);
    },
  )

  -- one line further
  pub stands_on : (text rest body after : List ℕ) (s t : State) (n : ℕ) → Stands text rest s n → cut 10 rest ≡ Some (body, after) → Takes f s body (Ok taken.Line) t → f.IsSound t → Stands text after t (n + 1)
  stands_on text rest body after s t n stands parts grows sound = record {
    is = stands.is ∙ ap (λ (r : List ℕ). f.text_of s ++ r) ((cut_takes 10 rest (body, after) parts).0 ∙ sym (append_assoc body (10 ∷ []) after)) ∙ sym (append_assoc (f.text_of s) (body ++ 10 ∷ []) after) ∙ ap (λ (x : List ℕ). x ++ after) (sym grows.text);
    number = omega (arith, stands.number, grows.lines);
    sound = sound;
    short = stands.short;
  }

  -- a text with no head
  pub head_answers : (text : List ℕ) → length text ≤ most_text_bytes → ((more : List ℕ) → text ≡ head_line f ++ more → ⊥) → Answers f text (Faulty kinds.Syntax 1)
  head_answers text short none = (short, record { front = Nothing; sound = tt; rest = text; is = refl; number = refl; fault = (refl, none) })

  -- a text with a head, before its first line
  pub stands_first : (text rest : List ℕ) (start : State) → length text ≤ most_text_bytes → text ≡ head_line f ++ rest → f.text_of start ≡ head_line f → f.lines_of start ≡ 1 → f.IsSound start → Stands text rest start 2
  stands_first text rest start short is head lines sound = record {
    is = is ∙ ap (λ (h : List ℕ). h ++ rest) (sym head);
    number = omega (arith, lines);
    sound = sound;
    short = short;
  }
