-- The words of each form.
use Rattle.std.proofs.Common.{◌≡◌, ◌<◌, ◌≤◌, ℕ, List, [], ◌∷◌, IsTrue, Option, Some, None, refl, ◌∙◌, arith}
use Rattle.std.specs.Prelude.{IfSome, IfNone}
use Rattle.std.proofs.lemmas.List.Elements.{recursion_from_All}
use Rattle.atto.specs.Decimal.{decimal_of}
use Rattle.atto.proofs.Reading.{decimal_of-digits}
use Rattle.problem_model.specs.Name.{IsEventName, IsClockName, is_event_byte, is_clock_byte}
use Rattle.problem_model.specs.ProblemText.{most_word}
use Rattle.line_format.specs.Cut.{Lacks, fields}
use Rattle.line_format.proofs.Lacking.{lacks_low, all_high}
use Rattle.line_format.proofs.Fields.{fields_again, fields_take}
use Rattle.problem.specs.Written.{Spells, ClockParts, ClockSays, NoClock, clock_rest, FollowParts, FollowSays, NoFollow, follow_rest, EventParts, EventSays, NoEvent, event_rest, OwnParts, OwnSays, NoOwn, own_rest, SpellsMost, MessageParts, MessageSays, NoMessage, message_rest}
use Rattle.problem.specs.declared.words.MessageWords.{MessageWords}
use Rattle.problem.specs.declared.words.ClockWords.{ClockWords}
use Rattle.problem.specs.declared.words.FollowWords.{FollowWords}
use Rattle.problem.specs.declared.words.EventWords.{EventWords}
use Rattle.problem.specs.declared.words.OwnWords.{OwnWords}

-- ---- what words lack
pub decimal_lacks : (d n : ℕ) → d ≤ 32 → Lacks d (decimal_of n)
decimal_lacks d n low = lacks_low d (decimal_of n) low (λ k inside. let h = decimal_of-digits n k inside in omega (arith, h.0))

clock_byte_high : (c : ℕ) → IsTrue (is_clock_byte c) → 32 < c
clock_byte_high c h = grind (arith, h)

event_byte_high : (c : ℕ) → IsTrue (is_event_byte c) → 32 < c
event_byte_high c h = grind (arith, h)

pub clock_name_lacks : (d : ℕ) (name : List ℕ) → d ≤ 32 → IsClockName name → Lacks d name
clock_name_lacks d name low named = all_high (λ c. IsTrue (is_clock_byte c)) d name low clock_byte_high (recursion_from_All (λ c. IsTrue (is_clock_byte c)) name named.bytes)

pub event_name_lacks : (d : ℕ) (name : List ℕ) → d ≤ 32 → IsEventName name → Lacks d name
event_name_lacks d name low named = all_high (λ c. IsTrue (is_event_byte c)) d name low event_byte_high (recursion_from_All (λ c. IsTrue (is_event_byte c)) name named.bytes)

pub some_through : {A : Type 0} (o : Option A) {P Q : A → Type 0} → ((x : A) → P x → Q x) → IfSome o P → IfSome o Q
some_through None f h = tt
some_through (Some x) f h = f x h

pub none_through : {A : Type 0} (o : Option A) {P Q : Type 0} → (P → Q) → IfNone o P → IfNone o Q
none_through None f h = f h
none_through (Some x) f h = tt

-- ---- the words of a line are read back
pub clock_fields : (rest name : List ℕ) (s l e t : ℕ) → IsClockName name → rest ≡ clock_rest name s l e t →
    fields 4 rest ≡ Some (name ∷ decimal_of s ∷ decimal_of l ∷ decimal_of e ∷ decimal_of t ∷ [])
clock_fields rest name s l e t named is =
    rw is (
    fields_again 4 (name ∷ decimal_of s ∷ decimal_of l ∷ decimal_of e ∷ decimal_of t ∷ []) refl (
      clock_name_lacks 32 name (omega arith) named,
      (decimal_lacks 32 s (omega arith), (decimal_lacks 32 l (omega arith), (decimal_lacks 32 e (omega arith), tt))),
    )
    )

pub clock_not_five : (rest : List ℕ) → fields 4 rest ≡ None → NoClock rest
clock_not_five rest none name s l e t named is = let f = clock_fields rest name s l e t named is in cc

pub clock_not_parts : (rest a b c d e : List ℕ) → fields 4 rest ≡ Some (a ∷ b ∷ c ∷ d ∷ e ∷ []) →
    ((s : ℕ) (l : ℕ) (y : ℕ) (t : ℕ) → IsClockName a → b ≡ decimal_of s → c ≡ decimal_of l → d ≡ decimal_of y → e ≡ decimal_of t → ⊥) → NoClock rest
clock_not_parts rest a b c d e five none name s l y t named is =
    let f = clock_fields rest name s l y t named is in
    let a-is : name ≡ a = cc in
    none s l y t (rw a-is at named) (cc) (cc) (cc) (cc)

pub clock_says : (rest a b c d e : List ℕ) (w : ClockWords) → fields 4 rest ≡ Some (a ∷ b ∷ c ∷ d ∷ e ∷ []) → ClockParts a b c d e w → ClockSays rest w
clock_says rest a b c d e w five parts = record {
  short = parts.short_is.m;
  long = parts.long_is.m;
  early = parts.early_is.m;
  late = parts.late_is.m;
  named = parts.named;
  is = (fields_take 4 rest (a ∷ b ∷ c ∷ d ∷ e ∷ []) five).0 ∙ rw (parts.name_is, parts.short_is.is, parts.long_is.is, parts.early_is.is, parts.late_is.is) refl;
  short_is = parts.short_is.counts;
  long_is = parts.long_is.counts;
  early_is = parts.early_is.counts;
  late_is = parts.late_is.counts;
}

pub follow_fields : (rest earlier later : List ℕ) (gap : ℕ) → IsClockName earlier → IsClockName later → rest ≡ follow_rest earlier later gap →
    fields 2 rest ≡ Some (earlier ∷ later ∷ decimal_of gap ∷ [])
follow_fields rest earlier later gap named later_named is =
    rw is (fields_again 2 (earlier ∷ later ∷ decimal_of gap ∷ []) refl (clock_name_lacks 32 earlier (omega arith) named, (clock_name_lacks 32 later (omega arith) later_named, tt)))

pub follow_not_three : (rest : List ℕ) → fields 2 rest ≡ None → NoFollow rest
follow_not_three rest none earlier later gap named later_named is = let f = follow_fields rest earlier later gap named later_named is in cc

pub follow_not_parts : (rest a b c : List ℕ) → fields 2 rest ≡ Some (a ∷ b ∷ c ∷ []) → ((g : ℕ) → IsClockName a → IsClockName b → c ≡ decimal_of g → ⊥) → NoFollow rest
follow_not_parts rest a b c three none earlier later gap named later_named is =
    let f = follow_fields rest earlier later gap named later_named is in
    let a-is : earlier ≡ a = cc in
    let b-is : later ≡ b = cc in
    none gap (rw a-is at named) (rw b-is at later_named) (cc)

pub follow_says : (rest a b c : List ℕ) (w : FollowWords) → fields 2 rest ≡ Some (a ∷ b ∷ c ∷ []) → FollowParts a b c w → FollowSays rest w
follow_says rest a b c w three parts = record {
  gap = parts.gap_is.m;
  earlier_named = parts.earlier_named;
  later_named = parts.later_named;
  is = (fields_take 2 rest (a ∷ b ∷ c ∷ []) three).0 ∙ rw (parts.earlier_is, parts.later_is, parts.gap_is.is) refl;
  gap_is = parts.gap_is.counts;
}

pub event_fields : (rest name clock : List ℕ) (s : ℕ) → IsEventName name → IsClockName clock → rest ≡ event_rest name clock s →
    fields 2 rest ≡ Some (name ∷ clock ∷ decimal_of s ∷ [])
event_fields rest name clock s named clock_named is =
    rw is (fields_again 2 (name ∷ clock ∷ decimal_of s ∷ []) refl (event_name_lacks 32 name (omega arith) named, (clock_name_lacks 32 clock (omega arith) clock_named, tt)))

pub event_not_three : (rest : List ℕ) → fields 2 rest ≡ None → NoEvent rest
event_not_three rest none name clock s named clock_named is = let f = event_fields rest name clock s named clock_named is in cc

pub event_not_parts : (rest a b c : List ℕ) → fields 2 rest ≡ Some (a ∷ b ∷ c ∷ []) → ((s : ℕ) → IsEventName a → IsClockName b → c ≡ decimal_of s → ⊥) → NoEvent rest
event_not_parts rest a b c three none name clock s named clock_named is =
    let f = event_fields rest name clock s named clock_named is in
    let a-is : name ≡ a = cc in
    let b-is : clock ≡ b = cc in
    none s (rw a-is at named) (rw b-is at clock_named) (cc)

pub event_says : (rest a b c : List ℕ) (w : EventWords) → fields 2 rest ≡ Some (a ∷ b ∷ c ∷ []) → EventParts a b c w → EventSays rest w
event_says rest a b c w three parts = record {
  stamp = parts.stamp_is.m;
  named = parts.named;
  clock_named = parts.clock_named;
  is = (fields_take 2 rest (a ∷ b ∷ c ∷ []) three).0 ∙ rw (parts.name_is, parts.clock_is, parts.stamp_is.is) refl;
  stamp_is = parts.stamp_is.counts;
}

-- ---- events with bounds of their own
pub own_fields : (rest name clock : List ℕ) (s e t : ℕ) → IsEventName name → IsClockName clock → rest ≡ own_rest name clock s e t →
    fields 4 rest ≡ Some (name ∷ clock ∷ decimal_of s ∷ decimal_of e ∷ decimal_of t ∷ [])
own_fields rest name clock s e t named clock_named is =
    rw is (
    fields_again 4 (name ∷ clock ∷ decimal_of s ∷ decimal_of e ∷ decimal_of t ∷ []) refl (
      event_name_lacks 32 name (omega arith) named,
      (clock_name_lacks 32 clock (omega arith) clock_named, (decimal_lacks 32 s (omega arith), (decimal_lacks 32 e (omega arith), tt))),
    )
    )

pub own_not_five : (rest : List ℕ) → fields 4 rest ≡ None → NoOwn rest
own_not_five rest none name clock s e t named clock_named is = let f = own_fields rest name clock s e t named clock_named is in cc

pub own_not_parts : (rest a b c d e : List ℕ) → fields 4 rest ≡ Some (a ∷ b ∷ c ∷ d ∷ e ∷ []) →
    ((s : ℕ) (y : ℕ) (t : ℕ) → IsEventName a → IsClockName b → c ≡ decimal_of s → d ≡ decimal_of y → e ≡ decimal_of t → ⊥) → NoOwn rest
own_not_parts rest a b c d e five none name clock s y t named clock_named is =
    let f = own_fields rest name clock s y t named clock_named is in
    let a-is : name ≡ a = cc in
    let b-is : clock ≡ b = cc in
    none s y t (rw a-is at named) (rw b-is at clock_named) (cc) (cc) (cc)

pub own_says : (rest a b c d e : List ℕ) (w : OwnWords) → fields 4 rest ≡ Some (a ∷ b ∷ c ∷ d ∷ e ∷ []) → OwnParts a b c d e w → OwnSays rest w
own_says rest a b c d e w five parts = record {
  stamp = parts.stamp_is.m;
  early = parts.early_is.m;
  late = parts.late_is.m;
  named = parts.named;
  clock_named = parts.clock_named;
  is = (fields_take 4 rest (a ∷ b ∷ c ∷ d ∷ e ∷ []) five).0 ∙ rw (parts.name_is, parts.clock_is, parts.stamp_is.is, parts.early_is.is, parts.late_is.is) refl;
  stamp_is = parts.stamp_is.counts;
  early_is = parts.early_is.counts;
  late_is = parts.late_is.counts;
}

-- ---- messages
pub message_fields : (rest send receive : List ℕ) (l : ℕ) (m : Option ℕ) → IsEventName send → IsEventName receive → rest ≡ message_rest send receive l m →
    fields 3 rest ≡ Some (send ∷ receive ∷ decimal_of l ∷ most_word m ∷ [])
message_fields rest send receive l m send_named receive_named is =
    rw is (fields_again 3 (send ∷ receive ∷ decimal_of l ∷ most_word m ∷ []) refl
    (event_name_lacks 32 send (omega arith) send_named, (event_name_lacks 32 receive (omega arith) receive_named, (decimal_lacks 32 l (omega arith), tt))))

pub message_not_four : (rest : List ℕ) → fields 3 rest ≡ None → NoMessage rest
message_not_four rest none send receive l m sn rn is = let f = message_fields rest send receive l m sn rn is in cc

pub message_not_parts : (rest a b c d : List ℕ) → fields 3 rest ≡ Some (a ∷ b ∷ c ∷ d ∷ []) →
    ((l : ℕ) (m : Option ℕ) → IsEventName a → IsEventName b → c ≡ decimal_of l → d ≡ most_word m → ⊥) → NoMessage rest
message_not_parts rest a b c d four none send receive l m sn rn is =
    let f = message_fields rest send receive l m sn rn is in
    let a-is : send ≡ a = cc in
    let b-is : receive ≡ b = cc in
    none l m (rw a-is at sn) (rw b-is at rn) (cc) (cc)

pub message_says : (rest a b c d : List ℕ) (w : MessageWords) → fields 3 rest ≡ Some (a ∷ b ∷ c ∷ d ∷ []) → MessageParts a b c d w → MessageSays rest w
message_says rest a b c d w four parts = record {
  least = parts.least_is.m;
  most = parts.most_is.m;
  send_named = parts.send_named;
  receive_named = parts.receive_named;
  is = (fields_take 3 rest (a ∷ b ∷ c ∷ d ∷ []) four).0 ∙ rw (parts.send_is, parts.receive_is, parts.least_is.is, parts.most_is.is) refl;
  least_is = parts.least_is.counts;
  most_is = parts.most_is.counts;
}

-- ---- a bound
pub most_spelled : (text : List ℕ) (n : Option ℕ) → Spells text n → SpellsMost text (Some n)
most_spelled text n spells = record { m = Some spells.m; is = spells.is; counts = (n, refl, spells.counts) }
