-- A certificate has one answer: reasons that have their turn at once are one.
use Rattle.std.proofs.Common.{◌≡◌, ◌≢◌, ◌<◌, ℕ, List, [], ◌∷◌, ◌++◌, length, refl, sym, ◌∙◌, ap, subst, arith, inl, inr}
use Rattle.std.specs.Prelude.{ℤ, ◌-ℤ◌, ◌≤ℤ◌, ◌<ℤ◌, All}
use Rattle.std.proofs.lemmas.Int.{ints}
use Rattle.std.proofs.lemmas.List.Elements.{All-head, All-tail}
use Rattle.problem_model.specs.declared.items.Node.TheVariants as nodes
use Rattle.problem_model.specs.declared.items.Bound.{Bound}
use Rattle.problem_model.specs.Problem.{ProblemLists, IsWellFormed}
use Rattle.problem_model.specs.Bounds.{Constraint, Declares, Times}
use Rattle.problem_model.specs.Nodes.{Reading}
use Rattle.problem_model.specs.Nodes as lists
use Rattle.problem_model.specs.ShortList.{ObeysNamed, short_list}
use Rattle.problem_model.proofs.OneList.{readings_one}
use Rattle.problem_model.proofs.OneName.{declared_one}
use Rattle.cert.specs.declared.chain.Step.{Step}
use Rattle.cert.specs.declared.certificate.EndProof.{EndProof}
use Rattle.cert.specs.declared.certificate.EndProof.TheVariants.{At, Unbounded}
use Rattle.cert.specs.declared.certificate.Cert.{Cert}
use Rattle.cert.specs.declared.certificate.Cert.TheVariants as certs
use Rattle.cert.specs.CertificateText.{IsCertOf}
use Rattle.cert_check.specs.declared.answer.Part.{Part}
use Rattle.cert_check.specs.declared.answer.Part.TheVariants.{Cycle, Run, Upper, Lower}
use Rattle.cert_check.specs.declared.answer.Reason.{Reason}
use Rattle.cert_check.specs.declared.answer.Reason.TheVariants.{Empty, Weight, Join, Sum, Broken, Difference, Home, Away, Leaves}
use Rattle.cert_check.specs.declared.answer.Answer.{Answer}
use Rattle.cert_check.specs.declared.answer.Answer.TheVariants.{Yes, No}
use Rattle.cert_check.specs.Reasons.{IsLeaving, joining_bounds, IsFirstLeaving, CycleIs, IsBrokenBy, PathIs, DifferenceIs, CutIs, EndIs, IsSo, part_turn, kind_turn, step_turn, IsNoLater, IsAnswer}
use Rattle.cert_check.proofs.Agreeing.{agree, declared_ends}
use Rattle.cert_check.proofs.Turns.{path_cases, cycle_cases, cut_cases, broken_cases, difference_cases, join_turn, weight_turn, path_early, cut_early, broken_late, broken_early, difference_late, times_late}
use Rattle.cert_check.proofs.Answering.{no_reason}

-- ---- the first of a list that is not good is one
first_one : (Good : Bound → Type 0) (front front' back back' : List Bound) (b b' : Bound) → All Good front → All Good front' → (Good b → ⊥) → (Good b' → ⊥) → front ++ b ∷ back ≡ front' ++ b' ∷ back' → b ≡ b'
first_one Good [] [] back back' b b' good good' bad bad' same = cc
first_one Good [] (c ∷ front') back back' b b' good good' bad bad' same = let here : b ≡ c = cc in absurd (bad (subst Good (sym here) (All-head Good c front' good')))
first_one Good (c ∷ front) [] back back' b b' good good' bad bad' same = let here : c ≡ b' = cc in absurd (bad' (subst Good here (All-head Good c front good)))
first_one Good (c ∷ front) (d ∷ front') back back' b b' good good' bad bad' same =
    let rest : front ++ b ∷ back ≡ front' ++ b' ∷ back' = cc in
    first_one Good front front' back back' b b' (All-tail Good c front good) (All-tail Good d front' good') bad bad' rest

-- ---- what an execution breaks first
module _ (p : ProblemLists) (lawful : IsWellFormed p) (values : List ℤ) where
  obeyed_too : (x y : Times) → lists.Lists p x values → lists.Lists p y values → (b : Bound) → ObeysNamed p y b → ObeysNamed p x b
  obeyed_too x y listed listed' b obeys c declares =
      let ends = declared_ends p b c lawful declares in
      let from : x c.from ≡ y c.from = agree p x y values listed listed' c.from ends.0 in
      let to : x c.to ≡ y c.to = agree p x y values listed listed' c.to ends.1 in
      let obeyed : (y c.to -ℤ y c.from) ≤ℤ c.weight = obeys c declares in
      omega (arith, ints)

  all_too : (x y : Times) → lists.Lists p x values → lists.Lists p y values → (bounds : List Bound) → All (ObeysNamed p y) bounds → All (ObeysNamed p x) bounds
  all_too x y listed listed' bounds all k d inside = obeyed_too x y listed listed' _ (all k d inside)

  pub broken_one : (b b' : Bound) (w w' d d' : ℤ) → IsBrokenBy p values (Broken b w d) → IsBrokenBy p values (Broken b' w' d') → let r : Reason = Broken b w d in r ≡ Broken b' w' d'
  broken_one b b' w w' d d' (x, listed, (readings, are, first)) (y, listed', (readings', are', first')) =
      let one : readings ≡ readings' = readings_one p readings readings' are are' in
      let obeyed : (x first.constraint.to -ℤ x first.constraint.from) ≡ d = first.difference_is in
      let weight : first.constraint.weight ≡ w = first.weight_is in
      let broken : w <ℤ d = first.broken in
      let bad : ObeysNamed p x b → ⊥ = λ obeys. (let most : (x first.constraint.to -ℤ x first.constraint.from) ≤ℤ first.constraint.weight = obeys first.constraint first.declares in omega (arith, ints)) in
      let obeyed' : (y first'.constraint.to -ℤ y first'.constraint.from) ≡ d' = first'.difference_is in
      let weight' : first'.constraint.weight ≡ w' = first'.weight_is in
      let broken' : w' <ℤ d' = first'.broken in
      let bad' : ObeysNamed p x b' → ⊥ = λ obeys. (
      let most : (y first'.constraint.to -ℤ y first'.constraint.from) ≤ℤ first'.constraint.weight = obeyed_too y x listed' listed b' obeys first'.constraint first'.declares in
      omega (arith, ints)) in
      let bounds : b ≡ b' = first_one (ObeysNamed p x) first.front first'.front first.back first'.back b b' first.obeyed (all_too x y listed listed' first'.front first'.obeyed) bad bad'
      (sym first.place ∙ ap (short_list p) one ∙ first'.place) in
      let same : first.constraint ≡ first'.constraint = declared_one p lawful b' first.constraint first'.constraint (subst (λ (a : Bound). Declares p a first.constraint) bounds first.declares) first'.declares in
      let ends = declared_ends p b first.constraint lawful first.declares in
      let from : x first.constraint.from ≡ y first.constraint.from = agree p x y values listed listed' first.constraint.from ends.0 in
      let to : x first.constraint.to ≡ y first.constraint.to = agree p x y values listed listed' first.constraint.to ends.1 in
      let from' : y first.constraint.from ≡ y first'.constraint.from = ap (λ (c : Constraint). y c.from) same in
      let to' : y first.constraint.to ≡ y first'.constraint.to = ap (λ (c : Constraint). y c.to) same in
      let weights : w ≡ w' = sym weight ∙ ap (λ (c : Constraint). c.weight) same ∙ weight' in
      let differences : d ≡ d' = omega (arith, ints) in
      rw (bounds, weights, differences) refl

-- ---- reasons of one turn
Same : Part → Reason → Reason → Type 0
Same part r o = kind_turn r ≡ kind_turn o → step_turn part r ≡ step_turn part o → r ≡ o

cycle_one : (p : ProblemLists) (steps : List Step) (r o : Reason) → CycleIs p steps r → CycleIs p steps o → Same Cycle r o
unfolding Same
cycle_one p steps r o so so' = cycle_cases p steps (λ r. (o : Reason) → CycleIs p steps o → Same Cycle r o)
    (λ none. cycle_cases p steps (Same Cycle Empty) (λ none' kinds turns. refl) (λ k loose kinds turns. absurd (omega (arith, kinds))) (λ k weighs kinds turns. absurd (omega (arith, kinds))) (λ s is high kinds turns. absurd (omega (arith, kinds))))
    (λ j loose. cycle_cases p steps (Same Cycle (Join j)) (λ none kinds turns. absurd (omega (arith, kinds))) (λ k loose' kinds turns. ap Join (omega (arith, turns))) (λ k weighs kinds turns. absurd (omega (arith, turns)))
    (λ s is high kinds turns. absurd (omega (arith, kinds))))
    (λ j weighs. cycle_cases p steps (Same Cycle (Weight j)) (λ none kinds turns. absurd (omega (arith, kinds))) (λ k loose kinds turns. absurd (omega (arith, turns))) (λ k weighs' kinds turns. ap Weight (omega (arith, turns)))
    (λ s is high kinds turns. absurd (omega (arith, kinds))))
    (λ t is high. cycle_cases p steps (Same Cycle (Sum t)) (λ none kinds turns. absurd (omega (arith, kinds))) (λ k loose kinds turns. absurd (omega (arith, kinds))) (λ k weighs kinds turns. absurd (omega (arith, kinds)))
    (λ s is' high' kinds turns. ap Sum (is ∙ sym is')))
    r so o so'

path_one : (p : ProblemLists) (part : Part) (first second : ℕ) (value : ℤ) (path : List Step) → part ≢ Cycle → (r o : Reason) → PathIs p part first second value path r → PathIs p part first second value path o → Same part r o
unfolding Same
path_one p part first second value path is_path r o so so' = path_cases p part first second value path (λ r. (o : Reason) → PathIs p part first second value path o → Same part r o)
    (λ j astray. path_cases p part first second value path (Same part (Join j)) (λ k astray' kinds turns. ap Join (omega (arith, turns, join_turn part j is_path, join_turn part k is_path)))
    (λ k weighs kinds turns. absurd (omega (arith, turns, join_turn part j is_path, weight_turn part k is_path))) (λ s is differs kinds turns. absurd (omega (arith, kinds))))
    (λ j weighs. path_cases p part first second value path (Same part (Weight j)) (λ k astray kinds turns. absurd (omega (arith, turns, weight_turn part j is_path, join_turn part k is_path)))
    (λ k weighs' kinds turns. ap Weight (omega (arith, turns, weight_turn part j is_path, weight_turn part k is_path))) (λ s is differs kinds turns. absurd (omega (arith, kinds))))
    (λ t is differs. path_cases p part first second value path (Same part (Sum t)) (λ k astray kinds turns. absurd (omega (arith, kinds))) (λ k weighs kinds turns. absurd (omega (arith, kinds))) (λ s is' differs' kinds turns. ap Sum (is ∙ sym is')))
    r so o so'

leaving_one : (p : ProblemLists) (inside : List ℕ) (a b : Bound) → IsFirstLeaving p inside a → IsFirstLeaving p inside b → a ≡ b
leaving_one p inside a b (readings, are, first) (readings', are', first') =
    let one : readings ≡ readings' = readings_one p readings readings' are are' in
    first_one (λ c. IsLeaving p inside c → ⊥) first.front first'.front first.back first'.back a b first.within first'.within (λ not. not first.leaves) (λ not. not first'.leaves)
    (sym first.place ∙ ap (joining_bounds p) one ∙ first'.place)

cut_one : (p : ProblemLists) (part : Part) (first second : ℕ) (inside : List ℕ) (r o : Reason) → CutIs p part first second inside r → CutIs p part first second inside o → Same part r o
unfolding Same
cut_one p part first second inside r o so so' = cut_cases p part first second inside (λ r. (o : Reason) → CutIs p part first second inside o → Same part r o)
    (λ out. cut_cases p part first second inside (Same part Home) (λ out' kinds turns. refl) (λ away kinds turns. absurd (omega (arith, kinds))) (λ b leaves kinds turns. absurd (omega (arith, kinds))))
    (λ away. cut_cases p part first second inside (Same part Away) (λ out kinds turns. absurd (omega (arith, kinds))) (λ away' kinds turns. refl) (λ b leaves kinds turns. absurd (omega (arith, kinds))))
    (λ a leaves. cut_cases p part first second inside (Same part (Leaves a)) (λ out kinds turns. absurd (omega (arith, kinds))) (λ away kinds turns. absurd (omega (arith, kinds)))
    (λ b leaves' kinds turns. ap Leaves (leaving_one p inside a b leaves leaves')))
    r so o so'

run_one : (p : ProblemLists) (lawful : IsWellFormed p) (part : Part) (values : List ℤ) (r o : Reason) → IsBrokenBy p values r → IsBrokenBy p values o → Same part r o
unfolding Same
run_one p lawful part values r o so so' = broken_cases p values (λ r. (o : Reason) → IsBrokenBy p values o → Same part r o)
    (λ b w d is. broken_cases p values (Same part (Broken b w d)) (λ b' w' d' is' kinds turns. broken_one p lawful values b b' w w' d d' is is'))
    r so o so'

difference_one : (p : ProblemLists) (part : Part) (first second : ℕ) (value : ℤ) (values : List ℤ) → first < length p.events → second < length p.events → (r o : Reason) → DifferenceIs p first second value values r → DifferenceIs p first second value values o → Same part r o
unfolding Same
difference_one p part first second value values within within' r o so so' = difference_cases p first second value values (λ r. (o : Reason) → DifferenceIs p first second value values o → Same part r o)
    (λ d has differs. difference_cases p first second value values (Same part (Difference d)) (λ d' has' differs' kinds turns.
    let x = has.0 in
    let y = has'.0 in
    let from : x (nodes.Event first) ≡ y (nodes.Event first) = agree p x y values has.1 has'.1 (nodes.Event first) within in
    let to : x (nodes.Event second) ≡ y (nodes.Event second) = agree p x y values has.1 has'.1 (nodes.Event second) within' in
    let is : d ≡ x (nodes.Event second) -ℤ x (nodes.Event first) = has.2 in
    let is' : d' ≡ y (nodes.Event second) -ℤ y (nodes.Event first) = has'.2 in
    ap Difference (omega (arith, ints))))
    r so o so'

module _ (p : ProblemLists) (lawful : IsWellFormed p) (part : Part) (is_path : part ≢ Cycle) (first second : ℕ) (within : first < length p.events) (within' : second < length p.events) where
  end_one : (end : EndProof) (r o : Reason) → EndIs p part first second end r → EndIs p part first second end o → Same part r o
  unfolding Same
  end_one (At value path execution) r o (inl so) (inl so') kinds turns = path_one p part first second value path is_path r o so so' kinds turns
  end_one (At value path execution) r o (inl so) (inr so') kinds turns =
      let early = path_early p part first second value path r so in let late = times_late p first second value execution o so' in absurd (omega (arith, early, late, kinds))
  end_one (At value path execution) r o (inr so) (inl so') kinds turns =
      let late = times_late p first second value execution r so in let early = path_early p part first second value path o so' in absurd (omega (arith, early, late, kinds))
  end_one (At value path execution) r o (inr (inl so)) (inr (inl so')) kinds turns = run_one p lawful part execution r o so so' kinds turns
  end_one (At value path execution) r o (inr (inl so)) (inr (inr so')) kinds turns =
      let early = broken_early p execution r so in let late = difference_late p first second value execution o so' in absurd (omega (arith, early, late, kinds))
  end_one (At value path execution) r o (inr (inr so)) (inr (inl so')) kinds turns =
      let late = difference_late p first second value execution r so in let early = broken_early p execution o so' in absurd (omega (arith, early, late, kinds))
  end_one (At value path execution) r o (inr (inr so)) (inr (inr so')) kinds turns = difference_one p part first second value execution within within' r o so so' kinds turns
  end_one (Unbounded inside execution) r o (inl so) (inl so') kinds turns = cut_one p part first second inside.items r o so so' kinds turns
  end_one (Unbounded inside execution) r o (inl so) (inr so') kinds turns =
      let early = cut_early p part first second inside.items r so in let late = broken_late p execution o so' in absurd (omega (arith, early, late, kinds))
  end_one (Unbounded inside execution) r o (inr so) (inl so') kinds turns =
      let late = broken_late p execution r so in let early = cut_early p part first second inside.items o so' in absurd (omega (arith, early, late, kinds))
  end_one (Unbounded inside execution) r o (inr so) (inr so') kinds turns = run_one p lawful part execution r o so so' kinds turns

-- ---- whole certificates
SameAnswer : Part → Reason → Part → Reason → Type 0
SameAnswer part r part' o = part_turn part ≡ part_turn part' → kind_turn r ≡ kind_turn o → step_turn part r ≡ step_turn part' o → No part r ≡ No part' o

so_one : (p : ProblemLists) (lawful : IsWellFormed p) (c : Cert) (part part' : Part) (r o : Reason) → IsCertOf p c → IsSo p c part r → IsSo p c part' o → SameAnswer part r part' o
unfolding SameAnswer Same
so_one p lawful (certs.Cycle steps) Cycle Cycle r o of so so' parts kinds turns = ap (No Cycle) (cycle_one p steps r o so so' kinds turns)
so_one p lawful (certs.Cycle steps) Cycle Run r o of so so' parts kinds turns = absurd so'
so_one p lawful (certs.Cycle steps) Cycle Upper r o of so so' parts kinds turns = absurd so'
so_one p lawful (certs.Cycle steps) Cycle Lower r o of so so' parts kinds turns = absurd so'
so_one p lawful (certs.Cycle steps) Run part' r o of so so' parts kinds turns = absurd so
so_one p lawful (certs.Cycle steps) Upper part' r o of so so' parts kinds turns = absurd so
so_one p lawful (certs.Cycle steps) Lower part' r o of so so' parts kinds turns = absurd so
so_one p lawful (certs.Run execution) Run Run r o of so so' parts kinds turns = ap (No Run) (run_one p lawful Run execution r o so so' kinds turns)
so_one p lawful (certs.Run execution) Run Cycle r o of so so' parts kinds turns = absurd so'
so_one p lawful (certs.Run execution) Run Upper r o of so so' parts kinds turns = absurd so'
so_one p lawful (certs.Run execution) Run Lower r o of so so' parts kinds turns = absurd so'
so_one p lawful (certs.Run execution) Cycle part' r o of so so' parts kinds turns = absurd so
so_one p lawful (certs.Run execution) Upper part' r o of so so' parts kinds turns = absurd so
so_one p lawful (certs.Run execution) Lower part' r o of so so' parts kinds turns = absurd so
so_one p lawful (certs.Ends first second upper lower) Upper Upper r o of so so' parts kinds turns = ap (No Upper) (end_one p lawful Upper (λ e. absurd cc) first second of.0 of.1 upper r o so so' kinds turns)
so_one p lawful (certs.Ends first second upper lower) Lower Lower r o of so so' parts kinds turns = ap (No Lower) (end_one p lawful Lower (λ e. absurd cc) first second of.0 of.1 lower r o so so' kinds turns)
so_one p lawful (certs.Ends first second upper lower) Upper Lower r o of so so' parts kinds turns = absurd (omega (arith, parts))
so_one p lawful (certs.Ends first second upper lower) Lower Upper r o of so so' parts kinds turns = absurd (omega (arith, parts))
so_one p lawful (certs.Ends first second upper lower) Upper Cycle r o of so so' parts kinds turns = absurd so'
so_one p lawful (certs.Ends first second upper lower) Upper Run r o of so so' parts kinds turns = absurd so'
so_one p lawful (certs.Ends first second upper lower) Lower Cycle r o of so so' parts kinds turns = absurd so'
so_one p lawful (certs.Ends first second upper lower) Lower Run r o of so so' parts kinds turns = absurd so'
so_one p lawful (certs.Ends first second upper lower) Cycle part' r o of so so' parts kinds turns = absurd so
so_one p lawful (certs.Ends first second upper lower) Run part' r o of so so' parts kinds turns = absurd so

-- what is no later either way has its turn at once
at_once : (part part' : Part) (r o : Reason) → IsNoLater part r part' o → IsNoLater part' o part r → (part_turn part ≡ part_turn part') × (kind_turn r ≡ kind_turn o) × (step_turn part r ≡ step_turn part' o)
at_once part part' r o (inl before) (inl after) = absurd (omega (arith, before, after))
at_once part part' r o (inl before) (inr (same, after)) = absurd (omega (arith, before, same))
at_once part part' r o (inr (same, before)) (inl after) = absurd (omega (arith, after, same))
at_once part part' r o (inr (same, inl before)) (inr (same', inl after)) = absurd (omega (arith, before, after))
at_once part part' r o (inr (same, inl before)) (inr (same', inr (kind, after))) = absurd (omega (arith, before, kind))
at_once part part' r o (inr (same, inr (kind, before))) (inr (same', inl after)) = absurd (omega (arith, after, kind))
at_once part part' r o (inr (same, inr (kind, before))) (inr (same', inr (kind', after))) = (same, kind, omega (arith, before, after))

pub answer_one : (p : ProblemLists) (lawful : IsWellFormed p) (c : Cert) (a b : Answer) → IsCertOf p c → IsAnswer p c a → IsAnswer p c b → a ≡ b
unfolding SameAnswer
answer_one p lawful c Yes Yes of is is' = refl
answer_one p lawful c Yes (No part o) of is is' = absurd (no_reason p lawful c part o of is'.is_so is)
answer_one p lawful c (No part r) Yes of is is' = absurd (no_reason p lawful c part r of is.is_so is')
answer_one p lawful c (No part r) (No part' o) of is is' =
    let turns = at_once part part' r o (is.first part' o is'.is_so) (is'.first part r is.is_so) in
    so_one p lawful c part part' r o of is.is_so is'.is_so turns.0 turns.1 turns.2
