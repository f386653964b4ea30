use Rattle.std.proofs.Common.{rules, ◌≡◌, ◌++◌, ◌+◌, ◌∙◌, ◌∷◌, ℤ, pos, Bool, List, Option, Some, drop, filter, get_or, option_to_list, FitsSigned, w64, to_z, of_z, to_z-of_z, ap, sym}
use Rattle.std.proofs.lemmas.List.{at_drop_more}
use Rattle.traces.specs.Beginnings.{beginning, begins_by, latest}
use Rattle.reference_traces.specs.Groups.{later}
use Rattle.reference_traces.proofs.Latest.{passed_over, taken_in}
use Rattle.reference_traces.proofs.groups.beginning.Goals.{then-begins_by, else-begins_by}
use Rattle.reference_traces.proofs.groups.beginning.Goals as goal

pub loop-other-preserved : goal.loop-other-preserved
loop-other-preserved c =
    let i = c.loop-other.other-index in
    let times : List ℤ = c.args.times.now in
    let rest : List ℤ = drop (i + 1) times in
    let found : Option ℤ = c.loop-other.found in
    let time : ℤ = to_z w64 (of_z w64 c.args.time) in
    let t : ℤ = get_or times i (pos 0) in
    let fits : FitsSigned w64 t = search rules in
    let same : to_z w64 (of_z w64 t) ≡ t = to_z-of_z fits in
    let p : ℤ → Bool = begins_by c.args.window times time in
    let test : c.begins_by.result ≡ p t = c.begins_by.ensures ∙ ap p same in
    let next : latest (option_to_list found ++ filter p (t ∷ rest)) time ≡ beginning c.args.window times time =
    sym (at_drop_more (λ (xs : List ℤ). latest (option_to_list found ++ filter p xs) time) times i (pos 0) c.loop-other-test.true) ∙ c.loop-other.invariant in
    elim c.if-begins_by.branch [
      | then-begins_by w ↦
          let fits' : FitsSigned w64 w.later.result = search rules in
          let now : c.if-begins_by.found ≡ Some (later found t) = w.found-is ∙ ap Some (to_z-of_z fits' ∙ w.later.ensures ∙ ap (later found) same) in
          taken_in p found c.if-begins_by.found t rest time (sym test ∙ w.if-begins_by.true) now ∙ next
      | else-begins_by w ↦ passed_over p found c.if-begins_by.found t rest time (sym test ∙ w.if-begins_by.false) w.found-is ∙ next
    ]
