use Rattle.std.proofs.Common.{◌<◌, ◌+◌, ◌^◌, ◌++◌, ◌∷◌, [], ℕ, List, All, drop, suc, refl, sym, ◌∙◌, ap, subst, add-one, arith}
use Rattle.std.specs.List.{range_with_len}
use Rattle.std.proofs.lemmas.List.{length-map}
use Rattle.std.proofs.lemmas.List.Elements.{All-cons, All-nil}
use Rattle.traces.specs.declared.event.Event.{Event}
use Rattle.roster.specs.Readings.{stamps_of}
use Rattle.session_graph.specs.declared.plans.Turn.{Turn}
use Rattle.session_graph.specs.Plans.{turn_numbers}
use Rattle.session_graph.proofs.InARow.{drop_next}
use Rattle.session_graph.proofs.Orders.{range_more, map_behind, drop_all}
use Rattle.session_graph.proofs.plans.turns_from.Goals as goal

pub loop-k-preserved : goal.loop-k-preserved
loop-k-preserved c =
    let k : ℕ = c.loop-k.k in
    let first : ℕ = c.args.first in
    let stamps : List ℕ = stamps_of c.args.events.now in
    let P : ℕ → Type 0 = λ stamp. stamp < 2 ^ 62 in
    let event : Turn = record { stamp = c.stamp_of-stamp.result; event = first + k } in
    record {
      numbers = ap (λ (l : List Turn). turn_numbers l) c.in_ok-push.ensures.items ∙ map_behind (λ (t : Turn). t.event) c.loop-k.turns.items event
          ∙ ap (λ (l : List ℕ). l ++ (first + k) ∷ []) c.loop-k.invariant.numbers ∙ sym (range_more first k (first + k) refl) ∙ ap (λ (n : ℕ). range_with_len first n) (sym (add-one k));
      fits = λ rest. c.loop-k.invariant.fits
          (subst (All P) (sym (drop_next stamps k c.stamp_of-stamp.result c.stamp_of-stamp.ensures.is))
          (All-cons P c.stamp_of-stamp.result (drop (suc k) stamps) c.stamp_of-stamp.ensures.fits (subst (λ (n : ℕ). All P (drop n stamps)) (add-one k) rest)));
    }

pub returns-clause-fits : goal.returns-clause-fits
returns-clause-fits c =
    let stamps : List ℕ = stamps_of c.args.events.now in
    let P : ℕ → Type 0 = λ stamp. stamp < 2 ^ 62 in
    let exit = c.loop-k-test.false in
    c.loop-k.invariant.fits (subst (All P) (sym (drop_all stamps c.loop-k.k (omega (arith, exit, length-map c.args.events.now (λ (e : Event). e.stamp))))) (All-nil P))
