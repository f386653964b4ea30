use Rattle.std.proofs.Common.{◌≡◌, ◌<◌, ◌+◌, ◌∙◌, ◌++◌, ◌∷◌, [], inl, inr, ℕ, List, length, map, get_or, ap, sym, subst, arith, rules}
use Rattle.std.proofs.lemmas.List.{get_or_append_left, length-append, length-map, map-append}
use Rattle.std.proofs.Math.Seq.{get_or-append_seam}
use Rattle.std.proofs.lemmas.Bool.{cases_lt}
use Rattle.msg_match.specs.declared.item.Item.{Item}
use Rattle.msg_match.specs.Groups.{SeenItem}
use Rattle.msg_match.specs.Held.{seen_item, seen_items}
use Rattle.trace_tests.specs.Numbered.{AreNumberedFrom}
use Rattle.trace_tests.proofs.matches.items.Goals as goal

-- one more item with the next number
more : (first : ℕ) (xs : List SeenItem) (x : SeenItem) → AreNumberedFrom first xs → x.event ≡ first + length xs → AreNumberedFrom first (xs ++ x ∷ [])
more first xs x are is k d inside = elim (cases_lt k (length xs)) [
  | inl before ↦ ap (λ (y : SeenItem). y.event) (get_or_append_left xs (x ∷ []) d k before) ∙ are k d before
  | inr behind ↦
      let last : k ≡ length xs = omega (arith, length-append xs (x ∷ []), inside, behind) in
      rw last (ap (λ (y : SeenItem). y.event) (get_or-append_seam xs x [] d) ∙ is)
]

pub loop-place-preserved : goal.loop-place-preserved
loop-place-preserved c =
    let old : List Item = c.loop-place.items.items in
    let item : Item = c.in_ok-ok_or.field-0 in
    let new : c.push.new.self.items ≡ old ++ item ∷ [] = search rules in
    let event : item.event ≡ c.args.first + c.loop-place.place = search rules in
    let number : (seen_item item).event ≡ c.args.first + length (seen_items old) =
    event ∙ ap (λ (n : ℕ). c.args.first + n) (sym c.loop-place.invariant.0 ∙ sym (length-map old seen_item)) in (
      ap length new ∙ length-append old (item ∷ []) ∙ ap (λ (n : ℕ). n + 1) c.loop-place.invariant.0,
      subst (AreNumberedFrom c.args.first) (sym (ap seen_items new ∙ map-append seen_item old (item ∷ [])))
          (more c.args.first (seen_items old) (seen_item item) c.loop-place.invariant.1 number),
    )
