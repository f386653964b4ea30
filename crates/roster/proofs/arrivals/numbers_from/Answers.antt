use Rattle.std.proofs.Common.{◌≡◌, ◌+◌, ◌++◌, ◌∷◌, [], ℕ, List, sym, ◌∙◌, ap, rules}
use Rattle.roster.proofs.Pushing.{range_more}
use Rattle.roster.proofs.arrivals.numbers_from.Goals as goal

pub loop-k-preserved : goal.loop-k-preserved
loop-k-preserved c =
    let items : c.push.new.self.items ≡ c.loop-k.numbers.items ++ (c.args.first + c.loop-k.k) ∷ [] = search rules in
    items ∙ ap (λ (xs : List ℕ). xs ++ (c.args.first + c.loop-k.k) ∷ []) c.loop-k.invariant ∙ sym (range_more c.args.first c.loop-k.k)
