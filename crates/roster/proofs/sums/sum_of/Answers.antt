use Rattle.std.proofs.Common.{rules, ◌≡◌, ℕ, ◌<◌, ◌≤◌, ◌-◌, List, length, get_or, [], sym, ◌∙◌, ap, subst, arith}
use Rattle.roster.specs.Groups.{total, lists_of}
use Rattle.roster.specs.Sums.{first_of}
use Rattle.roster.proofs.SumLevels.{level_is, levels_inside, top_few, top_total, nothing, only}
use Rattle.roster.proofs.sums.sum_of.Goals as goal

pub returns-then-is_empty : goal.returns-then-is_empty
returns-then-is_empty c =
    let levels = c.args.levels.now in
    let top : c.index-levels-levels.result.items ≡ get_or (lists_of levels) (length levels - 1) [] =
    level_is levels (length levels - 1) c.index-levels-levels.result c.index-levels-levels.is (let some = levels_inside levels c.requires in omega (arith, some)) in
    let none : length c.index-levels-levels.result.items ≡ 0 = search rules in
    let few : length c.index-levels-levels.result.items ≤ 1 = omega (arith, none) in
    let all : total c.index-levels-levels.result.items ≡ total (first_of (lists_of levels)) = ap total top ∙ top_total levels c.requires in
    nothing c.index-levels-levels.result.items none ∙ all

pub returns-else-is_empty : goal.returns-else-is_empty
returns-else-is_empty c =
    let levels = c.args.levels.now in
    let top : c.index-levels-levels.result.items ≡ get_or (lists_of levels) (length levels - 1) [] =
    level_is levels (length levels - 1) c.index-levels-levels.result c.index-levels-levels.is (let some = levels_inside levels c.requires in omega (arith, some)) in
    let few : length c.index-levels-levels.result.items ≤ 1 = subst (λ (l : List ℕ). length l ≤ 1) (sym top) (top_few levels c.requires) in
    let all : total c.index-levels-levels.result.items ≡ total (first_of (lists_of levels)) = ap total top ∙ top_total levels c.requires in
    let some : 0 < length c.index-levels-levels.result.items = search rules in
    only c.index-levels-levels.result.items c.index.result.now few some c.index.ensures ∙ all
