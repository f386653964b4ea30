use Rattle.std.proofs.Common.{◌≡◌, ◌∷◌, List, ℕ, codes, option_map, rules, sym, subst}
use Rattle.replies.specs.Commands.{HasWords, command_seen, spaced}
use Rattle.replies.proofs.Asking.{asks_more, asks_one}
use Rattle.replies.proofs.command.read_command.Goals as goal

pub returns-then-eq : goal.returns-then-eq
returns-then-eq c =
    let is : c.in-Some.name.now ≡ codes "thin" = search rules in
    asks_more c.args.line.now c.in-Some.name.now c.in-Some.text.now _ (sym c.in-Some.ensures)
    (subst (λ (name : List ℕ). HasWords (name ∷ spaced c.in-Some.text.now) (option_map command_seen c.thin_behind.result)) (sym is) c.thin_behind.ensures)

pub returns-else-eq : goal.returns-else-eq
returns-else-eq c = asks_more c.args.line.now c.in-Some.name.now c.in-Some.text.now _ (sym c.in-Some.ensures) c.command_behind.ensures

pub returns-in-None : goal.returns-in-None
returns-in-None c = asks_one c.args.line.now _ (sym c.in-None.ensures) c.command_of_one.ensures
