use Rattle.std.proofs.Common.{rules}
use Rattle.problem.proofs.Linked.{links_none}
use Rattle.problem.proofs.items.Items.new.Goals as goal

pub invariant_of-result : goal.invariant_of-result
invariant_of-result c = record {
  lawful = search rules;
  clock_names_are = search rules;
  event_names_are = search rules;
  pairs_are = search rules;
  links_are = search (rules, links_none);
}
