use Rattle.std.proofs.Common.{◌<◌, ◌^◌, rules}
use Rattle.merge_script.proofs.dated.since_event.Goals as goal

pub returns-in-Ok-clause-ends : goal.returns-in-Ok-clause-ends
returns-in-Ok-clause-ends g c = record {
  each = (c.in-Ok.ensures.are c.requires.event.0 c.requires.event.1).each;
  small = c.in-Ok.ensures.small;
  number = let number : c.args.event.number < 2 ^ 32 = search rules in number;
}
