use Rattle.std.proofs.Common.{List, length, ap, sym, ◌∙◌}
use Rattle.std.specs.Prelude.{filter}
use Rattle.std.specs.Borrow.{Bor}
use Rattle.std.proofs.lemmas.List.{length-map}
use Rattle.traces.specs.declared.event.MessageKey.{MessageKey as MessageKeyOfCode}
use Rattle.traces.specs.Seen.{MessageKey, message_of}
use Rattle.msg_match.specs.Groups.{SeenGroup}
use Rattle.msg_match.specs.Held.{seen_groups}
use Rattle.report.specs.declared.alone.Having.TheVariants.{Receives}
use Rattle.report.specs.Groups.{has, is_apart, messages_in, noted}
use Rattle.report.proofs.alone.count_alone.Goals as goal

pub returns : goal.returns
returns c =
    let groups : List SeenGroup = seen_groups c.args.groups.now in
    c.len.ensures
    ∙ sym (length-map c.in_ok-apart.apart (λ (m : Bor MessageKeyOfCode). message_of m.now))
    ∙ ap length c.in_ok-apart.ensures
    ∙ ap (λ (l : List MessageKey). length (messages_in (filter (is_apart l (noted c.in_ok-met.met)) groups))) c.in_ok-received.ensures
    ∙ ap (λ (l : List MessageKey). length (messages_in (filter (is_apart (messages_in (filter (has Receives) groups)) l) groups))) c.in_ok-met.ensures
