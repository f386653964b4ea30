use Rattle.std.proofs.Common.{◌≡◌, ◌≤◌, ◌<◌, ◌∙◌, sym, ap, length, arith, rules, false, refl}
use Rattle.std.proofs.lemmas.List.{length-take}
use Rattle.ports.specs.Reader.{Reader}
use Rattle.ports.proofs.Pieces.{one_came}
use Rattle.ports.proofs.reader.LineReader.refill.Goals as goal
use Rattle.ports.specs.Lines.{most_taken}

pub returns-in-Ok : goal.returns-in-Ok
returns-in-Ok g c =
    let inside = c.self.inside in
    let one : c.in-Ok.field-0 ≡ 1 = omega (arith, length-take c.clamp.result inside.block, c.in-Ok.ensures.count, c.clamp.ensures, c.if-may-eq0.true, c.in-Ok.field-0-test.1) in
    let some : 0 < length c.read_block.new.block = search rules in
    let byte = one_came (g.S.Source.told c.args.source.now) (g.S.Source.told c.read_block.new.source) c.read_block.new.block c.in-Ok.field-0 one some c.in-Ok.ensures.taken in
    let taken : c.args.self.now.taken ≡ inside.taken = sym (ap (λ (r : Reader). r.taken) c.self.view_is) in
    let ended : c.args.self.now.ended ≡ inside.ended = sym (ap (λ (r : Reader). r.ended) c.self.view_is) in
    let more : inside.over ≡ false = ap (λ (r : Reader). r.over) c.self.view_is ∙ c.requires.more in
    let few : inside.taken ≤ most_taken = c.self.invariant.2 more in
    let most : c.args.self.now.taken ≡ most_taken = omega (arith, taken, few, c.if-may-eq0.true) in
    record {
      read = (byte.0, byte.1, most, rw (c.requires.none, taken, ended) refl);
      cause = λ is. absurd cc;
      no_fall = c.in-Ok.ensures.no_fall;
    }
