use Rattle.std.proofs.Common.{◌≡◌, ◌∙◌, ◌-◌, ◌≤◌, ◌++◌, Some, drop, length, ap, arith, rules}
use Rattle.pcapng_stream.specs.declared.skipped.Skipped.{Skipped}
use Rattle.packets.specs.Passed.{passed_count}
use Rattle.pcapng_stream.specs.Skipping.{IsHeldBy, begun_with}
use Rattle.pcapng_stream.specs.Feeding.{BlockTail}
use Rattle.pcapng_stream.specs.Inside.{section_of, tail_of}
use Rattle.pcapng_stream.proofs.Skipping.{held_longer, skip_grows}
use Rattle.pcapng_stream.proofs.Streams.{tail_one}
use Rattle.pcapng_stream.proofs.block_stream.BlockStream.skip.Goals as goal

pub invariant_of-result : goal.invariant_of-result
invariant_of-result c =
    let b = c.args.block in
    let offset : c.self.inside.offset ≡ c.args.self.now.offset = ap (λ (u : BlockTail). u.offset) c.self.view_is in
    let skips : c.self.inside.skipped ≡ Some b = ap (λ (u : BlockTail). u.skipped) c.self.view_is ∙ c.requires.skips in
    let few : passed_count c.self.inside.passed ≤ c.self.inside.offset = search rules in
    let had : IsHeldBy c.self.inside.skipped c.self.inside.held.items = search rules in
    let more : c.with.result ≡ begun_with b (length c.args.piece.now) = search rules in
    let last : c.in_ok-held.held.items ≡ c.self.inside.held.items ++ drop (b.size - 4 - b.came) c.args.piece.now = search rules in
    record {
      early = rw more (omega (arith, c.requires.early, offset));
      few = few;
      held = rw (more, last) (held_longer c.self.inside.skipped c.self.inside.held.items c.args.piece.now b skips had c.requires.cut);
    }

pub returns-clause-ok : goal.returns-clause-ok
returns-clause-ok c s d stands =
    let t = c.args.self.now in
    let b = c.args.block in
    let copy : section_of c.in_ok-section.section ≡ section_of c.self.inside.section = search rules in
    let section : section_of c.in_ok-section.section ≡ t.section = copy ∙ ap (λ (u : BlockTail). u.section) c.self.view_is in
    let passed : c.self.inside.passed ≡ t.passed = ap (λ (u : BlockTail). u.passed) c.self.view_is in
    let offset : c.self.inside.offset ≡ t.offset = ap (λ (u : BlockTail). u.offset) c.self.view_is in
    let more : c.with.result ≡ begun_with b (length c.args.piece.now) = search rules in
    let last : c.in_ok-held.held.items ≡ c.self.inside.held.items ++ drop (b.size - 4 - b.came) c.args.piece.now = search rules in
    let held : c.in_ok-held.held.items ≡ t.held ++ drop (b.size - 4 - b.came) c.args.piece.now =
    last ∙ ap (λ (u : BlockTail). u.held ++ drop (b.size - 4 - b.came) c.args.piece.now) c.self.view_is in
    skip_grows t s d b c.requires.skips stands _ c.args.piece.now c.requires.cut
    (tail_one tail_of _ t.section _ t.passed _ t.offset _ (Some (begun_with b (length c.args.piece.now))) _ (t.held ++ drop (b.size - 4 - b.came) c.args.piece.now)
    section passed offset (ap (λ (x : Skipped). Some x) more) held)
