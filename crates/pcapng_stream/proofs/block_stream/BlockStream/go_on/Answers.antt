use Rattle.std.proofs.Common.{◌≡◌, ◌∙◌, ◌+◌, ◌-◌, ◌^◌, ◌≤◌, Bool, true, false, [], None, Err, is_none, length, sym, ap, arith, rules}
use Rattle.packets.proofs.Collecting.{adds_weaker}
use Rattle.pcapng_stream.specs.Blocks.{Section}
use Rattle.packets.specs.Passed.{passed_count}
use Rattle.pcapng_stream.specs.Skipping.{held_of, skipped_in}
use Rattle.pcapng_stream.specs.Pcapng.{BeginsSection}
use Rattle.pcapng_stream.specs.Feeding.{BlockTail}
use Rattle.pcapng_stream.specs.Inside.{section_of}
use Rattle.pcapng_stream.proofs.Reading.{read_few, read_short}
use Rattle.pcapng_stream.proofs.Skipping.{held_part, kept_part, waiting_part}
use Rattle.pcapng_stream.proofs.Growing.{magic_fault, refused_so, goes_so, not_none}
use Rattle.pcapng_stream.proofs.block_stream.BlockStream.go_on.Goals as goal
use Rattle.pcapng_stream.proofs.block_stream.BlockStream.go_on.Goals.{else-is_none-via-then-is_none+else-not-begins_section, else-is_none-via-else-is_none}

untrue : (b : Bool) → b ≡ false → b ≡ true → ⊥
untrue b e so = absurd (cc (e, so))

pub returns-then-not-begins_section-clause-fault : goal.returns-then-not-begins_section-clause-fault
returns-then-not-begins_section-clause-fault c s piece d is stands =
    let t = c.args.self.now in
    let inside : c.self.inside.section.order ≡ None = search rules in
    let none : t.section.order ≡ None = sym (ap (λ (u : BlockTail). u.section.order) c.self.view_is) ∙ inside in
    magic_fault t s piece c.args.bytes.now d is c.requires.none stands none (λ begins. untrue c.begins_section.result c.if-not-begins_section.true (c.begins_section.ensures.1 begins))

pub returns-in_err-rest-clause-fault : goal.returns-in_err-rest-clause-fault
returns-in_err-rest-clause-fault c =
    let t = c.args.self.now in
    let from : c.from_residual-in_err-rest.result ≡ Err c.in_err-rest.field-0.0 = search rules in
    let copy : section_of c.in_ok-section.section ≡ section_of c.self.inside.section = search rules in
    let known : section_of c.in_ok-section.section ≡ t.section = copy ∙ ap (λ (u : BlockTail). u.section) c.self.view_is in
    let at : c.self.inside.offset ≡ t.offset = ap (λ (u : BlockTail). u.offset) c.self.view_is in
    rw from (refused_so t _ c.self.inside.offset c.args.bytes.now c.in_err-rest.field-0.0 c.requires.none known at c.in_err-rest.ensures.fault)

pub invariant_of-result : goal.invariant_of-result
invariant_of-result c =
    let mid : Section = section_of c.read_blocks.new.section in
    let ends = c.in_ok-rest.ensures.ok.are in
    let few = read_few _ _ _ _ _ _ _ _ ends.read in
    let short = read_short _ _ _ _ _ _ _ _ ends.read in
    let had : passed_count c.self.inside.passed ≤ c.self.inside.offset = search rules in
    let early : c.self.inside.offset + length c.args.bytes.now ≤ 2 ^ 30 = search rules in
    let skips : c.skipped_in-skipped.result ≡ skipped_in mid.order c.in_ok-rest.rest.now = search rules in
    let held : c.in_ok-held.held.items ≡ held_of c.skipped_in-skipped.result c.in_ok-rest.rest.now = search rules in
    let waits = waiting_part mid.order c.in_ok-rest.rest.now c.skipped_in-skipped.result c.in_ok-held.held.items skips held in
    record {
      early = omega (arith, short, early, waits);
      few = omega (arith, few, short, had);
      held = held_part mid.order c.in_ok-rest.rest.now c.skipped_in-skipped.result c.in_ok-held.held.items skips held ends.part;
    }

pub returns-clause-size : goal.returns-clause-size
returns-clause-size c =
    let t = c.args.self.now in
    let mid : Section = section_of c.read_blocks.new.section in
    let short = read_short _ _ _ _ _ _ _ _ c.in_ok-rest.ensures.ok.are.read in
    let at : c.self.inside.offset ≡ t.offset = ap (λ (u : BlockTail). u.offset) c.self.view_is in
    let skips : c.skipped_in-skipped.result ≡ skipped_in mid.order c.in_ok-rest.rest.now = search rules in
    let held : c.in_ok-held.held.items ≡ held_of c.skipped_in-skipped.result c.in_ok-rest.rest.now = search rules in
    let waits = waiting_part mid.order c.in_ok-rest.rest.now c.skipped_in-skipped.result c.in_ok-held.held.items skips held in
    omega (arith, short, waits, at)

pub returns-clause-ok : goal.returns-clause-ok
returns-clause-ok c =
    let t = c.args.self.now in
    let copy : section_of c.in_ok-section.section ≡ section_of c.self.inside.section = search rules in
    let known : section_of c.in_ok-section.section ≡ t.section = copy ∙ ap (λ (u : BlockTail). u.section) c.self.view_is in
    let at : c.self.inside.offset ≡ t.offset = ap (λ (u : BlockTail). u.offset) c.self.view_is in
    let counts : c.self.inside.passed ≡ t.passed = ap (λ (u : BlockTail). u.passed) c.self.view_is in
    let order : t.section.order ≡ c.self.inside.section.order = sym (ap (λ (u : BlockTail). u.section.order) c.self.view_is) in
    let begins : c.self.inside.section.order ≡ None → BeginsSection c.args.bytes.now =
    elim c.else-is_none.branch [
      | else-is_none-via-then-is_none+else-not-begins_section w ↦ λ none. w.begins_section.ensures.0 w.if-not-begins_section.false
      | else-is_none-via-else-is_none w ↦ λ none.
          let some : is_none c.self.inside.section.order ≡ false = search rules in
          absurd (not_none c.self.inside.section.order some none)
    ] in
    let mid : Section = section_of c.read_blocks.new.section in
    let place = c.self.inside.offset + (length c.args.bytes.now - length c.in_ok-rest.rest.now) in
    let skips : c.skipped_in-skipped.result ≡ skipped_in mid.order c.in_ok-rest.rest.now = search rules in
    let held : c.in_ok-held.held.items ≡ held_of c.skipped_in-skipped.result c.in_ok-rest.rest.now = search rules in
    adds_weaker (λ added ends.
    goes_so t _ _ mid c.self.inside.passed c.read_blocks.new.passed c.self.inside.offset c.args.bytes.now c.in_ok-rest.rest.now [] added c.requires.none known counts at (λ none. begins (sym order ∙ none)) ends
    (kept_part mid c.read_blocks.new.passed place c.in_ok-rest.rest.now c.skipped_in-skipped.result c.in_ok-held.held.items skips held))
    c.in_ok-rest.ensures.ok
