use Rattle.std.proofs.Common.{◌≡◌, ◌∙◌, ◌+◌, ◌-◌, ◌==◌, ◌++◌, ℕ, true, false, List, [], None, drop, refl, sym, ap, rules}
use Rattle.std.proofs.lemmas.Bool.{eq-eqb}
use Rattle.pcapng_stream.specs.declared.errors.PcapngError.TheVariants as errors
use Rattle.pcapng_stream.specs.Numbers.{word_at}
use Rattle.packets.specs.Passed.{passed_with}
use Rattle.pcapng_stream.specs.Passed.{counted}
use Rattle.pcapng_stream.specs.Feeding.{BlockTail}
use Rattle.pcapng_stream.specs.Inside.{section_of, tail_of}
use Rattle.pcapng_stream.proofs.Skipping.{end_grows, wrong_last}
use Rattle.pcapng_stream.proofs.Streams.{tail_one}
use Rattle.pcapng_stream.proofs.block_stream.BlockStream.end_skipped.Goals as goal

pub returns-then-word_at-block-clause-fault : goal.returns-then-word_at-block-clause-fault
returns-then-word_at-block-clause-fault c s more d stands =
    let t = c.args.self.now in
    let b = c.args.block in
    let last : c.deref-2.result.now ≡ c.self.inside.held.items ++ drop (b.size - 4 - b.came) c.args.piece.now = search rules in
    let held : c.deref-2.result.now ≡ t.held ++ drop (b.size - 4 - b.came) c.args.piece.now =
    last ∙ ap (λ (u : BlockTail). u.held ++ drop (b.size - 4 - b.came) c.args.piece.now) c.self.view_is in
    let word : c.word_at.result ≡ word_at b.order 0 c.deref-2.result.now = search rules in
    let differs : (c.word_at.result == b.size) ≡ false = search rules in
    let other : (word_at b.order 0 (t.held ++ drop (b.size - 4 - b.came) c.args.piece.now) == b.size) ≡ false =
    ap (λ (l : List ℕ). word_at b.order 0 l == b.size) (sym held) ∙ ap (λ (n : ℕ). n == b.size) (sym word) ∙ differs in
    let at : c.at.result ≡ errors.Block c.self.inside.offset = search rules in
    let place : c.at.result ≡ errors.Block t.offset = at ∙ ap (λ (u : BlockTail). errors.Block u.offset) c.self.view_is in
    rw place (wrong_last t s d b c.requires.skips stands c.args.piece.now c.requires.whole more other)

pub returns-clause-ok : goal.returns-clause-ok
returns-clause-ok c s d stands =
    let t = c.args.self.now in
    let b = c.args.block in
    let last : c.deref-2.result.now ≡ c.self.inside.held.items ++ drop (b.size - 4 - b.came) c.args.piece.now = search rules in
    let held : c.deref-2.result.now ≡ t.held ++ drop (b.size - 4 - b.came) c.args.piece.now =
    last ∙ ap (λ (u : BlockTail). u.held ++ drop (b.size - 4 - b.came) c.args.piece.now) c.self.view_is in
    let word : c.word_at.result ≡ word_at b.order 0 c.deref-2.result.now = search rules in
    let same : (c.word_at.result == b.size) ≡ true = eq-eqb c.word_at.result b.size c.if-word_at-block.false in
    let agrees : (word_at b.order 0 (t.held ++ drop (b.size - 4 - b.came) c.args.piece.now) == b.size) ≡ true =
    ap (λ (l : List ℕ). word_at b.order 0 l == b.size) (sym held) ∙ ap (λ (n : ℕ). n == b.size) (sym word) ∙ same in
    let copy : section_of c.in_ok-section.section ≡ section_of c.self.inside.section = search rules in
    let section : section_of c.in_ok-section.section ≡ t.section = copy ∙ ap (λ (u : BlockTail). u.section) c.self.view_is in
    let count : c.count_block.result ≡ passed_with c.self.inside.passed (counted b.block_type) = search rules in
    let passed : c.count_block.result ≡ passed_with t.passed (counted b.block_type) = count ∙ ap (λ (u : BlockTail). passed_with u.passed (counted b.block_type)) c.self.view_is in
    let offset : c.self.inside.offset + b.size ≡ t.offset + b.size = ap (λ (u : BlockTail). u.offset + b.size) c.self.view_is in
    let none : c.new.result.items ≡ [] = search rules in
    end_grows t s d b c.requires.skips stands c.args.piece.now c.requires.whole _ agrees
    (tail_one tail_of _ t.section _ (passed_with t.passed (counted b.block_type)) _ (t.offset + b.size) _ None _ [] section passed offset refl none)
