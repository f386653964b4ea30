use Rattle.std.proofs.Common.{◌≡◌, ◌∙◌, ◌-◌, ◌++◌, ℕ, List, [], Err, length, take, drop, sym, ap, subst, append_assoc, rules}
use Rattle.std.proofs.lemmas.List.{take-append-drop, take_rest}
use Rattle.std.proofs.lemmas.Result.{IfErr-weaker, IfOk-weaker}
use Rattle.packets.specs.Packets.{Adds}
use Rattle.packets.proofs.Collecting.{adds_weaker}
use Rattle.pcapng_stream.specs.declared.errors.PcapngError.{PcapngError}
use Rattle.pcapng_stream.specs.Pcapng.{Blocks, IsFault}
use Rattle.pcapng_stream.specs.Feeding.{BlockTail, GrowsBlocks, StandsForBlocks}
use Rattle.pcapng_stream.proofs.Skipping.{grows_then}
use Rattle.pcapng_stream.proofs.block_stream.BlockStream.go_through.Goals as goal

-- a piece is its front and what is behind it
joined : (piece front : List ℕ) (n : ℕ) → front ≡ take n piece → front ++ take (length piece - n) (drop n piece) ≡ piece
joined piece front n is =
    ap (λ (l : List ℕ). l ++ take (length piece - n) (drop n piece)) is ∙ ap (λ (l : List ℕ). take n piece ++ l) (take_rest piece n) ∙ take-append-drop n piece

whole_at : (piece front : List ℕ) (n : ℕ) → front ≡ take n piece → front ++ drop n piece ≡ piece
whole_at piece front n is = ap (λ (l : List ℕ). l ++ drop n piece) is ∙ take-append-drop n piece

pub returns-in_err-behind-clause-fault : goal.returns-in_err-behind-clause-fault
returns-in_err-behind-clause-fault c =
    let n = c.args.block.size - c.args.block.came in
    let e = c.in_err-behind.field-0.0 in
    let from : c.from_residual.result ≡ Err e = search rules in
    rw from (λ s d stands. subst (λ (l : List ℕ). IsFault (s ++ l) e) (whole_at c.args.piece.now c.front.result.now n c.front.ensures)
    (c.in_err-behind.ensures.fault s (drop n c.args.piece.now) d stands))

pub returns-clause-ok : goal.returns-clause-ok
returns-clause-ok c =
    let t = c.args.self.now in
    let n = c.args.block.size - c.args.block.came in
    let front = c.front.result.now in
    let rest = take (length c.args.piece.now - n) (drop n c.args.piece.now) in
    let all : front ++ rest ≡ c.args.piece.now = joined c.args.piece.now front n c.front.ensures in
    let whole : rest ≡ c.in_ok-behind.behind.held ++ rest = sym (ap (λ (l : List ℕ). l ++ rest) c.in_ok-behind.ensures.nothing.1) in
    IfOk-weaker c.go_on.result _
    (λ (next : BlockTail). Adds (λ completed. (s : List ℕ) (d : Blocks) → StandsForBlocks t s d → GrowsBlocks next (s ++ c.args.piece.now) d [] completed) c.args.packets.now c.go_on.new.packets)
    (λ next. adds_weaker (λ added on s d stands.
    subst (λ (l : List ℕ). GrowsBlocks next (s ++ l) d [] added) all
    (grows_then c.in_ok-behind.behind next s front rest d added (c.in_ok-behind.ensures.ok s d stands) (λ e stood. on (s ++ front) rest e whole stood))))
    c.go_on.ensures.ok

pub returns-clause-fault : goal.returns-clause-fault
returns-clause-fault c =
    let t = c.args.self.now in
    let n = c.args.block.size - c.args.block.came in
    let front = c.front.result.now in
    let rest = take (length c.args.piece.now - n) (drop n c.args.piece.now) in
    let all : front ++ rest ≡ c.args.piece.now = joined c.args.piece.now front n c.front.ensures in
    let whole : rest ≡ c.in_ok-behind.behind.held ++ rest = sym (ap (λ (l : List ℕ). l ++ rest) c.in_ok-behind.ensures.nothing.1) in
    IfErr-weaker c.go_on.result _
    (λ (e : PcapngError). (s : List ℕ) (d : Blocks) → StandsForBlocks t s d → IsFault (s ++ c.args.piece.now) e)
    (λ e on s d stands.
    let first = c.in_ok-behind.ensures.ok s d stands in
    subst (λ (l : List ℕ). IsFault l e) (append_assoc s front rest ∙ ap (λ (l : List ℕ). s ++ l) all) (on (s ++ front) rest first.then whole first.stands))
    c.go_on.ensures.fault
