use Rattle.std.proofs.Common.{◌≡◌, ◌≤◌, ◌∙◌, sym, ap, length, slice_range, rules}
use Rattle.ports.specs.Reader.{Reader}
use Rattle.ports.proofs.Feeds.{feed_missing}
use Rattle.ports.proofs.Pieces.{piece_whole, no_range}
use Rattle.ports.proofs.reader.LineReader.take_piece.Goals as goal

pub returns-in-Some-clause-piece : goal.returns-in-Some-clause-piece
returns-in-Some-clause-piece c = λ front kept.
    let inside = c.self.inside in
    let held : slice_range inside.block inside.start inside.end ≡ c.args.self.now.held = ap (λ (r : Reader). r.held) c.self.view_is in
    let fits : inside.end ≤ length inside.block = search rules in
    let piece = piece_whole inside.block front _ inside.start inside.end c.in-Some.k _ _ c.self.invariant.0 fits (sym c.in-Some.ensures) (c.keep-long.ensures front kept) c.found.ensures in
    (piece.0, piece.1, sym held ∙ piece.2, piece.3)

pub returns-in-None-clause-piece : goal.returns-in-None-clause-piece
returns-in-None-clause-piece c = λ front kept.
    let inside = c.self.inside in
    let held : slice_range inside.block inside.start inside.end ≡ c.args.self.now.held = ap (λ (r : Reader). r.held) c.self.view_is in
    rw (← held) (feed_missing (slice_range inside.block inside.start inside.end) (sym c.in-None.ensures), no_range inside.block inside.end, c.keep-long-in-None.ensures front kept)
