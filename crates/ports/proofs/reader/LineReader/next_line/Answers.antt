use Rattle.std.proofs.Common.{◌≡◌, ◌∙◌, inl, sym, ap, rules, true, false, Err, List, ℕ, ◌++◌}
use Rattle.ports.specs.Reader.{Reader}
use Rattle.ports.proofs.Going.{ended_answered, whole_answered, going_behind, going_on, none_held, end_answered, fault_answered, untouched, needed}
use Rattle.ports.proofs.reader.LineReader.next_line.Goals as goal

pub returns-then-is_ended-clause-next : goal.returns-then-is_ended-clause-next
returns-then-is_ended-clause-next g c =
    let ended : c.args.self.now.ended ≡ true = sym c.is_ended.ensures.value ∙ c.if-is_ended.true in
    (ended_answered c.args.self.now c.close.new.self _ _ (c.is_ended.ensures.none ended) ended (c.is_ended.ensures.within c.requires) c.close.ensures).next

pub returns-in-Whole-clause-next : goal.returns-in-Whole-clause-next
returns-in-Whole-clause-next g c =
    let going = c.pieces.invariant.0 in
    (whole_answered c.args.self.now c.pieces.self c.take_piece.new.self _ _ _ _ _ _ going (c.in-Whole.ensures.piece going.front going.kept) c.in-Whole.ensures.same).next

pub returns-in-Whole-clause-unread : goal.returns-in-Whole-clause-unread
returns-in-Whole-clause-unread g c =
    untouched c.args.self.now c.pieces.self c.take_piece.new.self _ _ c.pieces.invariant.0.began (ap (λ (r : Reader). r.taken) c.in-Whole.ensures.same) c.pieces.invariant.1

pub returns-in-Whole-clause-over : goal.returns-in-Whole-clause-over
returns-in-Whole-clause-over g c =
    let going = c.pieces.invariant.0 in
    (whole_answered c.args.self.now c.pieces.self c.take_piece.new.self _ _ _ _ _ _ going (c.in-Whole.ensures.piece going.front going.kept) c.in-Whole.ensures.same).over

pub returns-in-Whole-clause-progress : goal.returns-in-Whole-clause-progress
returns-in-Whole-clause-progress g c =
    let going = c.pieces.invariant.0 in
    (whole_answered c.args.self.now c.pieces.self c.take_piece.new.self _ _ _ _ _ _ going (c.in-Whole.ensures.piece going.front going.kept) c.in-Whole.ensures.same).progress

pub refill-requires-clause-none : goal.refill-requires-clause-none
refill-requires-clause-none g c =
    let going = c.pieces.invariant.0 in
    (c.in-Part.ensures.piece going.front going.kept).1

pub returns-in_err-refill-clause-next : goal.returns-in_err-refill-clause-next
returns-in_err-refill-clause-next g c =
    let going = c.pieces.invariant.0 in
    let behind = going_behind c.args.self.now c.pieces.self c.take_piece.new.self _ _ _ _ _ _ going (c.in-Part.ensures.piece going.front going.kept) c.in-Part.ensures.same in
    let from : c.from_residual.result ≡ Err c.in_err-refill.field-0.0 = search rules in
    rw from (fault_answered c.args.self.now c.take_piece.new.self c.refill.new.self _ _ _ _ _ _ _ behind c.in_err-refill.ensures).next

pub returns-in_err-refill-clause-unread : goal.returns-in_err-refill-clause-unread
returns-in_err-refill-clause-unread g c =
    let going = c.pieces.invariant.0 in
    needed c.args.self.now going.began (none_held c.args.self.now c.pieces.self c.take_piece.new.self _ _ _ _ _ _ going (c.in-Part.ensures.piece going.front going.kept))

pub returns-then-not-branch-clause-next : goal.returns-then-not-branch-clause-next
returns-then-not-branch-clause-next g c =
    let going = c.pieces.invariant.0 in
    let behind = going_behind c.args.self.now c.pieces.self c.take_piece.new.self _ _ _ _ _ _ going (c.in-Part.ensures.piece going.front going.kept) c.in-Part.ensures.same in
    let no : c.in_ok-refill.field-0 ≡ false = search rules in
    let none = rw no at c.in_ok-refill.ensures in
    let front : List ℕ = going.front ++ c.pieces.self.held in
    (end_answered c.args.self.now c.take_piece.new.self c.refill.new.self c.end_line.new.self _ _ _ _ _ _ _ behind none (c.end_line.ensures front behind.kept)).next

pub returns-then-not-branch-clause-unread : goal.returns-then-not-branch-clause-unread
returns-then-not-branch-clause-unread g c =
    let going = c.pieces.invariant.0 in
    needed c.args.self.now going.began (none_held c.args.self.now c.pieces.self c.take_piece.new.self _ _ _ _ _ _ going (c.in-Part.ensures.piece going.front going.kept))

pub returns-then-not-branch-clause-limit : goal.returns-then-not-branch-clause-limit
returns-then-not-branch-clause-limit g c =
    let going = c.pieces.invariant.0 in
    let behind = going_behind c.args.self.now c.pieces.self c.take_piece.new.self _ _ _ _ _ _ going (c.in-Part.ensures.piece going.front going.kept) c.in-Part.ensures.same in
    let no : c.in_ok-refill.field-0 ≡ false = search rules in
    let none = rw no at c.in_ok-refill.ensures in
    let front : List ℕ = going.front ++ c.pieces.self.held in
    (end_answered c.args.self.now c.take_piece.new.self c.refill.new.self c.end_line.new.self _ _ _ _ _ _ _ behind none (c.end_line.ensures front behind.kept)).limit

pub returns-then-not-branch-clause-over : goal.returns-then-not-branch-clause-over
returns-then-not-branch-clause-over g c =
    let going = c.pieces.invariant.0 in
    let behind = going_behind c.args.self.now c.pieces.self c.take_piece.new.self _ _ _ _ _ _ going (c.in-Part.ensures.piece going.front going.kept) c.in-Part.ensures.same in
    let no : c.in_ok-refill.field-0 ≡ false = search rules in
    let none = rw no at c.in_ok-refill.ensures in
    let front : List ℕ = going.front ++ c.pieces.self.held in
    (end_answered c.args.self.now c.take_piece.new.self c.refill.new.self c.end_line.new.self _ _ _ _ _ _ _ behind none (c.end_line.ensures front behind.kept)).over

pub returns-then-not-branch-clause-progress : goal.returns-then-not-branch-clause-progress
returns-then-not-branch-clause-progress g c =
    let going = c.pieces.invariant.0 in
    let behind = going_behind c.args.self.now c.pieces.self c.take_piece.new.self _ _ _ _ _ _ going (c.in-Part.ensures.piece going.front going.kept) c.in-Part.ensures.same in
    let no : c.in_ok-refill.field-0 ≡ false = search rules in
    let none = rw no at c.in_ok-refill.ensures in
    let front : List ℕ = going.front ++ c.pieces.self.held in
    (end_answered c.args.self.now c.take_piece.new.self c.refill.new.self c.end_line.new.self _ _ _ _ _ _ _ behind none (c.end_line.ensures front behind.kept)).progress

pub pieces-preserved : goal.pieces-preserved
pieces-preserved g c =
    let going = c.pieces.invariant.0 in
    let part = c.in-Part.ensures.piece going.front going.kept in
    let yes_read : c.in_ok-refill.field-0 ≡ true = search rules in
    let read = rw yes_read at c.in_ok-refill.ensures in (
      going_on c.args.self.now c.pieces.self c.take_piece.new.self c.refill.new.self _ _ _ _ _ _ _ going part c.in-Part.ensures.same read,
      inl (none_held c.args.self.now c.pieces.self c.take_piece.new.self _ _ _ _ _ _ going part),
    )
