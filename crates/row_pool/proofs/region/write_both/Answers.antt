use Rattle.std.proofs.Common.{◌≡◌, ◌+◌, ◌-◌, ◌≤◌, inl, inr, arith, refl}
use Rattle.row_pool.proofs.Parts.{wrote_up, wrote_down}
use Rattle.row_pool.proofs.region.write_both.Goals as goal

pub returns-then-first-second : goal.returns-then-first-second
returns-then-first-second g c =
    let apart : c.args.first + c.args.width ≤ c.args.second = elim c.requires.apart [ inl h ↦ h | inr h ↦ omega arith ] in
    let span : c.args.first + c.args.width - c.args.first ≡ c.args.width = omega arith in
    wrote_up g.F.FnOnce _ c.args.first c.args.second c.args.width _ _ c.args.cells.now _ _ _ _ _ _ _ c.write.ensures apart c.requires.second
    c.split_at_mut-front.ensures.front c.split_at_mut-front.ensures.back span span refl refl c.write.auto.arg2 c.write.auto.arg3 refl

pub returns-else-first-second : goal.returns-else-first-second
returns-else-first-second g c =
    let apart : c.args.second + c.args.width ≤ c.args.first = elim c.requires.apart [ inl h ↦ omega arith | inr h ↦ h ] in
    let span : c.args.second + c.args.width - c.args.second ≡ c.args.width = omega arith in
    wrote_down g.F.FnOnce _ c.args.first c.args.second c.args.width _ _ c.args.cells.now _ _ _ _ _ _ _ c.write-else-first-second.ensures apart c.requires.first
    c.split_at_mut-front-else-first-second.ensures.front c.split_at_mut-front-else-first-second.ensures.back span span refl refl c.write-else-first-second.auto.arg2 c.write-else-first-second.auto.arg3 refl
