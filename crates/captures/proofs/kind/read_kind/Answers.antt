use Rattle.std.proofs.Common.{[], sym, subst}
use Rattle.std.proofs.lemmas.Result.{IfErr-weaker, IfOk-weaker}
use Rattle.packets.proofs.Collecting.{adds_weaker}
use Rattle.packets.specs.Packets.{Adds}
use Rattle.captures.specs.declared.kind.Kind.{Kind}
use Rattle.captures.specs.Formats.{kept_in}
use Rattle.captures.specs.Kept.{GoesOn, IsRefused}
use Rattle.captures.proofs.Formats.{begun_on, begun_refused}
use Rattle.captures.proofs.kind.read_kind.Goals as goal

pub returns-in-Unknown-clause-fault : goal.returns-in-Unknown-clause-fault
returns-in-Unknown-clause-fault c =
    IfErr-weaker c.begin.result _ (IsRefused (kept_in c.args.kind.now) c.args.piece.now)
    (λ e all. subst (λ (k : Kind). IsRefused (kept_in k) c.args.piece.now e) (sym c.in-Unknown.is) (begun_refused c.args.piece.now e all))
    c.begin.ensures.fault

pub returns-in-Unknown-clause-ok : goal.returns-in-Unknown-clause-ok
returns-in-Unknown-clause-ok c =
    IfOk-weaker c.begin.result _ (λ (next : Kind). Adds (λ added. GoesOn (kept_in c.args.kind.now) c.args.piece.now [] added next) c.args.packets.now c.begin.new.packets)
    (λ next. adds_weaker (λ added begins. subst (λ (k : Kind). GoesOn (kept_in k) c.args.piece.now [] added next) (sym c.in-Unknown.is) (begun_on c.args.piece.now [] added next begins)))
    c.begin.ensures.ok
