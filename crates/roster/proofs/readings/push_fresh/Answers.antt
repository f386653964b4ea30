use Rattle.std.proofs.Common.{◌≡◌, ◌++◌, ◌∷◌, [], List, Bool, true, false, not, Option, Some, None, IfSome, IfNone, sym, subst}
use Rattle.std.specs.Option.{is_some}
use Rattle.roster.specs.Readings.{Stamped, AreFresh}
use Rattle.roster.proofs.Telling.{among}
use Rattle.roster.proofs.Stamps.{fresh_known, fresh_more}
use Rattle.roster.proofs.readings.push_fresh.Goals as goal

none_when : {X : Type 0} (o : Option X) (b : Bool) (P : Type 0) → is_some o ≡ not b → b ≡ true → IfNone o P → P
none_when None b P is so p = p
none_when (Some x) b P is so p = absurd (cc)

some_when : {X : Type 0} (o : Option X) (b : Bool) (P : X → Type 0) → is_some o ≡ not b → b ≡ false → IfSome o P → (x : X) × P x
some_when None b P is so p = absurd (cc)
some_when (Some x) b P is so p = (x, p)

pub returns-in_ok-push : goal.returns-in_ok-push
returns-in_ok-push c = λ stamps are.
    subst (λ (l : List Stamped). AreFresh c.args.readings.now (stamps ++ c.args.stamp ∷ []) l) (sym c.in_ok-push.ensures.items)
    (fresh_more c.args.readings.now stamps c.args.fresh.now.items c.args.stamp are (none_when c.place_of.result c.is_none.result _ c.is_none.ensures c.if-is_none.true c.place_of.ensures.none))

pub returns-else-is_none : goal.returns-else-is_none
returns-else-is_none c = λ stamps are.
    let k = some_when c.place_of.result c.is_none.result _ c.is_none.ensures c.if-is_none.false c.place_of.ensures.some in
    fresh_known c.args.readings.now stamps c.args.fresh.now.items c.args.stamp are (k.1.0, among {X = Stamped} c.args.readings.now k.0 (c.args.stamp, k.1.0) k.1.1)
