use Rattle.std.proofs.Common.{ℕ, Bool, List, sym, subst}
use Rattle.std.specs.Prelude.{Contains}
use Rattle.problem_model.specs.declared.items.Message.{Message}
use Rattle.thinning.specs.Thinning.{IsMessageEnd}
use Rattle.thinning.specs.Thinned.{IsMarked, marked}
use Rattle.thinning.proofs.writing.write_thinned.Goals as goal

pub write_parts-requires-clause-ends : goal.write_parts-requires-clause-ends
write_parts-requires-clause-ends g c =
    let p = c.args.p.now in
    let t = c.args.t.now in
    subst (λ (keeps : List Bool). (m : Message) (e : ℕ) → Contains (marked p.messages keeps) m → IsMessageEnd e m → IsMarked c.deref.result.now e) (sym c.deref-2.ensures.value)
    (subst (λ (stays : List Bool). (m : Message) (e : ℕ) → Contains (marked p.messages t.keeps.items) m → IsMessageEnd e m → IsMarked stays e) (sym c.deref.ensures.value) c.requires.ends)
