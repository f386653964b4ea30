use Rattle.std.proofs.Common.{sym, subst}
use Rattle.cert.specs.declared.certificate.EndProof.{EndProof}
use Rattle.cert.specs.Shows.{Parts}
use Rattle.cert_check.specs.Reasons.{home_of, away_of, CutIs, EndIs}
use Rattle.cert_check.specs.Faults.{FindsFault, ShowsEnd}
use Rattle.cert_check.proofs.Attaining.{path_then, path_found, cut_then, cut_found}
use Rattle.cert_check.proofs.certificates.end_fault.Goals as goal

pub path_fault-requires-clause-steps : goal.path_fault-requires-clause-steps
path_fault-requires-clause-steps c = let of = rw c.in-At.is at c.requires.lawful in of.0

pub returns-in-None-clause-found : goal.returns-in-None-clause-found
returns-in-None-clause-found c =
    let p = c.args.p.now in
    let of = rw c.in-At.is at c.requires.lawful in
    subst (λ (e : EndProof). FindsFault c.args.part (EndIs p c.args.part c.args.first c.args.second e) (ShowsEnd p c.args.part c.args.first c.args.second e) c.attained_fault.result) (sym c.in-At.is)
    (path_then p c.args.part c.args.first c.args.second c.in-At.value c.in-At.path c.in-At.execution c.attained_fault.result c.events.ensures.lawful.formed c.requires.part of.0 (rw c.in-None.is at c.path_fault.ensures.found) (c.attained_fault.ensures.found c.args.part))

pub returns-in_default-clause-found : goal.returns-in_default-clause-found
returns-in_default-clause-found c =
    let p = c.args.p.now in
    subst (λ (e : EndProof). FindsFault c.args.part (EndIs p c.args.part c.args.first c.args.second e) (ShowsEnd p c.args.part c.args.first c.args.second e) c.path_fault.result) (sym c.in-At.is)
    (path_found p c.args.part c.args.first c.args.second c.in-At.value c.in-At.path c.in-At.execution c.path_fault.result c.in_default.not-None c.path_fault.ensures.found)

pub returns-in-None-cut_fault-clause-found : goal.returns-in-None-cut_fault-clause-found
returns-in-None-cut_fault-clause-found c =
    let p = c.args.p.now in
    let shown = subst (λ l. FindsFault c.args.part (CutIs p c.args.part c.args.first c.args.second l) (Parts p l (home_of c.args.part c.args.first c.args.second) (away_of c.args.part c.args.first c.args.second)) c.cut_fault.result) c.deref.ensures.value c.cut_fault.ensures.found in
    subst (λ (e : EndProof). FindsFault c.args.part (EndIs p c.args.part c.args.first c.args.second e) (ShowsEnd p c.args.part c.args.first c.args.second e) c.run_fault.result) (sym c.in-Unbounded.is)
    (cut_then p c.args.part c.args.first c.args.second c.in-Unbounded.inside.items c.in-Unbounded.execution c.run_fault.result c.events.ensures.lawful.formed (rw c.in-None-cut_fault.is at shown) (c.run_fault.ensures.found c.args.part))

pub returns-in_default-cut_fault-clause-found : goal.returns-in_default-cut_fault-clause-found
returns-in_default-cut_fault-clause-found c =
    let p = c.args.p.now in
    let shown = subst (λ l. FindsFault c.args.part (CutIs p c.args.part c.args.first c.args.second l) (Parts p l (home_of c.args.part c.args.first c.args.second) (away_of c.args.part c.args.first c.args.second)) c.cut_fault.result) c.deref.ensures.value c.cut_fault.ensures.found in
    subst (λ (e : EndProof). FindsFault c.args.part (EndIs p c.args.part c.args.first c.args.second e) (ShowsEnd p c.args.part c.args.first c.args.second e) c.cut_fault.result) (sym c.in-Unbounded.is)
    (cut_found p c.args.part c.args.first c.args.second c.in-Unbounded.inside.items c.in-Unbounded.execution c.cut_fault.result c.in_default-cut_fault.not-None shown)
