use Rattle.std.proofs.Common.{refl}
use Rattle.decl.specs.Declaration.{declaration_of}
use Rattle.session.specs.Script.{devices}
use Rattle.ports.proofs.Keeping.{keeps_then}
use Rattle.commands.proofs.Conducting.{conducted, undeclared}
use Rattle.commands.proofs.sessions.session.Goals as goal

pub returns-in-Err-clause-conducted : goal.returns-in-Err-clause-conducted
returns-in-Err-clause-conducted g c =
    let input = g.I.Source.told c.args.input.now in
    undeclared c.args.decl.now (devices (g.F.Files.told c.args.files.now) input (g.O.Sink.told c.args.out.now)) (devices (g.F.Files.told c.decl_in.new.files) input (g.O.Sink.told c.refuse.new.out))
    c.in-Err.undeclared c.refuse.result c.in-Err.ensures.err refl c.refuse.ensures

pub returns-clause-conducted : goal.returns-clause-conducted
returns-clause-conducted g c =
    let script = c.answer_script in
    conducted c.args.decl.now (declaration_of c.in-Ok.decl) (g.F.Files.told c.args.files.now) (g.F.Files.told c.decl_in.new.files) (g.F.Files.told script.new.files)
    (g.I.Source.told c.args.input.now) (g.I.Source.told script.new.input) (g.O.Sink.told c.args.out.now) (g.O.Sink.told script.new.out)
    c.in-Ok.ensures.ok c.in-Ok.ensures.keeps script.ensures.no_fall.1 (g.O.Sink.told c.close.new.out) script.result c.close.result script.ensures.ended c.close.ensures

pub returns-clause-keeps : goal.returns-clause-keeps
returns-clause-keeps g c = keeps_then _ _ _ c.in-Ok.ensures.keeps c.answer_script.ensures.keeps
